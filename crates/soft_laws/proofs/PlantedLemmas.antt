-- What a plan knows of a user's world by the breakpoints that it takes for planted.
use Rattle.std.proofs.Common.{◌≡◌, ◌∙◌, ◌<◌, ◌⊎◌, ℕ, Bool, true, false, ◌||◌, List, [], ◌∷◌, slice_get, refl, sym, ap, subst, inl, inr, if◌then◌else◌}
use Rattle.std.specs.Prelude.{◌==◌, nat_lt}
use Rattle.std.proofs.lemmas.Bool.{eq-eqb, eqb-true, false≢true}
use Rattle.debug_model.specs.declared.point.Point.{Point}
use Rattle.debug_model.specs.declared.point.Point.TheVariants.{Turn, Look, HaltReq, HaltClear, ResumeReq, Access}
use Rattle.abstract_debugger.specs.Lines.{Line}
use Rattle.abstract_debugger.specs.Plan.{Change}
use Rattle.abstract_debugger.specs.Plan.Change.{WriteReg, WriteMem, ArmSlot, FreeSlot, StepOver, StepDone, EbreakHalts, Patch}
use Rattle.abstract_debugger.specs.Transcript.{World, changed, said}
use Rattle.soft_laws.specs.SoftBreaks.{covered, has_some, is_listed, without}
use Rattle.soft_laws.specs.SoftDebugger.{most_harts, put_in}
use Rattle.soft_laws.specs.SoftReplay.{soft_passed}
use Rattle.soft_laws.proofs.EachHart.{Each, Switches, each-changed, each-passed}
use Rattle.soft_laws.proofs.HiddenPlans.{IsKnowledge}
use Rattle.soft_laws.proofs.Hidings.{StopsWhereCovered}
use Rattle.soft_laws.proofs.PatchedLemmas.{either_true, listed-here, listed-there}
use Rattle.soft_laws.proofs.TurnHides.{noted-covered}

-- ---- lists

pub listed_some : (ps : List ℕ) (a : ℕ) → is_listed ps a ≡ true → has_some ps ≡ true
listed_some [] a is = absurd (false≢true is)
listed_some (c ∷ cs) a is = refl

-- what is left without a number is not that number, and was there
pub record Left (a b : ℕ) (cs : List ℕ) : Type 0 where
  pub before : is_listed cs b ≡ true
  pub other : b ≡ a → ⊥

pub without-listed : (a b : ℕ) (cs : List ℕ) → is_listed (without a cs) b ≡ true → Left a b cs
without-listed a b [] is = absurd (false≢true is)
without-listed a b (c ∷ cs) is = by (a == c) refl is (without-listed a b cs)
  where
    more : Left a b cs → Left a b (c ∷ cs)
    more l = record { before = listed-there c cs b l.before; other = l.other }

    by : (t : Bool) → (a == c) ≡ t → is_listed (if t then without a cs else c ∷ without a cs) b ≡ true → (is_listed (without a cs) b ≡ true → Left a b cs)
        → Left a b (c ∷ cs)
    by true e at later = more (later at)
    by false e at later = elim (either_true (b == c) (is_listed (without a cs) b) at) [
      | inl f ↦ record {
        before = listed-here c cs b (eqb-true b c f);
        other = λ g. false≢true (sym e ∙ eq-eqb a c (sym g ∙ eqb-true b c f));
      }
      | inr f ↦ more (later f)
    ]

-- a number that is left
pub without-keeps : (a b : ℕ) (cs : List ℕ) → is_listed cs b ≡ true → (b ≡ a → ⊥) → is_listed (without a cs) b ≡ true
without-keeps a b [] is other = absurd (false≢true is)
without-keeps a b (c ∷ cs) is other = by (a == c) refl (without-keeps a b cs)
  where
    by : (t : Bool) → (a == c) ≡ t → (is_listed cs b ≡ true → (b ≡ a → ⊥) → is_listed (without a cs) b ≡ true)
        → is_listed (if t then without a cs else c ∷ without a cs) b ≡ true
    by true e later = elim (either_true (b == c) (is_listed cs b) is) [
      | inl f ↦ absurd (other (eqb-true b c f ∙ sym (eqb-true a c e)))
      | inr f ↦ later f other
    ]
    by false e later = elim (either_true (b == c) (is_listed cs b) is) [
      | inl f ↦ ap (λ t. t || is_listed (without a cs) b) f
      | inr f ↦ listed-there c (without a cs) b (later f other)
    ]

-- the list upwards with one number more
pub put-here : (a : ℕ) (cs : List ℕ) → is_listed (put_in a cs) a ≡ true
put-here a [] = listed-here a [] a refl
put-here a (c ∷ cs) = by (nat_lt a c) (put-here a cs)
  where
    by : (t : Bool) → is_listed (put_in a cs) a ≡ true → is_listed (if t then a ∷ c ∷ cs else c ∷ put_in a cs) a ≡ true
    by true later = listed-here a (c ∷ cs) a refl
    by false later = listed-there c (put_in a cs) a later

pub put-keeps : (a b : ℕ) (cs : List ℕ) → is_listed cs b ≡ true → is_listed (put_in a cs) b ≡ true
put-keeps a b [] is = absurd (false≢true is)
put-keeps a b (c ∷ cs) is = by (nat_lt a c) (put-keeps a b cs)
  where
    by : (t : Bool) → (is_listed cs b ≡ true → is_listed (put_in a cs) b ≡ true) → is_listed (if t then a ∷ c ∷ cs else c ∷ put_in a cs) b ≡ true
    by true later = listed-there a (c ∷ cs) b is
    by false later = elim (either_true (b == c) (is_listed cs b) is) [
      | inl f ↦ ap (λ t. t || is_listed (put_in a cs) b) f
      | inr f ↦ listed-there c (put_in a cs) b (later f)
    ]

pub put-either : (a b : ℕ) (cs : List ℕ) → is_listed (put_in a cs) b ≡ true → (b ≡ a) ⊎ (is_listed cs b ≡ true)
put-either a b [] is = elim (either_true (b == a) false is) [
  | inl e ↦ inl (eqb-true b a e)
  | inr e ↦ absurd (false≢true e)
]
put-either a b (c ∷ cs) is = by (nat_lt a c) is (put-either a b cs)
  where
    by : (t : Bool) → is_listed (if t then a ∷ c ∷ cs else c ∷ put_in a cs) b ≡ true → (is_listed (put_in a cs) b ≡ true → (b ≡ a) ⊎ (is_listed cs b ≡ true))
        → (b ≡ a) ⊎ (is_listed (c ∷ cs) b ≡ true)
    by true at later = elim (either_true (b == a) (is_listed (c ∷ cs) b) at) [
      | inl e ↦ inl (eqb-true b a e)
      | inr e ↦ inr e
    ]
    by false at later = elim (either_true (b == c) (is_listed (put_in a cs) b) at) [
      | inl e ↦ inr (ap (λ t. t || is_listed cs b) e)
      | inr e ↦ elim (later e) [
        | inl f ↦ inl f
        | inr f ↦ inr (listed-there c cs b f)
      ]
    ]

-- ---- covered words through points and usual changes

pub passed_covered : (q : Point) (w : World) → covered (soft_passed q w).past ≡ covered w.past
passed_covered (Turn h) w = noted-covered (covered w.past) (slice_get w.board.harts h) h w.board.memory w.past
passed_covered (Look n) w = refl
passed_covered (HaltReq h) w = refl
passed_covered (HaltClear h) w = refl
passed_covered (ResumeReq h) w = refl
passed_covered Access w = refl

-- a change that patches nothing
abbrev pub PatchesNothing : Change → Type 0
PatchesNothing (Patch a original covers) = ⊥
PatchesNothing (WriteReg h r v) = Unit {0}
PatchesNothing (WriteMem a count v) = Unit {0}
PatchesNothing (ArmSlot h slot what) = Unit {0}
PatchesNothing (FreeSlot h slot) = Unit {0}
PatchesNothing (StepOver h) = Unit {0}
PatchesNothing (StepDone h) = Unit {0}
PatchesNothing (EbreakHalts h on) = Unit {0}

pub changed_covered : (c : Change) (w : World) → PatchesNothing c → covered (changed c w).past ≡ covered w.past
changed_covered (WriteReg h r v) w none = refl
changed_covered (WriteMem a count v) w none = refl
changed_covered (ArmSlot h slot what) w none = refl
changed_covered (FreeSlot h slot) w none = refl
changed_covered (StepOver h) w none = refl
changed_covered (StepDone h) w none = refl
changed_covered (EbreakHalts h on) w none = refl
changed_covered (Patch a original covers) w none = absurd none

-- ---- what a plan takes for planted

abbrev pub IsGuarded : ℕ → Bool → Type 0
IsGuarded h on = on ≡ true

abbrev pub IsFew : ℕ → Bool → Type 0
IsFew h on = h < most_harts

-- covered words are planted, and while one is planted, every hart halts at an ebreak
pub record Plants (ps : List ℕ) (w : World) : Type 0 where
  pub within : (a : ℕ) → is_listed (covered w.past) a ≡ true → is_listed ps a ≡ true
  pub guarded : has_some ps ≡ true → Each IsGuarded w.board.harts
  pub few : Each IsFew w.board.harts

plants-stop : (ps : List ℕ) (w : World) → Plants ps w → StopsWhereCovered w
plants-stop ps w p h x at there = p.guarded (listed_some ps x.core.pc (p.within x.core.pc there)) h x at

plants-passed : (ps : List ℕ) (q : Point) (w : World) → Plants ps w → Plants ps (soft_passed q w)
plants-passed ps q w p = record {
  within = λ a there. p.within a (subst (λ cs. is_listed cs a ≡ true) (passed_covered q w) there);
  guarded = λ some. each-passed IsGuarded q w (p.guarded some);
  few = each-passed IsFew q w p.few;
}

plants-said : (ps : List ℕ) (line : Line) (w : World) → Plants ps w → Plants ps (said line w)
plants-said ps line w p = record { within = p.within; guarded = p.guarded; few = p.few }

pub plants-known : (ps : List ℕ) → IsKnowledge (Plants ps)
plants-known ps = record { passes = plants-passed ps; says = plants-said ps; stops = plants-stop ps }

-- a change that patches nothing, and switches ebreaks at most on
pub plants-changed : (ps : List ℕ) (c : Change) (w : World) → PatchesNothing c → (has_some ps ≡ true → Switches IsGuarded c) → Switches IsFew c → Plants ps w
    → Plants ps (changed c w)
plants-changed ps c w none switches few p = record {
  within = λ a there. p.within a (subst (λ cs. is_listed cs a ≡ true) (changed_covered c w none) there);
  guarded = λ some. each-changed IsGuarded c w.board (switches some) (p.guarded some);
  few = each-changed IsFew c w.board few p.few;
}

-- ---- one breakpoint less, or the same

-- qs has all of ps but maybe a
pub record Fewer (a : ℕ) (ps qs : List ℕ) : Type 0 where
  pub keeps : (b : ℕ) → is_listed ps b ≡ true → (b ≡ a → ⊥) → is_listed qs b ≡ true
  pub subset : (b : ℕ) → is_listed qs b ≡ true → is_listed ps b ≡ true

some_subset : (ps qs : List ℕ) → ((b : ℕ) → is_listed qs b ≡ true → is_listed ps b ≡ true) → has_some qs ≡ true → has_some ps ≡ true
some_subset ps [] subset some = absurd (false≢true some)
some_subset ps (c ∷ qs) subset some = listed_some ps c (subset c (listed-here c qs c refl))

pub plants-lifted : (a original : ℕ) (ps qs : List ℕ) (w : World) → Fewer a ps qs → Plants ps w → Plants qs (changed (Patch a original false) w)
plants-lifted a original ps qs w f p = record {
  within = λ b there.
      let l : Left a b (covered w.past) = without-listed a b (covered w.past) there in
      f.keeps b (p.within b l.before) l.other;
  guarded = λ some. p.guarded (some_subset ps qs f.subset some);
  few = p.few;
}

pub fewer_same : (a : ℕ) (ps : List ℕ) → Fewer a ps ps
fewer_same a ps = record { keeps = λ b is other. is; subset = λ b is. is }

pub fewer_without : (a : ℕ) (ps : List ℕ) → Fewer a ps (without a ps)
fewer_without a ps = record { keeps = λ b is other. without-keeps a b ps is other; subset = λ b is. (without-listed a b ps is).before }

pub fewer_rest : (a : ℕ) (rest : List ℕ) → Fewer a (a ∷ rest) rest
fewer_rest a rest = record {
  keeps = λ b is other. elim (either_true (b == a) (is_listed rest b) is) [
    | inl e ↦ absurd (other (eqb-true b a e))
    | inr e ↦ e
  ];
  subset = λ b is. listed-there a rest b is;
}

-- ---- a word covered that is planted already

pub covered_either : (a b : ℕ) (cs : List ℕ) → is_listed (a ∷ without a cs) b ≡ true → (b ≡ a) ⊎ (is_listed cs b ≡ true)
covered_either a b cs there = elim (either_true (b == a) (is_listed (without a cs) b) there) [
  | inl e ↦ inl (eqb-true b a e)
  | inr e ↦ inr (without-listed a b cs e).before
]

pub plants-again : (a original : ℕ) (ps : List ℕ) (w : World) → is_listed ps a ≡ true → Plants ps w → Plants ps (changed (Patch a original true) w)
plants-again a original ps w planted p = record {
  within = λ b there. elim (covered_either a b (covered w.past) there) [
    | inl e ↦ subst (λ n. is_listed ps n ≡ true) (sym e) planted
    | inr e ↦ p.within b e
  ];
  guarded = p.guarded;
  few = p.few;
}

-- ---- the first breakpoint

-- as before, and every hart halts at an ebreak
pub record Armed (ps : List ℕ) (w : World) : Type 0 where
  pub plants : Plants ps w
  pub all : Each IsGuarded w.board.harts

pub armed-known : (ps : List ℕ) → IsKnowledge (Armed ps)
armed-known ps = record {
  passes = λ q w k. record { plants = plants-passed ps q w k.plants; all = each-passed IsGuarded q w k.all };
  says = λ line w k. record { plants = plants-said ps line w k.plants; all = k.all };
  stops = λ w k. plants-stop ps w k.plants;
}

pub plants-more : (a original : ℕ) (ps : List ℕ) (w : World) → Armed ps w → Plants (put_in a ps) (changed (Patch a original true) w)
plants-more a original ps w k = record {
  within = λ b there. elim (covered_either a b (covered w.past) there) [
    | inl e ↦ subst (λ n. is_listed (put_in a ps) n ≡ true) (sym e) (put-here a ps)
    | inr e ↦ put-keeps a b ps (k.plants.within b e)
  ];
  guarded = λ some. k.all;
  few = k.plants.few;
}
