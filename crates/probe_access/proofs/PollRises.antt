-- How often the end of a command and of an access by the bus is polled for under a fair schedule: between two polls of a command two of its micro steps are
-- carried out, and an access is made in front of the first poll.
use Rattle.std.proofs.Common.{◌≡◌, ◌∙◌, ℕ, ◌+◌, ◌-◌, ◌*◌, ◌≤◌, ◌<◌, ◌^◌, Bool, true, false, List, [], ◌∷◌, length, Option, Some, None, IfSome, Contains, zero, suc}
use Rattle.std.proofs.Common.{refl, sym, ap, subst, arith}
use Rattle.std.proofs.Math.Nat.{mul-le-mul_right}
use Rattle.std.proofs.lemmas.Bool.{false≢true}
use Rattle.std.proofs.lemmas.Option.{same_Some}
use Rattle.chip_laws.proofs.ModuleLemmas.{plain_reads}
use Rattle.chip_laws.proofs.Pace.{left, ran_fewer, ran_goes, steps_in}
use Rattle.debug_model.proofs.RiseLemmas.{within_none, within_then}
use Rattle.debug_model.specs.Addresses.{abstractcs_address}
use Rattle.debug_model.specs.declared.dmi_op.DmiOp.TheVariants.{Read}
use Rattle.debug_model.specs.declared.micro.Micro.{Micro}
use Rattle.debug_model.specs.declared.module_register.ModuleRegister.TheVariants.{Abstractcs}
use Rattle.debug_model.specs.Chip.{Chip}
use Rattle.debug_model.specs.Commands.{abstractcs_shown, busy, is_under_way}
use Rattle.debug_model.specs.Deeds.{ran}
use Rattle.debug_model.specs.Dmi.{Operated, value_of}
use Rattle.debug_model.specs.Kept.{DmiSeen}
use Rattle.debug_model.specs.Module.{Site, operated, operation_result, register_at, result_by}
use Rattle.debug_model.specs.ModuleWords.{abstractcs_of, abstractcs_word}
use Rattle.debug_model.specs.Pacing.{GoesOn, Paced, PacedAlong, most_steps}
use Rattle.debug_model.specs.Rises.{PacedWithin, Within, rate}
use Rattle.debug_model.specs.Scan.{WhereTold}
use Rattle.debug_model.specs.Told.{Far, chip_of, site_of}
use Rattle.probe_access.specs.CommandRuns.{shows_busy}
use Rattle.probe_access.proofs.WordLemmas.{busy_shown, status_small}

-- ---- a number that is small under a fair schedule

abbrev pub AtMost : (n k : ℕ) → DmiSeen → Type 0
AtMost n k old = IfSome old.far (λ f. Paced (chip_of f).inside → n ≤ k)

scaled : (slack : Option ℕ) (n k a b : ℕ) → n ≤ k → IfSome slack (λ s. b ≤ a + n * rate s) → IfSome slack (λ s. b ≤ a + k * rate s)
scaled None n k a b few p = tt
scaled (Some s) n k a b few p = let more : n * rate s ≤ k * rate s = mul-le-mul_right (rate s) few in omega (arith, more, p)

few_told : (slack : Option ℕ) (n k : ℕ) (old new : Option Far) → IfSome old (λ f. Paced (chip_of f).inside → n ≤ k)
    → WhereTold (λ c now. Paced c.inside → PacedWithin slack n c now) old new → WhereTold (λ c now. Paced c.inside → PacedWithin slack k c now) old new
few_told slack n k None new few w = w
few_told slack n k (Some f) new few w =
    λ paced. let p = w paced in record { far = p.far; is = p.is; paced = p.paced; most = scaled slack n k _ _ (few paced) p.most }

pub within_few : (n k : ℕ) (old new : DmiSeen) → Within n old new → AtMost n k old → Within k old new
within_few n k old new w few = record { told = few_told old.fixed.slack n k old.far new.far few w.told }

-- ---- a poll of a command

busy_by : (active : Bool) (steps : List Micro) (m : Site) → steps_in m ≡ steps → shows_busy (value_of (result_by active Abstractcs m)) ≡ true → 1 ≤ length steps
busy_by true [] m e h =
    let shown : shows_busy (value_of (abstractcs_word (abstractcs_shown m.unit.commands))) ≡ busy m.unit.commands =
    ap (λ v. (abstractcs_of v).busy) (status_small m.unit.commands) ∙ busy_shown m.unit.commands in
    absurd (false≢true (sym (ap is_under_way e) ∙ sym shown ∙ h))
busy_by true (x ∷ xs) m e h = omega arith
busy_by false steps m e h = absurd (false≢true h)

busy_left : (m : Site) (result : ℕ) → result ≡ operation_result (Read abstractcs_address) m → shows_busy (value_of result) ≡ true → 1 ≤ left m
unfolding register_at
busy_left m result is h = busy_by m.unit.active (steps_in m) m refl (sym (ap (λ r. shows_busy (value_of r)) is) ∙ h)

same_read : (m : Site) → operated (Read abstractcs_address) m ≡ m
unfolding register_at
same_read m = plain_reads abstractcs_address m tt

two_fewer : (harts : ℕ) (s t : Site) (result : ℕ) → GoesOn s → PacedAlong harts s (record { op = Read abstractcs_address; result = result } ∷ []) t
    → shows_busy (value_of result) ≡ true → left t + 2 ≤ left s
two_fewer harts s t result g (m, before, shown, behind) h =
    let first : left m ≤ left s - 1 = subst (λ x. left x ≤ left s - 1) (sym before.is) (ran_fewer before.deeds s g before.lively.command) in
    let goes : GoesOn m = subst (λ x. GoesOn x) (sym before.is) (ran_goes before.deeds s g) in
    let some : 1 ≤ left m = busy_left m result shown h in
    let is : t ≡ ran behind.deeds m = behind.is ∙ ap (ran behind.deeds) (same_read m) in
    let second : left t ≤ left m - 1 = subst (λ x. left x ≤ left m - 1) (sym is) (ran_fewer behind.deeds m goes behind.lively.command) in
    omega arith

-- ---- polls of a command, each behind one that showed it under way

pub record PacedPolls (n word : ℕ) (c : Chip) (new : Option Far) : Type 0 where
  pub far : Far
  pub is : new ≡ Some far
  pub paced : Paced (chip_of far).inside
  pub few : n ≤ 3
  pub going : shows_busy word ≡ true → left (site_of far) + 2 * n ≤ most_steps

-- the latest of so many showed this word; the first of them went with the command
pub record FewPolls (count word : ℕ) (old new : DmiSeen) : Type 0 where
  pub reads : ℕ
  pub all : reads + 1 ≡ count
  pub rises : Within reads old new
  pub polls : WhereTold (λ c now. Paced c.inside → PacedPolls reads word c now) old.far new.far

first_at : (word : ℕ) (told : Option Far) → WhereTold (λ c now. Paced c.inside → PacedPolls 0 word c now) told told
first_at word None = refl
first_at word (Some f) = λ paced.
    let bound : left (site_of f) ≤ most_steps = paced.goes_on.few in
    record { far = f; is = refl; paced = paced; few = omega arith; going = λ h. omega arith }

pub few_first : (word : ℕ) (old : DmiSeen) → FewPolls 1 word old old
few_first word old = record { reads = 0; all = omega arith; rises = within_none 0 old old refl; polls = first_at word old.far }

at_more : (slack : Option ℕ) (n word next : ℕ) (f : Far) (mid new : Option Far) → PacedPolls n word (chip_of f) mid → shows_busy word ≡ true
    → WhereTold (λ c now. Paced c.inside → PacedWithin slack 1 c now) mid new → WhereTold (Operated (Read abstractcs_address) next) mid new
    → PacedPolls (n + 1) next (chip_of f) new
at_more slack n word next f mid new p h within did =
    let q : PacedWithin slack 1 (chip_of p.far) new =
    (subst (λ x. WhereTold (λ c now. Paced c.inside → PacedWithin slack 1 c now) x new) p.is within) p.paced in
    let o : Operated (Read abstractcs_address) next (chip_of p.far) new = subst (λ x. WhereTold (Operated (Read abstractcs_address) next) x new) p.is did in
    let there : o.far ≡ q.far = same_Some o.far q.far (sym o.is ∙ q.is) in
    let before : left (site_of p.far) + 2 * n ≤ most_steps = p.going h in
    record {
      far = o.far;
      is = o.is;
      paced = subst (λ (x : Far). Paced (chip_of x).inside) (sym there) q.paced;
      few = omega arith;
      going = λ again.
          let less : left (site_of o.far) + 2 ≤ left (site_of p.far) =
          two_fewer _ (site_of p.far) (site_of o.far) o.result p.paced.goes_on (o.pace p.paced) (sym (ap shows_busy o.value_is) ∙ again) in
          omega arith;
    }

told_more : (slack : Option ℕ) (n word next : ℕ) (old mid new : Option Far) → WhereTold (λ c now. Paced c.inside → PacedPolls n word c now) old mid
    → shows_busy word ≡ true → WhereTold (λ c now. Paced c.inside → PacedWithin slack 1 c now) mid new
    → WhereTold (Operated (Read abstractcs_address) next) mid new → WhereTold (λ c now. Paced c.inside → PacedPolls (n + 1) next c now) old new
told_more slack n word next None mid new p h within did = subst (λ x. WhereTold (Operated (Read abstractcs_address) next) x new) p did
told_more slack n word next (Some f) mid new p h within did = λ paced. at_more slack n word next f mid new (p paced) h within did

pub few_more : (n word next : ℕ) (old mid new : DmiSeen) → FewPolls n word old mid → shows_busy word ≡ true → Within 1 mid new → mid.fixed ≡ old.fixed
    → WhereTold (Operated (Read abstractcs_address) next) mid.far new.far → FewPolls (n + 1) next old new
few_more n word next old mid new p h within fixed did = record {
  reads = p.reads + 1;
  all = let all : p.reads + 1 ≡ n = p.all in omega arith;
  rises = within_then p.reads 1 (p.reads + 1) old mid new p.rises within fixed (omega arith);
  polls = told_more mid.fixed.slack p.reads word next old.far mid.far new.far p.polls h within.told did;
}

-- at most three
few_at : (n word : ℕ) (old new : Option Far) → WhereTold (λ c now. Paced c.inside → PacedPolls n word c now) old new
    → IfSome old (λ f. Paced (chip_of f).inside → n ≤ 3)
few_at n word None new p = tt
few_at n word (Some f) new p = λ paced. (p paced).few

pub few_polls : (n word : ℕ) (old new : DmiSeen) → FewPolls n word old new → Within 3 old new
few_polls n word old new p = within_few p.reads 3 old new p.rises (few_at p.reads word old.far new.far p.polls)

-- also where one more fails
next_at : (n word : ℕ) (old new : Option Far) → shows_busy word ≡ true → WhereTold (λ c now. Paced c.inside → PacedPolls n word c now) old new
    → IfSome old (λ f. Paced (chip_of f).inside → n + 1 ≤ 3)
next_at n word None new h p = tt
next_at n word (Some f) new h p = λ paced. let q = p paced in let bound : left (site_of q.far) + 2 * n ≤ most_steps = q.going h in omega arith

pub few_fails : (n word : ℕ) (old mid new : DmiSeen) → FewPolls n word old mid → shows_busy word ≡ true → Within 1 mid new → mid.fixed ≡ old.fixed
    → Within 3 old new
few_fails n word old mid new p h within fixed =
    within_few (p.reads + 1) 3 old new (within_then p.reads 1 (p.reads + 1) old mid new p.rises within fixed (omega arith))
    (next_at p.reads word old.far mid.far h p.polls)
