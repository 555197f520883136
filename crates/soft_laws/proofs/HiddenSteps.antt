-- Patches, steps over them and the first breakpoint keep the chip's world hidden, and so do the commands that are as they were.
use Rattle.std.proofs.Common.{◌≡◌, ◌∙◌, ◌+◌, ◌<◌, ◌≤◌, ℕ, zero, suc, Bool, true, false, ◌||◌, List, [], ◌∷◌, Option, Some, None}
use Rattle.std.proofs.Common.{◌⊎◌, Result, Ok, Err, slice_get, refl, sym, ap, inl, inr, arith}
use Rattle.std.proofs.lemmas.Bool.{cases_lt, false≢true}
use Rattle.std.proofs.lemmas.Option.{none-some}
use Rattle.rv_model.specs.declared.mem_fault.MemFault.{MemFault}
use Rattle.rv_model.specs.declared.size.Size.TheVariants.{B4}
use Rattle.rv_model.specs.Board.{Board, Hart, Machine}
use Rattle.rv_model.specs.Memory.{loaded}
use Rattle.debug_model.specs.declared.command.Command.{Command}
use Rattle.debug_model.specs.declared.command.Command.TheVariants as command
use Rattle.debug_model.specs.declared.point.Point.TheVariants.{Look, Access}
use Rattle.abstract_debugger.specs.Debugger.{Seen, by_load, by_state, going, one, seen_at, seen_by, seen_here, stop_line}
use Rattle.abstract_debugger.specs.Debugger.Seen.{Absent, Running, Halted}
use Rattle.abstract_debugger.specs.Lines.{Line}
use Rattle.abstract_debugger.specs.Plan.{Change, Plan, PlanEnd}
use Rattle.abstract_debugger.specs.Plan.Change.{WriteReg, WriteMem, ArmSlot, FreeSlot, StepOver, StepDone, EbreakHalts, Patch}
use Rattle.abstract_debugger.specs.Plan.Plan.{see, change, say, stop}
use Rattle.abstract_debugger.specs.Plan.PlanEnd.{Done, NoHalt, NoAck}
use Rattle.abstract_debugger.specs.Slots.{any_hit, slots_at}
use Rattle.abstract_debugger.specs.Transcript.{World, changed, graded}
use Rattle.abstract_debugger.proofs.WalkLemmas.{IsLost, IsUsual, Walks, walk-if, walk-one, walk-resumed, walk-stop_line}
use Rattle.rv_model.specs.declared.cause.Cause.{Cause}
use Rattle.soft_laws.specs.Laws.{HasRun}
use Rattle.soft_laws.specs.SoftBreaks.{IsSoftAddress, covered, is_listed}
use Rattle.soft_laws.specs.SoftDebugger.{closing, covering, lifting, most_harts, one_by}
use Rattle.soft_laws.specs.SoftDebugger.{pc_at, planting, prepared, preparing, put_in, soft_one, soft_resuming}
use Rattle.soft_laws.specs.SoftDebugger.{soft_stepping, word_at}
use Rattle.soft_laws.proofs.EachHart.{Each, Switches, each-passed, each-switched}
use Rattle.soft_laws.proofs.HiddenPlans.{Hidden, IsKnowledge, h-change, h-on_path, h-say, h-see, h-see_at, h-stop, h-take, h-weaker}
use Rattle.soft_laws.proofs.PatchedLemmas.{listed-here, listed-there}
use Rattle.soft_laws.proofs.PlantedLemmas.{Armed, Fewer, IsFew, IsGuarded, PatchesNothing, Plants, armed-known, fewer_rest, fewer_same}
use Rattle.soft_laws.proofs.PlantedLemmas.{plants-again, plants-changed, plants-known, plants-lifted, plants-more}
use Rattle.soft_laws.proofs.StepHides.{IsOfWords}

-- ---- the commands that are as they were

-- four have plans of their own, of which two are walked with what they are made of
abbrev pub Walked : Command → Type 0
Walked (command.Ebreak on) = ⊥
Walked command.End = ⊥
Walked _ = Unit {0}

usual-words : (c : Change) → IsUsual c → IsOfWords c × PatchesNothing c
usual-words (WriteReg h r v) usual = (tt, tt)
usual-words (WriteMem a count v) usual = (tt, tt)
usual-words (ArmSlot h slot what) usual = (tt, tt)
usual-words (FreeSlot h slot) usual = (tt, tt)
usual-words (StepOver h) usual = (tt, tt)
usual-words (StepDone h) usual = (tt, tt)
usual-words (EbreakHalts h on) usual = absurd usual
usual-words (Patch a original covers) usual = absurd usual

usual-switches : (F : ℕ → Bool → Type 0) (c : Change) → IsUsual c → Switches F c
usual-switches F (WriteReg h r v) usual = tt
usual-switches F (WriteMem a count v) usual = tt
usual-switches F (ArmSlot h slot what) usual = tt
usual-switches F (FreeSlot h slot) usual = tt
usual-switches F (StepOver h) usual = tt
usual-switches F (StepDone h) usual = tt
usual-switches F (EbreakHalts h on) usual = absurd usual
usual-switches F (Patch a original covers) usual = absurd usual

lost_run : (e : PlanEnd) → IsLost e → (lines : List Line) → HasRun (graded e lines) → ⊥
lost_run Done lost lines run = lost
lost_run (NoHalt looks) lost lines run = run
lost_run (NoAck looks) lost lines run = run

pub hidden-walk : (m : Machine) (ps : List ℕ) → Walks Walked (λ p q. Hidden m (Plants ps) p)
hidden-walk m ps = record {
  takes = λ q next more h. h-take m (Plants ps) (plants-known ps) q next h;
  paths = λ path next more h. h-on_path m (Plants ps) path next h;
  sees = λ next more h. h-see m (Plants ps) next h;
  says = λ line next more h. h-say m (Plants ps) (plants-known ps) line next h;
  changes = λ c usual next more h. h-change m (Plants ps) (Plants ps) c next (usual-words c usual).0
      (λ w. plants-changed ps c w (usual-words c usual).1 (λ some. usual-switches IsGuarded c usual) (usual-switches IsFew c usual)) h;
  ebreaks = λ h on allowed next more r. absurd allowed;
  loses = λ e lost. h-stop m (Plants ps) (plants-known ps) e (λ w k run. absurd (lost_run e lost w.lines run));
  ends = λ allowed. absurd allowed;
}

-- ---- patches

-- each of these addresses is a word's
unfoldable pub AreWords : List ℕ → Type 0
AreWords ps = (a : ℕ) → is_listed ps a ≡ true → IsSoftAddress a

pub lifting-hidden : (m : Machine) (a : ℕ) (ps qs : List ℕ) → IsSoftAddress a → Fewer a ps qs → (next : ℕ → Plan) → ((o : ℕ) → Hidden m (Plants qs) (next o))
    → Hidden m (Plants ps) (lifting a next)
lifting-hidden m a ps qs aligned fewer next h =
    h-take m (Plants ps) (plants-known ps) Access (see (λ b. change (Patch a (word_at a b) false) (next (word_at a b))))
    (h-see m (Plants ps) (λ b. change (Patch a (word_at a b) false) (next (word_at a b))) (λ b.
    h-change m (Plants ps) (Plants qs) (Patch a (word_at a b) false) (next (word_at a b)) aligned
    (λ w. plants-lifted a (word_at a b) ps qs w fewer) (h (word_at a b))))

pub covering-hidden : (m : Machine) (K L : World → Type 0) → IsKnowledge K → (a original : ℕ) → IsSoftAddress a
    → ((w : World) → K w → L (changed (Patch a original true) w)) → (next : Plan) → Hidden m L next → Hidden m K (covering a original next)
covering-hidden m K L knows a original aligned steps next h =
    h-take m K knows Access (see (λ b. change (Patch a original true) next))
    (h-see m K (λ b. change (Patch a original true) next) (λ b. h-change m K L (Patch a original true) next aligned steps h))

nothing_covered : (cs : List ℕ) → ((a : ℕ) → is_listed cs a ≡ true → is_listed [] a ≡ true) → cs ≡ []
nothing_covered [] within = refl
nothing_covered (c ∷ cs) within = absurd (false≢true (within c (listed-here c cs c refl)))

pub closing-hidden : (m : Machine) (ps : List ℕ) → AreWords ps → Hidden m (Plants ps) (closing ps (stop Done))
unfolding AreWords
closing-hidden m [] words = h-stop m (Plants []) (plants-known []) Done (λ w k run. nothing_covered (covered w.past) k.within)
closing-hidden m (a ∷ rest) words =
    lifting-hidden m a (a ∷ rest) rest (words a (listed-here a rest a refl)) (fewer_rest a rest) (λ original. closing rest (stop Done))
    (λ original. closing-hidden m rest (λ b is. words b (listed-there a rest b is)))

-- ---- steps

one_by-hidden : (m : Machine) (ps : List ℕ) → AreWords ps → (b : Bool) (pc h : ℕ) → is_listed ps pc ≡ b → (stepped other : Plan)
    → Hidden m (Plants ps) stepped → Hidden m (Plants ps) other → Hidden m (Plants ps) (one_by b pc h stepped other)
unfolding AreWords
one_by-hidden m ps words false pc h is stepped other hs ho = walk-one (hidden-walk m ps) h stepped other stepped other hs ho
one_by-hidden m ps words true pc h is stepped other hs ho =
    lifting-hidden m pc ps ps (words pc is) (fewer_same pc ps) (λ o. one h (covering pc o stepped) (covering pc o other)) (λ o.
    walk-one (hidden-walk m ps) h (covering pc o stepped) (covering pc o other) (covering pc o stepped) (covering pc o other)
    (covering-hidden m (Plants ps) (Plants ps) (plants-known ps) pc o (words pc is) (λ w. plants-again pc o ps w is) stepped hs)
    (covering-hidden m (Plants ps) (Plants ps) (plants-known ps) pc o (words pc is) (λ w. plants-again pc o ps w is) other ho))

soft_one-hidden : (m : Machine) (ps : List ℕ) → AreWords ps → (h : ℕ) (stepped other : Plan) → Hidden m (Plants ps) stepped → Hidden m (Plants ps) other
    → Hidden m (Plants ps) (soft_one ps h stepped other)
soft_one-hidden m ps words h stepped other hs ho =
    h-see m (Plants ps) (λ b. one_by (is_listed ps (pc_at h b)) (pc_at h b) h stepped other)
    (λ b. one_by-hidden m ps words (is_listed ps (pc_at h b)) (pc_at h b) h refl stepped other hs ho)

pub stepping-hidden : (m : Machine) (ps : List ℕ) → AreWords ps → (k h : ℕ) (next : Plan) → Hidden m (Plants ps) next
    → Hidden m (Plants ps) (soft_stepping k ps h next)
unfolding soft_stepping
stepping-hidden m ps words zero h next hn = hn
stepping-hidden m ps words (suc k) h next hn =
    soft_one-hidden m ps words h (soft_stepping k ps h next) next (stepping-hidden m ps words k h next hn) hn

pub resuming-hidden : (m : Machine) (ps : List ℕ) → AreWords ps → (h : ℕ) (next : Plan) → Hidden m (Plants ps) next
    → Hidden m (Plants ps) (see (soft_resuming ps h next))
resuming-hidden m ps words h next hn =
    let gone : Hidden m (Plants ps) (going h (say Line.Resumed next)) = walk-resumed (hidden-walk m ps) h next next hn in
    h-see m (Plants ps) (soft_resuming ps h next) (λ b.
    walk-if (hidden-walk m ps) (any_hit (slots_at h b) || is_listed ps (pc_at h b)) (soft_one ps h (going h (say Line.Resumed next)) (stop_line h next))
    (going h (say Line.Resumed next)) (soft_one ps h (going h (say Line.Resumed next)) (stop_line h next)) (going h (say Line.Resumed next))
    (soft_one-hidden m ps words h (going h (say Line.Resumed next)) (stop_line h next) gone (walk-stop_line (hidden-walk m ps) h next next hn)) gone)

-- ---- the first breakpoint

IsGuardedBelow : ℕ → ℕ → Bool → Type 0
IsGuardedBelow h j on = j < h → on ≡ true

-- as before, and the harts below number h halt at an ebreak
record Below (ps : List ℕ) (h : ℕ) (w : World) : Type 0 where
  plants : Plants ps w
  below : Each (IsGuardedBelow h) w.board.harts

below-known : (ps : List ℕ) (h : ℕ) → IsKnowledge (Below ps h)
below-known ps h = record {
  passes = λ q w k. record { plants = (plants-known ps).passes q w k.plants; below = each-passed (IsGuardedBelow h) q w k.below };
  says = λ line w k. record { plants = (plants-known ps).says line w k.plants; below = k.below };
  stops = λ w k. (plants-known ps).stops w k.plants;
}

-- no hart is behind one that is absent
absent_beyond : {A : Type 0} (xs : List A) (h j : ℕ) → slice_get xs h ≡ None → h ≤ j → slice_get xs j ≡ None
absent_beyond [] h j none more = refl
absent_beyond (x ∷ xs) zero j none more = absurd (cc)
absent_beyond (x ∷ xs) (suc h) zero none more = absurd (omega (arith, more))
absent_beyond (x ∷ xs) (suc h) (suc j) none more = absent_beyond xs h j none (omega (arith, more))

absent_none : (o : Option Hart) → seen_here o ≡ Absent → o ≡ None
absent_none None is = refl
absent_none (Some x) is = by x.debug.halted is
  where
    by : (halted : Option Cause) → seen_by halted x.debug.resume_ack ≡ Absent → Some x ≡ None
    by (Some why) e = absurd (cc)
    by None e = absurd (cc)

armed_by : (ps : List ℕ) (h : ℕ) (w : World) → Below ps h w → ((j : ℕ) (x : Hart) → slice_get w.board.harts j ≡ Some x → j < h) → Armed ps w
unfolding IsGuardedBelow
armed_by ps h w k all = record { plants = k.plants; all = λ j x at. k.below j x at (all j x at) }

absent_armed : (ps : List ℕ) (h : ℕ) (w : World) → Below ps h w → seen_at h w.board ≡ Absent → Armed ps w
absent_armed ps h w k absent = armed_by ps h w k (λ j x at. by j x at (cases_lt j h))
  where
    by : (j : ℕ) (x : Hart) → slice_get w.board.harts j ≡ Some x → (j < h) ⊎ (h ≤ j) → j < h
    by j x at (inl less) = less
    by j x at (inr more) =
        absurd (none-some x (sym (absent_beyond w.board.harts h j (absent_none (slice_get w.board.harts h) absent) more) ∙ at))

switched_below : (ps : List ℕ) (h : ℕ) (w : World) → Below ps h w → Below ps (h + 1) (changed (EbreakHalts h true) w)
unfolding IsGuardedBelow
switched_below ps h w k = record {
  plants = plants-changed ps (EbreakHalts h true) w tt (λ some before is. refl) (λ before is. is) k.plants;
  below = each-switched (IsGuardedBelow h) (IsGuardedBelow (h + 1)) h true w.board (λ less. refl)
      (λ j e other is less. is (omega_less j h other less)) k.below;
}
  where
    omega_less : (j h : ℕ) → (j ≡ h → ⊥) → j < h + 1 → j < h
    omega_less j h other less = by (cases_lt j h)
      where
        by : (j < h) ⊎ (h ≤ j) → j < h
        by (inl e) = e
        by (inr e) = absurd (other (omega (arith, e, less)))

preparing-hidden : (m : Machine) (ps : List ℕ) (next ready : Plan) → Hidden m (Plants ps) next → Hidden m (Armed ps) ready → (n h : ℕ) → h + n ≡ most_harts
    → Hidden m (Below ps h) (preparing n h next ready)
unfolding preparing
preparing-hidden m ps next ready hn hr zero h all =
    h-weaker m (Below ps h) (Armed ps) ready (λ w k. armed_by ps h w k (λ j x at. fewer (k.plants.few j x at))) hr
  where
    fewer : {j : ℕ} → j < most_harts → j < h
    fewer less = omega (arith, all, less)
preparing-hidden m ps next ready hn hr (suc n) h all =
    h-take m (Below ps h) (below-known ps h) (Look h) (see (λ b. by_state ready (say (Line.IsRunning h) next)
    (change (EbreakHalts h true) (preparing n (h + 1) next ready)) (seen_at h b)))
    (h-see_at m (Below ps h) (λ b. by_state ready (say (Line.IsRunning h) next) (change (EbreakHalts h true) (preparing n (h + 1) next ready)) (seen_at h b))
    (λ b. by b (preparing-hidden m ps next ready hn hr n (h + 1) (omega (arith, all))) (seen_at h b) refl))
  where
    by : (b : Board) → Hidden m (Below ps (h + 1)) (preparing n (h + 1) next ready) → (s : Seen) → seen_at h b ≡ s
        → Hidden m (λ w. Below ps h w × (w.board ≡ b)) (by_state ready (say (Line.IsRunning h) next)
        (change (EbreakHalts h true) (preparing n (h + 1) next ready)) s)
    by b later Absent is =
        h-weaker m (λ w. Below ps h w × (w.board ≡ b)) (Armed ps) ready (λ w k. absent_armed ps h w k.0 (ap (seen_at h) k.1 ∙ is)) hr
    by b later (Running ack) is =
        h-weaker m (λ w. Below ps h w × (w.board ≡ b)) (Plants ps) (say (Line.IsRunning h) next) (λ w k. k.0.plants)
        (h-say m (Plants ps) (plants-known ps) (Line.IsRunning h) next hn)
    by b later (Halted ack) is =
        h-change m (λ w. Below ps h w × (w.board ≡ b)) (Below ps (h + 1)) (EbreakHalts h true) (preparing n (h + 1) next ready) tt
        (λ w k. switched_below ps h w k.0) later

pub prepared-hidden : (m : Machine) (ps : List ℕ) (next ready : Plan) → Hidden m (Plants ps) next → Hidden m (Armed ps) ready
    → Hidden m (Plants ps) (prepared ps next ready)
unfolding IsGuardedBelow
prepared-hidden m [] next ready hn hr =
    h-weaker m (Plants []) (Below [] 0) (preparing most_harts 0 next ready) (λ w k. record {
      plants = k;
      below = λ j x at less. absurd (omega
          (arith, less));
    })
    (preparing-hidden m [] next ready hn hr most_harts 0 refl)
prepared-hidden m (a ∷ ps) next ready hn hr =
    h-weaker m (Plants (a ∷ ps)) (Armed (a ∷ ps)) ready (λ w k. record { plants = k; all = k.guarded refl }) hr

pub planting-hidden : (m : Machine) (a : ℕ) (ps : List ℕ) → IsSoftAddress a → (next set : Plan) → Hidden m (Plants ps) next
    → Hidden m (Plants (put_in a ps)) set → Hidden m (Armed ps) (planting a next set)
planting-hidden m a ps aligned next set hn hs =
    h-take m (Armed ps) (armed-known ps) Access (see (λ b. by_load (loaded b.memory a B4) (say (Line.MemoryFault a) next)
    (λ original. covering a original (say (Line.SoftSet a) set))))
    (h-see m (Armed ps) (λ b. by_load (loaded b.memory a B4) (say (Line.MemoryFault a) next) (λ original. covering a original (say (Line.SoftSet a) set)))
    (λ b. by (loaded b.memory a B4)))
  where
    by : (r : Result ℕ MemFault)
        → Hidden m (Armed ps) (by_load r (say (Line.MemoryFault a) next) (λ original. covering a original (say (Line.SoftSet a) set)))
    by (Ok original) =
        covering-hidden m (Armed ps) (Plants (put_in a ps)) (armed-known ps) a original aligned (λ w. plants-more a original ps w) (say (Line.SoftSet a) set)
        (h-say m (Plants (put_in a ps)) (plants-known (put_in a ps)) (Line.SoftSet a) set hs)
    by (Err fault) =
        h-weaker m (Armed ps) (Plants ps) (say (Line.MemoryFault a) next) (λ w k. k.plants)
        (h-say m (Plants ps) (plants-known ps) (Line.MemoryFault a) next hn)
