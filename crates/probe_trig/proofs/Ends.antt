-- What the ending of a step makes of the hart: its slots with a hit are on again, and their hits are forgotten where the step was a whole one.
use Rattle.std.proofs.Common.{
  ◌≡◌,
  ◌∙◌,
  ◌<◌,
  ◌++◌,
  ◌||◌,
  ℕ,
  zero,
  suc,
  Bool,
  true,
  false,
  List,
  [],
  ◌∷◌,
  map,
  Option,
  Some,
  None,
  option_map,
  slice_get,
  refl,
  sym,
  ap,
  subst,
  arith,
  append-nil,
  append_assoc,
  if◌then◌else◌,
}
use Rattle.std.specs.Prelude.{◌==◌}
use Rattle.std.proofs.lemmas.Option.{same_Some}
use Rattle.rv_model.specs.declared.cause.Cause.{Cause}
use Rattle.rv_model.specs.declared.cause.Cause.TheVariants as cause
use Rattle.rv_model.specs.declared.dcsr.Dcsr.{Dcsr as DcsrWord}
use Rattle.rv_model.specs.Board.{Board, Hart}
use Rattle.rv_model.specs.Dcsr.{dcsr_of, dcsr_value, shown_cause}
use Rattle.rv_model.specs.DebugRegisters.{debug_value}
use Rattle.rv_model.specs.Registers.{csr_value}
use Rattle.rv_model.proofs.DebugWordLemmas.{dcsr_read_back}
use Rattle.abstract_debugger.specs.Debugger.{halted_of}
use Rattle.debug_model.specs.declared.point.Point.{Point}
use Rattle.abstract_debugger.specs.Laws.{IsFrozen, IsFrozenAt}
use Rattle.abstract_debugger.specs.Plan.{hart_over, is_step, step_ended, with_debug_part}
use Rattle.abstract_debugger.specs.Slots.{hits_forgotten, over, slots_back, trigger_back, trigger_forgotten, with_trigger}
use Rattle.abstract_debugger.specs.Stands.{Rewrote, Target, WentOn}
use Rattle.abstract_debugger.specs.Turns.{after_turns, turns}
use Rattle.abstract_debugger.proofs.FrozenLemmas.{frozen_stays, stays_same}
use Rattle.abstract_debugger.proofs.OverLemmas.{slice_get-over_same}
use Rattle.abstract_debugger.proofs.StandsLemmas.{after_turns-append, rewrote_then, turns-append}
use Rattle.probe_access.specs.SingleSteps.{with_step}
use Rattle.rv_model.specs.declared.slot.Slot.{Slot}
use Rattle.probe_trig.specs.declared.change.Change.TheVariants.{PutBackAndForget}
use Rattle.probe_trig.specs.declared.register.TriggerRegister.TheVariants.{Dcsr}
use Rattle.probe_trig.specs.Stepping.{Ends, ending, executed_at, shows_step}
use Rattle.probe_trig.specs.Transfers.{number_of}
use Rattle.probe_trig.specs.Transfers.Transfer.{Got}
use Rattle.probe_trig.specs.SlotRegisters.{shows_hit, trigger_changed}
use Rattle.probe_trig.proofs.Calls.{ChangedAt, changes_all, makes_changes}
use Rattle.probe_trig.proofs.Told.{Makes, Shown, becomes, played}

dcsr_held : (x : Hart) → debug_value x (number_of Dcsr) ≡ Some (dcsr_value x.debug)
unfolding debug_value csr_value
dcsr_held x = refl

small_cause : (o : Option Cause) → shown_cause o < 8
small_cause None = omega arith
small_cause (Some cause.Ebreak) = omega arith
small_cause (Some cause.Trigger) = omega arith
small_cause (Some cause.HaltReq) = omega arith
small_cause (Some cause.Step) = omega arith
small_cause (Some cause.Reset) = omega arith

by_cause : (o : Option Cause) → (shown_cause o == 4) ≡ is_step o
by_cause None = refl
by_cause (Some cause.Ebreak) = refl
by_cause (Some cause.Trigger) = refl
by_cause (Some cause.HaltReq) = refl
by_cause (Some cause.Step) = refl
by_cause (Some cause.Reset) = refl

-- what dcsr shows of a hart
pub shows_as_step : (w : ℕ) (x : Hart) → debug_value x (number_of Dcsr) ≡ Some w → shows_step w ≡ is_step x.debug.halted
shows_as_step w x held =
    let e : w ≡ dcsr_value x.debug = same_Some w (dcsr_value x.debug) (sym held ∙ dcsr_held x) in
    ap shows_step e
    ∙ ap (λ (d : DcsrWord). d.cause == 4) (dcsr_read_back (dcsr_of x.debug) (small_cause x.debug.halted))
    ∙ by_cause x.debug.halted

-- ---- the slots behind the step

two_changes : (ss : List Slot) → map (with_trigger (trigger_changed PutBackAndForget)) ss ≡ hits_forgotten (slots_back ss)
two_changes [] = refl
two_changes (s ∷ ss) = ap (λ zs. with_trigger trigger_forgotten (with_trigger trigger_back s) ∷ zs) (two_changes ss)

abbrev stepped_with : Hart → List Slot → Hart
stepped_with x ss = record { core = x.core; debug = record x.debug { step = false; stepie = false; slots = ss } }

-- by whether it was a whole one
ended_as : (b : Bool) (x : Hart) → b ≡ is_step x.debug.halted → changes_all (ending b) (with_step false x) ≡ with_debug_part step_ended x
ended_as true x e =
    ap (stepped_with x) (two_changes x.debug.slots ∙ ap (λ c. if c then hits_forgotten (slots_back x.debug.slots) else slots_back x.debug.slots) e)
ended_as false x e = ap (stepped_with x) (ap (λ c. if c then hits_forgotten (slots_back x.debug.slots) else slots_back x.debug.slots) e)

pub record EndedAt (executed : Bool) (h : ℕ) (old new : Target) : Type 0 where
  pub hart : Hart
  pub here : slice_get old.board.harts h ≡ Some hart
  pub frozen : IsFrozen hart.debug
  pub executed_is : executed ≡ is_step hart.debug.halted
  pub wrote : Rewrote (changes_all (ending executed)) h old new

pub makes_end : (executed : Bool) (h : ℕ) → Makes (Ends executed) h (EndedAt executed h)
makes_end executed h x ts old new is whole frozen r sh w =
    let s : Shown (Got Dcsr r.word ∷ r.rest) x = subst (λ zs. Shown zs x) r.is sh in
    let v : Rewrote (becomes (played r.rest x)) h old new = subst (λ (z : Hart). Rewrote (becomes z) h old new) (ap (λ zs. played zs x) r.is) w in
    let (a, b, c, d, changes) = r.changes in
    let m : ChangedAt (ending executed) (shows_hit a || (shows_hit b || (shows_hit c || shows_hit d))) h old new =
    makes_changes (ending executed) (shows_hit a || (shows_hit b || (shows_hit c || shows_hit d))) a b c d h refl x r.rest old new is whole frozen changes s.1
    v in
    record { hart = x; here = is; frozen = frozen; executed_is = r.executed_is ∙ shows_as_step r.word x s.0; wrote = m.wrote }

-- ---- a change made after turns

pub rewrote_behind : (f : Hart → Hart) (h : ℕ) (old mid new : Target) → WentOn old mid → Rewrote f h mid new → Rewrote f h old new
rewrote_behind f h old mid new p w = record {
  harts = p.harts ++ w.harts;
  board = w.board ∙ ap (λ b. hart_over f h (after_turns w.harts b)) p.board ∙ ap (hart_over f h) (sym (after_turns-append p.harts w.harts old.board));
  journal = w.journal ∙ ap (λ (j : List Point). j ++ turns w.harts) p.journal ∙ append_assoc old.journal (turns p.harts) (turns w.harts)
      ∙ ap (λ (j : List Point). old.journal ++ j) (sym (turns-append p.harts w.harts));
}

pub over_back : (f : Hart → Hart) (h : ℕ) (x z : Hart) (hs : List Hart) → slice_get (over h f hs) h ≡ Some z → slice_get hs h ≡ Some x → f x ≡ z
over_back f h x z hs there here = same_Some (f x) z (sym (ap (option_map f) here) ∙ sym (slice_get-over_same f h hs) ∙ there)

-- the flag is cleared, and the slots are changed behind it
pub record Cleared (executed : Bool) (h : ℕ) (ran new : Target) : Type 0 where
  pub ends : Rewrote (with_debug_part step_ended) h ran new
  pub executed_is : executed ≡ executed_at h new

pub cleared : (executed : Bool) (h : ℕ) (ran mid new : Target) → Rewrote (with_step false) h ran mid → EndedAt executed h mid new → Cleared executed h ran new
cleared executed h ran mid new clears e =
    let b : Board = after_turns clears.harts ran.board in
    let t : Target = record { board = b; journal = mid.journal } in
    let there : slice_get (over h (with_step false) b.harts) h ≡ Some e.hart = ap (λ (c : Board). slice_get c.harts h) (sym clears.board) ∙ e.here in
    let went : WentOn ran t = record { harts = clears.harts; board = refl; journal = clears.journal } in
    let first : Rewrote (with_step false) h t mid = record { harts = []; board = clears.board; journal = sym (append-nil mid.journal) } in
    let frozen : IsFrozenAt h b = λ x here. frozen_of x e.hart (over_back (with_step false) h x e.hart b.harts there here) e.frozen in
    let both : Rewrote (λ x. changes_all (ending executed) (with_step false x)) h t new =
    rewrote_then (with_step false) (changes_all (ending executed)) h t mid new frozen
    (λ x f. record { why = f.why; halted = f.halted; not_asked = f.not_asked }) first e.wrote in
    let ended : Rewrote (with_debug_part step_ended) h t new = record {
      harts = both.harts;
      board =
          both.board ∙ ap (λ hs. let c : Board = record { harts = hs; memory = (after_turns both.harts b).memory } in c)
          (over_where (λ x. changes_all (ending executed) (with_step false x)) (with_debug_part step_ended) h (after_turns both.harts b).harts
          (λ x here. ended_as executed x (e.executed_is
          ∙ ap (λ (z : Hart). is_step z.debug.halted) (sym (over_back (with_step false) h x e.hart b.harts there
          (sym (stays_same h b both.harts frozen) ∙ here))))));
      journal = both.journal;
    } in
    record {
      ends = rewrote_behind (with_debug_part step_ended) h ran t new went ended;
      executed_is =
          e.executed_is
          ∙ ap is_step (sym (ap halted_of (ap (λ (c : Board). slice_get c.harts h) e.wrote.board
          ∙ slice_get-over_same (changes_all (ending executed)) h (after_turns e.wrote.harts mid.board).harts
          ∙ ap (option_map (changes_all (ending executed))) (frozen_stays h e.hart mid.board e.wrote.harts e.here e.frozen))));
    }
  where
    frozen_of : (x z : Hart) → with_step false x ≡ z → IsFrozen z.debug → IsFrozen x.debug
    frozen_of x z e f =
        let k : IsFrozen (with_step false x).debug = subst (λ (u : Hart). IsFrozen u.debug) (sym e) f in
        record { why = k.why; halted = k.halted; not_asked = k.not_asked }

    over_where : (f g : Hart → Hart) (h : ℕ) (hs : List Hart) → ((x : Hart) → slice_get hs h ≡ Some x → f x ≡ g x) → over h f hs ≡ over h g hs
    over_where f g h [] same = refl
    over_where f g zero (x ∷ hs) same = ap (λ z. z ∷ hs) (same x refl)
    over_where f g (suc h) (x ∷ hs) same = ap (λ zs. x ∷ zs) (over_where f g h hs same)
