-- Behind the write of dcsr the step flag is set, so the Looks of a single step are few where the schedule is fair.
use Rattle.std.proofs.Common.{◌≡◌, ◌∙◌, ℕ, true, Option, Some, None, option_map, slice_get, refl, sym, ap, subst}
use Rattle.std.proofs.lemmas.Option.{none-some, same_Some}
use Rattle.rv_model.specs.Board.{Board, Hart}
use Rattle.debug_model.specs.Scan.{WhereTold}
use Rattle.debug_model.specs.Told.{Far, site_of}
use Rattle.abstract_debugger.proofs.OverLemmas.{slice_get-over_same}
use Rattle.abstract_debugger.specs.Stands.{Rewrote}
use Rattle.abstract_debugger.specs.Turns.{after_turns}
use Rattle.probe_access.specs.SingleSteps.{FlaggedAt, with_step}
use Rattle.probe_run.specs.Soon.{StepSet}

set_in : (o : Option Hart) (x : Hart) → option_map (with_step true) o ≡ Some x → x.debug.step ≡ true
set_in (Some y) x is = subst (λ (z : Hart). z.debug.step ≡ true) (same_Some (with_step true y) x is) refl
set_in None x is = absurd (none-some x is)

set_at : (h : ℕ) (f : Far) (new : Option Far) (w : FlaggedAt true h f.live.chip new) (x : Hart) → slice_get (site_of w.far).board.harts h ≡ Some x
    → x.debug.step ≡ true
set_at h f new w x at =
    let b : Board = after_turns w.rewrote.harts (site_of f).board in
    set_in (slice_get b.harts h) x
    (sym (slice_get-over_same (with_step true) h b.harts) ∙ sym (ap (λ (c : Board). slice_get c.harts h) w.rewrote.board) ∙ at)

pub flag_set : (h : ℕ) (old new : Option Far) → WhereTold (FlaggedAt true h) old new → StepSet h new
flag_set h None new w = subst (StepSet h) (sym w) tt
flag_set h (Some f) new w = subst (StepSet h) (sym w.is) (λ x at. set_at h f new w x at)
