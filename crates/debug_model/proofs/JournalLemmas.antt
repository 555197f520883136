-- A board's machine behind a point: a change of a debug part leaves it as it is; and that no request masks interrupts.
use Rattle.std.proofs.Common.{◌≡◌, ◌∙◌, ℕ, List, true, false, Option, Some, None, slice_get, option_map, refl, ap}
use Rattle.rv_model.specs.declared.cause.Cause.{Cause}
use Rattle.rv_model.specs.Board.{Board, DebugPart, Hart, Machine, cores, machine_of}
use Rattle.rv_model.specs.Core.{Core}
use Rattle.rv_model.specs.Turn.{masks_interrupts}
use Rattle.rv_model.specs.TurnLaws.{StepsUnmasked}
use Rattle.rv_model.proofs.BoardLemmas.{cores-set, slice_get-cores}
use Rattle.rv_model.proofs.MapLemmas.{set_same}
use Rattle.rv_model.proofs.TurnLemmas.{turn_forgets_debugging, turn_keeps_unmasked, unmasked_set}
use Rattle.debug_model.specs.Journal.{PointsForgetDebugging, PointsKeepUnmasked, debug_changed, debug_changed_by, halt_requested, resume_asked}
use Rattle.debug_model.specs.Journal.{resume_asked_by, with_debug}
use Rattle.debug_model.specs.declared.point.Point.TheVariants.{Turn, Look, HaltReq, HaltClear, ResumeReq, Access}

changed_by : (o : Option Hart) (change : DebugPart → DebugPart) (h : ℕ) (b : Board) → slice_get b.harts h ≡ o
    → machine_of (debug_changed_by o change h b) ≡ machine_of b
changed_by None change h b here = refl
changed_by (Some hart) change h b here =
    let at : slice_get (cores b.harts) h ≡ Some hart.core = slice_get-cores b.harts h ∙ ap (option_map (λ (x : Hart). x.core)) here in
    ap (λ (cs : List Core). let m : Machine = record { cores = cs; memory = b.memory } in m)
    (cores-set b.harts h (with_debug change hart) ∙ set_same (cores b.harts) h hart.core at)

-- forgetting the debug parts, a change of one changes nothing
pub debug_changed_forgotten : (change : DebugPart → DebugPart) (h : ℕ) (b : Board) → machine_of (debug_changed change h b) ≡ machine_of b
debug_changed_forgotten change h b = changed_by (slice_get b.harts h) change h b refl

pub points_forget_debugging : PointsForgetDebugging
points_forget_debugging (Turn h) b unmasked = turn_forgets_debugging h b unmasked
points_forget_debugging (Look n) b unmasked = refl
points_forget_debugging (HaltReq h) b unmasked = debug_changed_forgotten (halt_requested true) h b
points_forget_debugging (HaltClear h) b unmasked = debug_changed_forgotten (halt_requested false) h b
points_forget_debugging (ResumeReq h) b unmasked = debug_changed_forgotten resume_asked h b
points_forget_debugging Access b unmasked = refl

-- ---- no step masks its interrupts

changed_unmasked_by : (o : Option Hart) (change : DebugPart → DebugPart) (h : ℕ) (b : Board) → slice_get b.harts h ≡ o
    → ((d : DebugPart) → masks_interrupts (change d) ≡ masks_interrupts d) → StepsUnmasked b → StepsUnmasked (debug_changed_by o change h b)
changed_unmasked_by None change h b here same each = each
changed_unmasked_by (Some hart) change h b here same each = unmasked_set b.harts h hart (with_debug change hart) here (same hart.debug) each

changed_unmasked : (change : DebugPart → DebugPart) (h : ℕ) (b : Board) → ((d : DebugPart) → masks_interrupts (change d) ≡ masks_interrupts d)
    → StepsUnmasked b → StepsUnmasked (debug_changed change h b)
changed_unmasked change h b same each = changed_unmasked_by (slice_get b.harts h) change h b refl same each

asked_masks : (halted : Option Cause) (d : DebugPart) → masks_interrupts (resume_asked_by halted d) ≡ masks_interrupts d
asked_masks (Some why) d = refl
asked_masks None d = refl

pub points_keep_unmasked : PointsKeepUnmasked
points_keep_unmasked (Turn h) b each = turn_keeps_unmasked h b each
points_keep_unmasked (Look n) b each = each
points_keep_unmasked (HaltReq h) b each = changed_unmasked (halt_requested true) h b (λ d. refl) each
points_keep_unmasked (HaltClear h) b each = changed_unmasked (halt_requested false) h b (λ d. refl) each
points_keep_unmasked (ResumeReq h) b each = changed_unmasked resume_asked h b (λ d. asked_masks d.halted d) each
points_keep_unmasked Access b each = each
