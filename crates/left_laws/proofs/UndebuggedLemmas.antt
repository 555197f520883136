-- To a program a path is executed instructions, and what was stored.
use Rattle.std.proofs.Common.{◌≡◌, ◌∙◌, ℕ, zero, suc, Bool, true, false, List, [], ◌∷◌, Some, slice_get, refl, ap, subst, if◌then◌else◌}
use Rattle.std.proofs.lemmas.Option.{none-some, same_Some}
use Rattle.rv_model.specs.Board.{Board, execute, machine_of}
use Rattle.rv_model.specs.Turn.{executes_at}
use Rattle.rv_model.specs.TurnLaws.{StepsUnmasked}
use Rattle.rv_model.specs.Undebugged.{Entry, Exec, SetMem, entered, undebugged}
use Rattle.debug_model.specs.Journal.{after_point}
use Rattle.debug_model.specs.declared.point.Point.{Point}
use Rattle.debug_model.specs.declared.point.Point.TheVariants.{Turn, Look, HaltReq, HaltClear, ResumeReq, Access}
use Rattle.debug_model.proofs.JournalLemmas.{points_forget_debugging, points_keep_unmasked}
use Rattle.left_laws.specs.Left.{IsAmong, Scope, bytes_put}
use Rattle.left_laws.specs.Left.Lives.{stays, takes, puts, changes}
use Rattle.left_laws.specs.LeftLaws.{IsOwn, PathsAreUndebugged, RanUndebugged}

-- ---- entries in front of others

abbrev AllOwn : Scope → List Entry → Type 0
AllOwn s entries = (place : ℕ) (e : Entry) → slice_get entries place ≡ Some e → IsOwn s e

own_first : (s : Scope) (first : Entry) (entries : List Entry) → IsOwn s first → AllOwn s entries → AllOwn s (first ∷ entries)
own_first s first entries ok each zero e is = subst (IsOwn s) (same_Some first e is) ok
own_first s first entries ok each (suc place) e is = each place e is

entry_first : (s : Scope) (first : Entry) (b mid end : Board) → IsOwn s first → machine_of mid ≡ entered first (machine_of b) → RanUndebugged s mid end
    → RanUndebugged s b end
entry_first s first b mid end ok is r = record {
  entries = first ∷ r.entries;
  own = own_first s first r.entries ok r.own;
  machine = r.machine ∙ ap (λ m. undebugged m r.entries) is;
}

none_first : (s : Scope) (b mid end : Board) → machine_of mid ≡ machine_of b → RanUndebugged s mid end → RanUndebugged s b end
none_first s b mid end is r = record { entries = r.entries; own = r.own; machine = r.machine ∙ ap (λ m. undebugged m r.entries) is }

-- ---- a point

turn_first : (executed : Bool) (s : Scope) (h : ℕ) (b mid end : Board) → machine_of mid ≡ (if executed then execute h (machine_of b) else machine_of b)
    → RanUndebugged s mid end → RanUndebugged s b end
turn_first true s h b mid end is r = entry_first s (Exec h) b mid end tt is r
turn_first false s h b mid end is r = none_first s b mid end is r

point_first : (s : Scope) (p : Point) (b end : Board) → StepsUnmasked b → RanUndebugged s (after_point p b) end → RanUndebugged s b end
point_first s (Turn h) b end unmasked r =
    turn_first (executes_at h b) s h b (after_point (Turn h) b) end (points_forget_debugging (Turn h) b unmasked) r
point_first s (Look n) b end unmasked r = none_first s b (after_point (Look n) b) end (points_forget_debugging (Look n) b unmasked) r
point_first s (HaltReq n) b end unmasked r = none_first s b (after_point (HaltReq n) b) end (points_forget_debugging (HaltReq n) b unmasked) r
point_first s (HaltClear n) b end unmasked r = none_first s b (after_point (HaltClear n) b) end (points_forget_debugging (HaltClear n) b unmasked) r
point_first s (ResumeReq n) b end unmasked r = none_first s b (after_point (ResumeReq n) b) end (points_forget_debugging (ResumeReq n) b unmasked) r
point_first s Access b end unmasked r = none_first s b (after_point Access b) end (points_forget_debugging Access b unmasked) r

pub paths_are_undebugged : PathsAreUndebugged
paths_are_undebugged s b points end none unmasked (stays x) =
    record { entries = []; own = λ place e is. absurd (none-some e is); machine = refl }
paths_are_undebugged s b points end none unmasked (takes p x rest last ok further) =
    point_first s p x last unmasked
    (paths_are_undebugged s (after_point p x) rest last none (points_keep_unmasked p x unmasked) further)
paths_are_undebugged s b points end none unmasked (puts a n v x rest last ok further) =
    entry_first s (SetMem a n v) x (bytes_put a n v x) last ok refl (paths_are_undebugged s (bytes_put a n v x) rest last none unmasked further)
paths_are_undebugged s b points end none unmasked (changes f h x rest last ok keeps further) = absurd (subst (IsAmong h) none ok)
