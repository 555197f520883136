-- A fault inside an access, and what came of it.
use Rattle.std.proofs.Common.{◌≤◌, ℕ, sym, subst}
use Rattle.probe_access.specs.declared.fault.AccessFault.{AccessFault}
use Rattle.probe_run.specs.Acts.{Tells}
use Rattle.probe_access.specs.MemoryRuns.{AroundFailed, GaveUp, PutBackFailed, Saved, SavedFailed}
use Rattle.probe_access.specs.MemoryRuns.AroundFailed.{behind, in_restore, in_restore_behind, inside}
use Rattle.probe_access.specs.MemoryRuns.GaveUp.{lost, put_back, worse}
use Rattle.probe_access.proofs.Counted.{put_back_counted}

pub around_gave_up : (R : Tells → Tells → Type 0) (F : ℕ → ℕ → Tells → Tells → AccessFault → Type 0) (x8 x9 count mid_count was_count new_count : ℕ)
    (old first last new : Tells) (was e : AccessFault) → Saved x8 x9 old first
    → F mid_count was_count first last was → F count was_count first last was → count ≤ was_count → was_count ≤ new_count
    → GaveUp x8 x9 was_count new_count last new was e → AroundFailed R F count new_count old new e
around_gave_up R F x8 x9 count mid_count was_count new_count old first last new was e saved here f le later (put_back recovers is p) =
    subst (λ x. AroundFailed R F count new_count old new x) (sym is) (behind x8 x9 first last count was_count saved f recovers p)
around_gave_up R F x8 x9 count mid_count was_count new_count old first last new was e saved here f le later (worse recovers p) =
    in_restore_behind x8 x9 first last count was_count was saved f recovers (put_back_counted x8 x9 count was_count new_count last new e le later p)
around_gave_up R F x8 x9 count mid_count was_count new_count old first last new was e saved here f le later (lost loses is same same_count) =
    subst (λ x. AroundFailed R F count new_count old new x) (sym is)
    (inside x8 x9 first saved (subst (λ n. F count n first new was) (sym same_count) (subst (λ t. F count was_count first t was) (sym same) f)) loses)

pub around_restore : (R : Tells → Tells → Type 0) (F : ℕ → ℕ → Tells → Tells → AccessFault → Type 0) (x8 x9 count was_count new_count : ℕ)
    (old first last new : Tells) (e : AccessFault) → Saved x8 x9 old first → R first last
    → count ≤ was_count → was_count ≤ new_count → PutBackFailed x8 x9 was_count new_count last new e → AroundFailed R F count new_count old new e
around_restore R F x8 x9 count was_count new_count old first last new e saved r le later p =
    in_restore x8 x9 first last saved r (put_back_counted x8 x9 count was_count new_count last new e le later p)

-- behind the saving

pub saved_gave_up : (R : Tells → Tells → Type 0) (F : ℕ → ℕ → Tells → Tells → AccessFault → Type 0) (x8 x9 count was_count new_count : ℕ)
    (first last new : Tells) (was e : AccessFault) → F count was_count first last was → count ≤ was_count → was_count ≤ new_count
    → GaveUp x8 x9 was_count new_count last new was e → SavedFailed R F x8 x9 count new_count first new e
saved_gave_up R F x8 x9 count was_count new_count first last new was e f le later (put_back recovers is p) =
    subst (λ x. SavedFailed R F x8 x9 count new_count first new x) (sym is) (SavedFailed.behind last count was_count f recovers p)
saved_gave_up R F x8 x9 count was_count new_count first last new was e f le later (worse recovers p) =
    SavedFailed.in_restore_behind last count was_count was f recovers (put_back_counted x8 x9 count was_count new_count last new e le later p)
saved_gave_up R F x8 x9 count was_count new_count first last new was e f le later (lost loses is same same_count) =
    subst (λ x. SavedFailed R F x8 x9 count new_count first new x) (sym is)
    (SavedFailed.inside (subst (λ n. F count n first new was) (sym same_count) (subst (λ t. F count was_count first t was) (sym same) f)) loses)

pub saved_restore : (R : Tells → Tells → Type 0) (F : ℕ → ℕ → Tells → Tells → AccessFault → Type 0) (x8 x9 count was_count new_count : ℕ)
    (first last new : Tells) (e : AccessFault) → R first last → count ≤ was_count → was_count ≤ new_count
    → PutBackFailed x8 x9 was_count new_count last new e → SavedFailed R F x8 x9 count new_count first new e
saved_restore R F x8 x9 count was_count new_count first last new e r le later p =
    SavedFailed.in_restore last r (put_back_counted x8 x9 count was_count new_count last new e le later p)

pub around_saved : (R : Tells → Tells → Type 0) (F : ℕ → ℕ → Tells → Tells → AccessFault → Type 0) (x8 x9 count new_count : ℕ) (old first new : Tells)
    (e : AccessFault) → Saved x8 x9 old first → SavedFailed R F x8 x9 count new_count first new e → AroundFailed R F count new_count old new e
around_saved R F x8 x9 count new_count old first new e saved (SavedFailed.inside f loses) = inside x8 x9 first saved f loses
around_saved R F x8 x9 count new_count old first new e saved (SavedFailed.behind last was_count is_count f recovers p) =
    behind x8 x9 first last was_count is_count saved f recovers p
around_saved R F x8 x9 count new_count old first new e saved (SavedFailed.in_restore last r p) = in_restore x8 x9 first last saved r p
around_saved R F x8 x9 count new_count old first new e saved (SavedFailed.in_restore_behind last was_count is_count was f recovers p) =
    in_restore_behind x8 x9 first last was_count is_count was saved f recovers p
