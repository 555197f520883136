-- The calls of a load, put together where one of them failed.
use Rattle.std.proofs.Common.{◌≡◌, ◌≤◌, ℕ, List, refl, sym, subst}
use Rattle.rv_model.specs.declared.size.Size.{Size}
use Rattle.probe_run.specs.Acts.{Act, Tells}
use Rattle.probe_access.specs.CommandRuns.{CommandFailed}
use Rattle.probe_access.specs.declared.fault.AccessFault.{AccessFault}
use Rattle.probe_access.specs.declared.fault.AccessFault.TheVariants as access_fault
use Rattle.probe_access.specs.MemoryRuns.{LoadRunFailed, Loses, PerformFailed, Performed, program_set, TakeFailed}
use Rattle.probe_access.specs.MemoryRuns.LoadRunFailed.{in_restore_behind, performing, refused, taking}
use Rattle.probe_access.specs.MemoryRuns.PerformFailed.{faulted, in_run, oddly}
use Rattle.probe_access.specs.RegisterAccess.{load_word, program_word, x8_number}
use Rattle.probe_access.specs.RegisterRuns.{RegisterRead, RegisterWritten, WriteFailed}
use Rattle.probe_access.proofs.Counted.{perform_counted, write_counted, take_counted}

perform_refused : (word address at old_count new_count : ℕ) (old new : Tells) → PerformFailed word address old_count new_count old new (access_fault.Memory at)
    → (at ≡ address) × Performed word address 3 old new
perform_refused word address at old_count new_count old new (in_run _ f) = absurd f
perform_refused word address _ old_count new_count old new (faulted p) = (refl, p)

-- memory refused it, and x8 was put back
pub load_refused_at : (size : Size) (address at x8 count was_count is_count new_count : ℕ) (old first last new : Tells) (e : AccessFault)
    → RegisterRead x8_number x8 old first
    → e ≡ access_fault.Memory at → PerformFailed (load_word size) address was_count is_count first last e → RegisterWritten x8_number x8 last new
    → LoadRunFailed size address count new_count old new e
load_refused_at size address at x8 count was_count is_count new_count old first last new e saved is f back =
    let g : PerformFailed (load_word size) address was_count is_count first last (access_fault.Memory at) =
    subst (λ (x : AccessFault). PerformFailed (load_word size) address was_count is_count first last x) is f in
    let p : (at ≡ address) × Performed (load_word size) address 3 first last = perform_refused (load_word size) address at was_count is_count first last g in
    subst (λ (x : AccessFault). LoadRunFailed size address count new_count old new x) (sym is)
    (subst (λ n. LoadRunFailed size address count new_count old new (access_fault.Memory n)) (sym p.0) (refused x8 first last saved p.1 back))

-- or could not be
pub load_refused_lost : (size : Size) (address at x8 count was_count is_count new_count : ℕ) (old first last new : Tells) (was e : AccessFault)
    → RegisterRead x8_number x8 old first → was ≡ access_fault.Memory at → PerformFailed (load_word size) address was_count is_count first last was
    → count ≤ is_count → is_count ≤ new_count → WriteFailed x8_number x8 is_count new_count last new e → LoadRunFailed size address count new_count old new e
load_refused_lost size address at x8 count was_count is_count new_count old first last new was e saved is f le later back =
    let g : PerformFailed (load_word size) address was_count is_count first last (access_fault.Memory at) =
    subst (λ (x : AccessFault). PerformFailed (load_word size) address was_count is_count first last x) is f in
    let p : (at ≡ address) × Performed (load_word size) address 3 first last = perform_refused (load_word size) address at was_count is_count first last g in
    in_restore_behind e x8 first last saved p.1 (write_counted x8_number x8 count is_count new_count last new e le later back)

run_loses : (front : List Act) (word old_count new_count : ℕ) (old new : Tells) (e : AccessFault) → CommandFailed front word old_count new_count old new e
    → Loses e
run_loses front word old_count new_count old new (access_fault.Dmi why) f = λ r. r
run_loses front word old_count new_count old new (access_fault.Memory at) f = absurd f
run_loses front word old_count new_count old new (access_fault.Register number) f = absurd f
run_loses front word old_count new_count old new access_fault.StillBusy f = λ r. r
run_loses front word old_count new_count old new (access_fault.Run why) f = absurd f
run_loses front word old_count new_count old new (access_fault.Odd shown) f = absurd f

-- a fault that is none of memory loses the session
pub perform_loses : (word address old_count new_count : ℕ) (old new : Tells) (e : AccessFault) → ((at : ℕ) → e ≡ access_fault.Memory at → ⊥)
    → PerformFailed word address old_count new_count old new e → Loses e
perform_loses word address old_count new_count old new _ other (in_run e f) = run_loses (program_set word address) program_word old_count new_count old new e f
perform_loses word address old_count new_count old new _ other (faulted p) = absurd (other address refl)
perform_loses word address old_count new_count old new _ other (oddly shown r) = λ q. q

pub load_lost : (size : Size) (address x8 count mid_count new_count : ℕ) (old first new : Tells) (e : AccessFault) → RegisterRead x8_number x8 old first
    → count ≤ mid_count → mid_count ≤ new_count → PerformFailed (load_word size) address mid_count new_count first new e → Loses e
    → LoadRunFailed size address count new_count old new e
load_lost size address x8 count mid_count new_count old first new e saved le later f loses =
    performing e x8 first saved (perform_counted (load_word size) address count mid_count new_count first new e le later f) loses

pub load_not_taken : (size : Size) (address x8 count mid_count new_count : ℕ) (old first mid new : Tells) (e : AccessFault)
    → RegisterRead x8_number x8 old first
    → Performed (load_word size) address 0 first mid → count ≤ mid_count → mid_count ≤ new_count → TakeFailed x8 mid_count new_count mid new e
    → LoadRunFailed size address count new_count old new e
load_not_taken size address x8 count mid_count new_count old first mid new e saved p le later f =
    taking e x8 first mid saved p (take_counted x8 count mid_count new_count mid new e le later f)
