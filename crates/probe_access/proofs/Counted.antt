-- A fault is as well a fault since an earlier count of faults.
use Rattle.std.proofs.Common.{◌≤◌, ℕ, List, [], true, false, ◌≡◌, Option, None, subst}
use Rattle.rv_model.specs.declared.size.Size.{Size}
use Rattle.probe_access.specs.declared.fault.AccessFault.{AccessFault}
use Rattle.probe_access.specs.declared.fault.AccessFault.TheVariants as access_fault
use Rattle.probe_run.specs.Acts.{Act, Tells}
use Rattle.probe_access.specs.Faults.{Among}
use Rattle.probe_access.specs.CommandRuns.{CommandBegun, CommandFailed}
use Rattle.probe_access.specs.MemoryRuns.{PerformFailed, PutBackFailed, StoreFailedInside, program_set, TakeFailed}
use Rattle.probe_access.specs.MemoryRuns.PerformFailed.{in_run, faulted, oddly}
use Rattle.probe_access.specs.MemoryRuns.PutBackFailed.{at_x8 as put_x8, at_x9 as put_x9}
use Rattle.probe_access.specs.MemoryRuns.StoreFailedInside.{performing as store_performing, writing as store_writing}
use Rattle.probe_access.specs.RegisterRuns.{Asks, DoubleReads, ReadApartFailed, ReadApartFailedAt, ReadFailed, WriteFailed, double_written}
use Rattle.probe_access.specs.RegisterRuns.{AskedAtOnce, ReadTooEarly, Swapped, SwappedTooEarly, Swaps}
use Rattle.probe_access.specs.RegisterRuns.ReadApartFailedAt.{in_command as read_in_command, in_words as read_in_words}
use Rattle.probe_access.specs.RegisterAccess.{program_word, transfer_word, x8_number, x9_number}
use Rattle.probe_access.proofs.AskCalls.{behind_counted}
use Rattle.probe_access.proofs.RegisterCalls.{broke_counted}

pub command_counted : (front : List Act) (word count mid_count new_count : ℕ) (old new : Tells) (e : AccessFault) → count ≤ mid_count → mid_count ≤ new_count
    → CommandFailed front word mid_count new_count old new e → CommandFailed front word count new_count old new e
command_counted front word count mid_count new_count old new (access_fault.Dmi why) le later f =
    broke_counted (Among (CommandBegun front word)) count mid_count new_count old new.far why le later f
command_counted front word count mid_count new_count old new (access_fault.Memory address) le later f = f
command_counted front word count mid_count new_count old new (access_fault.Register asked) le later f = f
command_counted front word count mid_count new_count old new access_fault.StillBusy le later f = f
command_counted front word count mid_count new_count old new (access_fault.Run why) le later f = f
command_counted front word count mid_count new_count old new (access_fault.Odd shown) le later f = f

apart_at_counted : (number count mid_count new_count : ℕ) (old new : Tells) (e : AccessFault) → count ≤ mid_count → mid_count ≤ new_count
    → ReadApartFailedAt number mid_count new_count old new e → ReadApartFailedAt number count new_count old new e
apart_at_counted number count mid_count new_count old new e le later (read_in_command _ f) =
    read_in_command e (command_counted [] (transfer_word false number) count mid_count new_count old new e le later f)
apart_at_counted number count mid_count new_count old new e le later (read_in_words mid ran why b) =
    read_in_words mid ran why (broke_counted (Among DoubleReads) count mid_count new_count mid new.far why le later b)

pub apart_counted : (number count mid_count new_count : ℕ) (old new : Tells) (e : AccessFault) → count ≤ mid_count → mid_count ≤ new_count
    → ReadApartFailed number mid_count new_count old new e → ReadApartFailed number count new_count old new e
apart_counted number count mid_count new_count old new (access_fault.Dmi why) le later f =
    apart_at_counted number count mid_count new_count old new (access_fault.Dmi why) le later f
apart_counted number count mid_count new_count old new (access_fault.Memory address) le later f = f
apart_counted number count mid_count new_count old new (access_fault.Register asked) le later f = f
apart_counted number count mid_count new_count old new access_fault.StillBusy le later f = f
apart_counted number count mid_count new_count old new (access_fault.Run why) le later f = f
apart_counted number count mid_count new_count old new (access_fault.Odd shown) le later f = f

pub read_counted : (number count mid_count new_count : ℕ) (old new : Tells) (e : AccessFault) → count ≤ mid_count → mid_count ≤ new_count
    → ReadFailed number mid_count new_count old new e → ReadFailed number count new_count old new e
read_counted number count mid_count new_count old new e le later (ReadFailed.asking f) =
    ReadFailed.asking (behind_counted (Asks number) _ _ count mid_count new_count old new e le later f)
read_counted number count mid_count new_count old new e le later (ReadFailed.late mid early f) =
    ReadFailed.late mid early (apart_counted number count mid_count new_count mid new e le later f)

-- it was asked for too early, and then the calls of their own failed
pub asked_early : (number : ℕ) (answer : Option ℕ) (old new : Tells) → answer ≡ None → AskedAtOnce number answer old new → ReadTooEarly number old new
asked_early number answer old new is r = subst (λ (o : Option ℕ). AskedAtOnce number o old new) is r

pub late_failed : (number count mid_count new_count : ℕ) (old mid new : Tells) (e : AccessFault) → ReadTooEarly number old mid → count ≤ mid_count
    → mid_count ≤ new_count → ReadApartFailed number mid_count new_count mid new e → ReadFailed number count new_count old new e
late_failed number count mid_count new_count old mid new e early le later f =
    ReadFailed.late mid early (apart_counted number count mid_count new_count mid new e le later f)

pub write_counted : (number value count mid_count new_count : ℕ) (old new : Tells) (e : AccessFault) → count ≤ mid_count → mid_count ≤ new_count
    → WriteFailed number value mid_count new_count old new e → WriteFailed number value count new_count old new e
write_counted number value count mid_count new_count old new (access_fault.Dmi why) le later f =
    command_counted (double_written value) (transfer_word true number) count mid_count new_count old new (access_fault.Dmi why) le later f
write_counted number value count mid_count new_count old new (access_fault.Memory address) le later f = f
write_counted number value count mid_count new_count old new (access_fault.Register asked) le later f = f
write_counted number value count mid_count new_count old new access_fault.StillBusy le later f = f
write_counted number value count mid_count new_count old new (access_fault.Run why) le later f = f
write_counted number value count mid_count new_count old new (access_fault.Odd shown) le later f = f

pub perform_counted : (word address count mid_count new_count : ℕ) (old new : Tells) (e : AccessFault) → count ≤ mid_count → mid_count ≤ new_count
    → PerformFailed word address mid_count new_count old new e → PerformFailed word address count new_count old new e
perform_counted word address count mid_count new_count old new _ le later (in_run e f) =
    in_run e (command_counted (program_set word address) program_word count mid_count new_count old new e le later f)
perform_counted word address count mid_count new_count old new _ le later (faulted p) = faulted p
perform_counted word address count mid_count new_count old new _ le later (oddly shown ran) = oddly shown ran

pub put_back_counted : (x8 x9 count mid_count new_count : ℕ) (old new : Tells) (e : AccessFault) → count ≤ mid_count → mid_count ≤ new_count
    → PutBackFailed x8 x9 mid_count new_count old new e → PutBackFailed x8 x9 count new_count old new e
put_back_counted x8 x9 count mid_count new_count old new e le later (put_x8 f) =
    put_x8 (write_counted x8_number x8 count mid_count new_count old new e le later f)
put_back_counted x8 x9 count mid_count new_count old new e le later (put_x9 mid w f) =
    put_x9 mid w (write_counted x9_number x9 count mid_count new_count mid new e le later f)

pub store_counted : (size : Size) (address value count mid_count new_count : ℕ) (old new : Tells) (e : AccessFault) → count ≤ mid_count → mid_count ≤ new_count
    → StoreFailedInside size address value mid_count new_count old new e → StoreFailedInside size address value count new_count old new e
store_counted size address value count mid_count new_count old new e le later (store_writing f) =
    store_writing (write_counted x9_number value count mid_count new_count old new e le later f)
store_counted size address value count mid_count new_count old new e le later (store_performing mid w f) =
    store_performing mid w (perform_counted _ address count mid_count new_count mid new e le later f)

pub take_counted : (x8 count mid_count new_count : ℕ) (old new : Tells) (e : AccessFault) → count ≤ mid_count → mid_count ≤ new_count
    → TakeFailed x8 mid_count new_count old new e → TakeFailed x8 count new_count old new e
take_counted x8 count mid_count new_count old new e le later (TakeFailed.swapping f) =
    TakeFailed.swapping (behind_counted (Swaps x8_number x8) _ _ count mid_count new_count old new e le later f)
take_counted x8 count mid_count new_count old new e le later (TakeFailed.reading mid early f) =
    TakeFailed.reading mid early (read_counted x8_number count mid_count new_count mid new e le later f)
take_counted x8 count mid_count new_count old new e le later (TakeFailed.writing value mid last early read f) =
    TakeFailed.writing value mid last early read (write_counted x8_number x8 count mid_count new_count last new e le later f)

-- it came too early, and then a call of their own failed
pub swapped_early : (number value : ℕ) (answer : Option ℕ) (old new : Tells) → answer ≡ None → Swapped number value answer old new
    → SwappedTooEarly number value old new
swapped_early number value answer old new is r = subst (λ (o : Option ℕ). Swapped number value o old new) is r
