-- What a fault of a block of stores follows, however far its calls came.
use Rattle.std.proofs.Common.{ℕ, List, []}
use Rattle.rv_model.specs.declared.size.Size.{Size}
use Rattle.probe_access.specs.declared.fault.AccessFault.{AccessFault}
use Rattle.probe_run.specs.Acts.{Act, Tells}
use Rattle.probe_access.specs.BlockRuns.{Causes}
use Rattle.probe_access.specs.Blocks.{element_at}
use Rattle.probe_access.specs.ElementRuns.{RunFailed, StartFailed, Started, StoresFailed, StoresOn, block_program}
use Rattle.probe_access.specs.ElementRuns.RunFailed.{in_run, faulted, oddly}
use Rattle.probe_access.specs.RegisterAccess.{next_word, store_word, x8_number, x9_number}
use Rattle.probe_access.proofs.RunCauses.{asked_calls, run_fell_causes, some_calls}
use Rattle.probe_access.proofs.BlockCauses.{
  Calls,
  InsideCauses,
  LinkLater,
  calls,
  calls_then,
  causes_same,
  command_causes,
  ran_oddly,
  ran_reported,
  write_causes,
  written_calls,
}

pub started_calls : (word : ℕ) (size : Size) (address : ℕ) (a b : Tells) → Started word size address a b → Calls a b
started_calls word size address a b s = calls_then a s.mid b (written_calls x8_number address a s.mid s.x8) (calls _ s.mid b s.ran.ran.did)

stores_calls : (size : Size) (address value block : ℕ) (a : Tells) (n : ℕ) (b : Tells) → StoresOn size address value block a n b → Calls a b
stores_calls size address value block a _ _ (StoresOn.first one b x9 started) =
    calls_then a one b (written_calls x9_number value a one x9) (started_calls (store_word size) size address one b started)
stores_calls size address value block a _ _ (StoresOn.next n mid b on r) =
    calls_then a mid b (stores_calls size address value block a n mid on) (calls _ mid b r.ran.did)
stores_calls size address value block a _ _ (StoresOn.ran n more mid b below on r) =
    calls_then a mid b (stores_calls size address value block a n mid on) (asked_calls more r.last mid b r.asked)
stores_calls size address value block a _ _ (StoresOn.again n more found mid cut b below on r started) =
    calls_then a cut b (calls_then a mid cut (stores_calls size address value block a n mid on) (some_calls size address n more found mid cut r))
    (started_calls (store_word size) size (element_at size address found) cut b started)

run_causes : (front : List Act) (at count new_count : ℕ) (a b : Tells) (e : AccessFault) → RunFailed front at count new_count a b e
    → Causes count new_count a b e
run_causes front at count new_count a b _ (in_run e f) = command_causes front next_word count new_count a b e f
run_causes front at count new_count a b _ (faulted r) = ran_reported front next_word 3 a b r
run_causes front at count new_count a b _ (oddly shown r) = ran_oddly front next_word shown a b r

pub start_causes : (word : ℕ) (size : Size) (address count new_count : ℕ) (a b : Tells) (e : AccessFault) → LinkLater count new_count e
    → StartFailed word size address count new_count a b e → Causes count new_count a b e
start_causes word size address count new_count a b e later (StartFailed.at_x8 f) = write_causes x8_number address count new_count a b e later f
start_causes word size address count new_count a b e later (StartFailed.at_first mid x8 f) =
    causes_same a mid b (written_calls x8_number address a mid x8) count new_count e later
    (run_causes (block_program word size) address count new_count mid b e f)

stores_causes : (size : Size) (address value block count new_count : ℕ) (a b : Tells) (e : AccessFault) → LinkLater count new_count e
    → StoresFailed size address value block count new_count a b e → Causes count new_count a b e
stores_causes size address value block count new_count a b e later (StoresFailed.at_x9 f) = write_causes x9_number value count new_count a b e later f
stores_causes size address value block count new_count a b e later (StoresFailed.in_start one x9 f) =
    causes_same a one b (written_calls x9_number value a one x9) count new_count e later
    (start_causes (store_word size) size address count new_count one b e later f)
stores_causes size address value block count new_count a b e later (StoresFailed.in_next n mid below on f) =
    causes_same a mid b (stores_calls size address value block a n mid on) count new_count e later (run_causes [] _ count new_count mid b e f)
stores_causes size address value block count new_count a b e later (StoresFailed.in_run n more mid below on f) =
    causes_same a mid b (stores_calls size address value block a n mid on) count new_count e later
    (run_fell_causes size address n more count new_count mid b e later f)
stores_causes size address value block count new_count a b e later (StoresFailed.in_again n more found mid cut below on r f) =
    causes_same a cut b (calls_then a mid cut (stores_calls size address value block a n mid on) (some_calls size address n more found mid cut r))
    count new_count e later
    (start_causes (store_word size) size (element_at size address found) count new_count cut b e later f)

pub stores_inside_causes : (size : Size) (address value block : ℕ)
    → InsideCauses (λ a b. StoresOn size address value block a block b) (StoresFailed size address value block)
stores_inside_causes size address value block = record {
  went = λ a b r. stores_calls size address value block a block b r;
  failed = λ count new_count a b e later f. stores_causes size address value block count new_count a b e later f;
}
