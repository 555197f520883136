-- The calls of a block of stores in runs, by what the code knows.
use Rattle.std.proofs.Common.{◌≡◌, ◌≤◌, ◌<◌, ◌+◌, ℕ, [], Option, Some, None, subst, sym, arith}
use Rattle.rv_model.specs.declared.size.Size.{Size}
use Rattle.probe_access.specs.declared.fault.AccessFault.{AccessFault}
use Rattle.probe_run.specs.Acts.{Tells}
use Rattle.probe_access.specs.AskedRuns.{AskedBy, RunFell}
use Rattle.probe_access.specs.Blocks.{element_at}
use Rattle.probe_access.specs.ElementRuns.{StartFailed, Started, StoresFailed, StoresOn}
use Rattle.probe_access.specs.RegisterAccess.{store_word, x9_number}
use Rattle.probe_access.proofs.Counted.{write_counted}
use Rattle.probe_access.proofs.AskedCalls.{fell_counted}
use Rattle.probe_access.proofs.ElementCalls.{run_counted, start_as, start_counted, started_as}

-- a run was whole
pub stores_ran : (size : Size) (address value count n more : ℕ) (answer : Option ℕ) (old mid new : Tells) → answer ≡ None → n + 1 + more < count
    → StoresOn size address value count old n mid → AskedBy size address n more answer mid new
    → StoresOn size address value count old (n + (1 + more)) new
stores_ran size address value count n more answer old mid new is within on a =
    subst (λ m. StoresOn size address value count old m new) (let e : n + 1 + more ≡ n + (1 + more) = omega arith in e)
    (StoresOn.ran n more mid new within on (subst (λ o. AskedBy size address n more o mid new) is a))

-- or it was cut short, and the program is begun again
pub stores_again : (word : ℕ) (size : Size) (address value count n more found at : ℕ) (answer : Option ℕ) (old mid cut new : Tells) → word ≡ store_word size
    → at ≡ element_at size address found → answer ≡ Some found → n + 1 + more < count → StoresOn size address value count old n mid
    → AskedBy size address n more answer mid cut → Started word size at cut new → StoresOn size address value count old (found + 1) new
stores_again word size address value count n more found at answer old mid cut new is at_is some within on a s =
    StoresOn.again n more found mid cut new within on (subst (λ o. AskedBy size address n more o mid cut) some a)
    (subst (λ b. Started (store_word size) size b cut new) at_is (started_as (store_word size) word size at cut new is s))

pub stores_fell : (size : Size) (address value count n more start mid_count new_count : ℕ) (old mid new : Tells) (e : AccessFault) → n + 1 + more < count
    → start ≤ mid_count → mid_count ≤ new_count → StoresOn size address value count old n mid → RunFell size address n more mid_count new_count mid new e
    → StoresFailed size address value count start new_count old new e
stores_fell size address value count n more start mid_count new_count old mid new e within le later on f =
    StoresFailed.in_run n more mid within on (fell_counted size address n more start mid_count new_count mid new e le later f)

pub again_failed : (word : ℕ) (size : Size) (address value count n more found at : ℕ) (answer : Option ℕ) (start mid_count new_count : ℕ)
    (old mid cut new : Tells) (e : AccessFault) → word ≡ store_word size → at ≡ element_at size address found → answer ≡ Some found → n + 1 + more < count
    → start ≤ mid_count → mid_count ≤ new_count → StoresOn size address value count old n mid → AskedBy size address n more answer mid cut
    → StartFailed word size at mid_count new_count cut new e → StoresFailed size address value count start new_count old new e
again_failed word size address value count n more found at answer start mid_count new_count old mid cut new e is at_is some within le later on a f =
    StoresFailed.in_again n more found mid cut within on (subst (λ o. AskedBy size address n more o mid cut) some a)
    (subst (λ b. StartFailed (store_word size) size b start new_count cut new e) at_is
    (start_as (store_word size) word size at start mid_count new_count cut new e is le later f))

pub some_most : (size : Size) (address n more found : ℕ) (answer : Option ℕ) (old new : Tells) → answer ≡ Some found
    → AskedBy size address n more answer old new → found < n + 1 + more
some_most size address n more found answer old new is a =
    let s : AskedBy size address n more (Some found) old new = subst (λ o. AskedBy size address n more o old new) is a in s.most

pub some_least : (size : Size) (address n more found : ℕ) (answer : Option ℕ) (old new : Tells) → answer ≡ Some found
    → AskedBy size address n more answer old new → n ≤ found
some_least size address n more found answer old new is a =
    let s : AskedBy size address n more (Some found) old new = subst (λ o. AskedBy size address n more o old new) is a in s.least

pub stores_counted : (size : Size) (address value block count mid_count new_count : ℕ) (old new : Tells) (e : AccessFault) → count ≤ mid_count
    → mid_count ≤ new_count → StoresFailed size address value block mid_count new_count old new e
    → StoresFailed size address value block count new_count old new e
stores_counted size address value block count mid_count new_count old new e le later (StoresFailed.at_x9 f) =
    StoresFailed.at_x9 (write_counted x9_number value count mid_count new_count old new e le later f)
stores_counted size address value block count mid_count new_count old new e le later (StoresFailed.in_start one x9 f) =
    StoresFailed.in_start one x9 (start_counted _ size address count mid_count new_count one new e le later f)
stores_counted size address value block count mid_count new_count old new e le later (StoresFailed.in_next n mid below on f) =
    StoresFailed.in_next n mid below on (run_counted [] _ count mid_count new_count mid new e le later f)
stores_counted size address value block count mid_count new_count old new e le later (StoresFailed.in_run n more mid within on f) =
    StoresFailed.in_run n more mid within on (fell_counted size address n more count mid_count new_count mid new e le later f)
stores_counted size address value block count mid_count new_count old new e le later (StoresFailed.in_again n more found mid cut within on a f) =
    StoresFailed.in_again n more found mid cut within on a
    (start_counted (store_word size) size (element_at size address found) count mid_count new_count cut new e le later f)
