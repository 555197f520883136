-- What an access answers that a chip may refuse: the value, or nothing; and of a block, how far it came.
-- It is this project's own.
use Rattle.std.specs.Prelude.{◌≡◌, ◌<◌, ℕ, Bool, true, false, List, length, Option, Some, None}
use Rattle.rv_model.specs.declared.size.Size.{Size}
use Rattle.debug_model.specs.declared.command.Path.{Path}
use Rattle.abstract_debugger.specs.Ways.{Way}
use Rattle.probe_run.specs.Acts.{Tells}
use Rattle.debug_model.specs.declared.slot_use.SlotUse.{SlotUse}
use Rattle.probe_access.specs.Blocks.{element_at}
use Rattle.probe_session.specs.BlockCalls.{BlockLoaded, BlockLoadedNone, BlockStored, BlockStoredNone}
use Rattle.probe_session.specs.Calls.{Gave, GaveNone, Got, GotNone, GotPending, NoneFree, NotUsed, PendingNone, SlotFreed, SlotTaken}

abbrev pub ReadAs : (h number : ℕ) → (old new : Tells) → Option ℕ → Type 0
ReadAs h number old new (Some value) = Got h number value old new
ReadAs h number old new None = GotNone h number old new

abbrev pub PendingAs : (h : ℕ) → (old new : Tells) → Option ℕ → Type 0
PendingAs h old new (Some value) = GotPending h value old new
PendingAs h old new None = PendingNone h old new

abbrev pub WrittenAs : (h number value : ℕ) → (old new : Tells) → Bool → Type 0
WrittenAs h number value old new true = Gave h number value old new
WrittenAs h number value old new false = GaveNone h number value old new

-- all of a block's elements, or those in front of one that was refused
abbrev pub BlockLoadedAs : Path → Way → (h : ℕ) → Size → (address count : ℕ) → (values : List ℕ) → (old new : Tells) → Bool → Type 0
BlockLoadedAs path way h size address count values old new true = (length values ≡ count) × BlockLoaded path way h size address values old new
BlockLoadedAs path way h size address count values old new false = (length values < count) × BlockLoadedNone path way h size address values old new

-- these values were stored to all of a block's elements, or to those in front of the one at this address
pub record RefusedStore (path : Path) (way : Way) (h : ℕ) (size : Size) (address : ℕ) (values : List ℕ) (at : ℕ) (old new : Tells) : Type 0 where
  pub done : ℕ
  pub below : done < length values
  pub at_is : at ≡ element_at size address done
  pub none : BlockStoredNone path way h size address values done old new

abbrev pub BlockStoredAs : Path → Way → (h : ℕ) → Size → (address : ℕ) → (values : List ℕ) → (old new : Tells) → Option ℕ → Type 0
BlockStoredAs path way h size address values old new None = BlockStored path way h size address values old new
BlockStoredAs path way h size address values old new (Some at) = RefusedStore path way h size address values at old new

abbrev pub TakenAs : (h : ℕ) → SlotUse → (old new : Tells) → Option ℕ → Type 0
TakenAs h meant old new (Some slot) = SlotTaken h meant slot old new
TakenAs h meant old new None = NoneFree h meant old new

abbrev pub FreedAs : (h slot : ℕ) → (old new : Tells) → Bool → Type 0
FreedAs h slot old new true = SlotFreed h slot old new
FreedAs h slot old new false = NotUsed h slot old new
