-- What a Look handed out, by its cases.
use Rattle.std.proofs.Common.{◌≡◌, ℕ, Bool, true, false, List, Option, Some, None, subst}
use Rattle.rv_model.specs.declared.size.Size.{Size}
use Rattle.debug_model.specs.declared.command.Path.{Path}
use Rattle.abstract_debugger.specs.Ways.{Way}
use Rattle.probe_run.specs.declared.hart.Seen.{Seen}
use Rattle.probe_run.specs.Acts.{Tells}
use Rattle.debug_model.specs.declared.slot_use.SlotUse.{SlotUse}
use Rattle.probe_session.specs.Answers.{BlockLoadedAs, BlockStoredAs, FreedAs, RefusedStore, TakenAs, WrittenAs}
use Rattle.probe_session.specs.BlockCalls.{BlockStored}
use Rattle.probe_session.specs.Calls.{Gave, GaveNone, NoneFree, NotUsed, LookMade, SlotFreed, SlotTaken}

pub saw_as : {h : ℕ} {old new : Tells} {s t : Seen} → s ≡ t → LookMade h old new s → LookMade h old new t
saw_as {h} {old} {new} is saw = subst (LookMade h old new) is saw

-- ---- answers that may be refusals

pub taken_some : {h : ℕ} {meant : SlotUse} {slot : ℕ} {o : Option ℕ} {t u : Tells} → o ≡ Some slot → TakenAs h meant t u o → SlotTaken h meant slot t u
taken_some {h} {meant} {slot} {o} {t} {u} is p = subst (TakenAs h meant t u) is p

pub taken_none : {h : ℕ} {meant : SlotUse} {o : Option ℕ} {t u : Tells} → o ≡ None → TakenAs h meant t u o → NoneFree h meant t u
taken_none {h} {meant} {o} {t} {u} is p = subst (TakenAs h meant t u) is p

pub freed_true : {h slot : ℕ} {b : Bool} {t u : Tells} → b ≡ true → FreedAs h slot t u b → SlotFreed h slot t u
freed_true {h} {slot} {b} {t} {u} is p = subst (FreedAs h slot t u) is p

pub freed_false : {h slot : ℕ} {b : Bool} {t u : Tells} → b ≡ false → FreedAs h slot t u b → NotUsed h slot t u
freed_false {h} {slot} {b} {t} {u} is p = subst (FreedAs h slot t u) is p

pub gave_true : {h number value : ℕ} {b : Bool} {t u : Tells} → b ≡ true → WrittenAs h number value t u b → Gave h number value t u
gave_true {h} {number} {value} {b} {t} {u} is p = subst (WrittenAs h number value t u) is p

pub gave_false : {h number value : ℕ} {b : Bool} {t u : Tells} → b ≡ false → WrittenAs h number value t u b → GaveNone h number value t u
gave_false {h} {number} {value} {b} {t} {u} is p = subst (WrittenAs h number value t u) is p

pub block_whole : {path : Path} {way : Way} {h : ℕ} {size : Size} {address count : ℕ} {values : List ℕ} {b : Bool} {t u : Tells} → b ≡ true
    → BlockLoadedAs path way h size address count values t u b → BlockLoadedAs path way h size address count values t u true
block_whole {path} {way} {h} {size} {address} {count} {values} {b} {t} {u} is p = subst (BlockLoadedAs path way h size address count values t u) is p

pub block_refused : {path : Path} {way : Way} {h : ℕ} {size : Size} {address count : ℕ} {values : List ℕ} {b : Bool} {t u : Tells} → b ≡ false
    → BlockLoadedAs path way h size address count values t u b → BlockLoadedAs path way h size address count values t u false
block_refused {path} {way} {h} {size} {address} {count} {values} {b} {t} {u} is p = subst (BlockLoadedAs path way h size address count values t u) is p

pub all_stored : {path : Path} {way : Way} {h : ℕ} {size : Size} {address : ℕ} {values : List ℕ} {o : Option ℕ} {t u : Tells} → o ≡ None
    → BlockStoredAs path way h size address values t u o → BlockStored path way h size address values t u
all_stored {path} {way} {h} {size} {address} {values} {o} {t} {u} is p = subst (BlockStoredAs path way h size address values t u) is p

pub some_stored : {path : Path} {way : Way} {h : ℕ} {size : Size} {address at : ℕ} {values : List ℕ} {o : Option ℕ} {t u : Tells} → o ≡ Some at
    → BlockStoredAs path way h size address values t u o → RefusedStore path way h size address values at t u
some_stored {path} {way} {h} {size} {address} {at} {values} {o} {t} {u} is p = subst (BlockStoredAs path way h size address values t u) is p
