-- How a job opens its net: by which call, and at which address where it has one; and why that call failed.
-- Which job makes which call is this project's own (docs/FORMATS.md, "Words").
use Rattle.std.specs.Prelude.{◌≡◌, ◌≤◌, ℕ, List, Option, Some, None}
use Rattle.debug_model.specs.Net.{Called, IsAccepted, IsConnected, IsJoined, OpenCause}
use Rattle.debug_model.specs.Told.{IsAsLoaded}
use Rattle.debug_model.specs.declared.net.Call.{Call}
use Rattle.debug_model.specs.declared.net.Call.TheVariants as calls
use Rattle.debug_model.specs.declared.net.NetFault.{NetFault}
use Rattle.debug_model.specs.declared.net.NetFault.TheVariants as faults
use Rattle.jtag_run.specs.Outside.{NetSeen}
use Rattle.jtag_run.specs.declared.refusal.Refusal.{Refusal}
use Rattle.jtag_run.specs.declared.refusal.Refusal.TheVariants.{Open, OutOfMemory}

-- a chip answers at this address; where the net tells it, it is as it was loaded
pub record ConnectedAt (at : List ℕ) (old new : NetSeen) : Type 0 where
  pub called : Called calls.Connect (Some at) old.state.ties new.state.ties
  pub opened : IsConnected old.peer new.state
  pub loaded : IsAsLoaded new.state.chip
  pub later : old.faults ≤ new.faults
  pub ends : new.ends ≡ old.ends

-- a client was accepted at this address
pub record AcceptedAt (at : List ℕ) (old new : NetSeen) : Type 0 where
  pub called : Called calls.Accept (Some at) old.state.ties new.state.ties
  pub opened : IsAccepted old.peer new.state
  pub later : old.faults ≤ new.faults
  pub ends : new.ends ≡ old.ends

-- both ends of a connection are open
pub record Joined (old new : NetSeen) : Type 0 where
  pub called : Called calls.Join None old.state.ties new.state.ties
  pub opened : IsJoined new.state
  pub later : old.faults ≤ new.faults
  pub ends : new.ends ≡ old.ends

-- this call failed
pub record OpenFailed (call : Call) (at : Option (List ℕ)) (fault : NetFault) (old new : NetSeen) : Type 0 where
  pub called : Called call at old.state.ties new.state.ties
  pub cause : OpenCause old.faults new.faults fault
  pub ends : new.ends ≡ old.ends

abbrev pub refusal_of : NetFault → Refusal
refusal_of faults.Failed = Open
refusal_of faults.NoMemory = OutOfMemory
