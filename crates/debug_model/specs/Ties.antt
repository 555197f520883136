-- What an object that carries a link keeps through every call: the references that it borrows through; where a net
-- lies below it, which call opened that net, and where; where it tells its chip, what stays of that chip's schedule; and
-- what a net had counted when a wire over both its ends was made.
use Rattle.std.specs.Prelude.{ℕ, List, [], ◌∷◌, Bool, Option, None, false, option_map}
use Rattle.std.specs.Borrow.{GName}
use Rattle.debug_model.specs.Offered.{Timing, timing_of}
use Rattle.debug_model.specs.Told.{Far, chip_of}
use Rattle.debug_model.specs.declared.net.Call.{Call}

-- which call opened a net, and its address, where that is told
pub record Opening : Type 0 where
  pub call : Call
  pub address : Option (List ℕ)

-- whether a net tells a pipe behind `join`, and what opened it, where something did
pub record NetTies : Type 0 where
  pub tells_pipe : Bool
  pub opening : Option Opening

-- the faults and the ends that a net had counted
pub record Began : Type 0 where
  pub faults : ℕ
  pub ends : ℕ

pub record Ties : Type 0 where
  pub lenders : List GName
  pub net : NetTies
  pub timing : Option Timing
  pub began : Option Began

abbrev pub no_net : NetTies
no_net = record { tells_pipe = false; opening = None }

-- of an object that borrows nothing, lies over no net and tells no chip
abbrev pub no_ties : Ties
no_ties = record { lenders = []; net = no_net; timing = None; began = None }

abbrev pub timing_told : Option Far → Option Timing
timing_told told = option_map (λ f. timing_of (chip_of f)) told

-- of an object that borrows nothing and lies over no net, and tells this
abbrev pub ties_told : Option Far → Ties
ties_told told = record { lenders = []; net = no_net; timing = timing_told told; began = None }

-- of an object that is reached through one more reference
abbrev pub lent_by : GName → Ties → Ties
lent_by name ties = record ties { lenders = name ∷ ties.lenders }
