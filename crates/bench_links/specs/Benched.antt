-- A net that ends at the chip on a bench: what it tells, and what its chip is before it is opened.
-- No public standard defines this.
use Rattle.std.specs.Prelude.{ℕ, List, Bool, true, false, Option, None, option_map}
use Rattle.debug_model.specs.Chip.{Live}
use Rattle.debug_model.specs.Net.{NetState, Peer}
use Rattle.debug_model.specs.Ties.{NetTies}
use Rattle.debug_model.specs.Told.{Far}
use Rattle.debug_model.specs.declared.net.Call.{Call}
use Rattle.chip_core.specs.Feeds.{far_of}
use Rattle.jtag_net.specs.Connection.{opened_by}

abbrev pub ties_of : Option Call → NetTies
ties_of opening = record { tells_pipe = false; opening = option_map opened_by opening }

-- the chip is told once the net is open
abbrev pub told_behind : Bool → Option Far → Option Far
told_behind false far = None
told_behind true far = far

abbrev pub net_state : Option Call → Bool → ℕ → Option Live → List ℕ → NetState
net_state opening near given bench unread = record {
  ties = ties_of opening;
  near_open = near;
  far_open = false;
  near_given = given;
  far_given = 0;
  chip = told_behind near (far_of bench unread);
  exchange = None;
  pipe = None;
}

abbrev pub peer_of : Option Live → Peer
peer_of bench = record { chip = bench; coming = None }
