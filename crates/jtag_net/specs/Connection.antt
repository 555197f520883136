-- A net over real streams: what is known of it, and that it tells nothing else.
-- No public standard defines this.
use Rattle.std.specs.Prelude.{ℕ, Bool, false, Option, None, option_map}
use Rattle.debug_model.specs.Net.{NetState, Peer}
use Rattle.debug_model.specs.Ties.{NetTies, Opening}
use Rattle.debug_model.specs.declared.net.Call.{Call}

pub record Connection : Type 0 where
  pub opening : Option Call
  pub near_open : Bool
  pub far_open : Bool
  pub near_given : ℕ
  pub far_given : ℕ
  pub faults : ℕ
  pub ends : ℕ

abbrev pub opened_by : Call → Opening
opened_by call = record { call = call; address = None }

abbrev pub ties_of : Connection → NetTies
ties_of c = record { tells_pipe = false; opening = option_map opened_by c.opening }

abbrev pub untold : Connection → NetState
untold c = record {
  ties = ties_of c;
  near_open = c.near_open;
  far_open = c.far_open;
  near_given = c.near_given;
  far_given = c.far_given;
  chip = None;
  exchange = None;
  pipe = None;
}

abbrev pub nobody : Peer
nobody = record { chip = None; coming = None }
