-- What a run meets outside, where it is told: the files with the names that were asked for, the net, and the bytes that were printed.
-- No public standard defines this.
use Rattle.std.specs.Prelude.{ℕ, List, Option}
use Rattle.debug_model.specs.Net.{NetState, Peer}
use Rattle.jt_base.specs.Files.{NamedFile}
use Rattle.wire_session.specs.Seen.{SinkSeen}

-- the files of a moment
pub record FilesSeen : Type 0 where
  pub held : Option (List NamedFile)
  pub asked : Option (List (List ℕ))
  pub faults : ℕ

-- the net of a moment, and who answers once it is open
pub record NetSeen : Type 0 where
  pub state : NetState
  pub peer : Peer
  pub faults : ℕ
  pub ends : ℕ

pub record Outside : Type 0 where
  pub files : FilesSeen
  pub net : NetSeen
  pub sink : SinkSeen
