-- What happens behind the transport between two operations: turns of harts, micro steps of a command and accesses of the system bus.
-- It is this project's own word for the steps that RISC-V Debug Specification 1.0 leaves to the chip's time.
use Rattle.std.specs.Prelude.{ℕ, Bool, true, false, List, [], ◌∷◌, ◌++◌, Option, Some, None, slice_get, slice_set}
use Rattle.rv_model.specs.Board.{Hart}
use Rattle.rv_model.specs.Turn.{turn_by}
use Rattle.debug_model.specs.declared.micro.Micro.{Micro}
use Rattle.debug_model.specs.declared.point.Point.{Point}
use Rattle.debug_model.specs.declared.point.Point.TheVariants.{Turn, Access}
use Rattle.debug_model.specs.Commands.{Stepped, micro_step}
use Rattle.debug_model.specs.Module.{Site, selected_hart}
use Rattle.debug_model.specs.SystemBus.{BusDone, bus_done}

-- the point of an access, where one was made
abbrev pub access_points : Bool → List Point
access_points true = Access ∷ []
access_points false = []

-- ---- turns

abbrev pub turned_by : Option Hart → ℕ → Site → Site
turned_by (Some hart) h s = record s { board = turn_by (Some hart) h s.board; journal = s.journal ++ Turn h ∷ [] }
turned_by None h s = s

-- the turn of a hart; nothing where there is no such hart
abbrev pub turned : ℕ → Site → Site
turned h s = turned_by (slice_get s.board.harts h) h s

-- ---- micro steps

abbrev pub with_stepped : Stepped → Site → Site
with_stepped d s = record {
  unit = record s.unit { commands = d.unit };
  board = record { harts = slice_set s.board.harts s.unit.hartsel d.hart; memory = d.memory };
  journal = s.journal ++ access_points d.accessed;
}

-- by what is to be done: with nothing under way nothing happens
abbrev pub stepped_by : List Micro → Option Hart → Site → Site
stepped_by [] hart s = s
stepped_by (m ∷ ms) (Some hart) s = with_stepped (micro_step hart s.board.memory s.unit.commands) s
stepped_by (m ∷ ms) None s = s

-- a micro step of the command under way, on the selected hart
abbrev pub command_stepped : Site → Site
command_stepped s = stepped_by s.unit.commands.steps (selected_hart s) s

-- ---- accesses of the bus

abbrev pub with_bus_done : BusDone → Site → Site
with_bus_done d s = record {
  unit = record s.unit { bus = d.unit };
  board = record s.board { memory = d.memory };
  journal = s.journal ++ access_points d.accessed;
}

-- the access of the bus that is under way
abbrev pub bus_stepped : Site → Site
bus_stepped s = with_bus_done (bus_done s.board.memory s.unit.bus) s

-- ---- deeds

pub data Deed : Type 0 where
  Turned : (hart : ℕ) → Deed
  CommandStepped : Deed
  BusStepped : Deed

unfoldable pub after_deed : Deed → Site → Site
after_deed (Turned h) s = turned h s
after_deed CommandStepped s = command_stepped s
after_deed BusStepped s = bus_stepped s

-- the site behind some deeds, one after the other
unfoldable pub ran : List Deed → Site → Site
ran [] s = s
ran (d ∷ ds) s = ran ds (after_deed d s)
