-- What one call of a round changes: all of a chip but its clock and its schedule, with the port of the TAP beside what the events of a round change.
-- It is the chip of debug_model in other parts, since one object of this crate holds the TAP and all that stands behind it.
use Rattle.std.specs.Prelude.{Bool}
use Rattle.debug_model.specs.Chip.{Chip, Works, works_risen}
use Rattle.debug_model.specs.Module.{Site}
use Rattle.debug_model.specs.Port.{Port, dtm_fallen, port_fallen, port_held, port_risen}
use Rattle.debug_model.specs.Schedule.{RoundPlan}

pub record Parts : Type 0 where
  pub port : Port
  pub works : Works

abbrev pub with_works : Works → Parts → Parts
with_works w p = record p { works = w }

abbrev pub with_site : Site → Parts → Parts
with_site s p = record p { works = record p.works { site = s } }

-- the TAP's part of a rise and of a fall, and TRST
abbrev pub parts_risen : Bool → Bool → Parts → Parts
parts_risen tms tdi p = record { port = port_risen tms tdi p.works.dtm p.port; works = works_risen p.port p.works }

abbrev pub parts_fallen : Parts → Parts
parts_fallen p = record { port = port_fallen p.port; works = record p.works { dtm = dtm_fallen p.port p.works.dtm } }

abbrev pub parts_held : Bool → Parts → Parts
parts_held on p = record p { port = port_held on p.port }

-- the chip of such parts
abbrev pub chip_of : Bool → Parts → RoundPlan → Chip
chip_of tck p plan = record { tck = tck; port = p.port; inside = record { works = p.works; plan = plan } }
