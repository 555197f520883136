-- The bytes of one clock of TCK, with or without a question for TDO between its two levels.
-- Source: OpenOCD, remote_bitbang, for the bytes; IEEE 1149.1 for the order, in which TDO is stable between the fall and the rise.
use Rattle.std.specs.Prelude.{ℕ, List, Bool, true, false}
use Rattle.debug_model.specs.Scan.{asked_clock, clock}

-- `ask`, then TMS and TDI
abbrev pub pulsed : Bool → Bool → Bool → List ℕ
pulsed true tms tdi = asked_clock tms tdi
pulsed false tms tdi = clock tms tdi
