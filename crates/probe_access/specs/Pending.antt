-- A register that is read, by its number: mip is memory's to tell, so that its value belongs to the moment of one access, and a read of it is that access.
-- Each other register is the halted hart's own, which nothing else changes.
-- RISC-V Privileged Specification, "Machine Interrupt Pending and Enable Registers": mip's bit of a software interrupt is read from memory-mapped words, which
-- other harts write.
use Rattle.std.specs.Prelude.{◌≡◌, ◌==◌, ℕ, List, Bool, true, false, Option, Some}
use Rattle.rv_model.specs.Board.{Hart}
use Rattle.rv_model.specs.DebugRegisters.{debug_seen}
use Rattle.rv_model.specs.Registers.{mip_number}
use Rattle.debug_model.specs.Chip.{Chip}
use Rattle.debug_model.specs.Module.{Site}
use Rattle.debug_model.specs.Told.{Far, site_of}
use Rattle.abstract_debugger.specs.Turns.{after_turns}
use Rattle.probe_access.specs.declared.fault.AccessFault.{AccessFault}
use Rattle.probe_run.specs.Acts.{Tells}
use Rattle.probe_access.specs.Accesses.{OneAccess, unchanged}
use Rattle.probe_access.specs.Cuts.{AccessLeftOff, LeftAside, LoadLeaves, Unchanged}
use Rattle.probe_access.specs.RegisterRuns.{ReadApart, ReadApartFailed, ReadFailed, RegisterRead}
use Rattle.probe_access.specs.Registers.{IsHartAt, RegisterReadAt, site_before}

-- is it mip's number?
abbrev pub is_mip : ℕ → Bool
is_mip number = number == mip_number

-- what mip showed of the memory at one access, which is the only one
pub record PendingReadAt (h value : ℕ) (c : Chip) (new : Option Far) : Type 0 where
  pub far : Far
  pub is : new ≡ Some far
  pub hart : Hart
  pub here : IsHartAt h (site_before c).board hart
  pub before : List ℕ
  pub behind : List ℕ
  pub value_is : debug_seen hart (after_turns before (site_before c).board).memory mip_number ≡ Some value
  pub access : OneAccess unchanged before behind (site_before c) (site_of far)

-- at a told chip
abbrev pub GotWhere : Bool → ℕ → ℕ → ℕ → Chip → Option Far → Type 0
GotWhere true h number value c new = PendingReadAt h value c new
GotWhere false h number value c new = RegisterReadAt h number value c new

abbrev pub RegisterGotAt : ℕ → ℕ → ℕ → Chip → Option Far → Type 0
RegisterGotAt h number value c new = GotWhere (is_mip number) h number value c new

-- the calls of the link: one transfer of mip, behind whose end its words are read; another register may be asked for a second time
abbrev pub GotBy : Bool → ℕ → ℕ → Tells → Tells → Type 0
GotBy true number value old new = ReadApart number value old new
GotBy false number value old new = RegisterRead number value old new

abbrev pub RegisterGot : ℕ → ℕ → Tells → Tells → Type 0
RegisterGot number value old new = GotBy (is_mip number) number value old new

abbrev pub GetFailedBy : Bool → ℕ → ℕ → ℕ → Tells → Tells → AccessFault → Type 0
GetFailedBy true number old_count new_count old new e = ReadApartFailed number old_count new_count old new e
GetFailedBy false number old_count new_count old new e = ReadFailed number old_count new_count old new e

abbrev pub GetFailed : ℕ → ℕ → ℕ → Tells → Tells → AccessFault → Type 0
GetFailed number old_count new_count old new e = GetFailedBy (is_mip number) number old_count new_count old new e

-- where such a call broke off: at most one access of mip was made, and none of another register
abbrev pub CutWhere : Bool → ℕ → Site → Site → Type 0
CutWhere true h = AccessLeftOff Unchanged LoadLeaves h
CutWhere false h = LeftAside Unchanged h

abbrev pub RegisterCutAt : ℕ → ℕ → Site → Site → Type 0
RegisterCutAt number h = CutWhere (is_mip number) h
