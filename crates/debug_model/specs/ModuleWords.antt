-- The registers of the debug module as records of their fields, and the words that they are.
-- RISC-V Debug Specification 1.0, "Debug Module Registers"; fields that are not named here read 0 and are ignored.
use Rattle.std.specs.Prelude.{ℕ, ◌+◌, if◌then◌else◌}
use Rattle.rv_model.specs.Fields.{field, bit, bit_value}
use Rattle.debug_model.specs.declared.abstract_command.AbstractCommand.{AbstractCommand}
use Rattle.debug_model.specs.declared.abstractauto.Abstractauto.{Abstractauto}
use Rattle.debug_model.specs.declared.abstractcs.Abstractcs.{Abstractcs}
use Rattle.debug_model.specs.declared.cmderr.Cmderr.{Cmderr}
use Rattle.debug_model.specs.declared.cmderr.Cmderr.TheVariants as cmderr
use Rattle.debug_model.specs.declared.dmcontrol.Dmcontrol.{Dmcontrol}
use Rattle.debug_model.specs.declared.dmstatus.Dmstatus.{Dmstatus}
use Rattle.debug_model.specs.declared.sbcs.Sbcs.{Sbcs}
use Rattle.debug_model.specs.declared.sberror.Sberror.{Sberror}
use Rattle.debug_model.specs.declared.sberror.Sberror.TheVariants as sberror
use Rattle.debug_model.specs.WordFields.{placed}

-- ---- dmcontrol ("Debug Module Control")

abbrev pub dmcontrol_word : Dmcontrol → ℕ
dmcontrol_word r =
    bit_value 31 r.haltreq + bit_value 30 r.resumereq + bit_value 28 r.ackhavereset + placed 16 10 r.hartsello + bit_value 0 r.dmactive

abbrev pub dmcontrol_of : ℕ → Dmcontrol
dmcontrol_of w = record { haltreq = bit 31 w; resumereq = bit 30 w; ackhavereset = bit 28 w; hartsello = field 16 10 w; dmactive = bit 0 w }

-- ---- dmstatus ("Debug Module Status"): of one selected hart each pair of all and any is equal

abbrev pub dmstatus_word : Dmstatus → ℕ
dmstatus_word r =
    (bit_value 19 r.havereset + bit_value 18 r.havereset) + (bit_value 17 r.resumeack + bit_value 16 r.resumeack)
    + (bit_value 15 r.nonexistent + bit_value 14 r.nonexistent) + (bit_value 11 r.running + bit_value 10 r.running)
    + (bit_value 9 r.halted + bit_value 8 r.halted) + bit_value 7 r.authenticated + placed 0 4 r.version

-- read by the fields of all selected harts
abbrev pub dmstatus_of : ℕ → Dmstatus
dmstatus_of w = record {
  havereset = bit 19 w;
  resumeack = bit 17 w;
  nonexistent = bit 15 w;
  running = bit 11 w;
  halted = bit 9 w;
  authenticated = bit 7 w;
  version = field 0 4 w;
}

-- ---- cmderr and sberror as numbers, and what clearing bits of them leaves

abbrev pub cmderr_number : Cmderr → ℕ
cmderr_number cmderr.Fine = 0
cmderr_number cmderr.Busy = 1
cmderr_number cmderr.NotSupported = 2
cmderr_number cmderr.Exception = 3
cmderr_number cmderr.HaltResume = 4

-- by the bits 0, 1 and 2 that are written 1
abbrev pub cmderr_cleared : ℕ → Cmderr → Cmderr
cmderr_cleared w cmderr.Fine = cmderr.Fine
cmderr_cleared w cmderr.Busy = if bit 0 w then cmderr.Fine else cmderr.Busy
cmderr_cleared w cmderr.NotSupported = if bit 1 w then cmderr.Fine else cmderr.NotSupported
cmderr_cleared w cmderr.Exception =
    if bit 1 w then (if bit 0 w then cmderr.Fine else cmderr.Busy)
    else (if bit 0 w then cmderr.NotSupported else cmderr.Exception)
cmderr_cleared w cmderr.HaltResume = if bit 2 w then cmderr.Fine else cmderr.HaltResume

abbrev pub sberror_number : Sberror → ℕ
sberror_number sberror.Fine = 0
sberror_number sberror.Timeout = 1
sberror_number sberror.Address = 2
sberror_number sberror.Alignment = 3
sberror_number sberror.Size = 4

abbrev pub sberror_cleared : ℕ → Sberror → Sberror
sberror_cleared w sberror.Fine = sberror.Fine
sberror_cleared w sberror.Timeout = if bit 0 w then sberror.Fine else sberror.Timeout
sberror_cleared w sberror.Address = if bit 1 w then sberror.Fine else sberror.Address
sberror_cleared w sberror.Alignment =
    if bit 1 w then (if bit 0 w then sberror.Fine else sberror.Timeout)
    else (if bit 0 w then sberror.Address else sberror.Alignment)
sberror_cleared w sberror.Size = if bit 2 w then sberror.Fine else sberror.Size

-- ---- abstractcs ("Abstract Control and Status")

abbrev pub abstractcs_word : Abstractcs → ℕ
abstractcs_word r = placed 24 5 r.progbufsize + bit_value 12 r.busy + placed 8 3 r.cmderr + placed 0 4 r.datacount

abbrev pub abstractcs_of : ℕ → Abstractcs
abstractcs_of w = record { progbufsize = field 24 5 w; busy = bit 12 w; cmderr = field 8 3 w; datacount = field 0 4 w }

-- ---- command ("Abstract Command", "Access Register")

abbrev pub command_word : AbstractCommand → ℕ
command_word r =
    placed 24 8 r.cmdtype + placed 20 3 r.aarsize + bit_value 19 r.aarpostincrement + bit_value 18 r.postexec
    + bit_value 17 r.transfer + bit_value 16 r.write + placed 0 16 r.regno

abbrev pub command_of : ℕ → AbstractCommand
command_of w = record {
  cmdtype = field 24 8 w;
  aarsize = field 20 3 w;
  aarpostincrement = bit 19 w;
  postexec = bit 18 w;
  transfer = bit 17 w;
  write = bit 16 w;
  regno = field 0 16 w;
}

-- ---- abstractauto ("Abstract Command Autoexec"): two data words and four words of the program buffer

abbrev pub abstractauto_word : Abstractauto → ℕ
abstractauto_word r =
    bit_value 0 r.data0 + bit_value 1 r.data1 + bit_value 16 r.progbuf0 + bit_value 17 r.progbuf1 + bit_value 18 r.progbuf2 + bit_value 19 r.progbuf3

abbrev pub abstractauto_of : ℕ → Abstractauto
abstractauto_of w = record {
  data0 = bit 0 w;
  data1 = bit 1 w;
  progbuf0 = bit 16 w;
  progbuf1 = bit 17 w;
  progbuf2 = bit 18 w;
  progbuf3 = bit 19 w;
}

-- ---- sbcs ("System Bus Access Control and Status")

abbrev pub sbcs_word : Sbcs → ℕ
sbcs_word r =
    placed 29 3 r.sbversion + bit_value 22 r.sbbusyerror + bit_value 21 r.sbbusy + bit_value 20 r.sbreadonaddr + placed 17 3 r.sbaccess
    + bit_value 16 r.sbautoincrement + bit_value 15 r.sbreadondata + placed 12 3 r.sberror + placed 5 7 r.sbasize + placed 0 5 r.sizes

abbrev pub sbcs_of : ℕ → Sbcs
sbcs_of w = record {
  sbversion = field 29 3 w;
  sbbusyerror = bit 22 w;
  sbbusy = bit 21 w;
  sbreadonaddr = bit 20 w;
  sbaccess = field 17 3 w;
  sbautoincrement = bit 16 w;
  sbreadondata = bit 15 w;
  sberror = field 12 3 w;
  sbasize = field 5 7 w;
  sizes = field 0 5 w;
}
