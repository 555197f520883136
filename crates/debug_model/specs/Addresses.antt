-- Where the registers of the debug module stand.
-- RISC-V Debug Specification 1.0, "Debug Module Registers".
use Rattle.std.specs.Prelude.{ℕ}

abbrev pub data0_address : ℕ
data0_address = 0x04

abbrev pub data1_address : ℕ
data1_address = 0x05

abbrev pub dmcontrol_address : ℕ
dmcontrol_address = 0x10

abbrev pub dmstatus_address : ℕ
dmstatus_address = 0x11

abbrev pub abstractcs_address : ℕ
abstractcs_address = 0x16

abbrev pub command_address : ℕ
command_address = 0x17

abbrev pub abstractauto_address : ℕ
abstractauto_address = 0x18

abbrev pub progbuf0_address : ℕ
progbuf0_address = 0x20

abbrev pub progbuf1_address : ℕ
progbuf1_address = 0x21

abbrev pub progbuf2_address : ℕ
progbuf2_address = 0x22

abbrev pub progbuf3_address : ℕ
progbuf3_address = 0x23

abbrev pub sbcs_address : ℕ
sbcs_address = 0x38

abbrev pub sbaddress0_address : ℕ
sbaddress0_address = 0x39

abbrev pub sbaddress1_address : ℕ
sbaddress1_address = 0x3a

abbrev pub sbdata0_address : ℕ
sbdata0_address = 0x3c

abbrev pub sbdata1_address : ℕ
sbdata1_address = 0x3d

abbrev pub haltsum0_address : ℕ
haltsum0_address = 0x40
