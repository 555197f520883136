-- The addresses, commands and words of a register access.
-- RISC-V Debug Specification 1.0, "Debug Module Registers", "Access Register" and "Abstract Control and Status".
use Rattle.std.specs.Prelude.{ℕ, ◌+◌, ◌*◌, ◌^◌, Bool, true, false}
use Rattle.rv_model.specs.Registers.{first_x_number}
use Rattle.rv_model.specs.declared.size.Size.{Size}
use Rattle.rv_model.specs.declared.size.Size.TheVariants.{B1, B2, B4, B8}
use Rattle.debug_model.specs.declared.abstract_command.AbstractCommand.{AbstractCommand}
use Rattle.debug_model.specs.ModuleWords.{command_word}

-- a transfer of 64 bits from a register into the data words, or from them into it
abbrev pub transfer_command : Bool → ℕ → AbstractCommand
transfer_command write number =
    record { cmdtype = 0; aarsize = 3; aarpostincrement = false; postexec = false; transfer = true; write = write; regno = number }

-- the data words go into a register, and then the program buffer is executed
abbrev pub program_command : ℕ → AbstractCommand
program_command number = record { cmdtype = 0; aarsize = 3; aarpostincrement = false; postexec = true; transfer = true; write = true; regno = number }

abbrev pub transfer_word : Bool → ℕ → ℕ
transfer_word write number = command_word (transfer_command write number)

-- a value of 64 bits as two words, the lower one first
abbrev pub joined : ℕ → ℕ → ℕ
joined low high = low + high * 2 ^ 32

-- ---- accesses to memory

-- the registers that an access uses: x8 has the address, and then what was loaded, and x9 what is stored
abbrev pub x8_number : ℕ
x8_number = first_x_number + 8

abbrev pub x9_number : ℕ
x9_number = first_x_number + 9

-- the address goes into x8, and the program is executed
abbrev pub program_word : ℕ
program_word = command_word (program_command x8_number)

abbrev pub ebreak_word : ℕ
ebreak_word = 0x00100073

-- lbu, lhu, lwu and ld x8, 0(x8)
abbrev pub load_word : Size → ℕ
load_word B1 = 0x00044403
load_word B2 = 0x00045403
load_word B4 = 0x00046403
load_word B8 = 0x00043403

-- sb, sh, sw and sd x9, 0(x8)
abbrev pub store_word : Size → ℕ
store_word B1 = 0x00940023
store_word B2 = 0x00941023
store_word B4 = 0x00942023
store_word B8 = 0x00943023

-- ---- accesses to the elements of a block

-- x9 goes into the data words, and then the program buffer is executed
abbrev pub next_command : AbstractCommand
next_command = record { cmdtype = 0; aarsize = 3; aarpostincrement = false; postexec = true; transfer = true; write = false; regno = x9_number }

abbrev pub next_word : ℕ
next_word = command_word next_command

-- lbu, lhu, lwu and ld x9, 0(x8)
abbrev pub element_load_word : Size → ℕ
element_load_word B1 = 0x00044483
element_load_word B2 = 0x00045483
element_load_word B4 = 0x00046483
element_load_word B8 = 0x00043483

-- addi x8, x8, and the size
abbrev pub advance_word : Size → ℕ
advance_word B1 = 0x00140413
advance_word B2 = 0x00240413
advance_word B4 = 0x00440413
advance_word B8 = 0x00840413
