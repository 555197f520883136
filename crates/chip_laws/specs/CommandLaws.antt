-- Laws of abstract commands in the standard's words: a command under way is what stood there when it started, autoexec starts what is kept,
-- and errors are cleared by bits.
-- RISC-V Debug Specification 1.0, "Abstract Commands", "Abstract Control and Status" and "Abstract Command Autoexec".
use Rattle.std.specs.Prelude.{◌≡◌, ℕ, ◌<◌, true, false, not, ◌&&◌, Option}
use Rattle.rv_model.specs.Board.{Hart}
use Rattle.rv_model.specs.Fields.{bit}
use Rattle.rv_model.specs.Memory.{Memory}
use Rattle.debug_model.specs.declared.abstract_command.AbstractCommand.{AbstractCommand}
use Rattle.debug_model.specs.declared.cmderr.Cmderr.{Cmderr}
use Rattle.debug_model.specs.declared.cmderr.Cmderr.TheVariants.{Fine, Busy}
use Rattle.debug_model.specs.declared.command_word.CommandWord.{CommandWord}
use Rattle.debug_model.specs.declared.sberror.Sberror.{Sberror}
use Rattle.debug_model.specs.Commands.{CommandUnit, Stepped, busy, is_auto, micro_step, noted_error, refusal, steps_of, with_word}
use Rattle.debug_model.specs.Commands.{abstractauto_written, abstractcs_written, command_written, word_read, word_written}
use Rattle.debug_model.specs.ModuleWords.{cmderr_cleared, cmderr_number, sberror_cleared, sberror_number}

-- ---- a command under way is a snapshot

-- a program buffer and a kept command
pub record Stored : Type 0 where
  pub progbuf0 : ℕ
  pub progbuf1 : ℕ
  pub progbuf2 : ℕ
  pub progbuf3 : ℕ
  pub command : AbstractCommand

-- a unit with these in the place of its own
abbrev pub rewritten : Stored → CommandUnit → CommandUnit
rewritten k u = record u { progbuf0 = k.progbuf0; progbuf1 = k.progbuf1; progbuf2 = k.progbuf2; progbuf3 = k.progbuf3; command = k.command }

-- one step does to the hart, to memory and to the rest of the unit what the other does
pub record SameStep (k : Stored) (one other : Stepped) : Type 0 where
  pub hart : other.hart ≡ one.hart
  pub memory : other.memory ≡ one.memory
  pub accessed : other.accessed ≡ one.accessed
  pub unit : other.unit ≡ rewritten k one.unit

-- a micro step does the same, whatever stands in the program buffer and in the kept command by then
abbrev pub CommandsAreSnapshots : Type 0
CommandsAreSnapshots = (hart : Hart) (m : Memory) (u : CommandUnit) (k : Stored) → SameStep k (micro_step hart m u) (micro_step hart m (rewritten k u))

-- ---- what is written while a command is under way is lost, and noted

pub record LostWhileBusy (u : CommandUnit) : Type 0 where
  pub read : (w : CommandWord) (hart : Option Hart) → word_read w hart u ≡ record u { error = noted_error Busy u.error }
  pub written : (w : CommandWord) (v : ℕ) (hart : Option Hart) → word_written w v hart u ≡ record u { error = noted_error Busy u.error }
  pub command : (v : ℕ) (hart : Option Hart) → command_written v hart u ≡ record u { late = true }
  pub abstractcs : (v : ℕ) → abstractcs_written v u ≡ record u { late = true }
  pub abstractauto : (v : ℕ) → abstractauto_written v u ≡ record u { late = true }

abbrev pub WritesWhileBusyAreLost : Type 0
WritesWhileBusyAreLost = (u : CommandUnit) → busy u ≡ true → LostWhileBusy u

-- ---- autoexec

-- an access to a word whose bit of abstractauto is set starts the kept command, behind the write; one whose bit is not set starts nothing
pub record AutoexecStarts (w : CommandWord) (u : CommandUnit) : Type 0 where
  pub read : (hart : Option Hart) → is_auto w u.auto ≡ true → u.error ≡ Fine → refusal hart u.command ≡ Fine
      → word_read w hart u ≡ record u { steps = steps_of u }
  pub read_alone : (hart : Option Hart) → is_auto w u.auto ≡ false → word_read w hart u ≡ u
  pub written : (v : ℕ) (hart : Option Hart) → is_auto w u.auto ≡ true → u.error ≡ Fine → refusal hart u.command ≡ Fine
      → (word_written w v hart u).steps ≡ steps_of (with_word w v u)
  pub written_alone : (v : ℕ) (hart : Option Hart) → is_auto w u.auto ≡ false → word_written w v hart u ≡ with_word w v u

abbrev pub AutoexecStartsWhatIsKept : Type 0
AutoexecStartsWhatIsKept = (w : CommandWord) (u : CommandUnit) → busy u ≡ false → AutoexecStarts w u

-- ---- errors are cleared by bits

-- of a number of three bits those are cleared that are written 1
pub record ClearsBits (written before after : ℕ) : Type 0 where
  pub lowest : bit 0 after ≡ bit 0 before && not (bit 0 written)
  pub middle : bit 1 after ≡ bit 1 before && not (bit 1 written)
  pub highest : bit 2 after ≡ bit 2 before && not (bit 2 written)
  pub small : after < 8

abbrev pub CmderrClearsByBits : Type 0
CmderrClearsByBits = (w : ℕ) (e : Cmderr) → ClearsBits w (cmderr_number e) (cmderr_number (cmderr_cleared w e))

abbrev pub SberrorClearsByBits : Type 0
SberrorClearsByBits = (w : ℕ) (e : Sberror) → ClearsBits w (sberror_number e) (sberror_number (sberror_cleared w e))
