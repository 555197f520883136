-- Abstract commands: the words, the kept command and its start, its micro steps, errors, late writes, and autoexec.
-- RISC-V Debug Specification 1.0, "Abstract Commands", "Program Buffer", "Abstract Control and Status", "Abstract Command Autoexec". The moment at
-- which a late write counts, and that 32 bit writes keep the upper half of a register, are this project's own choices (docs/DEBUG_MODULE.md).
use Rattle.std.specs.Prelude.{ℕ, ◌+◌, ◌*◌, ◌/◌, ◌%◌, ◌^◌, ◌==◌, Bool, true, false, not, ◌&&◌, ◌||◌, if◌then◌else◌, List, [], ◌∷◌, ◌++◌, Option, Some, None}
use Rattle.std.specs.Prelude.{is_some}
use Rattle.rv_model.specs.declared.cause.Cause.{Cause}
use Rattle.rv_model.specs.declared.debug_did.DebugDid.{DebugDid}
use Rattle.rv_model.specs.declared.debug_did.DebugDid.TheVariants as ended
use Rattle.rv_model.specs.Board.{Hart}
use Rattle.rv_model.specs.DebugRegisters.{debug_seen, debug_value, debug_refuses, debug_written}
use Rattle.rv_model.specs.Memory.{Memory}
use Rattle.rv_model.specs.ProgramBuffer.{Debugged, ran_word}
use Rattle.rv_model.specs.Registers.{mip_number}
use Rattle.debug_model.specs.declared.abstract_command.AbstractCommand.{AbstractCommand}
use Rattle.debug_model.specs.declared.abstractauto.Abstractauto.{Abstractauto}
use Rattle.debug_model.specs.declared.abstractcs.Abstractcs.{Abstractcs}
use Rattle.debug_model.specs.declared.cmderr.Cmderr.{Cmderr}
use Rattle.debug_model.specs.declared.cmderr.Cmderr.TheVariants.{Fine, Busy, NotSupported, Exception, HaltResume}
use Rattle.debug_model.specs.declared.command_word.CommandWord.{CommandWord}
use Rattle.debug_model.specs.declared.command_word.CommandWord.TheVariants.{Data0, Data1, Progbuf0, Progbuf1, Progbuf2, Progbuf3}
use Rattle.debug_model.specs.declared.micro.Micro.{Micro}
use Rattle.debug_model.specs.declared.micro.Micro.TheVariants.{Transfer, Run}
use Rattle.debug_model.specs.ModuleWords.{abstractauto_of, abstractcs_of, cmderr_cleared, cmderr_number, command_of}

pub record CommandUnit : Type 0 where
  pub data0 : ℕ  -- each word is below 2^32
  pub data1 : ℕ
  pub progbuf0 : ℕ
  pub progbuf1 : ℕ
  pub progbuf2 : ℕ
  pub progbuf3 : ℕ
  pub auto : Abstractauto
  pub command : AbstractCommand  -- the kept command
  pub error : Cmderr
  pub steps : List Micro  -- what is still to be done of a command that is under way
  pub late : Bool  -- a late write came while it was under way

abbrev pub no_auto : Abstractauto
no_auto = record { data0 = false; data1 = false; progbuf0 = false; progbuf1 = false; progbuf2 = false; progbuf3 = false }

abbrev pub no_command : AbstractCommand
no_command = record { cmdtype = 0; aarsize = 0; aarpostincrement = false; postexec = false; transfer = false; write = false; regno = 0 }

abbrev pub reset_commands : CommandUnit
reset_commands = record {
  data0 = 0;
  data1 = 0;
  progbuf0 = 0;
  progbuf1 = 0;
  progbuf2 = 0;
  progbuf3 = 0;
  auto = no_auto;
  command = no_command;
  error = Fine;
  steps = [];
  late = false;
}

abbrev pub is_under_way : List Micro → Bool
is_under_way [] = false
is_under_way (m ∷ ms) = true

abbrev pub busy : CommandUnit → Bool
busy u = is_under_way u.steps

-- ---- the words

abbrev pub word_in : CommandWord → CommandUnit → ℕ
word_in Data0 u = u.data0
word_in Data1 u = u.data1
word_in Progbuf0 u = u.progbuf0
word_in Progbuf1 u = u.progbuf1
word_in Progbuf2 u = u.progbuf2
word_in Progbuf3 u = u.progbuf3

abbrev pub with_word : CommandWord → ℕ → CommandUnit → CommandUnit
with_word Data0 v u = record u { data0 = v }
with_word Data1 v u = record u { data1 = v }
with_word Progbuf0 v u = record u { progbuf0 = v }
with_word Progbuf1 v u = record u { progbuf1 = v }
with_word Progbuf2 v u = record u { progbuf2 = v }
with_word Progbuf3 v u = record u { progbuf3 = v }

abbrev pub is_auto : CommandWord → Abstractauto → Bool
is_auto Data0 a = a.data0
is_auto Data1 a = a.data1
is_auto Progbuf0 a = a.progbuf0
is_auto Progbuf1 a = a.progbuf1
is_auto Progbuf2 a = a.progbuf2
is_auto Progbuf3 a = a.progbuf3

-- ---- errors

-- an error that is set stays
abbrev pub noted_error : Cmderr → Cmderr → Cmderr
noted_error e Fine = e
noted_error e Busy = Busy
noted_error e NotSupported = NotSupported
noted_error e Exception = Exception
noted_error e HaltResume = HaltResume

-- the words were accessed while a command was under way
abbrev pub accessed_busy : CommandUnit → CommandUnit
accessed_busy u = record u { error = noted_error Busy u.error }

-- abstractcs, command or abstractauto was written while a command was under way
abbrev pub written_late : CommandUnit → CommandUnit
written_late u = record u { late = true }

-- ---- the start of the kept command

-- aarsize for 32 and for 64 bits
abbrev pub size_word : ℕ
size_word = 2

abbrev pub size_double : ℕ
size_double = 3

abbrev pub is_supported : AbstractCommand → Bool
is_supported k = k.cmdtype == 0 && (not k.aarpostincrement && (not k.transfer || (k.aarsize == size_word || k.aarsize == size_double)))

abbrev pub is_held : Option Cause → Bool → Bool
is_held (Some why) false = true
is_held (Some why) true = false
is_held None request = false

-- a hart that stays halted: no resume is asked of it
abbrev pub serves : Option Hart → Bool
serves (Some hart) = is_held hart.debug.halted hart.debug.resume_request
serves None = false

abbrev pub has_register : Option Hart → ℕ → Bool
has_register (Some hart) number = is_some (debug_value hart number)
has_register None number = false

-- the register of a transfer is there, and writable where it is to be written
abbrev pub can_transfer : Option Hart → AbstractCommand → Bool
can_transfer hart k = not k.transfer || (has_register hart k.regno && not (k.write && debug_refuses k.regno))

-- why the command is refused, with the first reason
unfoldable pub refusal : Option Hart → AbstractCommand → Cmderr
refusal hart k =
    if not (is_supported k) then NotSupported
    else (if not (serves hart) then HaltResume
    else (if not (can_transfer hart k) then Exception else Fine))

abbrev pub transfer_steps : Bool → AbstractCommand → List Micro
transfer_steps true k = Transfer k ∷ []
transfer_steps false k = []

abbrev pub program_steps : Bool → CommandUnit → List Micro
program_steps true u = Run u.progbuf0 ∷ Run u.progbuf1 ∷ Run u.progbuf2 ∷ Run u.progbuf3 ∷ []
program_steps false u = []

-- the micro steps of the kept command
abbrev pub steps_of : CommandUnit → List Micro
steps_of u = transfer_steps u.command.transfer u.command ++ program_steps u.command.postexec u

abbrev pub started_by : Cmderr → CommandUnit → CommandUnit
started_by Fine u = record u { steps = steps_of u }
started_by Busy u = record u { error = Busy }
started_by NotSupported u = record u { error = NotSupported }
started_by Exception u = record u { error = Exception }
started_by HaltResume u = record u { error = HaltResume }

-- with an error set nothing starts; by the error that is set
abbrev pub start_unless : Cmderr → Option Hart → CommandUnit → CommandUnit
start_unless Fine hart u = started_by (refusal hart u.command) u
start_unless Busy hart u = u
start_unless NotSupported hart u = u
start_unless Exception hart u = u
start_unless HaltResume hart u = u

-- the kept command starts, of a unit that has none under way, for the selected hart
abbrev pub start : Option Hart → CommandUnit → CommandUnit
start hart u = start_unless u.error hart u

-- ---- reads and writes of the registers

-- behind an access to a word
abbrev pub auto_started : CommandWord → Option Hart → CommandUnit → CommandUnit
auto_started w hart u = if is_auto w u.auto then start hart u else u

abbrev pub word_read : CommandWord → Option Hart → CommandUnit → CommandUnit
word_read w hart u = if busy u then accessed_busy u else auto_started w hart u

abbrev pub word_written : CommandWord → ℕ → Option Hart → CommandUnit → CommandUnit
word_written w v hart u = if busy u then accessed_busy u else auto_started w hart (with_word w v u)

abbrev pub progbuf_words : ℕ
progbuf_words = 4

abbrev pub data_words : ℕ
data_words = 2

abbrev pub abstractcs_shown : CommandUnit → Abstractcs
abstractcs_shown u = record { progbufsize = progbuf_words; busy = busy u; cmderr = cmderr_number u.error; datacount = data_words }

abbrev pub abstractcs_written : ℕ → CommandUnit → CommandUnit
abstractcs_written v u = if busy u then written_late u else record u { error = cmderr_cleared (abstractcs_of v).cmderr u.error }

-- by the error that is set: with one the write is ignored
abbrev pub command_kept : Cmderr → AbstractCommand → Option Hart → CommandUnit → CommandUnit
command_kept Fine k hart u = start hart (record u { command = k })
command_kept Busy k hart u = u
command_kept NotSupported k hart u = u
command_kept Exception k hart u = u
command_kept HaltResume k hart u = u

abbrev pub command_written : ℕ → Option Hart → CommandUnit → CommandUnit
command_written v hart u = if busy u then written_late u else command_kept u.error (command_of v) hart u

abbrev pub abstractauto_written : ℕ → CommandUnit → CommandUnit
abstractauto_written v u = if busy u then written_late u else record u { auto = abstractauto_of v }

-- ---- micro steps

-- nothing is left to be done: a late write sets its error where none is set
abbrev pub settled : Bool → CommandUnit → CommandUnit
settled true u = record u { steps = []; late = false; error = noted_error Busy u.error }
settled false u = record u { steps = [] }

abbrev pub completed : CommandUnit → CommandUnit
completed u = settled u.late u

-- an exception ends the command, whatever error an access to the words has set meanwhile
abbrev pub failed : CommandUnit → CommandUnit
failed u = completed (record u { error = Exception })

abbrev pub left_with : List Micro → CommandUnit → CommandUnit
left_with [] u = completed u
left_with (m ∷ ms) u = record u { steps = m ∷ ms }

-- what a step does to the unit, the hart and memory
pub record Stepped : Type 0 where
  pub unit : CommandUnit
  pub hart : Hart
  pub memory : Memory
  pub accessed : Bool  -- it made an access to memory, or tried to

abbrev pub low_half : ℕ → ℕ
low_half v = v % 2 ^ 32

abbrev pub high_half : ℕ → ℕ
high_half v = v / 2 ^ 32

abbrev pub joined_halves : ℕ → ℕ → ℕ
joined_halves low high = low + high * 2 ^ 32

-- the words behind a transfer from a register
abbrev pub taken_from : ℕ → AbstractCommand → CommandUnit → CommandUnit
taken_from v k u = if k.aarsize == size_double then record u { data0 = low_half v; data1 = high_half v } else record u { data0 = low_half v }

-- the value of a transfer to a register that holds `old`
abbrev pub given_to : ℕ → AbstractCommand → CommandUnit → ℕ
given_to old k u = if k.aarsize == size_double then joined_halves u.data0 u.data1 else joined_halves u.data0 (high_half old)

-- By what the register is seen to hold; a command with an absent one doesn't start. mip is read from memory, so a read of it is an access, in either size.
abbrev pub transferred : Option ℕ → AbstractCommand → List Micro → Hart → Memory → CommandUnit → Stepped
transferred (Some v) k rest hart m u =
    if k.write
    then record { unit = left_with rest u; hart = debug_written hart k.regno (given_to v k u); memory = m; accessed = false }
    else record { unit = left_with rest (taken_from v k u); hart = hart; memory = m; accessed = k.regno == mip_number }
transferred None k rest hart m u = record { unit = left_with rest u; hart = hart; memory = m; accessed = false }

-- behind a word of the program buffer; the last one without ebreak ends the command as an exception
abbrev pub went_on : List Micro → CommandUnit → CommandUnit
went_on [] u = failed u
went_on (m ∷ ms) u = record u { steps = m ∷ ms }

abbrev pub unit_behind : DebugDid → List Micro → CommandUnit → CommandUnit
unit_behind ended.Next rest u = went_on rest u
unit_behind ended.Ebreak rest u = completed u
unit_behind ended.Exception rest u = failed u

abbrev pub executed_word : Debugged → List Micro → CommandUnit → Stepped
executed_word d rest u = record { unit = unit_behind d.did rest u; hart = d.hart; memory = d.memory; accessed = d.accessed }

abbrev pub step_by : List Micro → Hart → Memory → CommandUnit → Stepped
step_by [] hart m u = record { unit = u; hart = hart; memory = m; accessed = false }
step_by (Transfer k ∷ rest) hart m u = transferred (debug_seen hart m k.regno) k rest hart m u
step_by (Run w ∷ rest) hart m u = executed_word (ran_word w hart m) rest u

-- one micro step of a unit on its hart; nothing where no command is under way
unfoldable pub micro_step : Hart → Memory → CommandUnit → Stepped
micro_step hart m u = step_by u.steps hart m u
