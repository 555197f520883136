-- How much a script lets TCK rise at most where the schedule is fair, in operations of the rate: the opening has a share, and each command one, with more for
-- each step, element or Look that it asks for. It is this project's own: a share is above what the calls of a command add up to.
use Rattle.std.specs.Prelude.{ℕ, ◌+◌, ◌*◌, List, sum_by}
use Rattle.debug_model.specs.declared.command.Command.{Command}
use Rattle.debug_model.specs.declared.command.Command.TheVariants.{Idcode, Hart, State, Halt, Resume, Step, Wait, Regs, Reg, SetReg, Read, Write, Dump, Via}
use Rattle.debug_model.specs.declared.command.Command.TheVariants.{Break, Watch, Count, Clear, Slots, Ebreak, End}
use Rattle.probe_access.specs.BlockRises.{load_rises, store_rises}
use Rattle.probe_session.specs.declared.shown.Shown.{Shown}
use Rattle.probe_session.specs.declared.shown.Shown.TheVariants as shown

-- of the opening, of a command, and of each step of several
abbrev pub share : ℕ
share = 640

-- of each element that is read or written, and of each byte that is dumped
abbrev pub element_share : ℕ
element_share = 128

-- of each Look that is waited for
abbrev pub look_share : ℕ
look_share = 2

-- A resume may cost more than a share: its Look (2 operations), `dcsr` (16), the slots (184), a step over those with a hit (369), `dcsr` again (16), and
-- where the hart stands that was not let go (210).
abbrev pub resume_share : ℕ
resume_share = 797

abbrev pub command_rises : Command → ℕ
command_rises Idcode = share
command_rises (Hart hart) = share
command_rises State = share
command_rises Halt = share
command_rises Resume = resume_share
command_rises (Step repeats) = share * repeats
command_rises (Wait repeats) = share + look_share * repeats
command_rises Regs = share
command_rises (Reg register) = share
command_rises (SetReg register value) = share
command_rises (Read size address count) = share + element_share * count
command_rises (Write size address value count) = share + element_share * count
command_rises (Dump address count) = share + element_share * count
command_rises (Via path) = share
command_rises (Break address) = share
command_rises (Watch kind address) = share
command_rises (Count turns) = share
command_rises (Clear slot) = share
command_rises Slots = share
command_rises (Ebreak is_on) = share
command_rises End = share

abbrev pub commands_rises : List Command → ℕ
commands_rises commands = sum_by command_rises commands

abbrev pub script_rises : List Command → ℕ
script_rises commands = share + commands_rises commands

-- ---- a command in two parts, as their calls add up

-- up to what it shows
abbrev pub rises_up_to : Command → ℕ
rises_up_to Idcode = 1
rises_up_to (Hart hart) = 2
rises_up_to State = 212
rises_up_to Halt = 215
rises_up_to Resume = 797
rises_up_to (Step repeats) = 50 * repeats + 547
rises_up_to (Wait repeats) = 2 * repeats + 210
rises_up_to Regs = 2
rises_up_to (Reg register) = 18
rises_up_to (SetReg register value) = 178
rises_up_to (Read size address count) = 2
rises_up_to (Write size address value count) = store_rises count + 2
rises_up_to (Dump address count) = 2
rises_up_to (Via path) = 0
rises_up_to (Break address) = 154
rises_up_to (Watch kind address) = 154
rises_up_to (Count turns) = 154
rises_up_to (Clear slot) = 58
rises_up_to Slots = 2
rises_up_to (Ebreak is_on) = 26
rises_up_to End = 0

-- and for what it shows
abbrev pub rises_of_shown : Shown → ℕ
rises_of_shown (shown.Line line) = 0
rises_of_shown (shown.Registers x) = 512
rises_of_shown (shown.Slots x) = 184
rises_of_shown (shown.Elements r size address count) = load_rises count
rises_of_shown (shown.Bytes r address count) = load_rises count
