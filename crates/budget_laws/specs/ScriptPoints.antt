-- How many points a script takes at most, turns aside: the opening a Look, and each command its Looks, requests and accesses.
-- It is this project's own (docs/SCRIPT.md); the numbers are those of the plans in `abstract_debugger`.
use Rattle.std.specs.Prelude.{ℕ, ◌+◌, ◌*◌, ◌≤◌, ◌≢◌, List, length, sum_by}
use Rattle.rv_model.specs.Board.{Board}
use Rattle.debug_model.specs.declared.command.Command.{Command}
use Rattle.debug_model.specs.declared.command.Command.TheVariants.{Idcode, Hart, State, Halt, Resume, Step, Wait, Regs, Reg, SetReg, Read, Write, Dump, Via}
use Rattle.debug_model.specs.declared.command.Command.TheVariants.{Break, Watch, Count, Clear, Slots, Ebreak, End}
use Rattle.debug_model.specs.declared.point.Point.{Point}
use Rattle.debug_model.specs.Offered.{turns_of}
use Rattle.abstract_debugger.specs.Debugger.{most_looks}
use Rattle.abstract_debugger.specs.Transcript.{transcript}
use Rattle.abstract_debugger.specs.Transcript.End.{Astray}

-- a request, and all the Looks that are taken for it
abbrev pub request_points : ℕ
request_points = 1 + most_looks

abbrev pub command_points : Command → ℕ
command_points Idcode = 0
command_points (Hart hart) = 1
command_points State = 1
command_points Halt = request_points + 2
command_points Resume = 2 * request_points + 1
command_points (Step repeats) = request_points * repeats + 1
command_points (Wait repeats) = repeats
command_points Regs = 1
command_points (Reg register) = 2
command_points (SetReg register value) = 2
command_points (Read size address count) = count + 1
command_points (Write size address value count) = count + 1
command_points (Dump address count) = count + 1
command_points (Via path) = 0
command_points (Break address) = 1
command_points (Watch kind address) = 1
command_points (Count turns) = 1
command_points (Clear slot) = 1
command_points Slots = 1
command_points (Ebreak is_on) = 1
command_points End = 0

abbrev pub script_points : List Command → ℕ
script_points script = sum_by command_points script + 1

-- in a journal that leads no plan astray, also one that was cut, there are so many points beside the turns
abbrev pub ScriptsTakeFewPoints : Type 0
ScriptsTakeFewPoints = (board : Board) (script : List Command) (journal : List Point)
    → (transcript board script journal).end ≢ Astray → length journal ≤ length (turns_of journal) + script_points script
