-- Worked examples of sessions with software breakpoints, along journals that are written by hand.
-- The results are worked by hand.
use Rattle.std.specs.Prelude.{◌≡◌, ℕ, List, [], ◌∷◌, replicate, None}
use Rattle.rv_model.specs.declared.size.Size.TheVariants.{B4}
use Rattle.rv_model.specs.Board.{Board}
use Rattle.rv_model.specs.Memory.{Memory, hart_places}
use Rattle.debug_model.specs.declared.command.Command.TheVariants as command
use Rattle.debug_model.specs.declared.point.Point.{Point}
use Rattle.debug_model.specs.declared.point.Point.TheVariants.{Turn, Look, ResumeReq, Access}
use Rattle.abstract_debugger.specs.ExampleCases.{Holds, Program, counter, halted_board, running_board, x5, x5_is}
use Rattle.abstract_debugger.specs.Lines.{Line}
use Rattle.abstract_debugger.specs.Transcript.{End, Outcome}
use Rattle.soft_laws.specs.Shown.{AreBytes}
use Rattle.debug_model.specs.declared.soft_command.SoftCommand.{SoftCommand}
use Rattle.soft_laws.specs.SoftDebugger.{soft_transcript}
use Rattle.debug_model.specs.declared.soft_command.SoftCommand.TheVariants.{Plain, Soft, Unsoft}

-- memory that holds the program, and no hart has a reservation
pub record IsPlain (words : Program) (m : Memory) : Type 0 where
  pub holds : Holds words m
  pub bytes : AreBytes m.bytes
  pub free : m.reserved ≡ replicate hart_places None

pub record SoftCase : Type 0 where
  pub board : Memory → Board
  pub script : List SoftCommand
  pub journal : List Point
  pub lines : List Line
  pub end : End

pub record SaysSo (o : Outcome) (lines : List Line) (end : End) (m : Memory) : Type 0 where
  pub lines_are : o.world.lines ≡ lines
  pub end_is : o.end ≡ end
  pub memory_is : o.world.board.memory ≡ m

-- over x5 = 5, and then 1 more for ever; memory that a user sees stays as it was
abbrev pub SoftHappens : SoftCase → Type 0
SoftHappens c = (m : Memory) → IsPlain counter m → SaysSo (soft_transcript (c.board m) c.script c.journal) c.lines c.end m

-- where the jump back stands
abbrev pub jump_at : ℕ
jump_at = 0x80000008

abbrev pub by_ebreak : Line
by_ebreak = Line.Halted jump_at 1 []

-- a breakpoint at the jump stops the hart at each turn of the loop; the jump is read as it was, and stepped over when the hart goes on
abbrev pub break_at_jump : SoftCase
break_at_jump = record {
  board = halted_board;
  script = Soft jump_at ∷ Plain command.Resume ∷ Plain (command.Wait 64) ∷ Plain (command.Reg x5) ∷ Plain (command.Read B4 jump_at 1) ∷
      Plain command.Resume ∷ Plain (command.Wait 64) ∷ Plain (command.Reg x5) ∷ [];
  journal = Look 0 ∷ Look 0 ∷ Look 1 ∷ Access ∷ Access ∷ Look 0 ∷ ResumeReq 0 ∷ Turn 0 ∷ Look 0 ∷ Turn 0 ∷ Turn 0 ∷ Turn 0 ∷ Look 0 ∷ Look 0 ∷
      Look 0 ∷ Access ∷ Look 0 ∷ Access ∷ ResumeReq 0 ∷ Turn 0 ∷ Turn 0 ∷ Look 0 ∷ Access ∷ ResumeReq 0 ∷ Turn 0 ∷ Look 0 ∷ Turn 0 ∷ Turn 0 ∷
      Look 0 ∷ Look 0 ∷ Access ∷ [];
  lines = Line.SoftSet jump_at ∷ Line.Resumed ∷ by_ebreak ∷ x5_is 6 ∷ Line.Element jump_at B4 0xffdff06f ∷ Line.Resumed ∷ by_ebreak ∷ x5_is 7 ∷ [];
  end = End.Clean;
}

-- none is set where it is to be cleared, and none can be set while a hart runs
abbrev pub refused_twice : SoftCase
refused_twice = record {
  board = running_board;
  script = Unsoft 0x80000000 ∷ Soft 0x80000000 ∷ [];
  journal = Look 0 ∷ Look 0 ∷ [];
  lines = Line.SoftNotSet 0x80000000 ∷ Line.IsRunning 0 ∷ [];
  end = End.WithErrors;
}

pub record SoftExamplesHappen : Type 0 where
  pub breaks : SoftHappens break_at_jump
  pub refuses : SoftHappens refused_twice
