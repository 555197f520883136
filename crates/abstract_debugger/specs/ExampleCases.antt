-- What the worked examples say, and the programs and boards that they are of.
-- The words are spelled by the unprivileged manual's formats.
use Rattle.std.specs.Prelude.{◌≡◌, ℕ, Bool, true, false, List, [], ◌∷◌, Ok}
use Rattle.rv_model.specs.declared.size.Size.TheVariants.{B4}
use Rattle.rv_model.specs.declared.version.Version.TheVariants.{V10}
use Rattle.rv_model.specs.Board.{Board, halted_by_reset, reset_hart, runs}
use Rattle.rv_model.specs.Memory.{Memory, fetch_of}
use Rattle.debug_model.specs.declared.command.Command.{Command}
use Rattle.debug_model.specs.declared.point.Point.{Point}
use Rattle.debug_model.specs.declared.point.Point.TheVariants.{Turn, Look, ResumeReq}
use Rattle.debug_model.specs.declared.register_name.RegName.{RegName}
use Rattle.abstract_debugger.specs.Lines.{Line}
use Rattle.abstract_debugger.specs.Trace.{Past}
use Rattle.abstract_debugger.specs.Transcript.{End, Outcome, transcript}

-- ---- programs

-- words, each behind its address
abbrev pub Program : Type 0
Program = List (ℕ × ℕ)

abbrev pub Holds : Program → Memory → Type 0
Holds [] m = Unit {0}
Holds (e ∷ words) m = (fetch_of m e.0 ≡ Ok e.1) × Holds words m

-- addi x5, x0, 5; again: addi x5, x5, 1; jal x0, again
abbrev pub counter : Program
counter = (0x80000000, 0x00500293) ∷ (0x80000004, 0x00128293) ∷ (0x80000008, 0xffdff06f) ∷ []

-- auipc x6, 0; sd x6, 16(x6); jal x0, 0
abbrev pub storer : Program
storer = (0x80000000, 0x00000317) ∷ (0x80000004, 0x00633823) ∷ (0x80000008, 0x0000006f) ∷ []

-- ebreak
abbrev pub breaker : Program
breaker = (0x80000000, 0x00100073) ∷ []

-- ---- boards

-- one hart, halted from reset on
abbrev pub halted_board : Memory → Board
halted_board m = record { harts = reset_hart V10 0 halted_by_reset ∷ []; memory = m }

-- two harts, running from reset on
abbrev pub running_board : Memory → Board
running_board m = record { harts = reset_hart V10 0 runs ∷ reset_hart V10 1 runs ∷ []; memory = m }

abbrev pub empty_board : Memory → Board
empty_board m = record { harts = []; memory = m }

-- ---- what an example says

pub record IsOutcome (o : Outcome) (lines : List Line) (end : End) (past : Past) : Type 0 where
  pub lines_are : o.world.lines ≡ lines
  pub end_is : o.end ≡ end
  pub past_is : o.world.past ≡ past

-- a session, and what comes of it; the past has the newest note first
pub record Case : Type 0 where
  pub program : Program
  pub board : Memory → Board
  pub script : List Command
  pub journal : List Point
  pub lines : List Line
  pub end : End
  pub past : Past

-- in any memory that holds the program
abbrev pub Happens : Case → Type 0
Happens c = (m : Memory) → Holds c.program m → IsOutcome (transcript (c.board m) c.script c.journal) c.lines c.end c.past

abbrev pub x5 : RegName
x5 = record { 0 = 0x1005 }

abbrev pub pc : RegName
pc = record { 0 = 0x7b1 }

-- by place, slot 0 alone
abbrev pub slot_0 : List Bool
slot_0 = true ∷ false ∷ false ∷ false ∷ []

-- the stop line of a single step, and of a stop by slot 0
abbrev pub stepped_at : ℕ → Line
stepped_at address = Line.Halted address 4 []

abbrev pub triggered_at : ℕ → Line
triggered_at address = Line.Halted address 2 slot_0

abbrev pub x5_is : ℕ → Line
x5_is value = Line.Register 0x1005 value

-- the points of a command that lets hart 0 go, of the stepping over of slots with a hit in front of it, and of one single step
abbrev pub go_points : List Point
go_points = ResumeReq 0 ∷ Turn 0 ∷ Look 0 ∷ []

abbrev pub one_points : List Point
one_points = ResumeReq 0 ∷ Turn 0 ∷ Look 0 ∷ Turn 0 ∷ Look 0 ∷ []
