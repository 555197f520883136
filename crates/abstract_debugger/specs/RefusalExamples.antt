-- Worked examples of what a command refuses: a slot, a hart, a register and an address that is misaligned.
use Rattle.std.specs.Prelude.{false, [], ◌∷◌}
use Rattle.rv_model.specs.declared.size.Size.TheVariants.{B8}
use Rattle.debug_model.specs.declared.command.Command.TheVariants as command
use Rattle.debug_model.specs.declared.command.Path.TheVariants.{Bus}
use Rattle.debug_model.specs.declared.point.Point.TheVariants.{Look}
use Rattle.abstract_debugger.specs.Lines.{Line}
use Rattle.abstract_debugger.specs.Slots.Use.{Armed, Unused}
use Rattle.abstract_debugger.specs.Trace.Note.{Arm, Free}
use Rattle.abstract_debugger.specs.Trace.What.{Break}
use Rattle.abstract_debugger.specs.Transcript.{End}
use Rattle.abstract_debugger.specs.ExampleCases.{Case, Happens, empty_board, halted_board, running_board, x5}

-- ---- slots and harts

abbrev pub five_breaks : Case
five_breaks = record {
  program = [];
  board = halted_board;
  script = command.Break 0x80000100 ∷ command.Break 0x80000100 ∷ command.Break 0x80000100 ∷ command.Break 0x80000100 ∷ command.Break 0x80000100 ∷
      command.Clear 2 ∷ command.Break 0x80000104 ∷ command.Clear 2 ∷ command.Clear 2 ∷ [];
  journal = Look 0 ∷ Look 0 ∷ Look 0 ∷ Look 0 ∷ Look 0 ∷ Look 0 ∷ Look 0 ∷ Look 0 ∷ Look 0 ∷ Look 0 ∷ [];
  lines = Line.Slot 0 (Armed (Break 0x80000100)) false ∷ Line.Slot 1 (Armed (Break 0x80000100)) false ∷
      Line.Slot 2 (Armed (Break 0x80000100)) false ∷ Line.Slot 3 (Armed (Break 0x80000100)) false ∷ Line.NoFreeSlot ∷
      Line.Slot 2 Unused false ∷ Line.Slot 2 (Armed (Break 0x80000104)) false ∷ Line.Slot 2 Unused false ∷ Line.SlotNotInUse 2 ∷ [];
  end = End.WithErrors;
  past = Free 0 2 ∷ Arm 0 2 (Break 0x80000104) ∷ Free 0 2 ∷
      Arm 0 3 (Break 0x80000100) ∷ Arm 0 2 (Break 0x80000100) ∷ Arm 0 1 (Break 0x80000100) ∷ Arm 0 0 (Break 0x80000100) ∷ [];
}

abbrev pub hart_7 : Case
hart_7 = record {
  program = [];
  board = running_board;
  script = command.Hart 7 ∷ [];
  journal = Look 0 ∷ Look 7 ∷ [];
  lines = Line.NoHart 7 ∷ [];
  end = End.WithErrors;
  past = [];
}

-- `wait` and `state` say the same of a hart that is not there, each behind one Look
abbrev pub no_hart_to_wait_for : Case
no_hart_to_wait_for = record {
  program = [];
  board = empty_board;
  script = command.Wait 3 ∷ command.State ∷ [];
  journal = Look 0 ∷ Look 0 ∷ Look 0 ∷ [];
  lines = Line.NoHart 0 ∷ Line.NoHart 0 ∷ [];
  end = End.WithErrors;
  past = [];
}

abbrev pub hart_1_running : Case
hart_1_running = record {
  program = [];
  board = running_board;
  script = command.Hart 1 ∷ command.Reg x5 ∷ [];
  journal = Look 0 ∷ Look 1 ∷ Look 1 ∷ [];
  lines = Line.Selected 1 ∷ Line.IsRunning 1 ∷ [];
  end = End.WithErrors;
  past = [];
}

-- a write of a read-only register is refused, and is no entry
abbrev pub read_only_register : Case
read_only_register = record {
  program = [];
  board = halted_board;
  script = command.SetReg (record { 0 = 0xf14 }) 1 ∷ command.Reg (record { 0 = 0x301 }) ∷ [];
  journal = Look 0 ∷ Look 0 ∷ Look 0 ∷ [];
  lines = Line.RegisterRefused 0xf14 ∷ Line.Register 0x301 0x8000000000001101 ∷ [];
  end = End.WithErrors;
  past = [];
}

-- ---- memory that is not reached: a misaligned address takes a Look on the path by the program buffer alone, and no Access on either

abbrev pub misaligned_read : Case
misaligned_read = record {
  program = [];
  board = halted_board;
  script = command.Read B8 0x8000fffc 1 ∷ command.Via Bus ∷ command.Read B8 0x8000fffc 1 ∷ [];
  journal = Look 0 ∷ Look 0 ∷ [];
  lines = Line.MemoryFault 0x8000fffc ∷ Line.Via Bus ∷ Line.MemoryFault 0x8000fffc ∷ [];
  end = End.WithErrors;
  past = [];
}

-- ---- all of them

pub record RefusalsHappen : Type 0 where
  pub slots : Happens five_breaks
  pub absent : Happens hart_7
  pub none : Happens no_hart_to_wait_for
  pub running : Happens hart_1_running
  pub register : Happens read_only_register
  pub misaligned : Happens misaligned_read
