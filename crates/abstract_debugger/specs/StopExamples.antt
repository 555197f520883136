-- Worked examples of single steps and stops: what sessions print, how they end, and their traces, along journals that are written by hand.
-- The results are worked by hand.
use Rattle.std.specs.Prelude.{true, false, [], ◌∷◌, ◌++◌}
use Rattle.rv_model.specs.declared.cause.Cause.TheVariants as cause
use Rattle.rv_model.specs.Undebugged.{Exec, SetReg}
use Rattle.debug_model.specs.declared.command.Command.TheVariants as command
use Rattle.debug_model.specs.declared.command.WatchKind.TheVariants as watch
use Rattle.debug_model.specs.declared.point.Point.TheVariants.{Turn, Look, HaltReq, HaltClear}
use Rattle.abstract_debugger.specs.Lines.{Line}
use Rattle.abstract_debugger.specs.Slots.Use.{Armed, Unused}
use Rattle.abstract_debugger.specs.Trace.Note.{Did, Stop, Arm}
use Rattle.abstract_debugger.specs.Trace.What.{Break, Watch, Count}
use Rattle.abstract_debugger.specs.Transcript.{End}
use Rattle.abstract_debugger.specs.ExampleCases.{Case, Happens, breaker, counter, go_points, halted_board, one_points, pc, running_board, slot_0, stepped_at}
use Rattle.abstract_debugger.specs.ExampleCases.{storer, triggered_at, x5, x5_is}

-- ---- single steps and stops

-- `step`: x5 is 5 behind the first instruction
abbrev pub step_from_reset : Case
step_from_reset = record {
  program = counter;
  board = halted_board;
  script = command.Step 1 ∷ command.Reg x5 ∷ [];
  journal = Look 0 ∷ Turn 0 ∷ Look 0 ∷ one_points ++ Turn 0 ∷ Look 0 ∷ [];
  lines = stepped_at 0x80000004 ∷ x5_is 5 ∷ [];
  end = End.Clean;
  past = Stop 0 cause.Step [] ∷ Did (Exec 0) ∷ [];
}

-- a break stops before its instruction, and the second time round as well
abbrev pub break_twice : Case
break_twice = record {
  program = counter;
  board = halted_board;
  script = command.Break 0x80000008 ∷ command.Resume ∷ command.Wait 64 ∷ command.Reg x5 ∷ command.Resume ∷ command.Wait 64 ∷ command.Reg x5 ∷ [];
  journal = Look 0 ∷ Look 0 ∷ Look 0 ∷ go_points ++ Turn 0 ∷ Look 0 ∷ Turn 0 ∷ Turn 0 ∷ Look 0 ∷ Look 0 ∷
      Look 0 ∷ one_points ++ go_points ++ Turn 0 ∷ Turn 0 ∷ Look 0 ∷ Look 0 ∷ [];
  lines = Line.Slot 0 (Armed (Break 0x80000008)) false ∷ Line.Resumed ∷ triggered_at 0x80000008 ∷ x5_is 6 ∷ Line.Resumed ∷ triggered_at 0x80000008 ∷ x5_is 7
      ∷ [];
  end = End.Clean;
  past = Stop 0 cause.Trigger slot_0 ∷ Did (Exec 0) ∷ Stop 0 cause.Step [] ∷ Did (Exec 0) ∷
      Stop 0 cause.Trigger slot_0 ∷ Did (Exec 0) ∷ Did (Exec 0) ∷ Arm 0 0 (Break 0x80000008) ∷ [];
}

-- where pc is written onto a break, the break stops before anything runs
abbrev pub pc_onto_break : Case
pc_onto_break = record {
  program = counter;
  board = halted_board;
  script = command.Break 0x80000008 ∷ command.SetReg pc 0x80000008 ∷ command.Resume ∷ command.Wait 64 ∷ command.Reg x5 ∷ [];
  journal = Look 0 ∷ Look 0 ∷ Look 0 ∷ Look 0 ∷ go_points ++ Turn 0 ∷ Look 0 ∷ Look 0 ∷ [];
  lines = Line.Slot 0 (Armed (Break 0x80000008)) false ∷ Line.Register 0x7b1 0x80000008 ∷ Line.Resumed ∷ triggered_at 0x80000008 ∷ x5_is 0 ∷ [];
  end = End.Clean;
  past = Stop 0 cause.Trigger slot_0 ∷ Did (SetReg 0 0x7b1 0x80000008) ∷ Arm 0 0 (Break 0x80000008) ∷ [];
}

-- also where it had stopped there before: the write forgets the hit
abbrev pub pc_onto_the_same_break : Case
pc_onto_the_same_break = record {
  program = counter;
  board = halted_board;
  script = command.Break 0x80000008 ∷ command.Resume ∷ command.Wait 64 ∷ command.SetReg pc 0x80000008 ∷ command.Resume ∷ command.Wait 64 ∷ command.Reg x5 ∷ [];
  journal = Look 0 ∷ Look 0 ∷ Look 0 ∷ go_points ++ Turn 0 ∷ Turn 0 ∷ Turn 0 ∷ Look 0 ∷ Look 0 ∷ Look 0 ∷ go_points ++ Turn 0 ∷ Look 0 ∷ Look 0 ∷ [];
  lines = Line.Slot 0 (Armed (Break 0x80000008)) false ∷ Line.Resumed ∷ triggered_at 0x80000008 ∷ Line.Register 0x7b1 0x80000008 ∷ Line.Resumed ∷
      triggered_at 0x80000008 ∷ x5_is 6 ∷ [];
  end = End.Clean;
  past = Stop 0 cause.Trigger slot_0 ∷ Did (SetReg 0 0x7b1 0x80000008) ∷ Stop 0 cause.Trigger slot_0 ∷ Did (Exec 0) ∷ Did (Exec 0)
      ∷ Arm 0 0 (Break 0x80000008) ∷ [];
}

-- five steps end at the third, which meets the break; `halt` then says so again
abbrev pub step_onto_break : Case
step_onto_break = record {
  program = counter;
  board = halted_board;
  script = command.Break 0x80000008 ∷ command.Step 5 ∷ command.Halt ∷ [];
  journal = Look 0 ∷ Look 0 ∷ Look 0 ∷ one_points ++ one_points ++ one_points ++ Look 0 ∷ [];
  lines = Line.Slot 0 (Armed (Break 0x80000008)) false ∷ triggered_at 0x80000008 ∷ triggered_at 0x80000008 ∷ [];
  end = End.Clean;
  past = Stop 0 cause.Trigger slot_0 ∷ Stop 0 cause.Step [] ∷ Did (Exec 0) ∷ Stop 0 cause.Step [] ∷ Did (Exec 0) ∷ Arm 0 0 (Break 0x80000008) ∷ [];
}

-- behind five instructions, x5 = 5, 6, jump, 7, jump
abbrev pub count_five : Case
count_five = record {
  program = counter;
  board = halted_board;
  script = command.Count 5 ∷ command.Resume ∷ command.Wait 64 ∷ command.Reg x5 ∷ command.Slots ∷ [];
  journal = Look 0 ∷ Look 0 ∷ Look 0 ∷ go_points ++ Turn 0 ∷ Turn 0 ∷ Turn 0 ∷ Turn 0 ∷ Turn 0 ∷ Turn 0 ∷ Look 0 ∷ Look 0 ∷ Look 0 ∷ [];
  lines = Line.Slot 0 (Armed (Count 5)) false ∷ Line.Resumed ∷ triggered_at 0x80000004 ∷ x5_is 7 ∷
      Line.Slot 0 (Armed (Count 0)) true ∷ Line.Slot 1 Unused false ∷ Line.Slot 2 Unused false ∷ Line.Slot 3 Unused false ∷ [];
  end = End.Clean;
  past = Stop 0 cause.Trigger slot_0 ∷ Did (Exec 0) ∷ Did (Exec 0) ∷ Did (Exec 0) ∷ Did (Exec 0) ∷ Did (Exec 0) ∷ Arm 0 0 (Count 5) ∷ [];
}

-- the eight bytes at 0x80000010 hold the watched one: the store is stopped before it is made
abbrev pub watched_store : Case
watched_store = record {
  program = storer;
  board = halted_board;
  script = command.Watch watch.Store 0x80000012 ∷ command.Resume ∷ command.Wait 64 ∷ [];
  journal = Look 0 ∷ Look 0 ∷ Look 0 ∷ go_points ++ Turn 0 ∷ Turn 0 ∷ Look 0 ∷ [];
  lines = Line.Slot 0 (Armed (Watch watch.Store 0x80000012)) false ∷ Line.Resumed ∷ triggered_at 0x80000004 ∷ [];
  end = End.Clean;
  past = Stop 0 cause.Trigger slot_0 ∷ Did (Exec 0) ∷ Arm 0 0 (Watch watch.Store 0x80000012) ∷ [];
}

abbrev pub ebreak_halts : Case
ebreak_halts = record {
  program = breaker;
  board = halted_board;
  script = command.Ebreak true ∷ command.Resume ∷ command.Wait 64 ∷ [];
  journal = Look 0 ∷ Look 0 ∷ Look 0 ∷ go_points ++ Turn 0 ∷ Look 0 ∷ [];
  lines = Line.Ebreak true ∷ Line.Resumed ∷ Line.Halted 0x80000000 1 [] ∷ [];
  end = End.Clean;
  past = Stop 0 cause.Ebreak [] ∷ [];
}

-- a running hart halts at its next turn, and the request is taken back; another hart goes on
abbrev pub halt_running : Case
halt_running = record {
  program = counter;
  board = running_board;
  script = command.Halt ∷ command.Reg x5 ∷ [];
  journal = Look 0 ∷ Look 0 ∷ HaltReq 0 ∷ Look 0 ∷ Turn 1 ∷ Turn 0 ∷ Look 0 ∷ HaltClear 0 ∷ Turn 0 ∷ Look 0 ∷ [];
  lines = Line.Halted 0x80000000 3 [] ∷ x5_is 0 ∷ [];
  end = End.Clean;
  past = Stop 0 cause.HaltReq [] ∷ Did (Exec 1) ∷ [];
}

-- ---- all of them

pub record StopsHappen : Type 0 where
  pub from_reset : Happens step_from_reset
  pub twice : Happens break_twice
  pub onto_break : Happens pc_onto_break
  pub onto_the_same : Happens pc_onto_the_same_break
  pub steps : Happens step_onto_break
  pub counts : Happens count_five
  pub watches : Happens watched_store
  pub ebreaks : Happens ebreak_halts
  pub halts : Happens halt_running
