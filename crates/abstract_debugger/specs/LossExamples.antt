-- Worked examples of sessions that are lost, cut or astray.
use Rattle.std.specs.Prelude.{[], ◌∷◌, replicate}
use Rattle.rv_model.specs.declared.cause.Cause.TheVariants as cause
use Rattle.rv_model.specs.Undebugged.{Exec}
use Rattle.debug_model.specs.declared.command.Command.TheVariants as command
use Rattle.debug_model.specs.declared.point.Point.TheVariants.{Turn, Look, HaltReq, ResumeReq}
use Rattle.abstract_debugger.specs.Lines.{Line}
use Rattle.abstract_debugger.specs.Trace.Note.{Did, Stop}
use Rattle.abstract_debugger.specs.Transcript.{End}
use Rattle.abstract_debugger.specs.ExampleCases.{Case, Happens, counter, halted_board, running_board}

-- 64 Looks at a hart that has no turn: nothing of the script follows
abbrev pub no_halt : Case
no_halt = record {
  program = [];
  board = running_board;
  script = command.State ∷ command.Halt ∷ command.Idcode ∷ [];
  journal = Look 0 ∷ Look 0 ∷ Look 0 ∷ HaltReq 0 ∷ replicate 64 (Look 0);
  lines = Line.Running ∷ [];
  end = End.NoHalt 64;
  past = [];
}

abbrev pub no_ack : Case
no_ack = record {
  program = [];
  board = halted_board;
  script = command.Resume ∷ command.Idcode ∷ [];
  journal = Look 0 ∷ Look 0 ∷ ResumeReq 0 ∷ replicate 64 (Look 0);
  lines = [];
  end = End.NoAck 64;
  past = [];
}

-- the hart went, and did not halt
abbrev pub step_without_halt : Case
step_without_halt = record {
  program = counter;
  board = halted_board;
  script = command.Step 1 ∷ command.Idcode ∷ [];
  journal = Look 0 ∷ Look 0 ∷ ResumeReq 0 ∷ Turn 0 ∷ replicate 64 (Look 0);
  lines = [];
  end = End.NoHalt 64;
  past = [];
}

abbrev pub step_without_ack : Case
step_without_ack = record {
  program = [];
  board = halted_board;
  script = command.Step 1 ∷ command.Idcode ∷ [];
  journal = Look 0 ∷ Look 0 ∷ ResumeReq 0 ∷ replicate 64 (Look 0);
  lines = [];
  end = End.NoAck 64;
  past = [];
}

-- `wait` gives up without an error
abbrev pub wait_in_vain : Case
wait_in_vain = record {
  program = [];
  board = running_board;
  script = command.Wait 3 ∷ command.Idcode ∷ [];
  journal = Look 0 ∷ Look 0 ∷ Look 0 ∷ Look 0 ∷ [];
  lines = Line.Running ∷ Line.Idcode 0x10d64001 ∷ [];
  end = End.Clean;
  past = [];
}

-- in the middle of a step
abbrev pub cut_in_a_step : Case
cut_in_a_step = record {
  program = counter;
  board = halted_board;
  script = command.Idcode ∷ command.Step 1 ∷ [];
  journal = Look 0 ∷ Look 0 ∷ ResumeReq 0 ∷ Turn 0 ∷ Turn 0 ∷ [];
  lines = Line.Idcode 0x10d64001 ∷ [];
  end = End.Open;
  past = Stop 0 cause.Step [] ∷ Did (Exec 0) ∷ [];
}

-- a request that no command makes there
abbrev pub foreign_request : Case
foreign_request = record {
  program = counter;
  board = halted_board;
  script = command.Idcode ∷ command.Step 1 ∷ [];
  journal = Look 0 ∷ Look 0 ∷ HaltReq 0 ∷ [];
  lines = Line.Idcode 0x10d64001 ∷ [];
  end = End.Astray;
  past = [];
}

-- ---- all of them

pub record LossesHappen : Type 0 where
  pub halt : Happens no_halt
  pub ack : Happens no_ack
  pub step_halt : Happens step_without_halt
  pub step_ack : Happens step_without_ack
  pub wait : Happens wait_in_vain
  pub cut : Happens cut_in_a_step
  pub foreign : Happens foreign_request
