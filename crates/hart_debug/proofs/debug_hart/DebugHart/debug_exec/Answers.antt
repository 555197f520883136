use Rattle.hart_debug.proofs.ExecutedWord.{word_keeps}
use Rattle.hart_debug.proofs.debug_hart.DebugHart.debug_exec.Goals as goal

pub returns-in-Some-clause-keeps : goal.returns-in-Some-clause-keeps
returns-in-Some-clause-keeps c =
    word_keeps c.args.word c.args.self.now c.args.ram.now c.in-Some.insn c.run_insn.new.self c.run_insn.new.ram c.run_insn.result c.in-Some.ensures.is
    c.run_insn.ensures
