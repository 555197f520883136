use Rattle.std.proofs.Common.{arith}
use Rattle.script_lang.proofs.PrintLemmas.{join_step}
use Rattle.script_lang.proofs.spelled.write_words.Goals as goal

pub loop-argument-preserved : goal.loop-argument-preserved
loop-argument-preserved c =
    join_step c.args.name.now c.args.arguments.now c.loop-argument.argument-index _ c.args.text.now.items c.loop-argument.text.items c.push.new.self.items
    c.write_argument.new.text.items (omega arith) c.loop-argument.invariant c.in_ok-push.ensures.items c.in_ok-write_argument.ensures
