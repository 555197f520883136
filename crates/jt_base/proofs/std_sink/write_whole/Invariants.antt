use Rattle.jt_base.specs.Written.{AppendsUpTo}
use Rattle.jt_base.proofs.std_sink.write_whole.Given as goal

abbrev pub invariant-pieces : goal.invariant-pieces
invariant-pieces g l = AppendsUpTo (g.W.Write.contents l.initial.out) (g.W.Write.contents l.out) l.bytes l.rest
