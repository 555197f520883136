use Rattle.std.proofs.Common.{IfSome, subst, sym, ◌∙◌}
use Rattle.debug_model.specs.Offered.{TurnsOffered}
use Rattle.chip_laws.proofs.Turns.{feed_offered}
use Rattle.chip_core.proofs.bench.Bench.feed.Goals as goal

pub returns-clause-turns : goal.returns-clause-turns
returns-clause-turns g c = λ first is.
    rw c.feed.ensures.chip (feed_offered first c.args.bytes.now c.in-Some.chip
    (subst (λ o. IfSome o (λ l. TurnsOffered first l.chip)) (sym c.self.view_is ∙ c.in-Some.is) is))
