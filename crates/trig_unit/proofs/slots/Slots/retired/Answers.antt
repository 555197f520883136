use Rattle.std.proofs.Common.{sym, ap, ◌∙◌}
use Rattle.trig_unit.specs.Armed.{some_armed}
use Rattle.trig_unit.proofs.Four.{unarmed_still}
use Rattle.trig_unit.proofs.slots.Slots.retired.Goals as goal

pub returns-else-self : goal.returns-else-self
returns-else-self c =
    ap (λ s. record c.args.self.now { slots = s })
    (sym (unarmed_still c.args.self.now.slots (ap (λ t. some_armed t.slots) (sym c.self.view_is) ∙ sym c.self.invariant.marked ∙ c.if-self.false)))
