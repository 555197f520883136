use Rattle.std.proofs.Common.{◌≡◌, [], ◌∷◌, ap, ◌∙◌}
use Rattle.rv_model.specs.Triggers.{fires}
use Rattle.trig_unit.specs.Members.{some_member}
use Rattle.trig_unit.proofs.Four.{fires_four}
use Rattle.trig_unit.proofs.slots.Slots.fires.Goals as goal

answers_are : (c : goal.After-set_of) → c.fires.result ∷ c.fires-2.result ∷ c.fires-3.result ∷ c.fires-4.result ∷ [] ≡ fires c.args.touch.now
    c.args.self.now.slots
answers_are c =
    rw (c.fires.ensures, c.fires-2.ensures, c.fires-3.ensures, c.fires-4.ensures)
    (fires_four c.args.touch.now c.self.inside.slots _ c.self.invariant.four ∙ ap (λ t. fires c.args.touch.now t.slots) c.self.view_is)

pub returns-clause-members : goal.returns-clause-members
returns-clause-members c = c.set_of.ensures.members ∙ answers_are c

pub returns-clause-some : goal.returns-clause-some
returns-clause-some c = c.set_of.ensures.some ∙ ap some_member (answers_are c)
