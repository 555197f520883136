use Rattle.trig_unit.proofs.Sets.{members_of}
use Rattle.trig_unit.proofs.slots.set_of.Goals as goal

pub returns-clause-members : goal.returns-clause-members
returns-clause-members c =
    rw (c.from.ensures, c.from-2.ensures, c.from-3.ensures, c.from-4.ensures) (members_of c.args.a c.args.b c.args.c c.args.d)
