use Rattle.std.proofs.Common.{refl}
use Rattle.std.proofs.Math.Nat.{add-mod-mod}
use Rattle.sys_events.proofs.seed_schedule.stands.Goals as goal

pub returns : goal.returns
returns c = rw (c.from.ensures, c.from-busy.ensures, add-mod-mod c.args.number c.args.word c.args.busy) refl
