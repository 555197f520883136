use Rattle.std.proofs.Common.{◌≤◌, [], arith}
use Rattle.std.proofs.lemmas.List.Elements.{All-from_get_or}
use Rattle.arrayvec.specs.ArrayVec.{array_vec_len}
use Rattle.sys_events.proofs.Short.{short_more}
use Rattle.sys_events.proofs.list_schedule.measure.Goals as goal

pub loop-round-preserved : goal.loop-round-preserved
loop-round-preserved c =
    short_more c.args.rounds.now c.loop-round.round-index c.round-item.result (record { items = [] }) c.loop-round-test.true c.round-item.is
    (omega (arith, c.len-few.ensures.value, c.len-few.ensures.fits)) c.loop-round.invariant

pub returns : goal.returns
returns c = All-from_get_or (λ r. array_vec_len r ≤ 8) c.args.rounds.now (record { items = [] }) (λ k inside. c.loop-round.invariant k (omega arith))
