use Rattle.std.proofs.Common.{get_or, arith}
use Rattle.jt_base.proofs.FaultLemmas.{rises_from}
use Rattle.debug_model.specs.declared.slot_use.SlotUse.TheVariants as slot_use
use Rattle.probe_session.proofs.LinkLemmas.{if_err}
use Rattle.probe_session.proofs.Selections.{viewed_stays}
use Rattle.probe_session.proofs.SlotLines.{four_uses, slot_cut, slot_said, slots_all, slots_fell, slots_viewed, used_at}
use Rattle.probe_session.proofs.Spoken.{fell_first}
use Rattle.probe_session.proofs.slots_shown.put_slots.Goals as goal

pub returns-in_err-seen-clause-fell : goal.returns-in_err-seen-clause-fell
returns-in_err-seen-clause-fell g c = if_err _ c.in_err-seen.field-0.0 _ c.from_residual.ensures.1
    (fell_first _ _ _ (slots_fell c.args.halted.now.number c.in_err-seen.ensures.fell))

pub showing-init : goal.showing-init
showing-init g c = record { said = slots_viewed c.args.halted.now.number c.in_ok-seen.seen _ c.in_ok-seen.ensures.viewed; sink_later = omega arith }

pub returns-in_err-put_line-clause-fell : goal.returns-in_err-put_line-clause-fell
returns-in_err-put_line-clause-fell g c = if_err _ c.in_err-put_line.field-0.0 _ c.from_residual-in_err-put_line.ensures.1
    (slot_cut c.args.halted.now.number c.in_ok-seen.seen c.showing.slot (get_or c.in_ok-seen.seen.used c.from.result slot_use.Free) _ _ _
    (four_uses c.args.halted.now.number c.in_ok-seen.seen c.in_ok-seen.ensures.viewed)
    (used_at c.in_ok-seen.seen c.from.result c.showing.slot slot_use.Free (four_uses c.args.halted.now.number c.in_ok-seen.seen c.in_ok-seen.ensures.viewed)
    (cc) c.showing-test.true) c.has.ensures c.in_err-put_line.ensures.sink c.showing.invariant.said c.in_err-put_line.ensures.front
    (rises_from _ _ _ c.showing.invariant.sink_later c.put_line.ensures.later c.in_err-put_line.ensures.cause))

pub showing-preserved : goal.showing-preserved
showing-preserved g c = record {
  said = slot_said c.args.halted.now.number c.in_ok-seen.seen c.showing.slot (get_or c.in_ok-seen.seen.used c.from.result slot_use.Free) _
      (four_uses c.args.halted.now.number c.in_ok-seen.seen c.in_ok-seen.ensures.viewed)
      (used_at c.in_ok-seen.seen c.from.result c.showing.slot slot_use.Free (four_uses c.args.halted.now.number c.in_ok-seen.seen c.in_ok-seen.ensures.viewed)
      (cc) c.showing-test.true) c.has.ensures c.showing.invariant.said c.in_ok-put_line.ensures.put;
  sink_later = omega (arith, c.showing.invariant.sink_later, c.put_line.ensures.later);
}

pub returns-clause-spoke : goal.returns-clause-spoke
returns-clause-spoke g c = slots_all c.args.halted.now.number c.in_ok-seen.seen c.showing.slot
    (four_uses c.args.halted.now.number c.in_ok-seen.seen c.in_ok-seen.ensures.viewed) (omega arith) c.showing.invariant.said

pub returns-clause-selection : goal.returns-clause-selection
returns-clause-selection g c =
    viewed_stays c.args.halted.now.number c.in_ok-seen.seen _ _ c.in_ok-seen.ensures.viewed c.requires.serving.serving.selects
    c.in_ok-seen.ensures.keeps.behind.serving.selects
