use Rattle.debug_model.proofs.RiseLemmas.{within_more, within_then}
use Rattle.std.proofs.Common.{refl, ◌+◌, ◌*◌, arith}
use Rattle.probe_run.specs.Told.{told}
use Rattle.probe_access.specs.BusStreams.{RunLoads, RunOddly}
use Rattle.probe_access.proofs.BusStreamOutcomes.{find_fell, hand_out_fell, stopped_of}
use Rattle.probe_access.proofs.BusStreamParts.{too_early}
use Rattle.probe_access.proofs.RegisterCalls.{err_failed}
use Rattle.probe_access.proofs.bus_runs.try_run.Goals as goal

pub returns-then-is_other-clause-fell : goal.returns-then-is_other-clause-fell
returns-then-is_other-clause-fell g c =
    let other = c.is_other.ensures.other c.if-is_other.true in
    RunOddly.other c.in_ok-last.last c.run.new.into.items refl c.in_ok-last.ensures.read other.0 other.1

pub returns-in_err-held-clause-fell : goal.returns-in_err-held-clause-fell
returns-in_err-held-clause-fell g c =
    err_failed c.from_residual-in_err-held.result _ _ c.from_residual-in_err-held.ensures.1
    (find_fell c.args.size c.args.address c.args.count c.in_ok-last.last _ _ _ c.run.new.into.items c.run.new.into.items
    (told (g.D.Dmi.seen c.args.link.now)) (told (g.D.Dmi.seen c.run.new.link)) (told (g.D.Dmi.seen c.find.new.link)) c.in_err-held.field-0.0
    c.in_ok-last.ensures.read c.run.ensures.keeps.later c.find.ensures.keeps.later c.in_err-held.ensures.broke)

pub returns-in_err-hand_over-clause-fell : goal.returns-in_err-hand_over-clause-fell
returns-in_err-hand_over-clause-fell g c =
    err_failed c.from_residual-in_err-hand_over.result c.in_err-hand_over.field-0.0 _ c.from_residual-in_err-hand_over.ensures.1
    (hand_out_fell c.args.size c.args.address c.args.count c.in_ok-last.last c.in_ok-held.held.address c.in_ok-held.held.value _ _ c.run.new.into.items
    c.hand_over.new.into.items (told (g.D.Dmi.seen c.args.link.now)) (told (g.D.Dmi.seen c.run.new.link)) (told (g.D.Dmi.seen c.find.new.link))
    c.in_err-hand_over.field-0.0 c.in_ok-last.ensures.read (c.is_fine.ensures.not_fine c.if-is_fine.false) c.in_ok-held.ensures.found
    c.in_err-hand_over.ensures.fell)

pub returns-clause-loads : goal.returns-clause-loads
returns-clause-loads g c =
    let handed = c.in_ok-hand_over.ensures.handed in
    let end = too_early c.in_ok-last.last (c.is_fine.ensures.not_fine c.if-is_fine.false) (c.is_other.ensures.none_other c.if-is_other.false) handed.0 in
    RunLoads.some c.in_ok-last.last
    (stopped_of c.args.size c.args.address c.args.count c.in_ok-last.last c.in_ok-held.held.address c.in_ok-held.held.value c.run.new.into.items
    c.hand_over.new.into.items (told (g.D.Dmi.seen c.args.link.now)) (told (g.D.Dmi.seen c.run.new.link)) (told (g.D.Dmi.seen c.find.new.link))
    c.in_ok-last.ensures.read c.in_ok-held.ensures.found handed.1) end.0 end.1

pub returns-in_err-last-clause-rises : goal.returns-in_err-last-clause-rises
returns-in_err-last-clause-rises g c =
    within_more (2 * c.args.count + 6) (2 * c.args.count + 11) _ _ c.run.ensures.rises (omega arith)

pub returns-then-is_fine-clause-rises : goal.returns-then-is_fine-clause-rises
returns-then-is_fine-clause-rises g c =
    within_more (2 * c.args.count + 6) (2 * c.args.count + 11) _ _ c.run.ensures.rises (omega arith)

pub returns-then-is_other-clause-rises : goal.returns-then-is_other-clause-rises
returns-then-is_other-clause-rises g c =
    within_more (2 * c.args.count + 6) (2 * c.args.count + 11) _ _ c.run.ensures.rises (omega arith)

pub returns-in_err-held-clause-rises : goal.returns-in_err-held-clause-rises
returns-in_err-held-clause-rises g c =
    within_then (2 * c.args.count + 6) 5 (2 * c.args.count + 11) _ (g.D.Dmi.seen c.run.new.link) _ c.run.ensures.rises c.find.ensures.rises
    c.run.ensures.keeps.fixed (omega arith)

pub returns-in_err-hand_over-clause-rises : goal.returns-in_err-hand_over-clause-rises
returns-in_err-hand_over-clause-rises g c =
    within_then (2 * c.args.count + 6) 5 (2 * c.args.count + 11) _ (g.D.Dmi.seen c.run.new.link) _ c.run.ensures.rises c.find.ensures.rises
    c.run.ensures.keeps.fixed (omega arith)

pub returns-clause-rises : goal.returns-clause-rises
returns-clause-rises g c =
    within_then (2 * c.args.count + 6) 5 (2 * c.args.count + 11) _ (g.D.Dmi.seen c.run.new.link) _ c.run.ensures.rises c.find.ensures.rises
    c.run.ensures.keeps.fixed (omega arith)
