use Rattle.probe_run.specs.Told.{told}
use Rattle.std.proofs.Common.{[], ap}
use Rattle.debug_model.specs.Addresses.{dmcontrol_address}
use Rattle.debug_model.specs.declared.dmi_op.DmiOp.TheVariants.{Write}
use Rattle.probe_run.specs.Acts.{Broke}
use Rattle.probe_run.specs.Acts.Attempt.{Operation}
use Rattle.probe_run.specs.Requests.{control_word}
use Rattle.probe_run.proofs.ActLemmas.{broke_op, did_put, if_err}
use Rattle.probe_run.proofs.control.control.Goals as goal

pub returns-in_err-write-clause-broke : goal.returns-in_err-write-clause-broke
returns-in_err-write-clause-broke g c =
    if_err (Broke [] (Operation (Write dmcontrol_address (control_word c.args.request c.args.hart))) (g.D.Dmi.seen c.args.link.now).fault_count
    (g.D.Dmi.seen c.write.new.self).fault_count (told (g.D.Dmi.seen c.args.link.now)) (g.D.Dmi.seen c.write.new.self).far)
    c.from_residual.result _ c.from_residual.ensures.1
    (broke_op (Write dmcontrol_address c.word_for.result) _ _ _ _ _ _ _ (ap (Write dmcontrol_address) c.word_for.ensures) c.in_err-write.ensures.cut
    c.in_err-write.ensures.cause)

pub returns-clause-did : goal.returns-clause-did
returns-clause-did g c = did_put dmcontrol_address c.word_for.result _ _ _ _ _ c.word_for.ensures c.in_ok-write.ensures.operated c.in_ok-write.ensures.passes
