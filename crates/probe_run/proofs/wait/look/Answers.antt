use Rattle.probe_run.specs.Told.{told}
use Rattle.std.proofs.Common.{[], refl}
use Rattle.debug_model.specs.Addresses.{dmstatus_address}
use Rattle.debug_model.specs.declared.dmi_op.DmiOp.TheVariants.{Read}
use Rattle.probe_run.specs.Waits.{LookBroke}
use Rattle.probe_run.proofs.ActLemmas.{broke_op, did_got, if_err}
use Rattle.probe_run.proofs.wait.look.Goals as goal

pub returns-in_err-word-clause-broke : goal.returns-in_err-word-clause-broke
returns-in_err-word-clause-broke g c =
    if_err (LookBroke [] (g.D.Dmi.seen c.args.link.now).fault_count (g.D.Dmi.seen c.read.new.self).fault_count (told (g.D.Dmi.seen c.args.link.now))
    (g.D.Dmi.seen c.read.new.self).far)
    c.from_residual.result _ c.from_residual.ensures.1
    (broke_op (Read dmstatus_address) _ _ _ _ _ _ _ refl c.in_err-word.ensures.cut c.in_err-word.ensures.cause)

pub returns-clause-did : goal.returns-clause-did
returns-clause-did g c = did_got dmstatus_address _ _ _ _ _ c.in_ok-word.ensures.operated c.in_ok-word.ensures.answers
