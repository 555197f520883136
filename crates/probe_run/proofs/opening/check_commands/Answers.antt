use Rattle.probe_run.specs.Told.{told}
use Rattle.std.proofs.Common.{sym, ◌∙◌, refl}
use Rattle.debug_model.specs.Addresses.{abstractcs_address}
use Rattle.debug_model.specs.declared.dmi_op.DmiOp.TheVariants.{Read}
use Rattle.probe_run.specs.Opening.{CommandsFail, commands_fit, commands_acts}
use Rattle.probe_run.proofs.ActLemmas.{broke_op, did_got, if_err}
use Rattle.probe_run.proofs.OpeningLemmas.{read_as}
use Rattle.probe_run.proofs.opening.check_commands.Goals as goal

pub returns-in_err-word-clause-fails : goal.returns-in_err-word-clause-fails
returns-in_err-word-clause-fails g c =
    if_err (CommandsFail (g.D.Dmi.seen c.args.link.now).fault_count (g.D.Dmi.seen c.read.new.self).fault_count (told (g.D.Dmi.seen c.args.link.now))
    (told (g.D.Dmi.seen c.read.new.self))) c.from_residual.result _ c.from_residual.ensures.1
    (broke_op (Read abstractcs_address) _ _ _ _ _ _ _ refl c.in_err-word.ensures.cut c.in_err-word.ensures.cause)

pub returns-then-not-has_commands-clause-fails : goal.returns-then-not-has_commands-clause-fails
returns-then-not-has_commands-clause-fails g c =
    read_as commands_acts commands_fit _ c.in_ok-word.word _ _
    (did_got abstractcs_address c.in_ok-word.word _ _ _ _ c.in_ok-word.ensures.operated c.in_ok-word.ensures.answers)
    (sym c.has_commands.ensures ∙ c.if-not-has_commands.true)

pub returns-clause-did : goal.returns-clause-did
returns-clause-did g c = (
  c.in_ok-word.word,
  read_as commands_acts commands_fit _ c.in_ok-word.word _ _
      (did_got abstractcs_address c.in_ok-word.word _ _ _ _ c.in_ok-word.ensures.operated c.in_ok-word.ensures.answers)
      (sym c.has_commands.ensures ∙ c.if-not-has_commands.false),
)
