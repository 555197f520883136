use Rattle.std.proofs.Common.{true, false, ap}
use Rattle.std.proofs.lemmas.Bool.{ne_eqb}
use Rattle.rv_model.specs.Registers.{mip_number}
use Rattle.probe_access.specs.Pending.{is_mip}
use Rattle.probe_access.proofs.PendingClauses.{cut_by}
use Rattle.probe_access.proofs.registers.reg.Goals as goal

pub returns-then-register-eq-MIP-clause-cut : goal.returns-then-register-eq-MIP-clause-cut
returns-then-register-eq-MIP-clause-cut g c =
    cut_by true c.args.register c.args.halted.now.number _ _ _ (ap is_mip c.if-register-eq-MIP.true) c.pending.ensures.cut

pub returns-clause-cut : goal.returns-clause-cut
returns-clause-cut g c =
    cut_by false c.args.register c.args.halted.now.number _ _ _ (ne_eqb c.args.register mip_number c.if-register-eq-MIP.false) c.held_reg.ensures.cut
