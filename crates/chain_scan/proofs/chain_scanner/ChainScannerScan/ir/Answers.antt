use Rattle.std.proofs.Common.{◌≡◌, Some, arith}
use Rattle.std.proofs.lemmas.Grind.{common_steps}
use Rattle.jt_base.proofs.Pieces.{on_err}
use Rattle.chain_scan.proofs.Combined.{code_cut_wider, code_selects, code_there}
use Rattle.chain_scan.proofs.chain_scanner.ChainScannerScan.ir.Goals as goal

pub returns-then-eq-clause-selected : goal.returns-then-eq-clause-selected
returns-then-eq-clause-selected g c =
    let there : c.args.self.now.remembered ≡ Some c.args.code = grind (arith, common_steps) in
    (code_there c.args.code c.args.self.now.remembered _ there c.args.self.now.remembers c.requires.callable.read c.requires.callable.free
    c.requires.callable.idle).selected

pub returns-in_err-send_code-clause-cut : goal.returns-in_err-send_code-clause-cut
returns-in_err-send_code-clause-cut g c = on_err _ (code_cut_wider _ _ c.in_err-send_code.ensures.cut)
