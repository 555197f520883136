use Rattle.jt_base.proofs.Pieces.{on_err}
use Rattle.chain_scan.proofs.Combined.{reset_cut_wider, reset_then_code, reset_then_cut}
use Rattle.chain_scan.proofs.chain_scanner.ChainScannerScan.reset.Goals as goal

pub returns-in_err-send_reset-clause-cut : goal.returns-in_err-send_reset-clause-cut
returns-in_err-send_reset-clause-cut g c = on_err _ (reset_cut_wider _ _ c.in_err-send_reset.ensures.cut)

pub returns-in_err-send_code-clause-cut : goal.returns-in_err-send_code-clause-cut
returns-in_err-send_code-clause-cut g c = on_err _ (reset_then_cut _ _ _ c.in_ok-send_reset.ensures.reset c.in_err-send_code.ensures.cut)

pub returns-clause-reset : goal.returns-clause-reset
returns-clause-reset g c = reset_then_code _ _ _ c.in_ok-send_reset.ensures.reset c.in_ok-send_code.ensures.scanned
