use Rattle.chain_scan.proofs.Receiving.{err_of_chip, ok_of_chip}
use Rattle.probe_scan.proofs.Received.{bad_cause, err_with, fault_judged}
use Rattle.chain_scan.proofs.chain_scanner.receive.Goals as goal

pub returns-in_err-bits-clause-cause : goal.returns-in_err-bits-clause-cause
returns-in_err-bits-clause-cause g c = err_with _ c.in_err-bits.field-0.0 _ c.from_residual.ensures.1
    (bad_cause c.recv-received.result c.recv-received.new.into _ _ _ _ _ _ _
    (ok_of_chip c.recv-received.result c.recv-received.new.into _ _ c.recv-received.ensures.read)
    (err_of_chip c.recv-received.result c.recv-received.new.into _ _ c.recv-received.ensures.chain)
    c.recv-received.ensures.came c.recv-received.ensures.some c.in_err-bits.ensures.bad)

pub returns-in_err-received-clause-judged : goal.returns-in_err-received-clause-judged
returns-in_err-received-clause-judged g c = err_with _ c.in_err-received.field-0.0 _ c.from_residual-in_err-received.ensures.1
    (fault_judged c.recv-received.new.into c.in_ok-bits.bits _ _ _ c.in_err-received.ensures.some c.in_ok-bits.ensures.bits)
