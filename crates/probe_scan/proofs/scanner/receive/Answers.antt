use Rattle.probe_scan.proofs.Received.{bad_cause, err_with, fault_cause, fault_judged, wire_own}
use Rattle.probe_scan.proofs.scanner.receive.Goals as goal

pub returns-in_err-bits-clause-cause : goal.returns-in_err-bits-clause-cause
returns-in_err-bits-clause-cause g c = err_with _ c.in_err-bits.field-0.0 _ c.from_residual.ensures.1
    (bad_cause c.recv-received.result c.recv-received.new.into _ _ _ _ _ _ _ c.recv-received.ensures.read c.recv-received.ensures.chip
    c.recv-received.ensures.came c.recv-received.ensures.some c.in_err-bits.ensures.bad)

pub returns-in_err-received-clause-judged : goal.returns-in_err-received-clause-judged
returns-in_err-received-clause-judged g c = err_with _ c.in_err-received.field-0.0 _ c.from_residual-in_err-received.ensures.1
    (fault_judged c.recv-received.new.into c.in_ok-bits.bits _ _ _ c.in_err-received.ensures.some c.in_ok-bits.ensures.bits)

pub returns-in_err-received-clause-cause : goal.returns-in_err-received-clause-cause
returns-in_err-received-clause-cause g c = err_with _ c.in_err-received.field-0.0 _ c.from_residual-in_err-received.ensures.1
    (fault_cause _ _ _ _ _ _ c.in_err-received.ensures.cause)

pub returns-in_err-received-clause-own : goal.returns-in_err-received-clause-own
returns-in_err-received-clause-own g c = err_with _ c.in_err-received.field-0.0 _ c.from_residual-in_err-received.ensures.1
    (wire_own g.W.Wire.gives c.in_err-received.field-0.0 c.in_err-received.ensures.own)
