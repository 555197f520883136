use Rattle.std.proofs.Common.{◌∙◌, arith, inl, rules}
use Rattle.std.proofs.lemmas.Grind.{common_steps}
use Rattle.jt_base.proofs.Pieces.{on_err}
use Rattle.probe_scan.proofs.Faults.{lost_cut, scan_cause, scan_cut_behind}
use Rattle.probe_scan.proofs.Received.{err_with}
use Rattle.probe_scan.proofs.Scans.{remembers, scan_between, scan_done, waiting}
use Rattle.probe_scan.proofs.scanner.ScannerScan.dr.Goals as goal

pub send-requires-clause-piece : goal.send-requires-clause-piece
send-requires-clause-piece g c = inl c.bytes.ensures.signs

pub returns-in_err-send-clause-cut : goal.returns-in_err-send-clause-cut
returns-in_err-send-clause-cut g c = on_err _ (scan_cut_behind c.bytes.result.now c.args.bits _ _
    (c.bytes.ensures.bytes ∙ c.dr_batch.ensures) c.requires.some c.in_err-send.ensures.prefix c.requires.callable.free c.requires.callable.idle)

pub receive-requires-clause-open : goal.receive-requires-clause-open
receive-requires-clause-open g c = (scan_between c.bytes.result.now c.args.bits _ _
    (c.bytes.ensures.bytes ∙ c.dr_batch.ensures) c.requires.some c.in_ok-send.ensures.sent c.in_ok-send.ensures.live c.bytes.ensures.signs
    c.requires.callable.read c.requires.callable.free c.requires.callable.idle).ready

pub receive-requires-clause-waiting : goal.receive-requires-clause-waiting
receive-requires-clause-waiting g c = waiting c.args.bits _ _ _ (grind (arith, common_steps))
    (scan_between c.bytes.result.now c.args.bits _ _ (c.bytes.ensures.bytes ∙ c.dr_batch.ensures) c.requires.some c.in_ok-send.ensures.sent
    c.in_ok-send.ensures.live c.bytes.ensures.signs c.requires.callable.read c.requires.callable.free c.requires.callable.idle)

pub returns-in_err-out-clause-cut : goal.returns-in_err-out-clause-cut
returns-in_err-out-clause-cut g c = on_err _ (lost_cut c.args.bits _ (g.W.Wire.far c.send.new.self) _
    (scan_between c.bytes.result.now c.args.bits _ _ (c.bytes.ensures.bytes ∙ c.dr_batch.ensures) c.requires.some c.in_ok-send.ensures.sent
    c.in_ok-send.ensures.live c.bytes.ensures.signs c.requires.callable.read c.requires.callable.free c.requires.callable.idle) c.in_err-out.ensures.kept)

pub returns-in_err-out-clause-cause : goal.returns-in_err-out-clause-cause
returns-in_err-out-clause-cause g c = err_with _ c.in_err-out.field-0.0 _ c.from_residual-in_err-out.ensures.1
    (scan_cause c.args.bits _ (g.W.Wire.fault_count c.send.new.self) _ _
    (g.W.Wire.far c.send.new.self) _ _ _ c.in_err-out.field-0.0 c.in_ok-send.ensures.still c.send.ensures.coming
    (scan_between c.bytes.result.now c.args.bits _ _ (c.bytes.ensures.bytes ∙ c.dr_batch.ensures) c.requires.some c.in_ok-send.ensures.sent
    c.in_ok-send.ensures.live c.bytes.ensures.signs c.requires.callable.read c.requires.callable.free c.requires.callable.idle) c.in_err-out.ensures.kept
    c.in_err-out.ensures.cause)

pub invariant_of-self-2 : goal.invariant_of-self-2
invariant_of-self-2 g c = record {
  is_remembered =
      remembers c.args.self.now.remembered _ _ _ (scan_done c.args.bits c.in_ok-out.out c.receive.new.into _ (g.W.Wire.far c.send.new.self) _
      (scan_between c.bytes.result.now c.args.bits _ _ (c.bytes.ensures.bytes ∙ c.dr_batch.ensures) c.requires.some c.in_ok-send.ensures.sent
      c.in_ok-send.ensures.live c.bytes.ensures.signs c.requires.callable.read c.requires.callable.free c.requires.callable.idle) c.in_ok-out.ensures.read
      (grind (arith, common_steps)) c.in_ok-out.ensures.bits).holds (grind (arith, common_steps)) c.args.self.now.is_remembered;
}

pub returns-clause-scanned : goal.returns-clause-scanned
returns-clause-scanned g c = (scan_done c.args.bits c.in_ok-out.out c.receive.new.into _ (g.W.Wire.far c.send.new.self) _
    (scan_between c.bytes.result.now c.args.bits _ _ (c.bytes.ensures.bytes ∙ c.dr_batch.ensures) c.requires.some c.in_ok-send.ensures.sent
    c.in_ok-send.ensures.live c.bytes.ensures.signs c.requires.callable.read c.requires.callable.free c.requires.callable.idle) c.in_ok-out.ensures.read
    (grind (arith, common_steps)) c.in_ok-out.ensures.bits).scanned

pub returns-clause-keeps : goal.returns-clause-keeps
returns-clause-keeps g c = let d = (scan_done c.args.bits c.in_ok-out.out c.receive.new.into _ (g.W.Wire.far c.send.new.self) _
    (scan_between c.bytes.result.now c.args.bits _ _ (c.bytes.ensures.bytes ∙ c.dr_batch.ensures) c.requires.some c.in_ok-send.ensures.sent
    c.in_ok-send.ensures.live c.bytes.ensures.signs c.requires.callable.read c.requires.callable.free c.requires.callable.idle) c.in_ok-out.ensures.read
    (grind (arith, common_steps)) c.in_ok-out.ensures.bits) in
    let r = d.live in let s = d.read in let t = d.free in let u = d.idle in search rules
