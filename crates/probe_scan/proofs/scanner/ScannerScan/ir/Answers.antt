use Rattle.std.proofs.Common.{◌≡◌, ◌∙◌, arith, Some, inl, rules}
use Rattle.std.proofs.lemmas.Grind.{common_steps}
use Rattle.jt_base.proofs.Pieces.{on_err}
use Rattle.probe_scan.proofs.Faults.{ir_cut_behind}
use Rattle.probe_scan.proofs.Scans.{ir_behind, ir_remembered}
use Rattle.probe_scan.proofs.scanner.ScannerScan.ir.Goals as goal

pub returns-then-eq-clause-selected : goal.returns-then-eq-clause-selected
returns-then-eq-clause-selected g c =
    let there : c.args.self.now.remembered ≡ Some c.args.code = grind (arith, common_steps) in
    (ir_remembered c.args.code c.args.self.now.remembered _ there c.args.self.now.is_remembered c.requires.callable.read c.requires.callable.free
    c.requires.callable.idle).selected

pub send-requires-clause-piece : goal.send-requires-clause-piece
send-requires-clause-piece g c = inl c.bytes.ensures.signs

pub returns-in_err-send-clause-cut : goal.returns-in_err-send-clause-cut
returns-in_err-send-clause-cut g c = on_err _ (ir_cut_behind c.bytes.result.now c.args.code _ _
    (c.bytes.ensures.bytes ∙ c.ir_batch.ensures) c.in_err-send.ensures.prefix c.requires.callable.free c.requires.callable.idle)

pub invariant_of-self-2 : goal.invariant_of-self-2
invariant_of-self-2 g c = record {
  is_remembered =
      (ir_behind c.bytes.result.now c.args.code _ _ (c.bytes.ensures.bytes ∙ c.ir_batch.ensures) c.requires.code c.in_ok-send.ensures.sent
      c.in_ok-send.ensures.live c.bytes.ensures.signs c.requires.callable.read c.requires.callable.free c.requires.callable.idle).rests.holds;
}

pub returns-clause-selected : goal.returns-clause-selected
returns-clause-selected g c = (ir_behind c.bytes.result.now c.args.code _ _
    (c.bytes.ensures.bytes ∙ c.ir_batch.ensures) c.requires.code c.in_ok-send.ensures.sent c.in_ok-send.ensures.live c.bytes.ensures.signs
    c.requires.callable.read c.requires.callable.free c.requires.callable.idle).selected

pub returns-clause-keeps : goal.returns-clause-keeps
returns-clause-keeps g c = let r = (ir_behind c.bytes.result.now c.args.code _ _
    (c.bytes.ensures.bytes ∙ c.ir_batch.ensures) c.requires.code c.in_ok-send.ensures.sent c.in_ok-send.ensures.live c.bytes.ensures.signs
    c.requires.callable.read c.requires.callable.free c.requires.callable.idle).rests in search rules
