use Rattle.std.proofs.Common.{◌∙◌, inl, rules}
use Rattle.jt_base.proofs.Pieces.{on_err}
use Rattle.probe_scan.proofs.Faults.{reset_cut_behind}
use Rattle.probe_scan.proofs.Scans.{reset_behind}
use Rattle.probe_scan.proofs.scanner.ScannerScan.reset.Goals as goal

pub send-requires-clause-piece : goal.send-requires-clause-piece
send-requires-clause-piece g c = inl c.bytes.ensures.signs

pub returns-in_err-send-clause-cut : goal.returns-in_err-send-clause-cut
returns-in_err-send-clause-cut g c = on_err _ (reset_cut_behind c.bytes.result.now _ _
    (c.bytes.ensures.bytes ∙ c.reset_batch.ensures) c.in_err-send.ensures.prefix c.requires.callable.free)

pub invariant_of-self-2 : goal.invariant_of-self-2
invariant_of-self-2 g c = record {
  is_remembered =
      (reset_behind c.bytes.result.now _ _ (c.bytes.ensures.bytes ∙ c.reset_batch.ensures) c.in_ok-send.ensures.sent c.in_ok-send.ensures.live
      c.bytes.ensures.signs c.requires.callable.read c.requires.callable.free).rests.holds;
}

pub returns-clause-reset : goal.returns-clause-reset
returns-clause-reset g c = (reset_behind c.bytes.result.now _ _
    (c.bytes.ensures.bytes ∙ c.reset_batch.ensures) c.in_ok-send.ensures.sent c.in_ok-send.ensures.live c.bytes.ensures.signs c.requires.callable.read
    c.requires.callable.free).reset

pub returns-clause-keeps : goal.returns-clause-keeps
returns-clause-keeps g c = let r = (reset_behind c.bytes.result.now _ _
    (c.bytes.ensures.bytes ∙ c.reset_batch.ensures) c.in_ok-send.ensures.sent c.in_ok-send.ensures.live c.bytes.ensures.signs c.requires.callable.read
    c.requires.callable.free).rests in search rules
