use Rattle.std.proofs.Common.{◌∙◌, inl, rules}
use Rattle.std.proofs.lemmas.Grind.{common_steps}
use Rattle.std.proofs.Common.{arith}
use Rattle.jt_base.proofs.Pieces.{on_err}
use Rattle.probe_scan.proofs.Idling.{idle_behind, idle_cut_behind}
use Rattle.probe_scan.proofs.Scans.{remembers}
use Rattle.probe_scan.proofs.scanner.ScannerScan.idle.Goals as goal

pub send-requires-clause-piece : goal.send-requires-clause-piece
send-requires-clause-piece g c = inl c.bytes.ensures.signs

pub returns-in_err-send-clause-cut : goal.returns-in_err-send-clause-cut
returns-in_err-send-clause-cut g c = on_err _ (idle_cut_behind c.bytes.result.now c.args.clocks _ _
    (c.bytes.ensures.bytes ∙ c.idle_batch.ensures) c.in_err-send.ensures.prefix c.requires.callable.free c.requires.callable.idle)

pub invariant_of-self-2 : goal.invariant_of-self-2
invariant_of-self-2 g c = record {
  is_remembered =
      remembers c.args.self.now.remembered _ _ _ (idle_behind c.bytes.result.now c.args.clocks _ _
      (c.bytes.ensures.bytes ∙ c.idle_batch.ensures) c.requires.some c.in_ok-send.ensures.sent c.in_ok-send.ensures.live c.bytes.ensures.signs
      c.requires.callable.read c.requires.callable.free c.requires.callable.idle).holds (grind (arith, common_steps)) c.args.self.now.is_remembered;
}

pub returns-clause-passed : goal.returns-clause-passed
returns-clause-passed g c = (idle_behind c.bytes.result.now c.args.clocks _ _
    (c.bytes.ensures.bytes ∙ c.idle_batch.ensures) c.requires.some c.in_ok-send.ensures.sent c.in_ok-send.ensures.live c.bytes.ensures.signs
    c.requires.callable.read c.requires.callable.free c.requires.callable.idle).passed

pub returns-clause-keeps : goal.returns-clause-keeps
returns-clause-keeps g c = let d = (idle_behind c.bytes.result.now c.args.clocks _ _
    (c.bytes.ensures.bytes ∙ c.idle_batch.ensures) c.requires.some c.in_ok-send.ensures.sent c.in_ok-send.ensures.live c.bytes.ensures.signs
    c.requires.callable.read c.requires.callable.free c.requires.callable.idle) in
    let r = d.live in let s = d.read in let t = d.free in let u = d.idle in search rules
