use Rattle.std.proofs.Common.{◌∙◌}
use Rattle.jt_base.proofs.Pieces.{on_err}
use Rattle.chain_scan.proofs.Combined.{forgotten, front_as, sent_as, sums_most}
use Rattle.chain_scan.proofs.Cuts.{code_cut}
use Rattle.chain_scan.proofs.Done.{code_sent}
use Rattle.chain_scan.proofs.Kept.{planned_front, planned_sent}
use Rattle.chain_scan.proofs.chain_scanner.ChainScanner.send_code.Goals as goal

pub invariant_of-self : goal.invariant_of-self
invariant_of-self g c = record {
  planned = planned_front c.args.self.now.plan c.bytes.result.now _ _ c.args.self.now.planned c.in_err-send.ensures.prefix;
  remembers = forgotten _ _ c.requires.forgotten;
}

pub returns-in_err-send-clause-cut : goal.returns-in_err-send-clause-cut
returns-in_err-send-clause-cut g c = on_err _ (code_cut c.args.self.now.plan c.args.code _ _
    (sums_most c.args.self.now.plan.near c.args.self.now.plan.far c.know.ensures)
    (front_as c.bytes.result.now _ _ _ (c.bytes.ensures.bytes ∙ c.code_batch.ensures) c.in_err-send.ensures.prefix) c.requires.callable.free
    c.requires.callable.idle)

pub invariant_of-self-2 : goal.invariant_of-self-2
invariant_of-self-2 g c = record {
  planned = planned_sent c.args.self.now.plan c.bytes.result.now _ _ c.args.self.now.planned c.in_ok-send.ensures.sent;
  remembers = (code_sent c.args.self.now.plan c.args.code (g.W.ChainWire.far c.args.self.now.wire)
      (g.W.ChainWire.far c.send.new.self) c.requires.code c.know.ensures.near_widths c.know.ensures.far_widths
      (sums_most c.args.self.now.plan.near c.args.self.now.plan.far c.know.ensures) c.args.self.now.planned
      (sent_as c.bytes.result.now _ _ _ (c.bytes.ensures.bytes ∙ c.code_batch.ensures) c.in_ok-send.ensures.sent)
      (c.in_ok-send.ensures.live c.bytes.ensures.signs) c.requires.callable.read c.requires.callable.free c.requires.callable.idle).others;
}

pub returns-clause-scanned : goal.returns-clause-scanned
returns-clause-scanned g c = (code_sent c.args.self.now.plan c.args.code (g.W.ChainWire.far c.args.self.now.wire)
    (g.W.ChainWire.far c.send.new.self) c.requires.code c.know.ensures.near_widths c.know.ensures.far_widths
    (sums_most c.args.self.now.plan.near c.args.self.now.plan.far c.know.ensures) c.args.self.now.planned
    (sent_as c.bytes.result.now _ _ _ (c.bytes.ensures.bytes ∙ c.code_batch.ensures) c.in_ok-send.ensures.sent)
    (c.in_ok-send.ensures.live c.bytes.ensures.signs) c.requires.callable.read c.requires.callable.free c.requires.callable.idle).scanned

pub returns-clause-rests : goal.returns-clause-rests
returns-clause-rests g c = let r = (code_sent c.args.self.now.plan c.args.code (g.W.ChainWire.far c.args.self.now.wire)
    (g.W.ChainWire.far c.send.new.self) c.requires.code c.know.ensures.near_widths c.know.ensures.far_widths
    (sums_most c.args.self.now.plan.near c.args.self.now.plan.far c.know.ensures) c.args.self.now.planned
    (sent_as c.bytes.result.now _ _ _ (c.bytes.ensures.bytes ∙ c.code_batch.ensures) c.in_ok-send.ensures.sent)
    (c.in_ok-send.ensures.live c.bytes.ensures.signs) c.requires.callable.read c.requires.callable.free c.requires.callable.idle).rests in
    record { live = r.live; read = r.read; free = r.free; idle = r.idle }
