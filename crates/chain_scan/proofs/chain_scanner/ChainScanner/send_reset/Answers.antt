use Rattle.std.proofs.Common.{◌∙◌}
use Rattle.debug_model.specs.Scan.{reset_bytes}
use Rattle.jt_base.proofs.Pieces.{on_err}
use Rattle.chain_scan.proofs.Combined.{forgotten, front_as, planned_either, sent_as}
use Rattle.chain_scan.proofs.Cuts.{reset_cut}
use Rattle.chain_scan.proofs.Done.{reset_done}
use Rattle.chain_scan.proofs.chain_scanner.ChainScanner.send_reset.Goals as goal

pub invariant_of-self : goal.invariant_of-self
invariant_of-self g c = record {
  planned = planned_either c.args.self.now.plan c.bytes.result.now c.send.result _ _ c.args.self.now.planned c.send.ensures.sent c.send.ensures.prefix;
  remembers = forgotten _ _ c.requires.forgotten;
}

pub returns-in_err-send-clause-cut : goal.returns-in_err-send-clause-cut
returns-in_err-send-clause-cut g c = on_err _ (reset_cut _ _
    (front_as c.bytes.result.now reset_bytes _ _ (c.bytes.ensures.bytes ∙ c.reset_batch.ensures) c.in_err-send.ensures.prefix) c.requires.callable.free)

pub returns-clause-reset : goal.returns-clause-reset
returns-clause-reset g c = (reset_done (g.W.ChainWire.far c.args.self.now.wire) (g.W.ChainWire.far c.send.new.self)
    (sent_as c.bytes.result.now reset_bytes _ _ (c.bytes.ensures.bytes ∙ c.reset_batch.ensures) c.in_ok-send.ensures.sent)
    (c.in_ok-send.ensures.live c.bytes.ensures.signs) c.requires.callable.read c.requires.callable.free).reset

pub returns-clause-rests : goal.returns-clause-rests
returns-clause-rests g c = let r = (reset_done (g.W.ChainWire.far c.args.self.now.wire) (g.W.ChainWire.far c.send.new.self)
    (sent_as c.bytes.result.now reset_bytes _ _ (c.bytes.ensures.bytes ∙ c.reset_batch.ensures) c.in_ok-send.ensures.sent)
    (c.in_ok-send.ensures.live c.bytes.ensures.signs) c.requires.callable.read c.requires.callable.free).rests in
    record { live = r.live; read = r.read; free = r.free; idle = r.idle }
