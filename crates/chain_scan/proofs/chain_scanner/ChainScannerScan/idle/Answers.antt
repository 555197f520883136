use Rattle.std.proofs.Common.{◌∙◌, ◌≡◌, ap, is_some, rules, true}
use Rattle.jt_base.proofs.Pieces.{on_err}
use Rattle.chain_scan.proofs.Combined.{forgotten, front_as, idle_sent, sent_as}
use Rattle.chain_scan.proofs.Cuts.{idle_cut}
use Rattle.chain_scan.proofs.DataTold.{still_remembers}
use Rattle.chain_scan.proofs.Kept.{planned_front, planned_sent}
use Rattle.chain_scan.proofs.chain_scanner.ChainScannerScan.idle.Goals as goal

pub invariant_of-self : goal.invariant_of-self
invariant_of-self g c = record {
  planned = planned_front c.args.self.now.plan c.bytes.result.now _ _ c.args.self.now.planned c.in_err-send.ensures.prefix;
  remembers = forgotten _ _ c.take-remembered.ensures.after;
}

pub returns-in_err-send-clause-cut : goal.returns-in_err-send-clause-cut
returns-in_err-send-clause-cut g c = on_err _ (idle_cut c.args.clocks _ _
    (front_as c.bytes.result.now _ _ _ (c.bytes.ensures.bytes ∙ c.idle_batch.ensures) c.in_err-send.ensures.prefix)
    c.requires.callable.free c.requires.callable.idle)

pub invariant_of-self-2 : goal.invariant_of-self-2
invariant_of-self-2 g c = record {
  planned = planned_sent c.args.self.now.plan c.bytes.result.now _ _ c.args.self.now.planned c.in_ok-send.ensures.sent;
  remembers = still_remembers c.args.self.now.remembered c.take-remembered.result (g.W.ChainWire.far c.args.self.now.wire)
      (g.W.ChainWire.far c.send.new.self) (idle_sent c.args.clocks c.args.self.now.plan (g.W.ChainWire.far c.args.self.now.wire)
      (g.W.ChainWire.far c.send.new.self) c.requires.some c.args.self.now.planned
      (sent_as c.bytes.result.now _ _ _ (c.bytes.ensures.bytes ∙ c.idle_batch.ensures) c.in_ok-send.ensures.sent)
      (c.in_ok-send.ensures.live c.bytes.ensures.signs) c.requires.callable.read c.requires.callable.free c.requires.callable.idle).holds
      c.take-remembered.ensures.value c.args.self.now.remembers;
}

pub returns-clause-passed : goal.returns-clause-passed
returns-clause-passed g c = (idle_sent c.args.clocks c.args.self.now.plan (g.W.ChainWire.far c.args.self.now.wire)
    (g.W.ChainWire.far c.send.new.self) c.requires.some c.args.self.now.planned
    (sent_as c.bytes.result.now _ _ _ (c.bytes.ensures.bytes ∙ c.idle_batch.ensures) c.in_ok-send.ensures.sent)
    (c.in_ok-send.ensures.live c.bytes.ensures.signs) c.requires.callable.read c.requires.callable.free c.requires.callable.idle).passed

pub returns-clause-keeps : goal.returns-clause-keeps
returns-clause-keeps g c = let d = (idle_sent c.args.clocks c.args.self.now.plan (g.W.ChainWire.far c.args.self.now.wire)
    (g.W.ChainWire.far c.send.new.self) c.requires.some c.args.self.now.planned
    (sent_as c.bytes.result.now _ _ _ (c.bytes.ensures.bytes ∙ c.idle_batch.ensures) c.in_ok-send.ensures.sent)
    (c.in_ok-send.ensures.live c.bytes.ensures.signs) c.requires.callable.read c.requires.callable.free c.requires.callable.idle).rests in
    let known : is_some c.take-remembered.result ≡ true = ap is_some c.take-remembered.ensures.value ∙ c.requires.bypassed in
    let r = d.live in let s = d.read in let t = d.free in let u = d.idle in search rules
