use Rattle.std.proofs.Common.{◌∙◌, ◌≡◌, ap, arith, is_some, rules, true}
use Rattle.std.proofs.lemmas.Grind.{common_steps}
use Rattle.jt_base.proofs.Pieces.{on_err}
use Rattle.probe_scan.proofs.Received.{err_with}
use Rattle.chain_scan.proofs.Combined.{forgotten, front_as, planned_kept, sent_as}
use Rattle.chain_scan.proofs.DataCuts.{data_cause, data_cut, data_lost}
use Rattle.chain_scan.proofs.DataTold.{data_between, data_told, data_waits, still_remembers}
use Rattle.chain_scan.proofs.Kept.{planned_front, planned_read, planned_sent}
use Rattle.chain_scan.proofs.Receiving.{chip_kept}
use Rattle.chain_scan.proofs.chain_scanner.ChainScannerScan.dr.Goals as goal

pub invariant_of-self : goal.invariant_of-self
invariant_of-self g c = record {
  planned = planned_front c.args.self.now.plan c.bytes.result.now _ _ c.args.self.now.planned c.in_err-send.ensures.prefix;
  remembers = forgotten _ _ c.take-remembered.ensures.after;
}

pub returns-in_err-send-clause-cut : goal.returns-in_err-send-clause-cut
returns-in_err-send-clause-cut g c = on_err _
    (data_cut c.args.self.now.plan c.args.bits c.args.self.now.remembered _ _ c.requires.some c.requires.fits c.know.ensures.few
    c.args.self.now.planned c.requires.bypassed c.args.self.now.remembers
    (front_as c.bytes.result.now _ _ _ (c.bytes.ensures.bytes ∙ c.data_batch.ensures) c.in_err-send.ensures.prefix)
    c.requires.callable.free c.requires.callable.idle)

pub receive-requires-clause-waiting : goal.receive-requires-clause-waiting
receive-requires-clause-waiting g c = data_waits c.args.self.now.plan c.args.bits _ (g.W.ChainWire.far c.args.self.now.wire)
    (g.W.ChainWire.far c.send.new.self) (grind (arith, common_steps))
    c.requires.fits (data_between c.args.self.now.plan c.args.bits c.args.self.now.remembered (g.W.ChainWire.far c.args.self.now.wire)
    (g.W.ChainWire.far c.send.new.self) c.requires.some c.requires.fits
    c.args.self.now.planned c.requires.bypassed c.args.self.now.remembers
    (sent_as c.bytes.result.now _ _ _ (c.bytes.ensures.bytes ∙ c.data_batch.ensures) c.in_ok-send.ensures.sent)
    (c.in_ok-send.ensures.live c.bytes.ensures.signs) c.requires.callable.read c.requires.callable.free c.requires.callable.idle)

pub invariant_of-self-in-Break-branch-2 : goal.invariant_of-self-in-Break-branch-2
invariant_of-self-in-Break-branch-2 g c = record {
  planned = planned_kept c.args.self.now.plan (g.W.ChainWire.far c.send.new.self) _ (planned_sent c.args.self.now.plan c.bytes.result.now
      (g.W.ChainWire.far c.args.self.now.wire) (g.W.ChainWire.far c.send.new.self) c.args.self.now.planned c.in_ok-send.ensures.sent)
      c.in_err-out.ensures.kept;
  remembers = forgotten _ _ c.take-remembered.ensures.after;
}

pub returns-in_err-out-clause-cut : goal.returns-in_err-out-clause-cut
returns-in_err-out-clause-cut g c = on_err _ (data_lost c.args.self.now.plan c.args.bits (g.W.ChainWire.far c.args.self.now.wire)
    (g.W.ChainWire.far c.send.new.self) _ c.know.ensures.few
    (data_between c.args.self.now.plan c.args.bits c.args.self.now.remembered (g.W.ChainWire.far c.args.self.now.wire)
    (g.W.ChainWire.far c.send.new.self) c.requires.some c.requires.fits
    c.args.self.now.planned c.requires.bypassed c.args.self.now.remembers
    (sent_as c.bytes.result.now _ _ _ (c.bytes.ensures.bytes ∙ c.data_batch.ensures) c.in_ok-send.ensures.sent)
    (c.in_ok-send.ensures.live c.bytes.ensures.signs) c.requires.callable.read c.requires.callable.free c.requires.callable.idle)
    (chip_kept _ _ c.in_err-out.ensures.kept))

pub returns-in_err-out-clause-cause : goal.returns-in_err-out-clause-cause
returns-in_err-out-clause-cause g c = err_with _ c.in_err-out.field-0.0 _ c.from_residual-in_err-out.ensures.1
    (data_cause c.args.self.now.plan c.args.bits _ (g.W.ChainWire.fault_count c.send.new.self) _ (g.W.ChainWire.far c.args.self.now.wire)
    (g.W.ChainWire.far c.send.new.self) _ _ _ c.in_err-out.field-0.0
    c.in_ok-send.ensures.still c.send.ensures.coming (data_between c.args.self.now.plan c.args.bits c.args.self.now.remembered
    (g.W.ChainWire.far c.args.self.now.wire) (g.W.ChainWire.far c.send.new.self) c.requires.some c.requires.fits
    c.args.self.now.planned c.requires.bypassed c.args.self.now.remembers
    (sent_as c.bytes.result.now _ _ _ (c.bytes.ensures.bytes ∙ c.data_batch.ensures) c.in_ok-send.ensures.sent)
    (c.in_ok-send.ensures.live c.bytes.ensures.signs) c.requires.callable.read c.requires.callable.free c.requires.callable.idle)
    (chip_kept _ _ c.in_err-out.ensures.kept)
    c.in_err-out.ensures.cause)

pub invariant_of-self-2 : goal.invariant_of-self-2
invariant_of-self-2 g c = record {
  planned = planned_read c.args.self.now.plan c.receive.new.into (g.W.ChainWire.far c.send.new.self) _
      (planned_sent c.args.self.now.plan c.bytes.result.now (g.W.ChainWire.far c.args.self.now.wire)
      (g.W.ChainWire.far c.send.new.self) c.args.self.now.planned c.in_ok-send.ensures.sent)
      c.in_ok-out.ensures.read;
  remembers = still_remembers c.args.self.now.remembered c.take-remembered.result (g.W.ChainWire.far c.args.self.now.wire) _
      (data_told c.args.self.now.plan c.args.bits c.in_ok-out.out c.receive.new.into (g.W.ChainWire.far c.args.self.now.wire)
      (g.W.ChainWire.far c.send.new.self) _ c.requires.fits
      c.know.ensures.few (data_between c.args.self.now.plan c.args.bits c.args.self.now.remembered (g.W.ChainWire.far c.args.self.now.wire)
      (g.W.ChainWire.far c.send.new.self) c.requires.some c.requires.fits
      c.args.self.now.planned c.requires.bypassed c.args.self.now.remembers
      (sent_as c.bytes.result.now _ _ _ (c.bytes.ensures.bytes ∙ c.data_batch.ensures) c.in_ok-send.ensures.sent)
      (c.in_ok-send.ensures.live c.bytes.ensures.signs) c.requires.callable.read c.requires.callable.free c.requires.callable.idle)
      c.in_ok-out.ensures.read (grind (arith, common_steps)) c.in_ok-out.ensures.bits).holds
      c.take-remembered.ensures.value c.args.self.now.remembers;
}

pub returns-clause-scanned : goal.returns-clause-scanned
returns-clause-scanned g c = (data_told c.args.self.now.plan c.args.bits c.in_ok-out.out c.receive.new.into (g.W.ChainWire.far c.args.self.now.wire)
    (g.W.ChainWire.far c.send.new.self) _ c.requires.fits
    c.know.ensures.few (data_between c.args.self.now.plan c.args.bits c.args.self.now.remembered (g.W.ChainWire.far c.args.self.now.wire)
    (g.W.ChainWire.far c.send.new.self) c.requires.some c.requires.fits
    c.args.self.now.planned c.requires.bypassed c.args.self.now.remembers
    (sent_as c.bytes.result.now _ _ _ (c.bytes.ensures.bytes ∙ c.data_batch.ensures) c.in_ok-send.ensures.sent)
    (c.in_ok-send.ensures.live c.bytes.ensures.signs) c.requires.callable.read c.requires.callable.free c.requires.callable.idle)
    c.in_ok-out.ensures.read (grind (arith, common_steps)) c.in_ok-out.ensures.bits).scanned

pub returns-clause-keeps : goal.returns-clause-keeps
returns-clause-keeps g c = let d = (data_told c.args.self.now.plan c.args.bits c.in_ok-out.out c.receive.new.into
    (g.W.ChainWire.far c.args.self.now.wire) (g.W.ChainWire.far c.send.new.self) _ c.requires.fits
    c.know.ensures.few (data_between c.args.self.now.plan c.args.bits c.args.self.now.remembered (g.W.ChainWire.far c.args.self.now.wire)
    (g.W.ChainWire.far c.send.new.self) c.requires.some c.requires.fits
    c.args.self.now.planned c.requires.bypassed c.args.self.now.remembers
    (sent_as c.bytes.result.now _ _ _ (c.bytes.ensures.bytes ∙ c.data_batch.ensures) c.in_ok-send.ensures.sent)
    (c.in_ok-send.ensures.live c.bytes.ensures.signs) c.requires.callable.read c.requires.callable.free c.requires.callable.idle)
    c.in_ok-out.ensures.read (grind (arith, common_steps)) c.in_ok-out.ensures.bits) in
    let known : is_some c.take-remembered.result ≡ true = ap is_some c.take-remembered.ensures.value ∙ c.requires.bypassed in
    let r = d.live in let s = d.read in let t = d.free in let u = d.idle in search rules
