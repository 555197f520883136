use Rattle.std.proofs.Common.{ap, refl, rules}
use Rattle.debug_model.specs.Ties.{Ties}
use Rattle.jtag_run.proofs.ChainBounds.{stays_on_chain}
use Rattle.jtag_run.proofs.ChainEnds.{on_chain}
use Rattle.jtag_run.proofs.sessions.run_on_chain.Goals as goal

pub returns-clause-ran : goal.returns-clause-ran
returns-clause-ran g c =
    let went = on_chain c.args.plan c.args.bench.now c.run_chain_session-ended.new.wire.bench.now _ c.run_chain_session-ended.new.wire.sides
    c.run_chain_session-ended.new.wire.unread.items c.args.script.now _ _ c.run_chain_session-ended.result c.new-chain.ensures.chain
    (c.run_chain_session-ended.ensures.ran refl refl) c.run_chain_session-ended.ensures.up_to c.run_chain_session-ended.ensures.never in
    search (rules, went)

pub returns-clause-within : goal.returns-clause-within
returns-clause-within g c =
    let went = stays_on_chain c.args.plan c.args.bench.now c.run_chain_session-ended.new.wire.bench.now _ c.run_chain_session-ended.new.wire.sides
    c.run_chain_session-ended.new.wire.unread.items c.args.script.now _ _ c.run_chain_session-ended.result c.new-chain.ensures.chain c.requires.fresh
    c.know_ranges.ensures (c.run_chain_session-ended.ensures.ran refl refl) c.run_chain_session-ended.ensures.rises
    (ap (λ (t : Ties). t.timing) c.run_chain_session-ended.ensures.ties) in
    search (rules, went)
