use Rattle.jtag_net.proofs.Stores.{kept_front}
use Rattle.jtag_net.proofs.memory_net.MemoryNetNet.put.Goals as goal

pub returns-then-not-keep_at-clause-front : goal.returns-then-not-keep_at-clause-front
returns-then-not-keep_at-clause-front c = kept_front _ _ _ _ _ _ c.begin.ensures.store c.keep_at.ensures.store c.fail-then-not-keep_at.ensures.store
    c.requires.open
