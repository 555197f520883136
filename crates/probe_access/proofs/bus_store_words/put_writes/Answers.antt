use Rattle.std.proofs.Common.{arith}
use Rattle.probe_access.proofs.BusStoreCalls.{element_are_puts}
use Rattle.probe_access.proofs.bus_store_words.put_writes.Goals as goal

pub returns-then-high_word-upper-clause-puts : goal.returns-then-high_word-upper-clause-puts
returns-then-high_word-upper-clause-puts c = element_are_puts c.args.upper c.args.value (omega arith)

pub returns-clause-puts : goal.returns-clause-puts
returns-clause-puts c = element_are_puts c.args.upper c.args.value (omega arith)
