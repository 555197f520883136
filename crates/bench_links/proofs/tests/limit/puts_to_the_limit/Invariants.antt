use Rattle.std.proofs.Common.{◌≡◌}
use Rattle.debug_model.specs.Told.{IsOpen}
use Rattle.chip_core.specs.Feeds.{far_of}
use Rattle.bench_links.proofs.tests.limit.puts_to_the_limit.Given as goal

abbrev pub invariant-puts : goal.invariant-puts
invariant-puts l = IsOpen (far_of l.net.bench.now l.net.unread.items) × (l.net.bench.ghost_name ≡ l.fn.net.bench.ghost_name)
