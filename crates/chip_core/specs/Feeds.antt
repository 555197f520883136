-- What a bench is before and after bytes are fed to it. A bench is blank, or it has a chip, with what ended that chip where something did.
-- The chip itself and the fold of the stream's bytes are debug_model's.
use Rattle.std.specs.Prelude.{ℕ, List, [], Bool, true, false, Option, Some, None, option_map}
use Rattle.rv_model.specs.Board.{Hart}
use Rattle.rv_model.specs.Memory.{Memory}
use Rattle.debug_model.specs.declared.chip_end.ChipEnd.{ChipEnd}
use Rattle.debug_model.specs.declared.chip_end.ChipEnd.TheVariants.{Quitted, BadByte, AtLimit}
use Rattle.debug_model.specs.declared.counts.Counts.{Counts}
use Rattle.debug_model.specs.declared.point.Point.{Point}
use Rattle.debug_model.specs.Chip.{Live, feed, no_counts, said}
use Rattle.debug_model.specs.Module.{Site}
use Rattle.debug_model.specs.Told.{Far}
use Rattle.debug_model.specs.declared.wire.WireFault.{WireFault}
use Rattle.debug_model.specs.declared.wire.WireFault.TheVariants.{SendFailed, RecvFailed, Ended, BadAnswer}
use Rattle.chip_core.specs.declared.fed.Fed.{Fed}
use Rattle.chip_core.specs.declared.fed.Fed.TheVariants.{All}
use Rattle.chip_core.specs.Fed.{fed}

abbrev pub feed_of : Option Live → List ℕ → Option Live
feed_of bench bytes = option_map (λ l. feed l bytes) bench

abbrev pub said_of : Option Live → List ℕ → List ℕ
said_of None bytes = []
said_of (Some l) bytes = said l bytes

abbrev pub fed_of : Option Live → List ℕ → Fed
fed_of None bytes = All
fed_of (Some l) bytes = fed l bytes

-- ---- views

-- has it met its limit?
abbrev pub is_limit : Option ChipEnd → Bool
is_limit None = false
is_limit (Some Quitted) = false
is_limit (Some (BadByte byte)) = false
is_limit (Some AtLimit) = true

abbrev pub limit_met : Option Live → Bool
limit_met None = false
limit_met (Some l) = is_limit l.ended

abbrev pub site_of : Live → Site
site_of l = l.chip.inside.works.site

-- a blank bench has no harts, and nothing was noted or counted
abbrev pub harts_of : Option Live → List Hart
harts_of None = []
harts_of (Some l) = (site_of l).board.harts

abbrev pub journal_of : Option Live → List Point
journal_of None = []
journal_of (Some l) = (site_of l).journal

abbrev pub counts_of : Option Live → Counts
counts_of None = no_counts
counts_of (Some l) = l.chip.inside.works.counts

abbrev pub memory_of : Option Live → Option Memory
memory_of bench = option_map (λ l. (site_of l).board.memory) bench

-- what a wire to the bench tells: its chip, and the answers that it holds
abbrev pub far_of : Option Live → List ℕ → Option Far
far_of bench unread = option_map (λ l. record { live = l; unread = unread }) bench

-- beside the chip it tells no answers that are to come
abbrev pub nothing_coming : Option (List ℕ)
nothing_coming = None

-- the faults that a wire to the bench may answer
abbrev pub bench_gives : WireFault → Bool
bench_gives SendFailed = false
bench_gives RecvFailed = false
bench_gives Ended = true
bench_gives (BadAnswer _) = false
