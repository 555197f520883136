-- What a wire keeps of its bench's schedule, whatever was fed.
use Rattle.std.proofs.Common.{◌≡◌, ℕ, List, [], Option, Some, None, refl, ap, ◌∙◌}
use Rattle.debug_model.specs.Chip.{Live}
use Rattle.debug_model.specs.Offered.{Timing}
use Rattle.debug_model.specs.Ties.{no_net, ties_told, timing_told}
use Rattle.chip_laws.proofs.Timing.{feed_timing}
use Rattle.chip_core.specs.Feeds.{far_of, feed_of}

pub fed_timing : (bench : Option Live) (bytes unread items : List ℕ) → timing_told (far_of (feed_of bench bytes) items) ≡ timing_told (far_of bench unread)
fed_timing None bytes unread items = refl
fed_timing (Some l) bytes unread items = ap (λ (t : Timing). Some t) (feed_timing l bytes)

pub fed_ties : (bench new : Option Live) (bytes unread items : List ℕ) → new ≡ feed_of bench bytes
    → ties_told (far_of new items) ≡ ties_told (far_of bench unread)
fed_ties bench new bytes unread items is =
    ap (λ b. ties_told (far_of b items)) is ∙ ap (λ t. record { lenders = []; net = no_net; timing = t; began = None }) (fed_timing bench bytes unread items)

pub read_ties : (bench : Option Live) (unread items : List ℕ) → ties_told (far_of bench items) ≡ ties_told (far_of bench unread)
read_ties None unread items = refl
read_ties (Some l) unread items = refl
