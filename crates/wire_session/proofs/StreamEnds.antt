-- The end of a stream, over plain variables: `Q` ends the chip and changes nothing else of it.
use Rattle.std.proofs.Common.{◌≡◌, ◌∙◌, ◌++◌, ℕ, true, List, [], ◌∷◌, Option, Some, None, option_map, refl, sym, ap, subst}
use Rattle.debug_model.specs.declared.chip_end.ChipEnd.{ChipEnd}
use Rattle.debug_model.specs.declared.wire.WireFault.{WireFault}
use Rattle.debug_model.specs.Chip.{Chip, feed}
use Rattle.debug_model.specs.Dmi.{CanQuit}
use Rattle.debug_model.specs.Offered.{timing_of}
use Rattle.debug_model.specs.Ties.{Ties, timing_told}
use Rattle.debug_model.specs.Told.{Far, chip_of}
use Rattle.debug_model.specs.Wire.{SentFront, sent}
use Rattle.probe_session.specs.declared.ended.Ended.{Ended as End}
use Rattle.probe_session.specs.declared.ended.Ended.TheVariants as ends
use Rattle.probe_session.specs.Causes.{SinkCaused}
use Rattle.wire_session.specs.Closing.{Closes, quit, sends_quit, unclosed}
use Rattle.wire_session.specs.Closing.Closes.{behind_fault, quitted, unquitted}
use Rattle.wire_session.specs.Seen.{WireSeen}
use Rattle.wire_session.specs.Session.{LeavesWire}
use Rattle.wire_session.specs.WireSession.{IsTimed}

pub can_quit : (far : Option Far) (e : End) → sends_quit e ≡ true → LeavesWire far e → CanQuit far
can_quit far ends.Clean sends left = left
can_quit far ends.WithErrors sends left = left
can_quit far (ends.Target fault) sends left = left
can_quit far (ends.Wire why) sends left = absurd (let none : ⊥ = cc in none)
can_quit far (ends.Lost why) sends left = left
can_quit far ends.Sink sends left = left

-- ---- the chip

quits_at : (c : Chip) (ended : Option ChipEnd) → (feed (record { chip = c; ended = ended }) quit).chip ≡ c
unfolding feed
quits_at c None = refl
quits_at c (Some end) = refl

pub sent_chip : (f : Far) → chip_of (sent quit f) ≡ chip_of f
sent_chip f = quits_at f.live.chip f.live.ended

unsent_chip : (f : Far) → chip_of (sent [] f) ≡ chip_of f
unfolding feed
unsent_chip f = refl

pub front_chip : (f : Far) (front back : List ℕ) → quit ≡ front ++ back → chip_of (sent front f) ≡ chip_of f
front_chip f [] back cut = unsent_chip f
front_chip f (b ∷ []) back cut = let same : b ≡ 81 = cc in ap (λ x. chip_of (sent (x ∷ []) f)) same ∙ sent_chip f
front_chip f (b ∷ c ∷ more) back cut = absurd (let none : ⊥ = cc in none)

sent_timing : (mid : Option Far) → timing_told (option_map (sent quit) mid) ≡ timing_told mid
sent_timing None = refl
sent_timing (Some f) = ap (λ c. Some (timing_of c)) (sent_chip f)

front_timing : (mid new : Option Far) → SentFront quit mid new → timing_told new ≡ timing_told mid
front_timing None new none = ap timing_told none
front_timing (Some f) new some = ap timing_told some.3 ∙ ap (λ c. Some (timing_of c)) (front_chip f some.0 some.1 some.2)

closes_timing : (mid new : WireSeen) (end closed : End) → Closes mid new end closed → timing_told new.far ≡ timing_told mid.far
closes_timing mid new end closed (behind_fault sends is same) = ap (λ (w : WireSeen). timing_told w.far) same
closes_timing mid new end closed (quitted sends is done) = ap timing_told done.far ∙ sent_timing mid.far
closes_timing mid new end closed (unquitted why sends is done) = front_timing mid.far new.far done.far

-- what stays of a told chip's schedule is what the ties of the wire keep
pub timing_kept : (was is : Ties) (old mid new : WireSeen) (end closed : End) → is ≡ was → IsTimed was old.far → IsTimed is new.far → Closes mid new end closed
    → timing_told mid.far ≡ timing_told old.far
timing_kept was is old mid new end closed same before behind closes =
    sym (closes_timing mid new end closed closes) ∙ sym behind ∙ ap (λ (t : Ties). t.timing) same ∙ before

-- ---- a line that could not be written

unclosed_sink : (a b : ℕ) (why : WireFault) (e : End) → SinkCaused a b e → SinkCaused a b (unclosed why e)
unclosed_sink a b why ends.Clean caused = tt
unclosed_sink a b why ends.WithErrors caused = tt
unclosed_sink a b why (ends.Target fault) caused = tt
unclosed_sink a b why (ends.Wire first) caused = tt
unclosed_sink a b why (ends.Lost cause) caused = tt
unclosed_sink a b why ends.Sink caused = caused

pub closes_sink : (a b : ℕ) (mid last : WireSeen) (e closed : End) → SinkCaused a b e → Closes mid last e closed → SinkCaused a b closed
closes_sink a b mid last e closed caused (behind_fault sends same kept) = subst (SinkCaused a b) (sym same) caused
closes_sink a b mid last e closed caused (quitted sends same done) = subst (SinkCaused a b) (sym same) caused
closes_sink a b mid last e closed caused (unquitted why sends same done) = subst (SinkCaused a b) (sym same) (unclosed_sink a b why e caused)
