-- The end of a stream to a chain, as its chip sees it: `Q` ends it and does nothing else.
use Rattle.std.proofs.Common.{◌≡◌, ◌∙◌, ◌++◌, ℕ, List, [], ◌∷◌, Option, Some, None, option_map, refl, sym, ap, subst}
use Rattle.debug_model.specs.declared.chip_end.ChipEnd.{ChipEnd}
use Rattle.debug_model.specs.Chip.{feed, said}
use Rattle.debug_model.specs.Wire.{SentFront, sent}
use Rattle.chain_scan.specs.Chain.{Chain}
use Rattle.chain_scan.specs.Told.{ChainFar, ChainSentFront, chain_sent, chip_far, chip_told, feed_chain, said_in_chain}
use Rattle.wire_session.specs.Closing.{quit}

quits_at : (c : Chain) (ended : Option ChipEnd) (unread : List ℕ)
    → chip_far (chain_sent quit (record { live = record { chain = c; ended = ended }; unread = unread }))
    ≡ sent quit (chip_far (record { live = record { chain = c; ended = ended }; unread = unread }))
unfolding feed_chain said_in_chain feed said
quits_at c None unread = refl
quits_at c (Some end) unread = refl

quits : (f : ChainFar) → chip_far (chain_sent quit f) ≡ sent quit (chip_far f)
quits f = quits_at f.live.chain f.live.ended f.unread

rests : (f : ChainFar) → chip_far (chain_sent [] f) ≡ sent [] (chip_far f)
unfolding feed_chain said_in_chain feed said
rests f = refl

quits_front : (f : ChainFar) (front back : List ℕ) → quit ≡ front ++ back → chip_far (chain_sent front f) ≡ sent front (chip_far f)
quits_front f [] back cut = rests f
quits_front f (b ∷ []) back cut =
    let same : b ≡ 81 = cc in
    subst (λ x. chip_far (chain_sent (x ∷ []) f) ≡ sent (x ∷ []) (chip_far f)) (sym same) (quits f)
quits_front f (b ∷ c ∷ more) back cut = absurd (let none : ⊥ = cc in none)

-- it was sent
pub chip_quits : (old new : Option ChainFar) → new ≡ option_map (chain_sent quit) old → chip_told new ≡ option_map (sent quit) (chip_told old)
chip_quits None new is = ap chip_told is
chip_quits (Some f) new is = ap chip_told is ∙ ap Some (quits f)

-- it was not sent, or not known to be
pub chip_quits_front : (old new : Option ChainFar) → ChainSentFront quit old new → SentFront quit (chip_told old) (chip_told new)
chip_quits_front None new none = ap chip_told none
chip_quits_front (Some f) new some = (some.0, some.1, some.2, ap chip_told some.3 ∙ ap Some (quits_front f some.0 some.1 some.2))
