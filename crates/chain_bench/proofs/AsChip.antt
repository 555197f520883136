-- A chain ends as its chip does under the same bytes with another TDI.
use Rattle.std.proofs.Common.{◌≡◌, ◌∙◌, ◌+◌, ℕ, List, [], ◌∷◌, Option, Some, None, refl, sym, ap, ap₂}
use Rattle.debug_model.specs.declared.chip_end.ChipEnd.{ChipEnd}
use Rattle.debug_model.specs.declared.sign.Sign.{Sign}
use Rattle.debug_model.specs.declared.sign.Sign.TheVariants.{Pins, Ask, Light, Reset, Quit}
use Rattle.debug_model.specs.Chip.{Chip, Live, after, end_of, feed, run, signed, taken_by, unless_ended}
use Rattle.debug_model.specs.Signs.{sign_of}
use Rattle.chip_core.specs.Fed.{fed_from, placed}
use Rattle.chip_core.specs.declared.fed.Fed.{Fed}
use Rattle.chain_scan.specs.Chain.{Chain, chain_signed, outgoing, run_chain}
use Rattle.chain_scan.specs.ChipInChain.{levels_byte, seen_byte, seen_bytes}
use Rattle.chain_scan.specs.Told.{ChainLive, chain_after, chain_taken_by, chip_live, feed_chain}
use Rattle.chain_scan.proofs.ChipInChain.{chip_sees_another_tdi, levels_sign}
use Rattle.chain_bench.specs.ChainFed.{ChainEndsAsItsChip, fed_chain_from}

abbrev living : Chain → ChainLive
living c = record { chain = c; ended = None }

abbrev dead : Chain → ChipEnd → ChainLive
dead c e = record { chain = c; ended = Some e }

-- ---- one byte

seen_signed : (b : ℕ) (c : Chain) → (chain_signed (sign_of b) c).chip ≡ signed (sign_of (seen_byte (sign_of b) b c)) c.chip
unfolding run run_chain
seen_signed b c = chip_sees_another_tdi c (b ∷ [])

end_seen : (s : Option Sign) (b : ℕ) (c : Chain) → sign_of b ≡ s
    → end_of b s c.chip ≡ end_of (seen_byte s b c) (sign_of (seen_byte s b c)) c.chip
end_seen (Some (Pins tck tms tdi)) b c is =
    ap (λ z. end_of (levels_byte tck tms (outgoing tdi c.far)) z c.chip) (sym (levels_sign tck tms (outgoing tdi c.far)))
end_seen (Some Ask) b c is = ap (λ z. end_of b z c.chip) (sym is)
end_seen (Some Light) b c is = ap (λ z. end_of b z c.chip) (sym is)
end_seen (Some (Reset trst)) b c is = ap (λ z. end_of b z c.chip) (sym is)
end_seen (Some Quit) b c is = ap (λ z. end_of b z c.chip) (sym is)
end_seen None b c is = ap (λ z. end_of b z c.chip) (sym is)

taken_alike : (o : Option ChipEnd) (next c : Chain) → chip_live (chain_taken_by o next c) ≡ taken_by o next.chip c.chip
taken_alike None next c = refl
taken_alike (Some e) next c = refl

after_alike : (b : ℕ) (c : Chain) → chip_live (chain_after (living c) b) ≡ after (chip_live (living c)) (seen_byte (sign_of b) b c)
after_alike b c =
    taken_alike (end_of b (sign_of b) c.chip) (chain_signed (sign_of b) c) c
    ∙ ap₂ (λ o d. taken_by o d c.chip) (end_seen (sign_of b) b c refl) (seen_signed b c)

-- ---- behind an end

feed_dead : (c : Chip) (e : ChipEnd) (bytes : List ℕ) → feed (record { chip = c; ended = Some e }) bytes ≡ record { chip = c; ended = Some e }
unfolding feed
feed_dead c e [] = refl
feed_dead c e (b ∷ bs) = feed_dead c e bs

chain_dead : (c : Chain) (e : ChipEnd) (bytes : List ℕ) → feed_chain (dead c e) bytes ≡ dead c e
unfolding feed_chain
chain_dead c e [] = refl
chain_dead c e (b ∷ bs) = chain_dead c e bs

-- ---- all bytes

-- the rest, by what the byte before it left of the chain
chip_rest : (o : Option ChipEnd) (next c : Chain) (bytes : List ℕ)
    → chip_live (feed_chain (living next) bytes) ≡ feed (chip_live (living next)) (seen_bytes next bytes)
    → chip_live (feed_chain (chain_taken_by o next c) bytes) ≡ feed (chip_live (chain_taken_by o next c)) (seen_bytes next bytes)
chip_rest None next c bytes goes_on = goes_on
chip_rest (Some e) next c bytes goes_on = ap chip_live (chain_dead c e bytes) ∙ sym (feed_dead c.chip e (seen_bytes next bytes))

chip_living : (c : Chain) (bytes : List ℕ) → chip_live (feed_chain (living c) bytes) ≡ feed (chip_live (living c)) (seen_bytes c bytes)
unfolding feed_chain feed
chip_living c [] = refl
chip_living c (b ∷ bs) =
    chip_rest (end_of b (sign_of b) c.chip) (chain_signed (sign_of b) c) c bs (chip_living (chain_signed (sign_of b) c) bs)
    ∙ ap (λ l. feed l (seen_bytes (chain_signed (sign_of b) c) bs)) (after_alike b c)

place_rest : (o : Option ChipEnd) (place : ℕ) (next c : Chain) (bytes : List ℕ)
    → fed_chain_from (place + 1) (living next) bytes ≡ fed_from (place + 1) (chip_live (living next)) (seen_bytes next bytes)
    → placed (chain_taken_by o next c).ended place (fed_chain_from (place + 1) (chain_taken_by o next c) bytes)
    ≡ placed (chip_live (chain_taken_by o next c)).ended place (fed_from (place + 1) (chip_live (chain_taken_by o next c)) (seen_bytes next bytes))
place_rest None place next c bytes goes_on = goes_on
place_rest (Some e) place next c bytes goes_on = refl

place_living : (place : ℕ) (c : Chain) (bytes : List ℕ)
    → fed_chain_from place (living c) bytes ≡ fed_from place (chip_live (living c)) (seen_bytes c bytes)
unfolding fed_chain_from fed_from
place_living place c [] = refl
place_living place c (b ∷ bs) =
    place_rest (end_of b (sign_of b) c.chip) place (chain_signed (sign_of b) c) c bs (place_living (place + 1) (chain_signed (sign_of b) c) bs)
    ∙ ap (λ (l : Live). placed l.ended place (fed_from (place + 1) l (seen_bytes (chain_signed (sign_of b) c) bs))) (after_alike b c)

chip_dead : (c : Chain) (e : ChipEnd) (bytes : List ℕ) → chip_live (feed_chain (dead c e) bytes) ≡ feed (chip_live (dead c e)) (seen_bytes c bytes)
chip_dead c e bytes = ap chip_live (chain_dead c e bytes) ∙ sym (feed_dead c.chip e (seen_bytes c bytes))

place_dead : (place : ℕ) (c : Chain) (e : ChipEnd) (bytes : List ℕ)
    → fed_chain_from place (dead c e) bytes ≡ fed_from place (chip_live (dead c e)) (seen_bytes c bytes)
unfolding fed_chain_from fed_from
place_dead place c e [] = refl
place_dead place c e (b ∷ bs) = refl

chip_alike : (c : Chain) (o : Option ChipEnd) (bytes : List ℕ)
    → chip_live (feed_chain (record { chain = c; ended = o }) bytes) ≡ feed (record { chip = c.chip; ended = o }) (seen_bytes c bytes)
chip_alike c None bytes = chip_living c bytes
chip_alike c (Some e) bytes = chip_dead c e bytes

place_alike : (c : Chain) (o : Option ChipEnd) (bytes : List ℕ)
    → fed_chain_from 0 (record { chain = c; ended = o }) bytes ≡ fed_from 0 (record { chip = c.chip; ended = o }) (seen_bytes c bytes)
place_alike c None bytes = place_living 0 c bytes
place_alike c (Some e) bytes = place_dead 0 c e bytes

pub ends_as_its_chip : ChainEndsAsItsChip
ends_as_its_chip l bytes = record { chip = chip_alike l.chain l.ended bytes; place = place_alike l.chain l.ended bytes }
