-- A chip that a feed says is at its limit of events has ended so, alone and in a chain.
use Rattle.std.proofs.Common.{◌≡◌, ◌∙◌, ℕ, ◌+◌, true, List, [], ◌∷◌, Option, Some, None, refl, sym, ap}
use Rattle.debug_model.specs.declared.chip_end.ChipEnd.{ChipEnd}
use Rattle.debug_model.specs.declared.chip_end.ChipEnd.TheVariants.{Quitted, BadByte, AtLimit}
use Rattle.debug_model.specs.Chip.{Live, after, feed}
use Rattle.chain_bench.proofs.AsChip.{ends_as_its_chip}
use Rattle.chain_bench.specs.ChainFed.{chip_in, fed_in}
use Rattle.chain_bench.specs.Benched.{feed_in}
use Rattle.chain_scan.specs.ChipInChain.{seen_bytes}
use Rattle.chain_scan.specs.Told.{ChainLive, chip_live, feed_chain}
use Rattle.chip_core.specs.declared.fed.Fed.{Fed}
use Rattle.chip_core.specs.declared.fed.Fed.TheVariants.{EventLimit}
use Rattle.chip_core.specs.Fed.{fed_from, placed}
use Rattle.chip_core.specs.Feeds.{fed_of, feed_of, is_limit, limit_met}
use Rattle.chip_laws.proofs.StreamLemmas.{takes_nothing}

abbrev with_end : Live → Option ChipEnd → Live
with_end l o = record { chip = l.chip; ended = o }

-- nothing is taken behind an end
stays : (l : Live) (e : ChipEnd) (bytes : List ℕ) → l.ended ≡ Some e → feed l bytes ≡ l
stays l e bytes is = ap (λ o. feed (with_end l o) bytes) is ∙ (takes_nothing l.chip e bytes).chip ∙ ap (λ o. with_end l o) (sym is)

met_by : (o : Option ChipEnd) (l : Live) (bytes : List ℕ) (place p : ℕ) (later : Fed) → l.ended ≡ o → placed o place later ≡ EventLimit p
    → (later ≡ EventLimit p → limit_met (Some (feed l bytes)) ≡ true) → limit_met (Some (feed l bytes)) ≡ true
met_by None l bytes place p later is at rest = rest at
met_by (Some Quitted) l bytes place p later is at rest = absurd (let none : ⊥ = cc in none)
met_by (Some (BadByte b)) l bytes place p later is at rest = absurd (let none : ⊥ = cc in none)
met_by (Some AtLimit) l bytes place p later is at rest = ap (λ (m : Live). is_limit m.ended) (stays l AtLimit bytes is) ∙ ap is_limit is

fed_limit : (place p : ℕ) (l : Live) (bytes : List ℕ) → fed_from place l bytes ≡ EventLimit p → limit_met (Some (feed l bytes)) ≡ true
unfolding fed_from feed
fed_limit place p l [] at = absurd (let none : ⊥ = cc in none)
fed_limit place p l (b ∷ bs) at = met_by (after l b).ended (after l b) bs place p (fed_from (place + 1) (after l b) bs) refl at (fed_limit (place + 1) p (after l b) bs)

pub bench_limit : (bench : Option Live) (p : ℕ) (bytes : List ℕ) → fed_of bench bytes ≡ EventLimit p → limit_met (feed_of bench bytes) ≡ true
bench_limit None p bytes at = absurd (let none : ⊥ = cc in none)
bench_limit (Some l) p bytes at = fed_limit 0 p l bytes at

in_chain : (l : ChainLive) (p : ℕ) (bytes : List ℕ) → fed_in (Some l) bytes ≡ EventLimit p → limit_met (Some (chip_live (feed_chain l bytes))) ≡ true
in_chain l p bytes at =
    let as_chip = ends_as_its_chip l bytes in
    ap (λ m. limit_met (Some m)) as_chip.chip ∙ fed_limit 0 p (chip_live l) (seen_bytes l.chain bytes) (sym as_chip.place ∙ at)

pub chain_limit : (chain : Option ChainLive) (p : ℕ) (bytes : List ℕ) → fed_in chain bytes ≡ EventLimit p → limit_met (chip_in (feed_in chain bytes)) ≡ true
chain_limit None p bytes at = absurd (let none : ⊥ = cc in none)
chain_limit (Some l) p bytes at = in_chain l p bytes at
