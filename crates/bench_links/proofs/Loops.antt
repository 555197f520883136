-- What a wire through a joined net tells and counts, from what crossed the net.
use Rattle.std.proofs.Common.{◌≡◌, ℕ, ◌<◌, ◌≤◌, List, [], ◌∷◌, ◌++◌, replicate, Option, None, Some, IsSome, option_map, refl, sym, ap, subst, ◌∙◌, arith}
use Rattle.std.specs.Borrow.{GName}
use Rattle.jt_base.specs.Faults.{Rises}
use Rattle.debug_model.specs.Chip.{Live, feed, said}
use Rattle.debug_model.specs.Net.{NetState}
use Rattle.debug_model.specs.Offered.{Timing}
use Rattle.debug_model.specs.Ties.{Began, NetTies, Ties, timing_told}
use Rattle.debug_model.specs.Told.{IsRead}
use Rattle.debug_model.specs.Wire.{ReadsFront, ReadsSome, SentFront, no_answer, sent}
use Rattle.debug_model.proofs.WireLemmas.{none_came}
use Rattle.chip_core.proofs.Timed.{fed_timing}
use Rattle.chip_core.specs.Feeds.{far_of, feed_of, said_of}
use Rattle.bench_links.specs.Looped.{FedFront, loop_ties, looped}

-- ---- what is told

none_unread : (bench : Option Live) (unread : List ℕ) → IsSome bench → IsRead (far_of bench unread) → unread ≡ []
none_unread None unread some read = absurd (let none : ⊥ = cc in none)
none_unread (Some l) unread some read = read

pub read_none : (bench : Option Live) (unread : List ℕ) → IsSome bench → IsRead (far_of bench unread) → unread ≡ []
read_none bench unread some read = none_unread bench unread some read

all_sent : (bench : Option Live) (bytes unread : List ℕ) → unread ≡ []
    → far_of (feed_of bench bytes) (said_of bench bytes) ≡ option_map (sent bytes) (far_of bench unread)
all_sent None bytes unread none = refl
all_sent (Some l) bytes unread none = ap (λ u. Some (record { live = feed l bytes; unread = u ++ said l bytes })) (sym none)

pub sent_whole : (bench new : Option Live) (bytes unread kept : List ℕ) → unread ≡ [] → new ≡ feed_of bench bytes → kept ≡ said_of bench bytes
    → far_of new kept ≡ option_map (sent bytes) (far_of bench unread)
sent_whole bench new bytes unread kept none fed said = ap (λ b. far_of b kept) fed ∙ ap (far_of (feed_of bench bytes)) said ∙ all_sent bench bytes unread none

front_sent : (bench : Option Live) (bytes front back unread : List ℕ) → bytes ≡ front ++ back
    → SentFront bytes (far_of bench unread) (far_of (feed_of bench front) (unread ++ said_of bench front))
front_sent None bytes front back unread cut = refl
front_sent (Some l) bytes front back unread cut = (front, back, cut, refl)

pub sent_front : (bench new : Option Live) (bytes unread kept : List ℕ) → FedFront bytes bench new unread kept
    → SentFront bytes (far_of bench unread) (far_of new kept)
sent_front bench new bytes unread kept fed =
    subst (λ o. SentFront bytes (far_of bench unread) o) (sym (ap (λ b. far_of b kept) fed.fed ∙ ap (far_of (feed_of bench fed.front)) fed.said))
    (front_sent bench bytes fed.front fed.back unread fed.cut)

pub answers_read : (bench : Option Live) (into unread kept : List ℕ) → unread ≡ into ++ kept → ReadsFront into (far_of bench unread) (far_of bench kept)
answers_read None into unread kept gave = refl
answers_read (Some l) into unread kept gave = (kept, gave, refl)

pub chip_kept : (bench : Option Live) (n : ℕ) (into unread kept : List ℕ) → into ≡ replicate n no_answer → kept ≡ unread
    → ReadsSome into (far_of bench unread) (far_of bench kept)
chip_kept bench n into unread kept filled same = subst (λ u. ReadsSome into (far_of bench unread) (far_of bench u)) (sym same)
    (none_came n into (far_of bench unread) filled)

-- ---- ties

timing_kept : (bench : Option Live) (unread kept : List ℕ) → timing_told (far_of bench kept) ≡ timing_told (far_of bench unread)
timing_kept None unread kept = refl
timing_kept (Some l) unread kept = refl

ties_of : (lenders : List GName) (net : NetTies) (timing : Option Timing) (lenders' : List GName) (net' : NetTies) (timing' : Option Timing)
    (began : Option Began) → lenders' ≡ lenders → net' ≡ net → timing' ≡ timing
    → ◌≡◌ {A = Ties} (record { lenders = lenders'; net = net'; timing = timing'; began = began })
    (record { lenders = lenders; net = net; timing = timing; began = began })
ties_of lenders net timing lenders' net' timing' began same_lenders same_net same_timing =
    ap (λ x. record { lenders = x; net = net'; timing = timing'; began = began }) same_lenders
    ∙ ap (λ x. record { lenders = lenders; net = x; timing = timing'; began = began }) same_net
    ∙ ap (λ x. record { lenders = lenders; net = net; timing = x; began = began }) same_timing

pub fed_ties : (net bench : GName) (lenders lenders' : List GName) (old new : NetState) (chip next : Option Live) (bytes unread kept : List ℕ) (faults ends : ℕ)
    → lenders' ≡ lenders → new.ties ≡ old.ties → next ≡ feed_of chip bytes
    → loop_ties net bench lenders' new (far_of next kept) faults ends ≡ loop_ties net bench lenders old (far_of chip unread) faults ends
fed_ties net bench lenders lenders' old new chip next bytes unread kept faults ends same tied fed =
    ties_of (net ∷ bench ∷ lenders) old.ties (timing_told (far_of chip unread)) (net ∷ bench ∷ lenders') new.ties (timing_told (far_of next kept))
    (Some (record { faults = faults; ends = ends }))
    (ap (λ l. net ∷ bench ∷ l) same) tied (ap (λ b. timing_told (far_of b kept)) fed ∙ fed_timing chip bytes unread kept)

pub front_ties : (net bench : GName) (lenders lenders' : List GName) (old new : NetState) (chip next : Option Live) (bytes unread kept : List ℕ)
    (faults ends : ℕ) → lenders' ≡ lenders → new.ties ≡ old.ties → FedFront bytes chip next unread kept
    → loop_ties net bench lenders' new (far_of next kept) faults ends ≡ loop_ties net bench lenders old (far_of chip unread) faults ends
front_ties net bench lenders lenders' old new chip next bytes unread kept faults ends same tied fed =
    fed_ties net bench lenders lenders' old new chip next fed.front unread kept faults ends same tied fed.fed

pub kept_ties : (net bench : GName) (lenders lenders' : List GName) (old new : NetState) (chip : Option Live) (unread kept : List ℕ) (faults ends : ℕ)
    → lenders' ≡ lenders → new.ties ≡ old.ties
    → loop_ties net bench lenders' new (far_of chip kept) faults ends ≡ loop_ties net bench lenders old (far_of chip unread) faults ends
kept_ties net bench lenders lenders' old new chip unread kept faults ends same tied =
    ties_of (net ∷ bench ∷ lenders) old.ties (timing_told (far_of chip unread)) (net ∷ bench ∷ lenders') new.ties (timing_told (far_of chip kept))
    (Some (record { faults = faults; ends = ends }))
    (ap (λ l. net ∷ bench ∷ l) same) tied (timing_kept chip unread kept)

-- ---- counts

pub fault_rises : (d f f' e e' : ℕ) → e ≤ e' → Rises f f' → Rises (looped d f e) (looped d f' e')
fault_rises d f f' e e' later rises below = let up : f < f' = rises (omega (arith, below)) in omega (arith, below, later, up)

pub end_rises : (d f f' e e' : ℕ) → f ≤ f' → Rises e e' → Rises (looped d f e) (looped d f' e')
end_rises d f f' e e' later rises below = let up : e < e' = rises (omega (arith, below)) in omega (arith, below, later, up)

pub difference_rises : (d d' f f' e e' : ℕ) → f ≤ f' → e ≤ e' → Rises d d' → Rises (looped d f e) (looped d' f' e')
difference_rises d d' f f' e e' faults ends rises below = let up : d < d' = rises (omega (arith, below)) in omega (arith, below, faults, ends, up)
