-- How many turns rounds offer at most, and that a seed's rounds offer each hart one.
use Rattle.std.proofs.Common.{◌≡◌, ◌∙◌, ℕ, zero, suc, ◌+◌, ◌*◌, ◌%◌, ◌≤◌, Bool, true, false, cond, List, [], ◌∷◌, ◌++◌, length, ap, arith, inl, inr}
use Rattle.std.specs.Prelude.{map, filter, ◌==◌, nat_lt, slice_index, slice_index_or, if◌then◌else◌}
use Rattle.std.specs.List.{range_with_len}
use Rattle.std.proofs.lemmas.Bool.{cases_lt}
use Rattle.std.proofs.lemmas.List.{length-append, length-map, map-append, get_or_past}
use Rattle.std.proofs.lemmas.List.Elements.{All-map}
use Rattle.std.proofs.lemmas.List.FromFn.{length-map-range_with_len}
use Rattle.debug_model.specs.declared.event.Event.{Event}
use Rattle.debug_model.specs.declared.event.Event.TheVariants.{Turn, DmiDone, DmiFail, CmdStep, BusDone}
use Rattle.debug_model.specs.Offered.{first_rounds, offered, offered_by}
use Rattle.debug_model.specs.Schedule.{RoundPlan, moved, round_of}
use Rattle.sys_events.specs.Seed.{paired, round_at, words_of}
use Rattle.chip_laws.proofs.Turns.{offered-append}
use Rattle.budget_laws.specs.FewTurns.{OffersAtMost, RoundsOfferFewTurns, SeedsOfferFewTurns}

-- ---- rounds

offered_more : (harts : ℕ) (xs ys : List Event) → length (offered harts (xs ++ ys)) ≡ length (offered harts xs) + length (offered harts ys)
offered_more harts xs ys = ap length (offered-append harts xs ys) ∙ length-append (offered harts xs) (offered harts ys)

round_few : (harts there : ℕ) (plan : RoundPlan) → OffersAtMost harts plan → length (offered there (round_of plan)) ≤ harts
unfolding offered
round_few harts there plan once = elim (cases_lt plan.place (length plan.rounds)) [
  | inl below ↦ once plan.place [] below there
  | inr past ↦ rw (get_or_past plan.rounds plan.place [] past) (omega arith)
]

pub rounds_offer_few_turns : RoundsOfferFewTurns
unfolding first_rounds offered
rounds_offer_few_turns harts there zero plan once = omega arith
rounds_offer_few_turns harts there (suc k) plan once =
    let here : length (offered there (round_of plan)) ≤ harts = round_few harts there plan once in
    let later : length (offered there (first_rounds k (moved plan))) ≤ k * harts = rounds_offer_few_turns harts there k (moved plan) once in
    let both : length (offered there (round_of plan ++ first_rounds k (moved plan)))
    ≡ length (offered there (round_of plan)) + length (offered there (first_rounds k (moved plan))) =
    offered_more there (round_of plan) (first_rounds k (moved plan)) in
    omega (arith, both, here, later)

-- ---- a seed's rounds

one_at_most : (b : Bool) (h : ℕ) → length (if b then h ∷ [] else []) ≤ 1
one_at_most true h = omega arith
one_at_most false h = omega arith

event_offers : (harts : ℕ) (e : Event) → length (offered_by harts e) ≤ 1
event_offers harts (Turn h) = one_at_most (nat_lt h harts) h
event_offers harts DmiDone = omega arith
event_offers harts DmiFail = omega arith
event_offers harts CmdStep = omega arith
event_offers harts BusDone = omega arith

events_offer : (harts : ℕ) (es : List Event) → length (offered harts es) ≤ length es
unfolding offered
events_offer harts [] = omega arith
events_offer harts (e ∷ es) =
    let here : length (offered_by harts e) ≤ 1 = event_offers harts e in
    let there : length (offered harts es) ≤ length es = events_offer harts es in
    let both : length (offered_by harts e ++ offered harts es) ≡ length (offered_by harts e) + length (offered harts es) = length-append (offered_by harts e) (offered harts es) in
    omega (arith, both, here, there)

abbrev events : List (Event × ℕ) → List Event
events pairs = map (λ p. p.0) pairs

-- what a filter keeps offers no more
kept_offers : (harts : ℕ) (b : Bool) (p : Event × ℕ) (kept all : List (Event × ℕ)) → length (offered harts (events kept)) ≤ length (offered harts (events all))
    → length (offered harts (events (cond b (p ∷ kept) kept))) ≤ length (offered harts (events (p ∷ all)))
unfolding offered
kept_offers harts true p kept all less =
    let one : length (offered_by harts p.0 ++ offered harts (events kept)) ≡ _ = length-append (offered_by harts p.0) (offered harts (events kept)) in
    let two : length (offered_by harts p.0 ++ offered harts (events all)) ≡ _ = length-append (offered_by harts p.0) (offered harts (events all)) in
    omega (arith, one, two, less)
kept_offers harts false p kept all less =
    let two : length (offered_by harts p.0 ++ offered harts (events all)) ≡ _ = length-append (offered_by harts p.0) (offered harts (events all)) in
    omega (arith, two, less)

filter_offers : (harts busy n : ℕ) (pairs : List (Event × ℕ)) → length (offered harts (round_at busy pairs n)) ≤ length (offered harts (events pairs))
filter_offers harts busy n [] = omega arith
filter_offers harts busy n (p ∷ pairs) =
    kept_offers harts ((n + p.1) % busy == 0) p (filter (λ q. (n + q.1) % busy == 0) pairs) pairs (filter_offers harts busy n pairs)

-- of the pairs of a seed each hart has one turn, and the other events are none
pairs_offer : (harts there : ℕ) (words : List ℕ) → length (offered there (events (paired harts words))) ≤ harts
unfolding offered
pairs_offer harts there words =
    let turn : ℕ → Event × ℕ = λ h. (Turn h, slice_index words h) in
    let turns : List (Event × ℕ) = map turn (range_with_len 0 harts) in
    let others : List (Event × ℕ) = (DmiDone, slice_index words 4) ∷ (CmdStep, slice_index words 5) ∷ (BusDone, slice_index words 6) ∷ [] in
    let apart : events (turns ++ others) ≡ events turns ++ events others = map-append (λ (p : Event × ℕ). p.0) turns others in
    let sum : length (offered there (events turns ++ events others)) ≡ length (offered there (events turns)) + 0 =
    offered_more there (events turns) (events others) in
    let few : length (offered there (events turns)) ≤ length (events turns) = events_offer there (events turns) in
    let count : length (events turns) ≡ harts = length-map turns (λ (p : Event × ℕ). p.0) ∙ length-map-range_with_len turn 0 harts in
    let all : length (offered there (events (turns ++ others))) ≡ length (offered there (events turns ++ events others)) =
    ap (λ es. length (offered there es)) apart in
    omega (arith, all, sum, few, count)

-- a round has the turns of some of them
round_offers : (seed busy harts n there : ℕ) → length (offered there (round_at busy (paired harts (words_of seed)) n)) ≤ harts
round_offers seed busy harts n there =
    let some : _ = filter_offers there busy n (paired harts (words_of seed)) in
    let all : length (offered there (events (paired harts (words_of seed)))) ≤ harts = pairs_offer harts there (words_of seed) in
    omega (arith, some, all)

pub seeds_offer_few_turns : SeedsOfferFewTurns
seeds_offer_few_turns seed busy harts =
    All-map (λ (r : List Event). (there : ℕ) → length (offered there r) ≤ harts) (round_at busy (paired harts (words_of seed))) (range_with_len 0 busy)
    (λ k d below there. round_offers seed busy harts (slice_index_or (range_with_len 0 busy) k d) there)
