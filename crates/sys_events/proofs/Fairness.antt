-- A schedule of events with words is fair, whatever the words.
use Rattle.std.proofs.Common.{◌≡◌, ◌∙◌, ℕ, zero, suc, ◌+◌, ◌*◌, ◌-◌, ◌/◌, ◌%◌, ◌<◌, ◌≤◌, Bool, true, false, cond, List, [], ◌∷◌, length, refl, ap, sym}
use Rattle.std.proofs.Common.{subst, arith, eq-eqb}
use Rattle.std.specs.Prelude.{map, filter, Contains, All, ◌==◌, slice_index, slice_index_or}
use Rattle.std.specs.List.{range_with_len}
use Rattle.std.proofs.Math.Nat.{mod-lt, mod-add-mod, mul-mod_right, div-add-mod}
use Rattle.std.proofs.lemmas.Bool.{false≢true}
use Rattle.std.proofs.lemmas.List.Elements.{All-contains, All-map, All-filter, All-append, All-cons, All-nil, Contains-append_left, Contains-append_right}
use Rattle.std.proofs.lemmas.List.FromFn.{length-map-range_with_len, get_or-map-range_with_len}
use Rattle.debug_model.specs.Schedule.{ComesWithin, Fair}
use Rattle.debug_model.specs.declared.event.Event.{Event}
use Rattle.debug_model.specs.declared.event.Event.TheVariants.{Turn, DmiDone, DmiFail, CmdStep, BusDone}
use Rattle.sys_events.specs.Seed.{paired, round_at, rounds_of}
use Rattle.sys_events.proofs.Rounds.{made, round_after-made}

-- the event of a pair that a filter keeps
kept : (b : Bool) (p : Event × ℕ) (ps : List (Event × ℕ)) (e : Event) → b ≡ true → p.0 ≡ e
    → Contains (map (λ q. q.0) (cond b (p ∷ ps) ps)) e
kept true p ps e is same = (0, omega arith, same)
kept false p ps e is same = absurd (false≢true is)

-- an event behind that pair
behind : (b : Bool) (p : Event × ℕ) (ps : List (Event × ℕ)) (e : Event) → Contains (map (λ q. q.0) ps) e
    → Contains (map (λ q. q.0) (cond b (p ∷ ps) ps)) e
behind true p ps e there = Contains-append_right (p.0 ∷ []) (map (λ q. q.0) ps) e there
behind false p ps e there = there

-- an event stands in the rounds of its word
in_round : (busy n x : ℕ) (e : Event) (pairs : List (Event × ℕ)) → (n + x) % busy ≡ 0
    → (i : ℕ) → i < length pairs → (slice_index_or pairs i (e, x) ≡ (e, x)) → Contains (round_at busy pairs n) e
in_round busy n x e [] h i short is = absurd (omega arith)
in_round busy n x e (p ∷ ps) h zero short is =
    kept ((n + p.1) % busy == 0) p (filter (λ q. (n + q.1) % busy == 0) ps) e
    (eq-eqb ((n + p.1) % busy) 0 (ap (λ (q : Event × ℕ). (n + q.1) % busy) is ∙ h)) (ap (λ (q : Event × ℕ). q.0) is)
in_round busy n x e (p ∷ ps) h (suc i) short is =
    behind ((n + p.1) % busy == 0) p (filter (λ q. (n + q.1) % busy == 0) ps) e
    (in_round busy n x e ps h i (omega arith) is)

-- how many rounds after the k-th one an event of this word stands
wait : ℕ → ℕ → ℕ → ℕ
wait busy x k = busy - 1 - (k + x + (busy - 1)) % busy

-- it is one of the next `busy` rounds
wait-below : (busy x k : ℕ) → 0 < busy → wait busy x k < busy
unfolding wait
wait-below busy x k h = omega arith

-- the number of that round and the word together are a multiple of `busy`
wait-is : (busy x k : ℕ) → 0 < busy → ((0 + (k + wait busy x k)) % busy + x) % busy ≡ 0
unfolding wait
wait-is busy x k h =
    let all : ℕ = k + x + (busy - 1) in
    let split : busy * (all / busy) + all % busy ≡ all = div-add-mod all busy in
    let low : all % busy < busy = mod-lt all h in
    let sum : (0 + (k + (busy - 1 - all % busy))) + x ≡ busy * (all / busy) = omega arith in
    mod-add-mod (0 + (k + (busy - 1 - all % busy))) busy x ∙ ap (λ (y : ℕ). y % busy) sum ∙ mul-mod_right busy (all / busy)

-- each event of a pair comes within w rounds
comes : (w busy k x : ℕ) (e : Event) (pairs : List (Event × ℕ)) → 0 < busy → busy ≤ w → Contains pairs (e, x)
    → ComesWithin w k (made (round_at busy pairs) busy 0) e
comes w busy k x e pairs h fits (i, short, is) =
    let below : wait busy x k < busy = wait-below busy x k h in
    let there = in_round busy ((0 + (k + wait busy x k)) % busy) x e pairs (wait-is busy x k h) i short is in (
      wait busy x k,
      omega arith,
      subst (λ (r : List Event). Contains r e) (sym (round_after-made (round_at busy pairs) busy 0 (k + wait busy x k) h)) there,
    )

-- not a failing operation
abbrev Fine : Event × ℕ → Type 0
Fine p = p.0 ≡ DmiFail → ⊥

-- no round has a failing operation
none_fails : (busy n : ℕ) (pairs : List (Event × ℕ)) → All Fine pairs → ¬ Contains (round_at busy pairs n) DmiFail
none_fails busy n pairs fine there =
    All-contains (λ (e : Event). e ≡ DmiFail → ⊥) (round_at busy pairs n) DmiFail
    (All-map (λ (e : Event). e ≡ DmiFail → ⊥) (λ (p : Event × ℕ). p.0) (filter (λ p. (n + p.1) % busy == 0) pairs)
    (All-filter (λ p. (n + p.1) % busy == 0) Fine pairs fine))
    there refl

-- the two parts of the pairs of a schedule
abbrev turns : ℕ → List ℕ → List (Event × ℕ)
turns harts words = map (λ h. (Turn h, slice_index words h)) (range_with_len 0 harts)

abbrev others : List ℕ → List (Event × ℕ)
others words = (DmiDone, slice_index words 4) ∷ (CmdStep, slice_index words 5) ∷ (BusDone, slice_index words 6) ∷ []

-- each hart's turn stands among the pairs
turn_stands : (harts h : ℕ) (words : List ℕ) → h < harts → Contains (paired harts words) (Turn h, slice_index words h)
turn_stands harts h words below =
    let turn : ℕ → Event × ℕ = λ i. (Turn i, slice_index words i) in
    Contains-append_left (turns harts words) (others words) (turn h) (
      h,
      rw (length-map-range_with_len turn 0 harts) below,
      get_or-map-range_with_len turn 0 harts h h _ below (omega arith),
    )

-- and so does each other event
other_stands : (harts : ℕ) (words : List ℕ) (p : Event × ℕ) → Contains (others words) p → Contains (paired harts words) p
other_stands harts words p there = Contains-append_right (turns harts words) (others words) p there

-- none of them is a failing operation
all_fine : (harts : ℕ) (words : List ℕ) → All Fine (paired harts words)
all_fine harts words =
    All-append Fine (turns harts words) (others words)
    (All-map Fine (λ h. (Turn h, slice_index words h)) (range_with_len 0 harts) (λ k d below is. cc))
    (All-cons Fine (DmiDone, slice_index words 4) ((CmdStep, slice_index words 5) ∷ (BusDone, slice_index words 6) ∷ []) (λ is. cc)
    (All-cons Fine (CmdStep, slice_index words 5) ((BusDone, slice_index words 6) ∷ []) (λ is. cc)
    (All-cons Fine (BusDone, slice_index words 6) [] (λ is. cc) (All-nil Fine))))

-- the schedule of any words is fair over any number of rounds that is no less than `busy`
pub paired-fair : (w busy harts : ℕ) (words : List ℕ) → 0 < busy → busy ≤ w
    → Fair w harts (record { rounds = rounds_of busy (paired harts words); place = 0 })
paired-fair w busy harts words h fits =
    let pairs : List (Event × ℕ) = paired harts words in
    record {
      turns = λ k hart below. comes w busy k (slice_index words hart) (Turn hart) pairs h fits (turn_stands harts hart words below);
      dmi_done = λ k. comes w busy k (slice_index words 4) DmiDone pairs h fits (other_stands harts words _ (0, omega arith, refl));
      cmd_step = λ k. comes w busy k (slice_index words 5) CmdStep pairs h fits (other_stands harts words _ (1, omega arith, refl));
      bus_done = λ k. comes w busy k (slice_index words 6) BusDone pairs h fits (other_stands harts words _ (2, omega arith, refl));
      no_dmi_fail = λ k. subst (λ (r : List Event). ¬ Contains r DmiFail)
          (sym (round_after-made (round_at busy pairs) busy 0 k h)) (none_fails busy ((0 + k) % busy) pairs (all_fine harts words));
    }
