-- That no round has more than eight events: a round of a seed has at most as many as there are, and each of a list is asked.
use Rattle.std.proofs.Common.{◌≡◌, ◌∙◌, ℕ, ◌+◌, ◌%◌, ◌==◌, ◌<◌, ◌≤◌, List, length, get_or, All, sym, ap, inl, inr, arith}
use Rattle.std.proofs.lemmas.Bool.{cases_lt}
use Rattle.std.proofs.lemmas.List.{get_or_read}
use Rattle.arrayvec.specs.ArrayVec.{ArrayVec, array_vec_len}
use Rattle.std.specs.Prelude.{filter}
use Rattle.std.specs.List.{range_with_len}
use Rattle.std.proofs.lemmas.List.{length-map}
use Rattle.std.proofs.lemmas.List.Elements.{All-map}
use Rattle.std.proofs.lemmas.List.Sums.{count_by-le-length, length-filter}
use Rattle.debug_model.specs.declared.event.Event.{Event}
use Rattle.sys_events.specs.Seed.{round_at, rounds_of}

round_short : (busy : ℕ) (pairs : List (Event × ℕ)) (k : ℕ) → length pairs ≤ 8 → length (round_at busy pairs k) ≤ 8
round_short busy pairs k few =
    let stands = λ (p : Event × ℕ). (k + p.1) % busy == 0 in
    let same : length (round_at busy pairs k) ≡ _ = length-map (filter stands pairs) (λ p. p.0) ∙ length-filter stands pairs in
    let some = count_by-le-length stands pairs in
    omega arith

pub short_rounds : (busy : ℕ) (pairs : List (Event × ℕ)) → length pairs ≤ 8 → All (λ (r : List Event). length r ≤ 8) (rounds_of busy pairs)
short_rounds busy pairs few = All-map (λ (r : List Event). length r ≤ 8) (round_at busy pairs) (range_with_len 0 busy) (λ k d _. round_short busy pairs _ few)

-- one more round of a list
pub short_more : (xs : List (ArrayVec Event)) (i : ℕ) (x d : ArrayVec Event) → i < length xs → x ≡ get_or xs i x → array_vec_len x ≤ 8
    → ((k : ℕ) → k < i → array_vec_len (get_or xs k d) ≤ 8) → (k : ℕ) → k < i + 1 → array_vec_len (get_or xs k d) ≤ 8
short_more xs i x d inside is few before k below = elim (cases_lt k i) [
  | inl earlier ↦ before k earlier
  | inr last ↦
      let here : k ≡ i = omega arith in
      let same : array_vec_len (get_or xs k d) ≡ array_vec_len x = ap (λ n. array_vec_len (get_or xs n d)) here
      ∙ ap array_vec_len (sym (get_or_read xs i x inside is d)) in
      omega arith
]
