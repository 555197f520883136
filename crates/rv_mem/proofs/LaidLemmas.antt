-- Memory's two windows: what stands at an address of the one or the other, and what a write to it leaves.
use Rattle.std.proofs.Common.{◌≡◌, ℕ, zero, suc, ◌+◌, ◌*◌, ◌/◌, ◌%◌, ◌<◌, ◌≤◌, true, false, cond, ◌&&◌, ◌==◌, List, [], length}
use Rattle.std.proofs.Common.{get_or, replicate, Option, Some, None}
use Rattle.std.proofs.Common.{slice_get, refl, sym, ap, ◌∙◌, inl, inr, arith}
use Rattle.std.specs.FinMap as map
use Rattle.std.specs.FinMap.{same_map, get-insert, get-from_entries, nat_cmp-IsAntisymmetric}
use Rattle.std.specs.Cmp.{nat_cmp_total}
use Rattle.std.specs.Ordering.{nat_cmp, eq_by_cmp}
use Rattle.std.specs.List.{enumerate_from}
use Rattle.std.specs.Option.{option_or}
use Rattle.std.proofs.lemmas.Bool.{and_from, cases_eq, cases_lt, eqb-true, lt-ltb, le-leb, le-ltb, eq-eqb, ne_eqb}
use Rattle.std.proofs.lemmas.Option.{slice_get-get_or, slice_get_past}
use Rattle.rv_model.specs.declared.size.Size.{Size}
use Rattle.rv_model.specs.declared.size.Size.TheVariants.{B1, B2, B4, B8}
use Rattle.rv_model.specs.Size.{count_of}
use Rattle.rv_model.specs.Memory.{Bytes, bytes_from, hart_places, is_aligned, is_msip, is_set, kept_byte, laid, map_of, msip_base, msip_bit, msip_size}
use Rattle.rv_model.specs.Memory.{msip_memory, ram_base, value_at, with_byte, with_value, zero_memory}
use Rattle.rv_model.proofs.MapLemmas.{kept_high, get-bytes_from, get-bytes_from_above, get-bytes_from_below}
use Rattle.rv_mem.specs.Windows.{kept_bits, most_words, put_value}
use Rattle.rv_mem.proofs.ImageLemmas.{find_append, option_or_cond}

-- ---- what stands at an address

pub laid_get : (ws xs : List ℕ) (q : ℕ) → map.get (laid ws xs) q ≡ option_or (map.get (bytes_from msip_base ws) q) (map.get (bytes_from ram_base xs) q)
unfolding laid bytes_from
laid_get ws xs q =
    get-from_entries nat_cmp_total _ q
    ∙ find_append q (enumerate_from msip_base ws) (enumerate_from ram_base xs)
    ∙ ap (λ o. option_or o (map.find nat_cmp q (enumerate_from ram_base xs))) (sym (get-from_entries nat_cmp_total (enumerate_from msip_base ws) q))
    ∙ ap (option_or (map.get (bytes_from msip_base ws) q)) (sym (get-from_entries nat_cmp_total (enumerate_from ram_base xs) q))

or_none : (o : Option ℕ) → option_or o None ≡ o
or_none None = refl
or_none (Some v) = refl

no_word : (ws : List ℕ) (q : ℕ) → length ws ≤ most_words → ram_base ≤ q → map.get (bytes_from msip_base ws) q ≡ None
no_word ws q few high = get-bytes_from_above msip_base ws q (omega arith)

pub laid_ram : (ws xs : List ℕ) (q : ℕ) → length ws ≤ most_words → ram_base ≤ q → map.get (laid ws xs) q ≡ map.get (bytes_from ram_base xs) q
laid_ram ws xs q few high = laid_get ws xs q ∙ ap (λ o. option_or o (map.get (bytes_from ram_base xs) q)) (no_word ws q few high)

pub laid_words : (ws xs : List ℕ) (q : ℕ) → q < ram_base → map.get (laid ws xs) q ≡ map.get (bytes_from msip_base ws) q
laid_words ws xs q low =
    laid_get ws xs q ∙ ap (option_or (map.get (bytes_from msip_base ws) q)) (get-bytes_from_below ram_base xs q low)
    ∙ or_none (map.get (bytes_from msip_base ws) q)

-- the windows are apart, so either can be asked first
laid_turned : (ws xs : List ℕ) (q : ℕ) → length ws ≤ most_words
    → map.get (laid ws xs) q ≡ option_or (map.get (bytes_from ram_base xs) q) (map.get (bytes_from msip_base ws) q)
laid_turned ws xs q few = elim (cases_lt q ram_base) [
  | inl low ↦
      laid_words ws xs q low ∙ sym (ap (λ o. option_or o (map.get (bytes_from msip_base ws) q)) (get-bytes_from_below ram_base xs q low))
  | inr high ↦
      laid_ram ws xs q few high
      ∙ sym (ap (option_or (map.get (bytes_from ram_base xs) q)) (no_word ws q few high) ∙ or_none (map.get (bytes_from ram_base xs) q))
]

-- without words there is RAM alone
pub laid_none : (xs : List ℕ) → laid [] xs ≡ map_of xs
unfolding laid map_of
laid_none xs = refl

-- ---- loads

value_alike : (m l : Bytes) (a n : ℕ) → ((q : ℕ) → a ≤ q → q < a + n → map.get m q ≡ map.get l q) → value_at m a n ≡ value_at l a n
value_alike m l a zero alike = refl
value_alike m l a (suc n) alike =
    ap (λ o. with_byte o (value_at m (a + 1) n)) (alike a (omega arith) (omega arith))
    ∙ ap (with_byte (map.get l a)) (value_alike m l (a + 1) n (λ q low high. alike q (omega arith) (omega arith)))

pub value_ram : (ws xs : List ℕ) (a n : ℕ) → length ws ≤ most_words → ram_base ≤ a → value_at (laid ws xs) a n ≡ value_at (bytes_from ram_base xs) a n
value_ram ws xs a n few high = value_alike _ _ a n (λ q low below. laid_ram ws xs q few (omega arith))

-- an aligned access that begins below RAM ends there
ends_below : (a : ℕ) (size : Size) → is_aligned a size ≡ true → a < ram_base → a + count_of size ≤ ram_base
ends_below a B1 whole low = omega arith
ends_below a B2 whole low = let k : a % 2 ≡ 0 = eqb-true (a % 2) 0 whole in omega arith
ends_below a B4 whole low = let k : a % 4 ≡ 0 = eqb-true (a % 4) 0 whole in omega arith
ends_below a B8 whole low = let k : a % 8 ≡ 0 = eqb-true (a % 8) 0 whole in omega arith

pub value_words : (ws xs : List ℕ) (a : ℕ) (size : Size) → is_aligned a size ≡ true → a < ram_base
    → value_at (laid ws xs) a (count_of size) ≡ value_at (bytes_from msip_base ws) a (count_of size)
value_words ws xs a size whole low =
    let end : a + count_of size ≤ ram_base = ends_below a size whole low in
    value_alike _ _ a (count_of size) (λ q from below. laid_words ws xs q (omega arith))

-- ---- stores

-- two maps laid one over the other, of which the first is written
put_over : (m l r : Bytes) (a n v : ℕ) → ((q : ℕ) → map.get m q ≡ option_or (map.get l q) (map.get r q))
    → (q : ℕ) → map.get (put_value m a n v) q ≡ option_or (map.get (put_value l a n v) q) (map.get r q)
put_over m l r a zero v is q = is q
put_over m l r a (suc n) v is q =
    put_over (map.insert m a (v % 256)) (map.insert l a (v % 256)) r (a + 1) n (v / 256)
    (λ p. get-insert nat_cmp_total m a (v % 256) p
    ∙ ap (cond (eq_by_cmp nat_cmp p a) (Some (v % 256))) (is p)
    ∙ option_or_cond (eq_by_cmp nat_cmp p a) (v % 256) (map.get l p) (map.get r p)
    ∙ ap (λ o. option_or o (map.get r p)) (sym (get-insert nat_cmp_total l a (v % 256) p))) q

pub put_words : (ws ys xs : List ℕ) (a n v : ℕ) → bytes_from msip_base ys ≡ put_value (bytes_from msip_base ws) a n v
    → laid ys xs ≡ put_value (laid ws xs) a n v
put_words ws ys xs a n v is = same_map nat_cmp_total nat_cmp-IsAntisymmetric _ _ (λ q.
    laid_get ys xs q ∙ ap (λ m. option_or (map.get m q) (map.get (bytes_from ram_base xs) q)) is
    ∙ sym (put_over (laid ws xs) (bytes_from msip_base ws) (bytes_from ram_base xs) a n v (laid_get ws xs) q))

pub put_ram : (ws xs ys : List ℕ) (a n v : ℕ) → length ws ≤ most_words → bytes_from ram_base ys ≡ put_value (bytes_from ram_base xs) a n v
    → laid ws ys ≡ put_value (laid ws xs) a n v
put_ram ws xs ys a n v few is = same_map nat_cmp_total nat_cmp-IsAntisymmetric _ _ (λ q.
    laid_turned ws ys q few ∙ ap (λ m. option_or (map.get m q) (map.get (bytes_from msip_base ws) q)) is
    ∙ sym (put_over (laid ws xs) (bytes_from ram_base xs) (bytes_from msip_base ws) a n v (λ p. laid_turned ws xs p few) q))

-- ---- what a write keeps

pub with_value-ram : (m : Bytes) (a n v : ℕ) → ram_base ≤ a → with_value m a n v ≡ put_value m a n v
with_value-ram m a zero v high = refl
with_value-ram m a (suc n) v high =
    ap (λ b. with_value (map.insert m a b) (a + 1) n (v / 256)) (kept_high a (v % 256) (omega arith))
    ∙ with_value-ram (map.insert m a (v % 256)) (a + 1) n (v / 256) (omega arith)

in_words : (a : ℕ) → msip_base ≤ a → a < msip_base + most_words → is_msip a ≡ true
in_words a low high = and_from _ _ (le-leb msip_base a low) (lt-ltb a (msip_base + most_words) high)

kept_first : (a v w : ℕ) → msip_base ≤ a → a < msip_base + most_words → a % 4 ≡ 0 → w ≡ v % 2 → kept_byte a v ≡ w
unfolding kept_byte
kept_first a v w low high whole is =
    ap (λ b. cond b (cond (a % msip_size == 0) (v % 2) 0) v) (in_words a low high)
    ∙ ap (λ b. cond b (v % 2) 0) (eq-eqb (a % msip_size) 0 whole) ∙ sym is

kept_rest : (a v w : ℕ) → msip_base ≤ a → a < msip_base + most_words → 0 < a % 4 → w ≡ 0 → kept_byte a v ≡ w
unfolding kept_byte
kept_rest a v w low high part is =
    ap (λ b. cond b (cond (a % msip_size == 0) (v % 2) 0) v) (in_words a low high)
    ∙ ap (λ b. cond b (v % 2) 0) (ne_eqb (a % msip_size) 0 (λ e. omega arith)) ∙ sym is

put_step : (m : Bytes) (a n v w : ℕ) → kept_byte a (v % 256) ≡ w % 256
    → with_value (map.insert m a (w % 256)) (a + 1) n (v / 256) ≡ put_value (map.insert m a (w % 256)) (a + 1) n (w / 256)
    → with_value m a (suc n) v ≡ put_value m a (suc n) w
put_step m a n v w byte rest = ap (λ b. with_value (map.insert m a b) (a + 1) n (v / 256)) byte ∙ rest

-- a byte that is no word's first
put_rest : (m : Bytes) (a n v w : ℕ) → msip_base ≤ a → a < msip_base + most_words → 0 < a % 4 → w % 256 ≡ 0
    → ((m : Bytes) → with_value m (a + 1) n (v / 256) ≡ put_value m (a + 1) n (w / 256)) → with_value m a (suc n) v ≡ put_value m a (suc n) w
put_rest m a n v w low high part is rest = put_step m a n v w (kept_rest a (v % 256) (w % 256) low high part is) (rest _)

-- a word's first
put_first : (m : Bytes) (a n v w : ℕ) → msip_base ≤ a → a < msip_base + most_words → a % 4 ≡ 0 → w % 256 ≡ v % 256 % 2
    → ((m : Bytes) → with_value m (a + 1) n (v / 256) ≡ put_value m (a + 1) n (w / 256)) → with_value m a (suc n) v ≡ put_value m a (suc n) w
put_first m a n v w low high whole is rest = put_step m a n v w (kept_first a (v % 256) (w % 256) low high whole is) (rest _)

-- a whole word, and what stands behind it
put_whole : (m : Bytes) (a n v w : ℕ) → msip_base ≤ a → a + 4 ≤ msip_base + most_words → a % 4 ≡ 0 → w % 4294967296 ≡ v % 2
    → ((m : Bytes) → with_value m (a + 1 + 1 + 1 + 1) n (v / 256 / 256 / 256 / 256) ≡ put_value m (a + 1 + 1 + 1 + 1) n (w / 256 / 256 / 256 / 256))
    → with_value m a (suc (suc (suc (suc n)))) v ≡ put_value m a (suc (suc (suc (suc n)))) w
put_whole m a n v w low high whole is rest =
    put_first m a (suc (suc (suc n))) v w low (omega arith) whole (omega arith) (λ m.
    put_rest m (a + 1) (suc (suc n)) (v / 256) (w / 256) (omega arith) (omega arith) (omega arith) (omega arith) (λ m.
    put_rest m (a + 1 + 1) (suc n) (v / 256 / 256) (w / 256 / 256) (omega arith) (omega arith) (omega arith) (omega arith) (λ m.
    put_rest m (a + 1 + 1 + 1) n (v / 256 / 256 / 256) (w / 256 / 256 / 256) (omega arith) (omega arith) (omega arith) (omega arith) rest)))

keep_whole : (m : Bytes) (a : ℕ) (size : Size) (v w : ℕ) → msip_base ≤ a → a + count_of size ≤ msip_base + most_words → a % 4 ≡ 0
    → w ≡ v % 2 + v / 4294967296 % 2 * 4294967296 → with_value m a (count_of size) v ≡ put_value m a (count_of size) w
keep_whole m a B1 v w low high whole is = put_first m a 0 v w low (omega arith) whole (omega arith) (λ m. refl)
keep_whole m a B2 v w low high whole is =
    put_first m a 1 v w low (omega arith) whole (omega arith) (λ m.
    put_rest m (a + 1) 0 (v / 256) (w / 256) (omega arith) (omega arith) (omega arith) (omega arith) (λ m. refl))
keep_whole m a B4 v w low high whole is = put_whole m a 0 v w low (omega arith) whole (omega arith) (λ m. refl)
keep_whole m a B8 v w low high whole is =
    put_whole m a 4 v w low (omega arith) whole (omega arith) (λ m.
    put_whole m (a + 1 + 1 + 1 + 1) 0 (v / 256 / 256 / 256 / 256) (w / 256 / 256 / 256 / 256) (omega arith) (omega arith) (omega arith) (omega arith)
    (λ m. refl))

keep_part : (m : Bytes) (a : ℕ) (size : Size) (v w : ℕ) → msip_base ≤ a → a + count_of size ≤ msip_base + most_words → (a % 4 ≡ 0 → ⊥)
    → is_aligned a size ≡ true → w ≡ 0 → with_value m a (count_of size) v ≡ put_value m a (count_of size) w
keep_part m a B1 v w low high part whole is = put_rest m a 0 v w low (omega arith) (omega arith) (omega arith) (λ m. refl)
keep_part m a B2 v w low high part whole is =
    let even : a % 2 ≡ 0 = eqb-true (a % 2) 0 whole in
    put_rest m a 1 v w low (omega arith) (omega arith) (omega arith) (λ m.
    put_rest m (a + 1) 0 (v / 256) (w / 256) (omega arith) (omega arith) (omega arith) (omega arith) (λ m. refl))
keep_part m a B4 v w low high part whole is = absurd (part (eqb-true (a % 4) 0 whole))
keep_part m a B8 v w low high part whole is = let eight : a % 8 ≡ 0 = eqb-true (a % 8) 0 whole in absurd (part (omega arith))

-- what an aligned write to MSIP words keeps of a value
pub keep_bits : (m : Bytes) (a : ℕ) (size : Size) (v : ℕ) → is_aligned a size ≡ true → msip_base ≤ a → a + count_of size ≤ msip_base + most_words
    → with_value m a (count_of size) v ≡ put_value m a (count_of size) (kept_bits a v)
keep_bits m a size v whole low high = elim (cases_eq (a % 4) 0) [
  | inl first ↦
      keep_whole m a size v (kept_bits a v) low high first
      (ap (λ b. cond b (v % 2 + v / 4294967296 % 2 * 4294967296) 0) (eq-eqb (a % 4) 0 first))
  | inr part ↦
      keep_part m a size v (kept_bits a v) low high part whole
      (ap (λ b. cond b (v % 2 + v / 4294967296 % 2 * 4294967296) 0) (ne_eqb (a % 4) 0 part))
]

abbrev Written : List ℕ → List ℕ → ℕ → ℕ → ℕ → Type 0
Written xs ys i n v = (base : ℕ) → bytes_from base ys ≡ put_value (bytes_from base xs) (base + i) n v

pub store_ram : (ws xs ys : List ℕ) (a i : ℕ) (size : Size) (v : ℕ) → length ws ≤ most_words → a ≡ ram_base + i
    → Written xs ys i (count_of size) v → laid ws ys ≡ with_value (laid ws xs) a (count_of size) v
store_ram ws xs ys a i size v few at written =
    put_ram ws xs ys a (count_of size) v few (written ram_base ∙ ap (λ k. put_value (bytes_from ram_base xs) k (count_of size) v) (sym at))
    ∙ sym (with_value-ram (laid ws xs) a (count_of size) v (omega arith))

pub store_words : (ws ys xs : List ℕ) (a i : ℕ) (size : Size) (v : ℕ) → length ws ≤ most_words → is_aligned a size ≡ true → a ≡ msip_base + i
    → i + count_of size ≤ length ws → Written ws ys i (count_of size) (kept_bits a v) → laid ys xs ≡ with_value (laid ws xs) a (count_of size) v
store_words ws ys xs a i size v few whole at room written =
    put_words ws ys xs a (count_of size) (kept_bits a v)
    (written msip_base ∙ ap (λ k. put_value (bytes_from msip_base ws) k (count_of size) (kept_bits a v)) (sym at))
    ∙ sym (keep_bits (laid ws xs) a size v whole (omega arith) (omega arith))

-- ---- bits

laid_bit : (ws xs : List ℕ) (places : List (Option ℕ)) (h : ℕ) → h < hart_places
    → msip_bit (record { bytes = laid ws xs; reserved = places }) h ≡ is_set (slice_get ws (msip_size * h))
laid_bit ws xs places h inside =
    ap (λ b. b && is_set (map.get (laid ws xs) (msip_base + msip_size * h))) (lt-ltb h hart_places inside)
    ∙ ap is_set (laid_words ws xs (msip_base + msip_size * h) (omega arith)
    ∙ get-bytes_from msip_base ws (msip_size * h) (msip_base + msip_size * h) refl)

pub msip_bit_at : (ws xs : List ℕ) (places : List (Option ℕ)) (h d : ℕ) → length ws ≤ most_words → msip_size * h < length ws
    → msip_bit (record { bytes = laid ws xs; reserved = places }) h ≡ (get_or ws (msip_size * h) d % 2 == 1)
msip_bit_at ws xs places h d few inside = laid_bit ws xs places h (omega arith) ∙ ap is_set (slice_get-get_or ws (msip_size * h) d inside)

pub msip_bit_past : (ws xs : List ℕ) (places : List (Option ℕ)) (h : ℕ) → length ws ≤ msip_size * h
    → msip_bit (record { bytes = laid ws xs; reserved = places }) h ≡ false
msip_bit_past ws xs places h past = elim (cases_lt h hart_places) [
  | inl inside ↦ laid_bit ws xs places h inside ∙ ap is_set (slice_get_past ws (msip_size * h) past)
  | inr over ↦ ap (λ b. b && is_set (map.get (laid ws xs) (msip_base + msip_size * h))) (le-ltb h hart_places over)
]

-- ---- memory as it is made

pub wordless : (size : ℕ) → msip_memory size 0 ≡ zero_memory size
wordless size = ap (λ (m : Bytes). record (zero_memory size) { bytes = m }) (laid_none (replicate size 0))
