-- Numbers in the bytes of a list, and what an access to the list is on its map.
use Rattle.std.proofs.Common.{◌≡◌, ℕ, zero, suc, ◌+◌, ◌-◌, ◌*◌, ◌/◌, ◌%◌, ◌^◌, ◌<◌, ◌≤◌, true, List, [], ◌∷◌, ◌++◌, length, get_or, set, take, drop, Some}
use Rattle.std.proofs.Common.{None, is_some, refl, sym, ap, ◌∙◌, arith, append_assoc, append-nil, add-zero, length-set, length-drop}
use Rattle.std.specs.Int.{bytes_low_first, byte_at}
use Rattle.std.proofs.lemmas.List.{get_or-drop, drop-set-lt, take-append-drop, take_all, drop_all}
use Rattle.std.proofs.Math.Seq.{take-suc-set, drop-drop}
use Rattle.std.proofs.Math.Nat.{div-one, div-div-eq-div-mul, pow-suc}
use borrow.Rule.Slice.PartMut.{put_mid}
use Rattle.byteorder.specs.Endian.{little_from}
use Rattle.byteorder.specs.Numbers.{little_from-take}
use Rattle.rv_model.specs.declared.size.Size.{Size}
use Rattle.rv_model.specs.declared.size.Size.TheVariants.{B1, B2, B4, B8}
use Rattle.rv_model.specs.Size.{count_of}
use Rattle.rv_model.specs.Memory.{bytes_from, value_at}
use Rattle.rv_mem.specs.Windows.{put_value}
use Rattle.rv_model.proofs.MapLemmas.{insert-bytes_from, value_step, value_at_low, value_at_high, value_at_inside}

-- ---- where an access lies

pub count_some : (size : Size) → 0 < count_of size
count_some B1 = omega arith
count_some B2 = omega arith
count_some B4 = omega arith
count_some B8 = omega arith

pub count_most : (size : Size) → count_of size ≤ 8
count_most B1 = omega arith
count_most B2 = omega arith
count_most B4 = omega arith
count_most B8 = omega arith

pub none_low : (base : ℕ) (xs : List ℕ) (a : ℕ) (size : Size) → a < base → value_at (bytes_from base xs) a (count_of size) ≡ None
none_low base xs a size h = value_at_low base xs a (count_of size) h (count_some size)

pub none_high : (base : ℕ) (xs : List ℕ) (a : ℕ) (size : Size) → base + length xs < a + count_of size → value_at (bytes_from base xs) a (count_of size) ≡ None
none_high base xs a size h = value_at_high base xs a (count_of size) h (count_some size)

pub some_inside : (base : ℕ) (xs : List ℕ) (a : ℕ) (size : Size) → base ≤ a → a + count_of size ≤ base + length xs
    → is_some (value_at (bytes_from base xs) a (count_of size)) ≡ true
some_inside base xs a size low high = value_at_inside base xs a (count_of size) low high

-- ---- reading

pub value_at_from : (base : ℕ) (xs : List ℕ) (a i n : ℕ) → a ≡ base + i → i + n ≤ length xs → value_at (bytes_from base xs) a n ≡ Some (little_from i n xs)
value_at_from base xs a i zero e h = refl
value_at_from base xs a i (suc n) e h =
    value_step base xs a (a + 1) (suc n) n i 0 (little_from (suc i) n xs) (little_from i (suc n) xs) refl refl e (omega arith)
    (value_at_from base xs (a + 1) (suc i) n (omega arith) (omega arith)) refl

little_from-drop : (xs : List ℕ) (i j n : ℕ) → little_from j n (drop i xs) ≡ little_from (i + j) n xs
little_from-drop xs i j zero = refl
little_from-drop xs i j (suc n) =
    let next : i + suc j ≡ suc (i + j) = omega arith in
    ap (λ b. b + 256 * little_from (suc j) n (drop i xs)) (get_or-drop i xs j 0)
    ∙ ap (λ r. get_or xs (i + j) 0 + 256 * r) (little_from-drop xs i (suc j) n ∙ ap (λ k. little_from k n xs) next)

-- the number at the head of what is left from a place on
pub value_at_drop : (base : ℕ) (xs : List ℕ) (a i n : ℕ) → a ≡ base + i → i + n ≤ length xs
    → value_at (bytes_from base xs) a n ≡ Some (little_from 0 n (drop i xs))
value_at_drop base xs a i n e h =
    value_at_from base xs a i n e h ∙ ap Some (sym (little_from-drop xs i 0 n ∙ ap (λ k. little_from k n xs) (omega arith)))

-- the same where what is left is cut after enough bytes
pub value_at_mid : (base : ℕ) (xs : List ℕ) (a i k n v : ℕ) → a ≡ base + i → i + n ≤ length xs → n ≤ k → v ≡ little_from 0 n (take k (drop i xs))
    → value_at (bytes_from base xs) a n ≡ Some v
value_at_mid base xs a i k n v e h long is =
    value_at_drop base xs a i n e h ∙ ap Some (sym (is ∙ little_from-take 0 n k (drop i xs) (omega arith)))

-- ---- writing

byte_is : (j v : ℕ) → byte_at j v ≡ v / 256 ^ j % 256
byte_is zero v = ap (λ k. k % 256) (sym (div-one v))
byte_is (suc j) v = refl

-- one byte of a value, and then the rest
write_step : (base : ℕ) (xs : List ℕ) (a n i v : ℕ) → a ≡ base + i → i < length xs
    → put_value (bytes_from base xs) a (suc n) v ≡ put_value (bytes_from base (set xs i (v % 256))) (a + 1) n (v / 256)
write_step base xs a n i v ea h = ap (λ bytes. put_value bytes (a + 1) n (v / 256)) (insert-bytes_from base xs i a (v % 256) ea h)

-- the bytes of a number, the least significant first, from a place on
write_from : (base : ℕ) (xs : List ℕ) (a i j n v u : ℕ) → a ≡ base + i → i + n ≤ length xs → u ≡ v / 256 ^ j
    → put_value (bytes_from base xs) a n u ≡ bytes_from base (take i xs ++ (bytes_low_first j n v ++ drop (i + n) xs))
write_from base xs a i j zero v u e h is =
    ap (bytes_from base) (sym (ap (λ k. take i xs ++ drop k xs) (add-zero i) ∙ take-append-drop i xs))
write_from base xs a i j (suc n) v u e h is =
    let ys : List ℕ = set xs i (u % 256) in
    let next : u / 256 ≡ v / 256 ^ suc j = ap (λ k. k / 256) is ∙ div-div-eq-div-mul v (256 ^ j) 256 ∙ ap (λ k. v / k) (sym (pow-suc 256 j)) in
    let byte : u % 256 ≡ byte_at j v = ap (λ k. k % 256) is ∙ sym (byte_is j v) in
    let front : take (suc i) ys ≡ take i xs ++ (u % 256 ∷ []) = take-suc-set xs i (u % 256) (omega arith) in
    let back : drop (suc i + n) ys ≡ drop (i + suc n) xs = drop-set-lt (suc i + n) xs i (u % 256) (omega arith) ∙ ap (λ k. drop k xs) (omega arith) in
    let room : suc i + n ≤ length ys = rw length-set (omega arith) in
    write_step base xs a n i u e (omega arith)
    ∙ write_from base ys (a + 1) (suc i) (suc j) n v (u / 256) (omega arith) room next
    ∙ ap (bytes_from base) (
    ap (λ l. l ++ (bytes_low_first (suc j) n v ++ drop (suc i + n) ys)) front
    ∙ ap (λ l. (take i xs ++ (u % 256 ∷ [])) ++ (bytes_low_first (suc j) n v ++ l)) back
    ∙ append_assoc (take i xs) (u % 256 ∷ []) (bytes_low_first (suc j) n v ++ drop (i + suc n) xs)
    ∙ ap (λ b. take i xs ++ (b ∷ (bytes_low_first (suc j) n v ++ drop (i + suc n) xs))) byte
    )

-- the same where the bytes were put at the head of what is left from a place on
pub write_mid : (base : ℕ) (xs ys : List ℕ) (a i k n v : ℕ) → a ≡ base + i → i + n ≤ length xs → k ≡ length xs - i
    → ys ≡ bytes_low_first 0 n v ++ drop n (take k (drop i xs)) → bytes_from base (put_mid i k xs ys) ≡ put_value (bytes_from base xs) a n v
write_mid base xs ys a i k n v e h ek is =
    let long : length (drop i xs) ≤ k = rw length-drop (omega arith) in
    let none : drop k (drop i xs) ≡ [] = drop_all k (drop i xs) long in
    let rest : drop n (take k (drop i xs)) ≡ drop (i + n) xs = ap (drop n) (take_all k (drop i xs) long) ∙ drop-drop n i xs in
    ap (bytes_from base) (
    ap (λ l. take i xs ++ (l ++ drop k (drop i xs))) is
    ∙ ap (λ l. take i xs ++ ((bytes_low_first 0 n v ++ drop n (take k (drop i xs))) ++ l)) none
    ∙ ap (λ l. take i xs ++ l) (append-nil (bytes_low_first 0 n v ++ drop n (take k (drop i xs))))
    ∙ ap (λ l. take i xs ++ (bytes_low_first 0 n v ++ l)) rest
    )
    ∙ sym (write_from base xs a i 0 n v v e h (sym (div-one v)))

-- a number's lowest bytes are those of its low bits
pub low_two : (v w : ℕ) → w ≡ v % 2 ^ 16 → bytes_low_first 0 2 w ≡ bytes_low_first 0 2 v
low_two v w e =
    let a : w % 256 ≡ v % 256 = omega arith in
    let b : w / 256 % 256 ≡ v / 256 % 256 = omega arith in
    λ i. a i ∷ b i ∷ []

pub low_four : (v w : ℕ) → w ≡ v % 2 ^ 32 → bytes_low_first 0 4 w ≡ bytes_low_first 0 4 v
low_four v w e =
    let a : w % 256 ≡ v % 256 = omega arith in
    let b : w / 256 % 256 ≡ v / 256 % 256 = omega arith in
    let c : w / 65536 % 256 ≡ v / 65536 % 256 = omega arith in
    let d : w / 16777216 % 256 ≡ v / 16777216 % 256 = omega arith in
    λ i. a i ∷ b i ∷ c i ∷ d i ∷ []
