-- What one more bit does to what is kept of a scan.
use Rattle.std.proofs.Common.{◌≡◌, ◌∙◌, ℕ, zero, suc, ◌+◌, ◌*◌, ◌/◌, ◌<◌, Bool, true, false, nat_lt, cond, List, [], ◌∷◌, ◌++◌, length, take, Option, None}
use Rattle.std.proofs.Common.{Some, refl, ap, arith, sym, length-append, lit<}
use Rattle.jt_base.specs.BitList.{bits_of, digit, most_bits, number_of}
use Rattle.debug_model.specs.Port.{captured_code}
use Rattle.debug_model.specs.Scan.{stays}
use Rattle.wire_sniff.specs.Sniffed.{and_seen, scanned_code, seen_bits, status_width}
use Rattle.wire_sniff.specs.declared.scan.Scan.{Scan}
use Rattle.wire_sniff.specs.State.{IsScan, given_more, seen_more}

lt_one_more : (n m : ℕ) → nat_lt (suc n) (suc m) ≡ nat_lt n m
lt_one_more n m = grind arith

lt_none : (n : ℕ) → nat_lt 0 (suc n) ≡ true
lt_none n = grind arith

under : (b : Bool) (bit : Bool) (x y : Option (List Bool)) → and_seen (Some bit) (cond b x y) ≡ cond b (and_seen (Some bit) x) (and_seen (Some bit) y)
under true bit x y = refl
under false bit x y = refl

seen_behind : (n : ℕ) (bit answer : Option Bool) (bits : Option (List Bool))
    → and_seen bit (seen_more n answer bits) ≡ seen_more (suc n) answer (and_seen bit bits)
seen_behind n None answer bits = refl
seen_behind n (Some bit) answer None = refl
seen_behind n (Some bit) None (Some bits) = rw lt_one_more (under (nat_lt (length bits) n) bit None (Some bits))
seen_behind n (Some bit) (Some b) (Some bits) = rw lt_one_more (under (nat_lt (length bits) n) bit (Some (bits ++ b ∷ [])) (Some bits))

seen_first : (n : ℕ) (answer : Option Bool) → and_seen answer (Some []) ≡ seen_more (suc n) answer (Some [])
seen_first n None = rw lt_none refl
seen_first n (Some b) = rw lt_none refl

seen_none : (answer : Option Bool) → Some [] ≡ seen_more 0 answer (Some [])
seen_none None = refl
seen_none (Some b) = refl

take_none : {A : Type 0} (n : ℕ) → take n (let xs : List A = [] in xs) ≡ []
take_none zero = refl
take_none (suc n) = refl

pub seen_bits-more : (n : ℕ) (answer : Option Bool) (taken : List (Option Bool))
    → seen_bits (take n (taken ++ answer ∷ [])) ≡ seen_more n answer (seen_bits (take n taken))
seen_bits-more zero answer [] = seen_none answer
seen_bits-more zero answer (t ∷ taken) = seen_none answer
seen_bits-more (suc n) answer [] = ap (λ rest. and_seen answer (seen_bits rest)) (take_none n) ∙ seen_first n answer
seen_bits-more (suc n) answer (t ∷ taken) = ap (and_seen t) (seen_bits-more n answer taken) ∙ seen_behind n t answer (seen_bits (take n taken))

kept_behind : (c : Bool) (x : Bool) (xs ys : List Bool) → x ∷ cond c xs ys ≡ cond c (x ∷ xs) (x ∷ ys)
kept_behind true x xs ys = refl
kept_behind false x xs ys = refl

pub take-more : (n : ℕ) (b : Bool) (given : List Bool) → take n (given ++ b ∷ []) ≡ given_more n b (take n given)
take-more zero b [] = refl
take-more zero b (x ∷ given) = refl
take-more (suc n) b [] = ap (λ rest. b ∷ rest) (take_none n) ∙ rw lt_none refl
take-more (suc n) b (x ∷ given) =
    ap (λ rest. x ∷ rest) (take-more n b given) ∙ kept_behind (nat_lt (length (take n given)) n) x (take n given ++ b ∷ []) (take n given) ∙ rw lt_one_more refl

digit-small : (b : Bool) → digit b < 2
digit-small false = lit< tt
digit-small true = lit< tt

-- a register of five bits behind one shift more
five_more : (x0 x1 x2 x3 x4 b : Bool) (given : List Bool)
    → number_of (stays (x0 ∷ x1 ∷ x2 ∷ x3 ∷ x4 ∷ []) (given ++ b ∷ [])) ≡ number_of (stays (x0 ∷ x1 ∷ x2 ∷ x3 ∷ x4 ∷ []) given) / 2 + 16 * digit b
unfolding number_of
five_more x0 x1 x2 x3 x4 b [] = omega (arith, digit-small x0)
five_more x0 x1 x2 x3 x4 b (y ∷ given) = five_more x1 x2 x3 x4 y b given

pub scanned_code-more : (b : Bool) (given : List Bool) → scanned_code (given ++ b ∷ []) ≡ scanned_code given / 2 + 16 * digit b
unfolding captured_code bits_of
scanned_code-more b given = five_more true false false false false b given

-- ---- a whole scan

pub shifted : (tdi : Bool) (answer : Option Bool) (old new : Scan) (given : List Bool) (taken : List (Option Bool)) → IsScan old given taken
    → new.count ≡ old.count + 1
    → new.given ≡ given_more most_bits tdi old.given
    → new.taken ≡ seen_more most_bits answer old.taken
    → new.status ≡ seen_more status_width answer old.status
    → new.instruction ≡ old.instruction / 2 + 16 * digit tdi
    → IsScan new (given ++ tdi ∷ []) (taken ++ answer ∷ [])
shifted tdi answer old new given taken is count first seen status code = record {
  count = omega (arith, is.count, count, length-append given (tdi ∷ []));
  each = omega (arith, is.each, length-append given (tdi ∷ []), length-append taken (answer ∷ []));
  given_is = first ∙ ap (given_more most_bits tdi) is.given_is ∙ sym (take-more most_bits tdi given);
  taken_is = seen ∙ ap (seen_more most_bits answer) is.taken_is ∙ sym (seen_bits-more most_bits answer taken);
  status_is = status ∙ ap (seen_more status_width answer) is.status_is ∙ sym (seen_bits-more status_width answer taken);
  instruction_is = code ∙ ap (λ n. n / 2 + 16 * digit tdi) is.instruction_is ∙ sym (scanned_code-more tdi given);
}
