-- How many bytes RAM has and where they stand beside the MSIP words, and what an image leaves of both.
use Rattle.std.proofs.Common.{◌≡◌, ℕ, ◌+◌, ◌-◌, ◌<◌, ◌≤◌, ◌↔◌, true, false, cond, List, [], ◌++◌, length, drop, Option, None, is_some, IsSome, sym}
use Rattle.std.proofs.Common.{ap, ◌∙◌, inl, inr, arith, append-nil, take}
use Rattle.std.specs.Prelude.{nat_le}
use Rattle.std.specs.FinMap as map
use Rattle.std.specs.FinMap.{same_map, get-retain_keys, nat_cmp-IsAntisymmetric}
use Rattle.std.specs.Cmp.{nat_cmp_total}
use Rattle.std.specs.Option.{option_or}
use Rattle.std.proofs.lemmas.Bool.{cases_lt, le-leb, lt-leb}
use Rattle.std.proofs.lemmas.List.{drop_all, take_all}
use Rattle.std.proofs.lemmas.Option.{slice_get-get_or}
use Rattle.rv_model.specs.Image.{ram_size, with_image}
use Rattle.rv_model.specs.Memory.{laid, map_of, ram_base}
use Rattle.rv_model.proofs.MapLemmas.{get-map_of, get-map_of_above, get-map_of_below, map_of-bytes_from}
use Rattle.rv_mem.specs.Windows.{most_words}
use Rattle.rv_mem.proofs.ImageLemmas.{get-with_image, len-map_of, with_image-map_of}
use Rattle.rv_mem.proofs.LaidLemmas.{laid_none, laid_ram, laid_words}

-- ---- RAM's bytes

at_ram : (ws xs : List ℕ) (q : ℕ) → length ws ≤ most_words → ram_base ≤ q → map.get (laid ws xs) q ≡ map.get (map_of xs) q
at_ram ws xs q few high = laid_ram ws xs q few high ∙ ap (λ m. map.get m q) (sym (map_of-bytes_from xs))

retained : (ws xs : List ℕ) → length ws ≤ most_words → map.retain_keys (laid ws xs) (λ a. nat_le ram_base a) ≡ map_of xs
retained ws xs few = same_map nat_cmp_total nat_cmp-IsAntisymmetric _ _ (λ q.
    get-retain_keys (laid ws xs) (λ a. nat_le ram_base a) q (λ x tie. ap (nat_le ram_base) (sym (nat_cmp-IsAntisymmetric q x tie)))
    ∙ elim (cases_lt q ram_base) [
      | inl low ↦ ap (λ b. cond b (map.get (laid ws xs) q) None) (lt-leb ram_base q low) ∙ sym (get-map_of_below xs q low)
      | inr high ↦ ap (λ b. cond b (map.get (laid ws xs) q) None) (le-leb ram_base q high) ∙ at_ram ws xs q few high
    ])

pub size_laid : (ws xs : List ℕ) (places : List (Option ℕ)) → length ws ≤ most_words → ram_size (record { bytes = laid ws xs; reserved = places }) ≡ length xs
unfolding ram_size
size_laid ws xs places few = ap map.len (retained ws xs few) ∙ len-map_of xs

-- bytes that are written over all of a list's are all that it has then
pub over_all : (xs ys : List ℕ) (n : ℕ) → length xs ≡ n → length ys ≡ length xs → take n (ys ++ drop (length ys) xs) ≡ ys
over_all xs ys n all same =
    ap (λ l. take n (ys ++ l)) (drop_all (length ys) xs (omega arith)) ∙ ap (take n) (append-nil ys) ∙ take_all n ys (omega arith)

-- the same of RAM alone
pub size_map_of : (xs : List ℕ) (places : List (Option ℕ)) → ram_size (record { bytes = map_of xs; reserved = places }) ≡ length xs
size_map_of xs places =
    ap (λ m. ram_size (record { bytes = m; reserved = places })) (sym (laid_none xs)) ∙ size_laid [] xs places (omega arith)

none_is : (o : Option ℕ) → o ≡ None → IsSome o → ⊥
none_is o e h = let k : false ≡ true = sym (ap is_some e) ∙ h in cc

-- from RAM's base on, a byte stands at each address of RAM and at no other
pub has_byte : (ws xs : List ℕ) (a n : ℕ) → length ws ≤ most_words → n ≡ length xs → ram_base ≤ a → IsSome (map.get (laid ws xs) a) ↔ (a < ram_base + n)
has_byte ws xs a n few e high =
    let here : IsSome (map.get (laid ws xs) a) → a < ram_base + n = λ h. elim (cases_lt a (ram_base + n)) [
      | inl inside ↦ inside
      | inr past ↦ absurd (none_is _ (at_ram ws xs a few high ∙ get-map_of_above xs a (omega arith)) h)
    ] in
    let there : a < ram_base + n → IsSome (map.get (laid ws xs) a) = λ h.
    ap is_some (at_ram ws xs a few high ∙ get-map_of xs (a - ram_base) a (omega arith) ∙ slice_get-get_or xs (a - ram_base) 0 (omega arith)) in
    (here, there)

-- ---- an image

-- an image over the first bytes of RAM leaves the words
pub with_image-laid : (ws xs image : List ℕ) → length ws ≤ most_words → with_image (laid ws xs) image ≡ laid ws (image ++ drop (length image) xs)
with_image-laid ws xs image few = same_map nat_cmp_total nat_cmp-IsAntisymmetric _ _ (λ q.
    get-with_image (laid ws xs) image q ∙ elim (cases_lt q ram_base) [
      | inl low ↦
          ap (λ o. option_or o (map.get (laid ws xs) q)) (get-map_of_below image q low)
          ∙ laid_words ws xs q low ∙ sym (laid_words ws (image ++ drop (length image) xs) q low)
      | inr high ↦
          ap (option_or (map.get (map_of image) q)) (at_ram ws xs q few high)
          ∙ sym (get-with_image (map_of xs) image q) ∙ ap (λ m. map.get m q) (with_image-map_of xs image)
          ∙ sym (at_ram ws (image ++ drop (length image) xs) q few high)
    ])
