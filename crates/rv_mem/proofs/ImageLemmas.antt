-- How many bytes RAM has and where they stand, and what stands in RAM with an image.
use Rattle.std.proofs.Common.{◌≡◌, ℕ, zero, suc, ◌+◌, ◌-◌, Bool, true, false, cond, List, [], ◌∷◌, ◌++◌, length, drop}
use Rattle.std.proofs.Common.{Option, Some, None, is_some, slice_get, refl, sym, ap, ◌∙◌, inl, inr, arith, add-one}
use Rattle.std.specs.FinMap as map
use Rattle.std.specs.FinMap.{same_map, get-from_entries, get-entries, len-empty, len-insert, nat_cmp-IsAntisymmetric}
use Rattle.std.specs.Cmp.{nat_cmp_total}
use Rattle.std.specs.Ordering.{nat_cmp, eq_by_cmp}
use Rattle.std.specs.List.{enumerate_from}
use Rattle.std.specs.Option.{option_or}
use Rattle.std.proofs.Math.Seq.{drop-nil}
use Rattle.std.proofs.lemmas.Bool.{cases_lt}
use Rattle.rv_model.specs.Memory.{map_of, ram_base, Bytes}
use Rattle.rv_model.proofs.MapLemmas.{find_below, get-map_of, get-map_of_below}
use Rattle.rv_model.specs.Image.{with_image}

-- ---- RAM's bytes

abbrev from : ℕ → List ℕ → Bytes
from n xs = map.from_entries (enumerate_from n xs)

len_from : (n : ℕ) (xs : List ℕ) → map.len (from n xs) ≡ length xs
len_from n [] = len-empty nat_cmp ℕ
len_from n (x ∷ xs) =
    let absent : map.get (from (n + 1) xs) n ≡ None = get-from_entries nat_cmp_total (enumerate_from (n + 1) xs) n ∙ find_below xs (n + 1) n (omega arith) in
    len-insert nat_cmp_total (from (n + 1) xs) n x
    ∙ ap (λ o. cond (is_some o) (map.len (from (n + 1) xs)) (map.len (from (n + 1) xs) + 1)) absent
    ∙ ap (λ k. k + 1) (len_from (n + 1) xs) ∙ add-one (length xs)

pub len-map_of : (xs : List ℕ) → map.len (map_of xs) ≡ length xs
unfolding map_of
len-map_of xs = len_from ram_base xs

-- ---- an image

pub option_or_cond : (b : Bool) (v : ℕ) (o p : Option ℕ) → cond b (Some v) (option_or o p) ≡ option_or (cond b (Some v) o) p
option_or_cond true v o p = refl
option_or_cond false v o p = refl

pub find_append : (q : ℕ) (es fs : List (ℕ × ℕ)) → map.find nat_cmp q (es ++ fs) ≡ option_or (map.find nat_cmp q es) (map.find nat_cmp q fs)
find_append q [] fs = refl
find_append q (e ∷ es) fs =
    ap (cond (eq_by_cmp nat_cmp q e.0) (Some e.1)) (find_append q es fs)
    ∙ option_or_cond (eq_by_cmp nat_cmp q e.0) e.1 (map.find nat_cmp q es) (map.find nat_cmp q fs)

-- the image's byte where it has one, and else the byte that stood there
pub get-with_image : (m : Bytes) (image : List ℕ) (q : ℕ) → map.get (with_image m image) q ≡ option_or (map.get (map_of image) q) (map.get m q)
unfolding with_image map_of
get-with_image m image q =
    get-from_entries nat_cmp_total (enumerate_from ram_base image ++ map.entries m) q
    ∙ find_append q (enumerate_from ram_base image) (map.entries m)
    ∙ ap (λ o. option_or o (map.find nat_cmp q (map.entries m))) (sym (get-from_entries nat_cmp_total (enumerate_from ram_base image) q))
    ∙ ap (option_or (map.get (map.from_entries (enumerate_from ram_base image)) q)) (sym (get-entries m q))

slice_get-over : (ys xs : List ℕ) (i : ℕ) → slice_get (ys ++ drop (length ys) xs) i ≡ option_or (slice_get ys i) (slice_get xs i)
slice_get-over [] xs i = refl
slice_get-over (y ∷ ys) xs zero = refl
slice_get-over (y ∷ ys) [] (suc i) = ap (λ l. slice_get (ys ++ l) i) (sym (drop-nil (length ys))) ∙ slice_get-over ys [] i
slice_get-over (y ∷ ys) (x ∷ xs) (suc i) = slice_get-over ys xs i

-- an image over the first bytes of a list
pub with_image-map_of : (xs image : List ℕ) → with_image (map_of xs) image ≡ map_of (image ++ drop (length image) xs)
with_image-map_of xs image =
    let at : (q : ℕ) → map.get (with_image (map_of xs) image) q ≡ map.get (map_of (image ++ drop (length image) xs)) q = λ q.
    get-with_image (map_of xs) image q ∙ elim (cases_lt q ram_base) [
      | inl low ↦
          ap (λ o. option_or o (map.get (map_of xs) q)) (get-map_of_below image q low)
          ∙ get-map_of_below xs q low ∙ sym (get-map_of_below (image ++ drop (length image) xs) q low)
      | inr high ↦
          let place : q ≡ ram_base + (q - ram_base) = omega arith in
          ap (λ o. option_or o (map.get (map_of xs) q)) (get-map_of image (q - ram_base) q place)
          ∙ ap (option_or (slice_get image (q - ram_base))) (get-map_of xs (q - ram_base) q place)
          ∙ sym (get-map_of (image ++ drop (length image) xs) (q - ram_base) q place ∙ slice_get-over image xs (q - ram_base))
    ] in
    same_map nat_cmp_total nat_cmp-IsAntisymmetric _ _ at
