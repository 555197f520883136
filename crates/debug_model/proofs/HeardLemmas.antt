-- What was heard of an object that tells its bytes to come: a wrong one behind good ones is a wrong one of all.
use Rattle.std.proofs.Common.{◌≡◌, ◌∙◌, ℕ, List, [], ◌∷◌, ◌++◌, Bool, map, refl, sym, ap, append_assoc}
use Rattle.debug_model.specs.Chip.{answer_byte}
use Rattle.debug_model.specs.Scan.{CameWrong}

pub wrong_behind : (b : ℕ) (out : List Bool) (bytes rest : List ℕ) → bytes ≡ map answer_byte out ++ rest → CameWrong b rest → CameWrong b bytes
wrong_behind b out bytes rest is w = record {
  good = out ++ w.good;
  rest = w.rest;
  is = is ∙ ap (λ xs. map answer_byte out ++ xs) w.is ∙ sym (append_assoc (map answer_byte out) (map answer_byte w.good) (b ∷ w.rest))
      ∙ ap (λ xs. xs ++ b ∷ w.rest) (sym (map_two out w.good));
}
  where
    map_two : (xs ys : List Bool) → map answer_byte (xs ++ ys) ≡ map answer_byte xs ++ map answer_byte ys
    map_two [] ys = refl
    map_two (x ∷ xs) ys = ap (λ zs. answer_byte x ∷ zs) (map_two xs ys)
