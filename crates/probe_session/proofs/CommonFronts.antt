-- Lines that stand in front of two lists which differ behind some first lines: they end within these.
use Rattle.std.proofs.Common.{◌≡◌, ◌∙◌, ◌++◌, List, [], ◌∷◌, refl, sym, ap, append_assoc}
use Rattle.abstract_debugger.specs.Laws.{IsFront}
use Rattle.abstract_debugger.specs.Lines.{Line}

heads : (x y : Line) (xs ys : List Line) → x ∷ xs ≡ y ∷ ys → x ≡ y
heads x y xs ys is = cc

tails : (x y : Line) (xs ys : List Line) → x ∷ xs ≡ y ∷ ys → xs ≡ ys
tails x y xs ys is = cc

-- behind the same lines
pub next_same : (said : List Line) (a b : Line) (xs ys : List Line) → said ++ a ∷ xs ≡ said ++ b ∷ ys → a ≡ b
next_same [] a b xs ys is = heads a b xs ys is
next_same (s ∷ said) a b xs ys is = next_same said a b xs ys (tails s s (said ++ a ∷ xs) (said ++ b ∷ ys) is)

within_both : (said front : List Line) (a b : Line) (xs ys more less : List Line) → (a ≡ b → ⊥) → front ++ more ≡ said ++ a ∷ xs → front ++ less ≡ said ++ b ∷ ys
    → IsFront front said
within_both said [] a b xs ys more less other first second = record { rest = said; is = refl }
within_both [] (l ∷ front) a b xs ys more less other first second =
    absurd (other (sym (heads l a (front ++ more) xs first) ∙ heads l b (front ++ less) ys second))
within_both (s ∷ said) (l ∷ front) a b xs ys more less other first second =
    let f : IsFront front said =
    within_both said front a b xs ys more less other (tails l s (front ++ more) (said ++ a ∷ xs) first) (tails l s (front ++ less) (said ++ b ∷ ys) second) in
    record {
      rest = f.rest;
      is = ap (λ (x : Line). x ∷ said) (sym (heads l s (front ++ more) (said ++ a ∷ xs) first)) ∙ ap (λ (xs : List Line). l ∷ xs) f.is;
    }

-- the lines behind some first ones, of a list that these stand in front of
abbrev Behind : (said whole : List Line) (a : Line) → Type 0
Behind said whole a = (rest : List Line) × (whole ≡ said ++ a ∷ rest)

behind_front : (said more whole : List Line) (a : Line) → IsFront (said ++ a ∷ more) whole → Behind said whole a
behind_front said more whole a f = (more ++ f.rest, f.is ∙ append_assoc said (a ∷ more) f.rest)

pub common_front : (said front one other : List Line) (a b : Line) (xs ys : List Line) → (a ≡ b → ⊥) → IsFront front one → IsFront front other
    → IsFront (said ++ a ∷ xs) one → IsFront (said ++ b ∷ ys) other → IsFront front said
common_front said front one other a b xs ys differ f g first second =
    let at_a : Behind said one a = behind_front said xs one a first in
    let at_b : Behind said other b = behind_front said ys other b second in
    within_both said front a b at_a.0 at_b.0 f.rest g.rest differ (sym f.is ∙ at_a.1) (sym g.is ∙ at_b.1)

pub not_both : (said whole : List Line) (a b : Line) (xs ys : List Line) → (a ≡ b → ⊥) → IsFront (said ++ a ∷ xs) whole → IsFront (said ++ b ∷ ys) whole → ⊥
not_both said whole a b xs ys differ first second =
    let at_a : Behind said whole a = behind_front said xs whole a first in
    let at_b : Behind said whole b = behind_front said ys whole b second in
    differ (next_same said a b at_a.0 at_b.0 (sym at_a.1 ∙ at_b.1))
