-- Points that compare as the same are the same.
use Rattle.std.proofs.Common.{◌≡◌, ◌∙◌, ℕ, zero, suc, Bool, true, false, ◌&&◌, eqb, refl, sym, ap}
use Rattle.std.proofs.lemmas.Bool.{eqb-true, false≢true}
use Rattle.debug_model.specs.declared.point.Point.{Point}
use Rattle.debug_model.specs.declared.point.Point.TheVariants.{Turn, Look, HaltReq, HaltClear, ResumeReq, Access}
use Rattle.abstract_debugger.specs.Transcript.{kind, number_of, same_point}

abbrev point_of : ℕ → ℕ → Point
point_of zero n = Turn n
point_of (suc zero) n = Look n
point_of (suc (suc zero)) n = HaltReq n
point_of (suc (suc (suc zero))) n = HaltClear n
point_of (suc (suc (suc (suc zero)))) n = ResumeReq n
point_of (suc (suc (suc (suc (suc k))))) n = Access

point-again : (p : Point) → p ≡ point_of (kind p) (number_of p)
point-again (Turn h) = refl
point-again (Look n) = refl
point-again (HaltReq h) = refl
point-again (HaltClear h) = refl
point-again (ResumeReq h) = refl
point-again Access = refl

left_of : (a b : Bool) → (a && b) ≡ true → a ≡ true
left_of true b is = refl
left_of false b is = absurd (false≢true is)

right_of : (a b : Bool) → (a && b) ≡ true → b ≡ true
right_of true b is = is
right_of false b is = absurd (false≢true is)

pub same_point-equal : (p q : Point) → same_point p q ≡ true → p ≡ q
same_point-equal p q is =
    point-again p
    ∙ ap (λ k. point_of k (number_of p)) (eqb-true (kind p) (kind q) (left_of (eqb (kind p) (kind q)) (eqb (number_of p) (number_of q)) is))
    ∙ ap (λ n. point_of (kind q) n) (eqb-true (number_of p) (number_of q) (right_of (eqb (kind p) (kind q)) (eqb (number_of p) (number_of q)) is))
    ∙ sym (point-again q)
