-- Harts as a loaded chip has them: one more stands behind the others.
use Rattle.std.proofs.Common.{◌≡◌, ◌∙◌, ◌+◌, ℕ, zero, suc, List, [], ◌∷◌, ◌++◌, replicate, Option, sym, ap, arith}
use Rattle.rv_model.specs.declared.cause.Cause.{Cause}
use Rattle.rv_model.specs.declared.version.Version.{Version}
use Rattle.rv_model.specs.Board.{Hart, reset_hart, reset_harts}
use Rattle.debug_model.specs.Loaded.{loaded_harts}

one_behind : (v : Version) (id n : ℕ) (why : Option Cause)
    → reset_harts v id (replicate (suc n) why) ≡ reset_harts v id (replicate n why) ++ reset_hart v (id + n) why ∷ []
one_behind v id zero why = let e : id ≡ id + 0 = omega arith in ap (λ k. reset_hart v k why ∷ []) e
one_behind v id (suc n) why =
    let e : (id + 1) + n ≡ id + suc n = omega arith in
    ap (λ (hs : List Hart). reset_hart v id why ∷ hs)
    (one_behind v (id + 1) n why ∙ ap (λ k. reset_harts v (id + 1) (replicate n why) ++ reset_hart v k why ∷ []) e)

pub one_hart_more : (v : Version) (n : ℕ) (why : Option Cause) → loaded_harts v (suc n) why ≡ loaded_harts v n why ++ reset_hart v n why ∷ []
one_hart_more v n why = let e : 0 + n ≡ n = omega arith in one_behind v 0 n why ∙ ap (λ k. loaded_harts v n why ++ reset_hart v k why ∷ []) e
