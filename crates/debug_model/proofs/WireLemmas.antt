-- Readings of a wire of which nothing came.
use Rattle.std.proofs.Common.{◌≡◌, ℕ, List, [], replicate, Option, Some, None, refl}
use Rattle.debug_model.specs.Told.{Far}
use Rattle.debug_model.specs.Wire.{ReadsSome, no_answer}

pub none_came : (n : ℕ) (into : List ℕ) (told : Option Far) → into ≡ replicate n no_answer → ReadsSome into told told
none_came n into None filled = refl
none_came n into (Some f) filled = (f.unread, record { came = []; missing = n; are = refl; stand = filled }, refl)
