-- When a branch is taken. Unprivileged manual, "Conditional Branches".
use Rattle.std.specs.Prelude.{ℕ, Bool, not, nat_lt, ◌==◌, int_lt}
use Rattle.rv_model.specs.declared.condition.Condition.{Condition}
use Rattle.rv_model.specs.declared.condition.Condition.TheVariants.{Equal, Different, Below, NotBelow, BelowUnsigned, NotBelowUnsigned}
use Rattle.rv_model.specs.Alu.{signed}

abbrev pub holds : Condition → ℕ → ℕ → Bool
holds Equal a b = a == b
holds Different a b = not (a == b)
holds Below a b = int_lt (signed a) (signed b)
holds NotBelow a b = not (int_lt (signed a) (signed b))
holds BelowUnsigned a b = nat_lt a b
holds NotBelowUnsigned a b = not (nat_lt a b)
