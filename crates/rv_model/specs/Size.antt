-- The sizes of an access to memory.
use Rattle.std.specs.Prelude.{ℕ}
use Rattle.rv_model.specs.declared.size.Size.{Size}
use Rattle.rv_model.specs.declared.size.Size.TheVariants.{B1, B2, B4, B8}

-- how many bytes a size has
abbrev pub count_of : Size → ℕ
count_of B1 = 1
count_of B2 = 2
count_of B4 = 4
count_of B8 = 8
