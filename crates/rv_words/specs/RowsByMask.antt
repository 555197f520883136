-- The rows of a list that look at the same bits of a word.
-- Some opcodes of the unprivileged manual's "RV32/64G Instruction Set Listings" have rows of two masks; each part is told by a comparison of its own.
use Rattle.std.specs.Prelude.{ℕ, ◌==◌, List, filter}
use Rattle.rv_model.specs.Rows.{Row}

abbrev pub rows_by_mask : ℕ → List Row → List Row
rows_by_mask mask rs = filter (λ r. r.mask == mask) rs
