-- An image that is put into memory as a whole, from the start of RAM on.
-- How a program comes into memory is this project's own choice; reservations fall as under any store
-- (unprivileged manual, "Load-Reserved/Store-Conditional Instructions").
use Rattle.std.specs.Prelude.{ℕ, List, ◌++◌, length, nat_le}
use Rattle.std.specs.FinMap.{entries, from_entries, len, retain_keys}
use Rattle.std.specs.List.{enumerate_from}
use Rattle.rv_model.specs.Memory.{Memory, Bytes, cleared, ram_base}

-- how many bytes RAM has: those from its base on
unfoldable pub ram_size : Memory → ℕ
ram_size m = len (retain_keys m.bytes (λ a. nat_le ram_base a))

-- the image's bytes one after another from RAM's base on, and at every other address the byte that stood there
unfoldable pub with_image : Bytes → List ℕ → Bytes
with_image m image = from_entries (enumerate_from ram_base image ++ entries m)

-- memory with an image, and without the reservations that it touches
abbrev pub filled : Memory → List ℕ → Memory
filled m image = cleared (record m { bytes = with_image m.bytes image }) ram_base (length image)
