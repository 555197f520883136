-- The elements of a segment: what is stored at once, eight bytes where the address is a multiple of 8, and else one.
-- System V ABI, "Program Header"; how a segment is cut is this project's own choice.
use Rattle.std.specs.Prelude.{◌+◌, ◌-◌, ◌*◌, ◌/◌, ◌%◌, ℕ, zero, suc, List, [], ◌∷◌, ◌++◌, drop, length, min, replicate, take}
use Rattle.rv_model.specs.declared.size.Size.TheVariants.{B1, B8}
use Rattle.elf_load.specs.declared.element.Element.{Element}
use Rattle.elf_load.specs.declared.file.Segment.{Segment}
use Rattle.elf_load.specs.Fields.{number_of}

-- the bytes of a segment: those of the file, and zeros behind them
unfoldable pub bytes_of : List ℕ → Segment → List ℕ
bytes_of file s = take s.in_file (drop s.offset file) ++ replicate (s.in_memory - s.in_file) 0

-- bytes from an address on, each an element
abbrev pub singles : ℕ → List ℕ → List Element
singles address [] = []
singles address (b ∷ bytes) = record { address = address; size = B1; value = b } ∷ singles (address + 1) bytes

-- so many elements of eight bytes each
abbrev pub words : ℕ → ℕ → List ℕ → List Element
words zero address bytes = []
words (suc count) address bytes = record { address = address; size = B8; value = number_of (take 8 bytes) } ∷ words count (address + 8) (drop 8 bytes)

-- how far an address is below the next multiple of 8
abbrev pub to_multiple : ℕ → ℕ
to_multiple address = (8 - address % 8) % 8

-- cut at a place into single bytes and what follows, and that behind so many elements of eight bytes
abbrev pub cut_at : ℕ → ℕ → ℕ → List ℕ → List Element
cut_at front count address bytes =
    singles address (take front bytes) ++ words count (address + front) (drop front bytes)
    ++ singles (address + front + 8 * count) (drop (front + 8 * count) bytes)

-- bytes from an address on: single bytes up to a multiple of 8, then eight bytes each, then single bytes
unfoldable pub cut : ℕ → List ℕ → List Element
cut address bytes = let front = min (to_multiple address) (length bytes) in cut_at front ((length bytes - front) / 8) address bytes

-- the elements of a segment
abbrev pub elements_of : List ℕ → Segment → List Element
elements_of file s = cut s.address (bytes_of file s)
