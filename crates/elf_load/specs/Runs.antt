-- The runs of a file: elements of one size, each behind the one before, which one call stores; and how many calls a file takes at most.
-- It is this project's own choice: a run ends where the size changes, where the segment does, and behind as many elements as one call takes.
use Rattle.std.specs.Prelude.{◌==◌, ◌&&◌, ◌+◌, ◌*◌, ◌/◌, ◌%◌, ℕ, List, [], ◌∷◌, if◌then◌else◌, flat_map, length, nat_le, not}
use Rattle.rv_model.specs.declared.size.Size.{Size}
use Rattle.rv_model.specs.declared.size.Size.TheVariants.{B1, B8}
use Rattle.rv_model.specs.Size.{count_of}
use Rattle.elf_load.specs.declared.element.Element.{Element}
use Rattle.elf_load.specs.declared.file.Segment.{Segment}
use Rattle.elf_load.specs.declared.run.Run.{Run}
use Rattle.elf_load.specs.Elf.{elements, memory_size}
use Rattle.elf_load.specs.Fields.{segments_of}

-- ---- what a run is

-- these values as elements of one size, upwards from an address
abbrev pub in_a_row : Size → ℕ → List ℕ → List Element
in_a_row size address [] = []
in_a_row size address (v ∷ values) = record { address = address; size = size; value = v } ∷ in_a_row size (address + count_of size) values

abbrev pub elements_in : Run → List Element
elements_in r = in_a_row r.size r.address r.values.items

abbrev pub joined : List Run → List Element
joined runs = flat_map elements_in runs

-- ---- how many

-- how many bytes the element at an address has, with so many bytes of its segment from there on
abbrev pub size_from : ℕ → ℕ → Size
size_from address bytes = if address % 8 == 0 && nat_le 8 bytes then B8 else B1

-- how many bytes a run of eight bytes each has at most
abbrev pub run_bytes : ℕ
run_bytes = 4096

-- how many calls so many bytes from an address on take at most: those up to a multiple of 8 one, those behind the last multiple one, and between them one
-- for each so many bytes, and for those that are left
abbrev pub calls_from : ℕ → ℕ → ℕ
calls_from address bytes =
    if bytes == 0 then 0
    else (if not (address % 8 == 0) then 3 + bytes / run_bytes
    else (if nat_le 8 bytes then 2 + bytes / run_bytes
    else 1))

-- and the segments of a file
abbrev pub calls_most : List Segment → ℕ
calls_most segments = 3 * length segments + memory_size segments / run_bytes

-- how often loading a file lets TCK rise at most where the schedule is fair, in operations of the rate: six for each element, and 14 round those of a call
abbrev pub load_rises : List ℕ → ℕ
load_rises file = 6 * length (elements file) + 14 * calls_most (segments_of file)
