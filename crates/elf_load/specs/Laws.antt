-- What the elements of a file are to memory: its segments laid one after another over what was there, zeros behind the bytes of the file included.
-- System V ABI, "Program Header".
use Rattle.std.specs.Prelude.{◌≡◌, ◌+◌, ◌-◌, ◌<◌, ◌&&◌, ℕ, List, [], ◌∷◌, Option, None, Some, if◌then◌else◌, nat_le, nat_lt, slice_index}
use Rattle.std.specs.FinMap.{get}
use Rattle.rv_model.specs.Memory.{Bytes, kept_byte, with_value}
use Rattle.rv_model.specs.Size.{count_of}
use Rattle.elf_load.specs.declared.element.Element.{Element}
use Rattle.elf_load.specs.declared.file.Segment.{Segment}
use Rattle.elf_load.specs.Elf.{elements, refusal_of}
use Rattle.elf_load.specs.Fields.{segments_of}

-- memory's bytes behind these elements, in order
abbrev pub with_elements : Bytes → List Element → Bytes
with_elements m [] = m
with_elements m (e ∷ es) = with_elements (with_value m e.address (count_of e.size) e.value) es

-- a byte of a segment: one of the file, or a zero behind these
abbrev pub byte_of : List ℕ → Segment → ℕ → ℕ
byte_of file s i = if nat_lt i s.in_file then slice_index file (s.offset + i) else 0

-- what stands at an address behind a segment that is laid over what was there, as a write keeps it
abbrev pub covered : List ℕ → Segment → ℕ → Option ℕ → Option ℕ
covered file s x was = if nat_le s.address x && nat_lt x (s.address + s.in_memory) then Some (kept_byte x (byte_of file s (x - s.address))) else was

-- and behind several, in order
abbrev pub laid : List ℕ → List Segment → ℕ → Option ℕ → Option ℕ
laid file [] x was = was
laid file (s ∷ segments) x was = laid file segments x (covered file s x was)

-- of a file without a fault, over any memory, at any address
abbrev pub ElementsLaySegments : Type 0
ElementsLaySegments =
    (file : List ℕ) → ((i : ℕ) → slice_index file i < 256) → refusal_of file ≡ None
    → (m : Bytes) (x : ℕ) → get (with_elements m (elements file)) x ≡ laid file (segments_of file) x (get m x)
