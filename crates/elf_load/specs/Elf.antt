-- When an ELF file is refused, each fault by what it says of the file's bytes, and what is read of one that isn't.
-- System V ABI, "ELF Header" and "Program Header"; the limits of 64 segments and 16,384 elements are this project's own choice.
use Rattle.std.specs.Prelude.{◌≡◌, ◌==◌, ◌||◌, ◌+◌, ◌*◌, ◌^◌, ℕ, Bool, not, if◌then◌else◌, List, Option, Some, None, flat_map, length, nat_lt, sum_by}
use Rattle.std.specs.List.{list_any}
use Rattle.elf_load.specs.declared.fault.ElfFault.{ElfFault}
use Rattle.elf_load.specs.declared.fault.ElfFault.TheVariants.{Short, NotElf, Kind, Headers, Segment as BadSegment, TooLarge}
use Rattle.elf_load.specs.declared.element.Element.{Element}
use Rattle.elf_load.specs.declared.file.Elf.{Elf}
use Rattle.elf_load.specs.declared.file.Segment.{Segment}
use Rattle.elf_load.specs.Elements.{elements_of}
use Rattle.elf_load.specs.Fields.{
  begins_as_elf,
  entry_of,
  entry_size,
  header_size,
  is_known_kind,
  program_header_count,
  program_header_size,
  program_headers_offset,
  segments_of,
}

-- ---- the elements of a file, those of its segments in order

abbrev pub elements : List ℕ → List Element
elements file = flat_map (elements_of file) (segments_of file)

abbrev pub elements_most : ℕ
elements_most = 16384

-- how many bytes segments have in memory together
abbrev pub memory_size : List Segment → ℕ
memory_size segments = sum_by (λ s. s.in_memory) segments

-- ---- the faults

abbrev pub is_short : List ℕ → Bool
is_short file = nat_lt (length file) header_size

abbrev pub segments_most : ℕ
segments_most = 64

-- headers of another size, none or too many, or a table that passes the file's end
abbrev pub has_bad_table : List ℕ → Bool
has_bad_table file =
    not (program_header_size file == entry_size) || nat_lt (program_header_count file) 1 || nat_lt segments_most (program_header_count file)
    || nat_lt (length file) (program_headers_offset file + entry_size * program_header_count file)

abbrev pub all_addresses : ℕ
all_addresses = 2 ^ 64

-- in a file of this length: it passes the file's end, has fewer bytes in memory than in the file, or passes the last address
abbrev pub is_bad_segment : ℕ → Segment → Bool
is_bad_segment size s = nat_lt size (s.offset + s.in_file) || nat_lt s.in_memory s.in_file || nat_lt all_addresses (s.address + s.in_memory)

abbrev pub has_bad_segment : List ℕ → Bool
has_bad_segment file = list_any (is_bad_segment (length file)) (segments_of file)

abbrev pub is_too_large : List ℕ → Bool
is_too_large file = nat_lt elements_most (length (elements file))

-- the first fault
abbrev pub refusal_of : List ℕ → Option ElfFault
refusal_of file =
    if is_short file then Some Short
    else (if not (begins_as_elf file) then Some NotElf
    else (if not (is_known_kind file) then Some Kind
    else (if has_bad_table file then Some Headers
    else (if has_bad_segment file then Some BadSegment
    else (if is_too_large file then Some TooLarge
    else None)))))

abbrev pub fault_number : ElfFault → ℕ
fault_number Short = 11
fault_number NotElf = 12
fault_number Kind = 13
fault_number Headers = 14
fault_number BadSegment = 15
fault_number TooLarge = 16

-- ---- what is read: the file has no fault, and these are its entry and its segments

pub record ReadsAs (file : List ℕ) (elf : Elf) : Type 0 where
  pub sound : refusal_of file ≡ None
  pub entry_is : elf.entry ≡ entry_of file
  pub segments_are : elf.segments.items ≡ segments_of file
