-- The fields of an ELF file: numbers, the least significant byte first, at fixed places of its header and of each program header.
-- System V ABI, "ELF Header", "ELF Identification" and "Program Header"; RISC-V ELF psABI, "File Header".
use Rattle.std.specs.Prelude.{◌==◌, ◌&&◌, ◌+◌, ◌*◌, ℕ, zero, suc, Bool, List, [], ◌∷◌, drop, map, slice_index, take}
use Rattle.std.specs.List.{filter}
use Rattle.elf_load.specs.declared.file.Segment.{Segment}

-- ---- numbers

-- the number that these bytes spell
abbrev pub number_of : List ℕ → ℕ
number_of [] = 0
number_of (b ∷ bytes) = b + 256 * number_of bytes

-- the number in so many bytes at a place
unfoldable pub number_at : ℕ → ℕ → List ℕ → ℕ
number_at at count bytes = number_of (take count (drop at bytes))

-- ---- the header

abbrev pub header_size : ℕ
header_size = 64

-- 0x7f and "ELF"
abbrev pub begins_as_elf : List ℕ → Bool
begins_as_elf file = slice_index file 0 == 0x7f && slice_index file 1 == 0x45 && slice_index file 2 == 0x4c && slice_index file 3 == 0x46

-- objects of 64 bits, numbers with the least significant byte first, version 1 twice, an executable at fixed addresses, for RISC-V
abbrev pub is_known_kind : List ℕ → Bool
is_known_kind file =
    slice_index file 4 == 2 && slice_index file 5 == 1 && slice_index file 6 == 1
    && number_at 16 2 file == 2 && number_at 18 2 file == 243 && number_at 20 4 file == 1

abbrev pub entry_of : List ℕ → ℕ
entry_of file = number_at 24 8 file

-- where the table of the program headers begins, how long each of them is, and how many there are
abbrev pub program_headers_offset : List ℕ → ℕ
program_headers_offset file = number_at 32 8 file

abbrev pub program_header_size : List ℕ → ℕ
program_header_size file = number_at 54 2 file

abbrev pub program_header_count : List ℕ → ℕ
program_header_count file = number_at 56 2 file

-- ---- program headers

-- the bytes of a program header
abbrev pub entry_size : ℕ
entry_size = 56

abbrev pub program_header_table : List ℕ → List ℕ
program_header_table file = take (entry_size * program_header_count file) (drop (program_headers_offset file) file)

-- so many program headers, one after another
abbrev pub program_headers : ℕ → List ℕ → List (List ℕ)
program_headers zero table = []
program_headers (suc count) table = take entry_size table ∷ program_headers count (drop entry_size table)

-- is it of a segment to be loaded?
abbrev pub is_load : List ℕ → Bool
is_load header = number_at 0 4 header == 1

abbrev pub segment_of : List ℕ → Segment
segment_of header = record {
  offset = number_at 8 8 header;
  address = number_at 24 8 header;
  in_file = number_at 32 8 header;
  in_memory = number_at 40 8 header;
}

-- the segments to be loaded of so many program headers
abbrev pub load_segments : ℕ → List ℕ → List Segment
load_segments count table = map segment_of (filter is_load (program_headers count table))

-- those of a file
abbrev pub segments_of : List ℕ → List Segment
segments_of file = load_segments (program_header_count file) (program_header_table file)
