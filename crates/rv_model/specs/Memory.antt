-- Memory as a finite map from addresses to bytes, and the reservations that stand beside it, one place for each hart.
-- Unprivileged manual, "Load and Store Instructions" and "Load-Reserved/Store-Conditional Instructions"; what lies outside RAM and the harts' MSIP words
-- has no byte, an access is misaligned before it is outside, and a reservation is the aligned eight bytes round its address: these are this project's own
-- choice. RISC-V Advanced Core Local Interruptor Specification, "Machine-level Software Interrupt Device": the MSIP words, of which bit 0 can be written.
use Rattle.std.specs.Prelude.{◌≡◌, ℕ, zero, suc, ◌+◌, ◌*◌, ◌/◌, ◌%◌, ◌≤◌, Bool, false, ◌&&◌, if◌then◌else◌, nat_lt, nat_le, ◌==◌, List, ◌++◌, map, replicate, ⊤}
use Rattle.std.specs.Prelude.{Option, Some, None, is_some, Result, Ok, Err, option_map, slice_get, slice_set}
use Rattle.std.specs.Coded.{Coded, code_by, coded×, coded_ℕ, coded_list, coded_option}
use Rattle.std.specs.FinMap.{FinMap, code, get, insert, from_entries}
use Rattle.std.specs.Ordering.{nat_cmp}
use Rattle.std.specs.List.{enumerate_from}
use Rattle.std.specs.Prelude.{refl}
use Rattle.rv_model.specs.declared.mem_fault.MemFault.{MemFault}
use Rattle.rv_model.specs.declared.mem_fault.MemFault.TheVariants.{Misaligned, Outside}
use Rattle.rv_model.specs.declared.size.Size.{Size}
use Rattle.rv_model.specs.declared.size.Size.TheVariants.{B4}
use Rattle.rv_model.specs.Size.{count_of}

abbrev pub Bytes : Type 0
Bytes = FinMap nat_cmp ℕ

pub record Memory : Type 0 where
  pub bytes : Bytes
  pub reserved : List (Option ℕ)

-- ---- RAM's domain

abbrev pub ram_base : ℕ
ram_base = 0x80000000

-- the fewest and the most bytes that RAM has, and what its size is a multiple of
abbrev pub smallest_ram : ℕ
smallest_ram = 65536

abbrev pub largest_ram : ℕ
largest_ram = 16777216

abbrev pub page_size : ℕ
page_size = 4096

-- a number of bytes that RAM may have
pub record IsRamSize (size : ℕ) : Type 0 where
  pub smallest : smallest_ram ≤ size
  pub largest : size ≤ largest_ram
  pub whole : size % page_size ≡ 0

-- the map of a list of bytes, the first of which stands at a base
unfoldable pub bytes_from : ℕ → List ℕ → Bytes
bytes_from base xs = from_entries (enumerate_from base xs)

-- the map of a list of bytes, the first of which stands at RAM's base
unfoldable pub map_of : List ℕ → Bytes
map_of xs = from_entries (enumerate_from ram_base xs)

abbrev pub hart_places : ℕ
hart_places = 4

-- RAM as it is made: so many zeros, and no reservation
abbrev pub zero_memory : ℕ → Memory
zero_memory size = record { bytes = map_of (replicate size 0); reserved = replicate hart_places None }

-- ---- the words of software interrupts

-- where hart 0 has its MSIP word; the next hart has the next
abbrev pub msip_base : ℕ
msip_base = 0x2000000

-- how many bytes an MSIP word has
abbrev pub msip_size : ℕ
msip_size = 4

-- is an address one of the MSIP words' of the most harts?
abbrev pub is_msip : ℕ → Bool
is_msip a = nat_le msip_base a && nat_lt a (msip_base + msip_size * hart_places)

-- what a write of a byte keeps of it: of an MSIP word bit 0, and elsewhere all
unfoldable pub kept_byte : ℕ → ℕ → ℕ
kept_byte a v = if is_msip a then (if a % msip_size == 0 then v % 2 else 0) else v

-- the map of the MSIP words' bytes and of RAM's
unfoldable pub laid : List ℕ → List ℕ → Bytes
laid words xs = from_entries (enumerate_from msip_base words ++ enumerate_from ram_base xs)

-- memory as it is made with MSIP words for so many harts: zeros, and no reservation
abbrev pub msip_memory : ℕ → ℕ → Memory
msip_memory size harts = record { bytes = laid (replicate (msip_size * harts) 0) (replicate size 0); reserved = replicate hart_places None }

abbrev pub is_set : Option ℕ → Bool
is_set (Some b) = b % 2 == 1
is_set None = false

-- a hart's software interrupt pends; it does not where the hart has no MSIP word
abbrev pub msip_bit : Memory → ℕ → Bool
msip_bit m h = nat_lt h hart_places && is_set (get m.bytes (msip_base + msip_size * h))

-- ---- values

abbrev pub with_byte : Option ℕ → Option ℕ → Option ℕ
with_byte None rest = None
with_byte (Some b) rest = option_map (λ v. b + 256 * v) rest

-- the value of the bytes from an address on, so many, the least significant first; none where one of them is missing
abbrev pub value_at : Bytes → ℕ → ℕ → Option ℕ
value_at m a zero = Some 0
value_at m a (suc n) = with_byte (get m a) (value_at m (a + 1) n)

-- the map with what a write keeps of a value's lowest bytes, so many, from an address on
abbrev pub with_value : Bytes → ℕ → ℕ → ℕ → Bytes
with_value m a zero v = m
with_value m a (suc n) v = with_value (insert m a (kept_byte a (v % 256))) (a + 1) n (v / 256)

abbrev pub is_aligned : ℕ → Size → Bool
is_aligned a size = a % count_of size == 0

-- every byte of the access lies in memory
abbrev pub is_inside : Memory → ℕ → Size → Bool
is_inside m a size = is_some (value_at m.bytes a (count_of size))

abbrev pub or_outside : Option ℕ → Result ℕ MemFault
or_outside (Some v) = Ok v
or_outside None = Err Outside

unfoldable pub loaded : Memory → ℕ → Size → Result ℕ MemFault
loaded m a size = if is_aligned a size then or_outside (value_at m.bytes a (count_of size)) else Err Misaligned

-- the word that a hart would execute at a pc: only RAM holds instructions
unfoldable pub fetch_of : Memory → ℕ → Result ℕ MemFault
fetch_of m pc = if nat_lt pc ram_base then Err Outside else loaded m pc B4

-- the word of a fetch, where there is one
abbrev pub word_of : Result ℕ MemFault → Option ℕ
word_of (Ok w) = Some w
word_of (Err fault) = None

-- ---- reservations

abbrev pub place_size : ℕ
place_size = 8

-- do `count` bytes from `a` on and the eight bytes of a place have one in common?
abbrev pub touches : ℕ → ℕ → ℕ → Bool
touches a count place = nat_lt a (place + place_size) && nat_lt place (a + count)

-- what a store of `count` bytes at `a` leaves of one hart's reservation
abbrev pub kept : ℕ → ℕ → Option ℕ → Option ℕ
kept a count None = None
kept a count (Some place) = if touches a count place then None else Some place

-- memory without the reservations that `count` bytes at `a` touch
abbrev pub cleared : Memory → ℕ → ℕ → Memory
cleared m a count = record m { reserved = map (kept a count) m.reserved }

-- memory where a hart has reserved the aligned eight bytes that hold an address
abbrev pub reserve : Memory → ℕ → ℕ → Memory
reserve m hart a = record m { reserved = slice_set m.reserved hart (Some (a / place_size * place_size)) }

-- memory where a hart has no reservation
abbrev pub dropped : Memory → ℕ → Memory
dropped m hart = record m { reserved = slice_set m.reserved hart None }

abbrev pub place_covers : Option (Option ℕ) → ℕ → ℕ → Bool
place_covers (Some (Some place)) a count = nat_le place a && nat_le (a + count) (place + place_size)
place_covers (Some None) a count = false
place_covers None a count = false

-- does a hart's reservation cover the bytes of an access?
abbrev pub covers : Memory → ℕ → ℕ → Size → Bool
covers m hart a size = place_covers (slice_get m.reserved hart) a (count_of size)

-- ---- stores

-- what a store answers; a refused one changes nothing
unfoldable pub store_answer : Memory → ℕ → Size → Result ⊤ MemFault
store_answer m a size = if is_aligned a size then (if is_inside m a size then Ok tt else Err Outside) else Err Misaligned

-- memory as a store of a value leaves it: the bytes are there, and each reservation that they touch is gone
unfoldable pub after_store : Memory → ℕ → Size → ℕ → Memory
after_store m a size v =
    if is_aligned a size && is_inside m a size
    then (cleared (record m { bytes = with_value m.bytes a (count_of size) v }) a (count_of size))
    else m

-- ---- as a model's value

-- a memory is stored as the pair of its fields
abbrev pub memory_code : Coded Memory
memory_code =
    code_by (Bytes × List (Option ℕ)) (coded× (code coded_ℕ coded_ℕ) (coded_list (coded_option coded_ℕ))) (λ m. (m.bytes, m.reserved))
    (λ p. record { bytes = p.0; reserved = p.1 }) (λ _. refl)
