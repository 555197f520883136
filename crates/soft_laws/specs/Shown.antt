-- What a debugger shows of a value that it has read of memory with patches: the originals' bytes in place of the ebreaks'.
-- It is this project's own.
use Rattle.std.specs.Prelude.{◌≡◌, ◌<◌, ◌+◌, ◌*◌, ◌/◌, ◌%◌, ℕ, zero, suc, true, Some, is_some, Result, Ok, Err, if◌then◌else◌, unwrap_or}
use Rattle.std.specs.FinMap.{get}
use Rattle.rv_model.specs.declared.mem_fault.MemFault.{MemFault}
use Rattle.rv_model.specs.declared.size.Size.{Size}
use Rattle.rv_model.specs.Memory.{Bytes, value_at}
use Rattle.rv_model.specs.Size.{count_of}
use Rattle.abstract_debugger.specs.Plan.{patch_bytes}
use Rattle.soft_laws.specs.Lowered.{Table}
use Rattle.soft_laws.specs.SoftBreaks.{meets_some}

-- the byte at q, where this was read of it
abbrev pub shown_byte : Table → (q byte : ℕ) → ℕ
shown_byte t q byte = if meets_some t.covered q 1 then unwrap_or (get t.originals q) 0 else byte

-- so many bytes from an address on, where this value was read of them
unfoldable pub shown_value : Table → (a count v : ℕ) → ℕ
shown_value t a zero v = 0
shown_value t a (suc n) v = shown_byte t a (v % 256) + 256 * shown_value t (a + 1) n (v / 256)

-- a refused read is shown as it is
abbrev pub shown_answer : Table → ℕ → Size → Result ℕ MemFault → Result ℕ MemFault
shown_answer t a size (Ok v) = Ok (shown_value t a (count_of size) v)
shown_answer t a size (Err fault) = Err fault

-- the word that a table remembers of an address
abbrev pub original_at : Table → ℕ → ℕ
original_at t a = unwrap_or (value_at t.originals a patch_bytes) 0

-- each byte of the covered words is remembered
abbrev pub RemembersEach : Table → Type 0
RemembersEach t = (q : ℕ) → meets_some t.covered q 1 ≡ true → is_some (get t.originals q) ≡ true

-- what memory holds are bytes
abbrev pub AreBytes : Bytes → Type 0
AreBytes m = (q byte : ℕ) → get m q ≡ Some byte → byte < 256
