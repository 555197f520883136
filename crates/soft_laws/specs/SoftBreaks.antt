-- Software breakpoints: which words of memory an ebreak covers, and memory with the ebreaks in it.
-- The ebreak is that of the unprivileged manual, "Environment Call and Breakpoints", which halts a hart by ebreakm of RISC-V Debug Specification 1.0,
-- "Debug Control and Status"; what is patched where is this project's own.
use Rattle.std.specs.Prelude.{◌≡◌, ℕ, ◌+◌, Bool, true, false, ◌||◌, ◌&&◌, ◌==◌, nat_lt, List, [], ◌∷◌, is_some, if◌then◌else◌}
use Rattle.std.specs.FinMap.{get}
use Rattle.rv_model.specs.Board.{Board, Machine}
use Rattle.rv_model.specs.Memory.{Bytes, Memory, with_value}
use Rattle.abstract_debugger.specs.Plan.{patch_bytes}
pub use Rattle.debug_model.specs.SoftCommand.{IsSoftAddress}
use Rattle.abstract_debugger.specs.Trace.{Past}
use Rattle.abstract_debugger.specs.Trace.Note.{Did, Stop, Arm, Free, Patched}

-- ---- lists of addresses

abbrev pub is_listed : List ℕ → ℕ → Bool
is_listed [] a = false
is_listed (c ∷ cs) a = a == c || is_listed cs a

abbrev pub has_some : List ℕ → Bool
has_some [] = false
has_some (c ∷ cs) = true

abbrev pub without : ℕ → List ℕ → List ℕ
without a [] = []
without a (c ∷ cs) = if a == c then without a cs else c ∷ without a cs

-- ---- which words are covered

-- behind a patch that covers the word at an address, or uncovers it
abbrev pub patched_by : (covers : Bool) → ℕ → List ℕ → List ℕ
patched_by true a cs = a ∷ without a cs
patched_by false a cs = without a cs

-- by the patches that a past tells, the newest note first
abbrev pub covered : Past → List ℕ
covered [] = []
covered (Patched a covers ∷ past) = patched_by covers a (covered past)
covered (Did entry ∷ past) = covered past
covered (Stop hart why slots ∷ past) = covered past
covered (Arm hart slot what ∷ past) = covered past
covered (Free hart slot ∷ past) = covered past

-- ---- memory with patches

-- ebreak, without operands
abbrev pub ebreak_word : ℕ
ebreak_word = 0x00100073

-- the map with an ebreak at each of these addresses
unfoldable pub patched_bytes : List ℕ → Bytes → Bytes
patched_bytes [] m = m
patched_bytes (c ∷ cs) m = with_value (patched_bytes cs m) c patch_bytes ebreak_word

-- the reservations stay
abbrev pub patched_memory : List ℕ → Memory → Memory
patched_memory cs m = record m { bytes = patched_bytes cs m.bytes }

abbrev pub patched_board : List ℕ → Board → Board
patched_board cs b = record b { memory = patched_memory cs b.memory }

abbrev pub patched_machine : List ℕ → Machine → Machine
patched_machine cs m = record m { memory = patched_memory cs m.memory }

-- ---- accesses beside covered words

-- does the word at an address have a byte in common with `count` bytes from `a` on?
abbrev pub meets : (word a count : ℕ) → Bool
meets word a count = nat_lt a (word + patch_bytes) && nat_lt word (a + count)

-- does one of the words at these addresses?
abbrev pub meets_some : List ℕ → ℕ → ℕ → Bool
meets_some [] a count = false
meets_some (c ∷ cs) a count = meets c a count || meets_some cs a count

-- each address is one that a breakpoint may be asked for
abbrev pub AreSoftAddresses : List ℕ → Type 0
AreSoftAddresses [] = Unit {0}
AreSoftAddresses (c ∷ cs) = IsSoftAddress c × AreSoftAddresses cs

-- each byte of the words lies in memory
abbrev pub AreInside : List ℕ → Bytes → Type 0
AreInside cs m = (q : ℕ) → meets_some cs q 1 ≡ true → is_some (get m q) ≡ true
