-- The bits of a word that tell its instruction and its operands. The others are free: the instruction is the same whatever they are.
-- Unprivileged manual, "Atomic" extension: the bits aq and rl order memory, and no more; "Memory Ordering Instructions": fields that an implementation may
-- ignore.
use Rattle.std.specs.Prelude.{ℕ}
use Rattle.rv_model.specs.declared.insn.Insn.{Insn}
use Rattle.rv_model.specs.declared.insn.Insn.TheVariants.{LoadReserved, StoreConditional, Amo, Fence, FenceI}

-- all but aq and rl, bits 26 and 25
abbrev pub all_but_ordering : ℕ
all_but_ordering = 0xf9ffffff

abbrev pub kept_bits : Insn → ℕ
kept_bits (LoadReserved width p) = all_but_ordering
kept_bits (StoreConditional width p) = all_but_ordering
kept_bits (Amo op width p) = all_but_ordering
kept_bits Fence = 0x707f
kept_bits FenceI = 0x707f
kept_bits _ = 0xffffffff
