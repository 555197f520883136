-- A block's commands are within their ranges.
use Rattle.std.proofs.Common.{◌≡◌, ◌∙◌, ℕ, ◌+◌, ◌<◌, ◌^◌, Bool, true, ◌==◌, List, [], ◌∷◌, All, map, ap, arith, eq-eqb, codes}
use Rattle.std.specs.List.{list_any, range_with_len}
use Rattle.std.proofs.lemmas.Bool.{or_right}
use Rattle.std.proofs.lemmas.List.Elements.{All-cons, All-nil}
use Rattle.std.proofs.lemmas.List.Folds.{list_any_at, list_any-append}
use Rattle.std.proofs.lemmas.List.FromFn.{length-map-range_with_len, get_or-map-range_with_len}
use Rattle.rv_model.specs.Core.{register_count}
use Rattle.rv_model.specs.Registers.{first_x_number, pc_number}
use Rattle.rv_model.specs.Registers as hart
use Rattle.debug_model.specs.declared.command.Command.{Command}
use Rattle.debug_model.specs.declared.command.Command.TheVariants.{Resume, Step, Wait, Reg, Break, Clear}
use Rattle.debug_model.specs.Command.{IsWithinRanges}
use Rattle.debug_model.specs.Registers.{NamedRegister, csr_named, integer_register, is_register, named_registers}

-- x0 to x31 stand in the table of registers, behind the CSRs and pc
pub integer_is_register : (n : ℕ) → n < 32 → is_register (first_x_number + n) ≡ true
unfolding is_register named_registers
integer_is_register n below =
    let p : NamedRegister → Bool = λ r. r.1 == first_x_number + n in
    let rows : List NamedRegister = map integer_register (range_with_len 0 register_count) in
    let pc : NamedRegister = (codes "pc", pc_number) in
    let row = get_or-map-range_with_len integer_register 0 register_count n n pc below (omega arith) in
    let here = list_any_at p rows n pc (rw (length-map-range_with_len integer_register 0 register_count) below)
    (eq-eqb _ _ (ap (λ (r : NamedRegister). r.1) row)) in
    list_any-append p (map csr_named hart.registers) (pc ∷ rows)
    ∙ or_right (list_any p (map csr_named hart.registers)) _ (or_right (p pc) _ here)

pub block_within : (address n : ℕ) → address < 2 ^ 64 → n < 32
    → All IsWithinRanges (Break address ∷ Resume ∷ Wait 1000 ∷ Step 1 ∷ Reg (record { 0 = first_x_number + n }) ∷ Clear 0 ∷ [])
block_within address n fits below =
    let reg : Command = Reg (record { 0 = first_x_number + n }) in
    let last = All-cons IsWithinRanges (Clear 0) [] (omega arith) (All-nil IsWithinRanges) in
    let read = All-cons IsWithinRanges reg (Clear 0 ∷ []) (integer_is_register n below) last in
    let stepped = All-cons IsWithinRanges (Step 1) (reg ∷ Clear 0 ∷ []) (omega arith, omega arith) read in
    let waited = All-cons IsWithinRanges (Wait 1000) (Step 1 ∷ reg ∷ Clear 0 ∷ []) (omega arith, omega arith) stepped in
    let resumed = All-cons IsWithinRanges Resume (Wait 1000 ∷ Step 1 ∷ reg ∷ Clear 0 ∷ []) tt waited in
    All-cons IsWithinRanges (Break address) (Resume ∷ Wait 1000 ∷ Step 1 ∷ reg ∷ Clear 0 ∷ []) fits resumed
