-- The registers that a script can name: the Machine Mode CSRs that these harts have, pc, which is dpc, and the integer registers.
-- The CSRs are those of the harts' own table. The numbers are those of RISC-V Debug Specification 1.0, Abstract Register Numbers.
use Rattle.std.specs.Prelude.{ℕ, ◌+◌, Bool, List, [], ◌∷◌, ◌++◌, Option, map, option_map, unwrap_or, find, codes, decimal, bytes_eq, ◌==◌}
use Rattle.std.specs.List.{list_any, range_with_len}
use Rattle.rv_model.specs.Core.{register_count}
use Rattle.rv_model.specs.Registers.{Register, first_x_number, pc_number}
use Rattle.rv_model.specs.Registers as hart

-- a name, and the number of the register that it names
abbrev pub NamedRegister : Type 0
NamedRegister = List ℕ × ℕ

abbrev pub csr_named : Register → NamedRegister
csr_named csr = (csr.name, csr.number)

-- x0 to x31
abbrev pub integer_register : ℕ → NamedRegister
integer_register k = (codes "x" ++ decimal k, first_x_number + k)

unfoldable pub named_registers : List NamedRegister
named_registers = map csr_named hart.registers ++ ((codes "pc", pc_number) ∷ map integer_register (range_with_len 0 register_count))

-- whether a number is that of a register with a name
unfoldable pub is_register : ℕ → Bool
is_register number = list_any (λ r. r.1 == number) named_registers

-- the number of the register with this name
unfoldable pub number_of_register : List ℕ → Option ℕ
number_of_register name = option_map (λ r. r.1) (find (λ r. bytes_eq r.0 name) named_registers)

-- the name of the register with this number, empty where there is none
unfoldable pub name_of_register : ℕ → List ℕ
name_of_register number = unwrap_or (option_map (λ r. r.0) (find (λ r. r.1 == number) named_registers)) []
