-- The image of a seed: 1,000 instructions that compute on registers, and a jump back to the first.
-- RISC-V Unprivileged ISA, chapter 2, and the "M" extension.
use Rattle.std.specs.Prelude.{◌≡◌, ℕ, ◌+◌, ◌-◌, ◌/◌, ◌%◌, ◌^◌, ◌<◌, ◌==◌, if◌then◌else◌, List, [], ◌∷◌, ◌++◌, All, Some, map, flat_map}
use Rattle.std.specs.Int.{w32, to_le_bytes}
use Rattle.rv_model.specs.declared.insn.Insn.{Insn}
use Rattle.rv_model.specs.declared.insn.Insn.TheVariants.{Jal, Immediate, Register}
use Rattle.rv_model.specs.declared.alu_op.ImmediateOp.TheVariants.{Addi}
use Rattle.rv_model.specs.declared.alu_op.RegisterOp.TheVariants.{Add, Xor, Mul}
use Rattle.rv_model.specs.declared.operands.RType.{RType}
use Rattle.rv_model.specs.Rows.{meaning}
use Rattle.generator.specs.SeedWords.{program_words}

-- one of x5 to x20, by a number
abbrev pub register : ℕ → ℕ
register n = 5 + n % 16

-- the registers of a random word, by bits 8, 16 and 24 on
abbrev pub registers : ℕ → RType
registers w = record { rd = register (w / 2 ^ 8); rs1 = register (w / 2 ^ 16); rs2 = register (w / 2 ^ 24) }

-- the instruction of a random word: its kind by the lowest two bits, its immediate by bits 32 on
abbrev pub instruction : ℕ → Insn
instruction w =
    if w % 4 == 0 then Immediate Addi (record { rd = register (w / 2 ^ 8); rs1 = register (w / 2 ^ 16); imm = w / 2 ^ 32 % 2048 })
    else (if w % 4 == 1 then Register Add (registers w)
    else (if w % 4 == 2 then Register Xor (registers w)
    else Register Mul (registers w)))

-- `jal x0, -4000`: from the last instruction to the first, modulo 2^64
abbrev pub jump_back : Insn
jump_back = Jal (record { rd = 0; imm = 2 ^ 64 - 4000 })

-- the instructions of random words, and the jump back
abbrev pub looped : List ℕ → List Insn
looped words = map instruction words ++ jump_back ∷ []

-- the instructions of a seed's image
abbrev pub program : ℕ → List Insn
program seed = looped (program_words seed)

-- words of 32 bits mean these instructions, one by one
pub record AreWordsOf (insns : List Insn) (words : List ℕ) : Type 0 where
  pub means : map meaning words ≡ map Some insns
  pub within : All (λ w. w < 2 ^ 32) words

-- bytes are the words of these instructions, one behind the other, each with its lowest byte first;
-- none of the instructions here leaves a bit of its word free, so there is one such list of bytes (`one_image`)
pub record IsImageOf (insns : List Insn) (bytes : List ℕ) : Type 0 where
  pub words : List ℕ
  pub are : AreWordsOf insns words
  pub stand : bytes ≡ flat_map (to_le_bytes w32) words
