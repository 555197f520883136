-- The instructions of an image have one word each, so that no two lists of bytes are an image of the same ones.
use Rattle.std.proofs.Common.{◌≡◌, ◌∙◌, ℕ, ◌^◌, ◌<◌, Bool, true, false, ◌==◌, ◌-◌, ◌/◌, ◌%◌, if◌then◌else◌, List, [], ◌∷◌, length, get_or, All, Some, None}
use Rattle.std.proofs.Common.{map, ap, sym, arith}
use Rattle.std.specs.Prelude.{flat_map}
use Rattle.std.specs.Int.{w32, to_le_bytes}
use Rattle.std.proofs.lemmas.List.{length-map, get_or-map, same_lists}
use Rattle.std.proofs.lemmas.List.Elements.{All-append, All-cons, All-get_or, All-map, All-nil}
use Rattle.rv_model.specs.declared.insn.Insn.{Insn}
use Rattle.rv_model.specs.declared.insn.Insn.TheVariants.{Immediate, Register}
use Rattle.rv_model.specs.declared.alu_op.ImmediateOp.TheVariants.{Addi}
use Rattle.rv_model.specs.declared.alu_op.RegisterOp.TheVariants.{Add, Xor, Mul}
use Rattle.rv_model.specs.declared.operands.IType.{IType}
use Rattle.rv_model.specs.declared.operands.RType.{RType}
use Rattle.rv_model.specs.Rows.{meaning}
use Rattle.rv_word_laws.proofs.FormatLemmas.{same_i, same_j, same_r}
use Rattle.rv_word_laws.proofs.MeaningRows.{means_from_meaning}
use Rattle.generator.specs.Image.{AreWordsOf, IsImageOf, instruction, jump_back, looped, registers}

-- no two words of 32 bits mean the instruction
abbrev HasOneWord : Insn → Type 0
HasOneWord insn = (v w : ℕ) → v < 2 ^ 32 → w < 2 ^ 32 → meaning v ≡ Some insn → meaning w ≡ Some insn → v ≡ w

chosen : (is_addi is_add is_xor : Bool) (p : IType) (q : RType)
    → HasOneWord (if is_addi then Immediate Addi p else (if is_add then Register Add q else (if is_xor then Register Xor q else Register Mul q)))
chosen true is_add is_xor p q v w v_fits w_fits m n =
    same_i v w 0x13 p v_fits w_fits (means_from_meaning v (Immediate Addi p) m) (means_from_meaning w (Immediate Addi p) n)
chosen false true is_xor p q v w v_fits w_fits m n =
    same_r v w 0x33 q v_fits w_fits (means_from_meaning v (Register Add q) m) (means_from_meaning w (Register Add q) n)
chosen false false true p q v w v_fits w_fits m n =
    same_r v w 0x4033 q v_fits w_fits (means_from_meaning v (Register Xor q) m) (means_from_meaning w (Register Xor q) n)
chosen false false false p q v w v_fits w_fits m n =
    same_r v w 0x2000033 q v_fits w_fits (means_from_meaning v (Register Mul q) m) (means_from_meaning w (Register Mul q) n)

instruction_has_one : (random : ℕ) → HasOneWord (instruction random)
instruction_has_one random =
    chosen (random % 4 == 0) (random % 4 == 1) (random % 4 == 2)
    (record { rd = (registers random).rd; rs1 = (registers random).rs1; imm = random / 2 ^ 32 % 2048 }) (registers random)

jump_has_one : HasOneWord jump_back
jump_has_one v w v_fits w_fits m n =
    same_j v w 0x6f (record { rd = 0; imm = 2 ^ 64 - 4000 }) v_fits w_fits (means_from_meaning v jump_back m) (means_from_meaning w jump_back n)

looped_have_one : (words : List ℕ) → All HasOneWord (looped words)
looped_have_one words =
    All-append HasOneWord (map instruction words) (jump_back ∷ [])
    (All-map HasOneWord instruction words (λ k d _. instruction_has_one (get_or words k d)))
    (All-cons HasOneWord jump_back [] jump_has_one (All-nil HasOneWord))

as_many : (insns : List Insn) (words : List ℕ) → AreWordsOf insns words → length words ≡ length insns
as_many insns words are = sym (length-map words meaning) ∙ ap length are.means ∙ length-map insns Some

meaning_at : (insns : List Insn) (words : List ℕ) → AreWordsOf insns words → (k d : ℕ) → k < length words
    → meaning (get_or words k d) ≡ Some (get_or insns k jump_back)
meaning_at insns words are k d inside =
    let fits : k < length insns = omega (arith, as_many insns words are) in
    sym (get_or-map meaning words k d None inside) ∙ ap (λ os. get_or os k None) are.means ∙ get_or-map Some insns k jump_back None fits

same_words : (insns : List Insn) (vs ws : List ℕ) → All HasOneWord insns → AreWordsOf insns vs → AreWordsOf insns ws → vs ≡ ws
same_words insns vs ws one left right =
    let even : length vs ≡ length ws = as_many insns vs left ∙ sym (as_many insns ws right) in
    same_lists vs ws even (λ k d inside.
    let there : k < length ws = omega (arith, even) in
    let of_insns : k < length insns = omega (arith, as_many insns vs left) in
    All-get_or HasOneWord insns k jump_back of_insns one (get_or vs k d) (get_or ws k d)
    (All-get_or (λ w. w < 2 ^ 32) vs k d inside left.within) (All-get_or (λ w. w < 2 ^ 32) ws k d there right.within)
    (meaning_at insns vs left k d inside) (meaning_at insns ws right k d there))

pub same_image : (words left right : List ℕ) → IsImageOf (looped words) left → IsImageOf (looped words) right → left ≡ right
same_image words left right l r =
    l.stand ∙ ap (flat_map (to_le_bytes w32)) (same_words (looped words) l.words r.words (looped_have_one words) l.are r.are) ∙ sym r.stand
