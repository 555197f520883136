-- A code and operands leave no choice of the word, format by format, but for the bits aq and rl of atomics.
use Rattle.std.proofs.Common.{◌≡◌, ℕ, ◌+◌, ◌-◌, ◌*◌, ◌/◌, ◌%◌, ◌^◌, ◌<◌, ◌≤◌, if◌then◌else◌, nat_lt, bit_and, sym, ap, ◌∙◌, arith}
use Rattle.std.proofs.lemmas.Bool.Decides.{nat_tests}
use Rattle.rv_model.specs.declared.operands.RType.{RType}
use Rattle.rv_model.specs.declared.operands.IType.{IType}
use Rattle.rv_model.specs.declared.operands.SType.{SType}
use Rattle.rv_model.specs.declared.operands.BType.{BType}
use Rattle.rv_model.specs.declared.operands.UType.{UType}
use Rattle.rv_model.specs.declared.operands.JType.{JType}
use Rattle.rv_model.specs.declared.operands.ShiftType.{ShiftType}
use Rattle.rv_model.specs.declared.operands.LoadReservedType.{LoadReservedType}
use Rattle.rv_model.specs.declared.operands.CsrType.{CsrType}
use Rattle.rv_model.specs.declared.operands.CsrImmType.{CsrImmType}
use Rattle.rv_model.specs.Fields.{field}
use Rattle.rv_model.specs.Operands.{r_type, i_type, s_type, b_type, u_type, j_type, shift_type, shift_word_type, load_reserved_type, csr_type, csr_imm_type}
use Rattle.rv_model.specs.Means.{Matches}
use Rattle.rv_words.proofs.FieldLemmas.{and_funct3, and_funct5, and_funct5_rs2, and_funct6, and_funct7, and_all_but_ordering}
use Rattle.std.proofs.lemmas.Nat.{and_mask}

-- sign extension loses nothing
pub extended_once : (half a b : ℕ) → half ≤ 2 ^ 63 → a < half + half → b < half + half
    → (if nat_lt a half then a else a + (2 ^ 64 - (half + half))) ≡ (if nat_lt b half then b else b + (2 ^ 64 - (half + half))) → a ≡ b
extended_once half a b most a_fits b_fits e = grind (arith, nat_tests)

-- a word is its fields in the R format
pub same_fields : (v w : ℕ) → v < 2 ^ 32 → w < 2 ^ 32 → bit_and v 0x707f ≡ bit_and w 0x707f → field 7 5 v ≡ field 7 5 w → field 15 5 v ≡ field 15 5 w
    → v / 2 ^ 20 ≡ w / 2 ^ 20 → v ≡ w
same_fields v w v_fits w_fits code rd rs1 upper = omega (arith, and_funct3 v, and_funct3 w)

pub same_r : (v w code : ℕ) (p : RType) → v < 2 ^ 32 → w < 2 ^ 32 → Matches v 0xfe00707f code (r_type v ≡ p) → Matches w 0xfe00707f code (r_type w ≡ p) → v ≡ w
same_r v w code p v_fits w_fits m n =
    let same : r_type v ≡ r_type w = m.operands_are ∙ sym n.operands_are in
    let rs2 = ap (λ (q : RType). q.rs2) same in
    let code_is = m.code_is ∙ sym n.code_is in
    let funct3 : bit_and v 0x707f ≡ bit_and w 0x707f = omega (arith, and_funct7 v, and_funct7 w, and_funct3 v, and_funct3 w) in
    same_fields v w v_fits w_fits funct3 (ap (λ (q : RType). q.rd) same) (ap (λ (q : RType). q.rs1) same) (omega (arith, and_funct7 v, and_funct7 w))

pub same_i : (v w code : ℕ) (p : IType) → v < 2 ^ 32 → w < 2 ^ 32 → Matches v 0x707f code (i_type v ≡ p) → Matches w 0x707f code (i_type w ≡ p) → v ≡ w
same_i v w code p v_fits w_fits m n =
    let same : i_type v ≡ i_type w = m.operands_are ∙ sym n.operands_are in
    let imm : field 20 12 v ≡ field 20 12 w = extended_once 2048 _ _ (omega arith) (omega arith) (omega arith) (ap (λ (q : IType). q.imm) same) in
    same_fields v w v_fits w_fits (m.code_is ∙ sym n.code_is) (ap (λ (q : IType). q.rd) same) (ap (λ (q : IType). q.rs1) same) (omega arith)

pub same_s : (v w code : ℕ) (p : SType) → v < 2 ^ 32 → w < 2 ^ 32 → Matches v 0x707f code (s_type v ≡ p) → Matches w 0x707f code (s_type w ≡ p) → v ≡ w
same_s v w code p v_fits w_fits m n =
    let same : s_type v ≡ s_type w = m.operands_are ∙ sym n.operands_are in
    let imm : field 25 7 v * 2 ^ 5 + field 7 5 v ≡ field 25 7 w * 2 ^ 5 + field 7 5 w =
    extended_once 2048 _ _ (omega arith) (omega arith) (omega arith) (ap (λ (q : SType). q.imm) same) in
    let rs2 = ap (λ (q : SType). q.rs2) same in
    same_fields v w v_fits w_fits (m.code_is ∙ sym n.code_is) (omega arith) (ap (λ (q : SType). q.rs1) same) (omega arith)

pub same_b : (v w code : ℕ) (p : BType) → v < 2 ^ 32 → w < 2 ^ 32 → Matches v 0x707f code (b_type v ≡ p) → Matches w 0x707f code (b_type w ≡ p) → v ≡ w
same_b v w code p v_fits w_fits m n =
    let same : b_type v ≡ b_type w = m.operands_are ∙ sym n.operands_are in
    let imm : field 31 1 v * 2 ^ 12 + field 7 1 v * 2 ^ 11 + field 25 6 v * 2 ^ 5 + field 8 4 v * 2 ≡ field 31 1 w * 2 ^ 12 + field 7 1 w * 2 ^ 11 + field 25 6
    w * 2 ^ 5 + field 8 4 w * 2 =
    extended_once 4096 _ _ (omega arith) (omega arith) (omega arith) (ap (λ (q : BType). q.imm) same) in
    let rs2 = ap (λ (q : BType). q.rs2) same in
    same_fields v w v_fits w_fits (m.code_is ∙ sym n.code_is) (omega arith) (ap (λ (q : BType). q.rs1) same) (omega arith)

pub same_u : (v w code : ℕ) (p : UType) → v < 2 ^ 32 → w < 2 ^ 32 → Matches v 0x7f code (u_type v ≡ p) → Matches w 0x7f code (u_type w ≡ p) → v ≡ w
same_u v w code p v_fits w_fits m n =
    let same : u_type v ≡ u_type w = m.operands_are ∙ sym n.operands_are in
    let imm : field 12 20 v * 2 ^ 12 ≡ field 12 20 w * 2 ^ 12 =
    extended_once (2 ^ 31) _ _ (omega arith) (omega arith) (omega arith) (ap (λ (q : UType). q.imm) same) in
    let rd = ap (λ (q : UType). q.rd) same in
    let code_is = sym (and_mask v 7) ∙ m.code_is ∙ sym n.code_is ∙ and_mask w 7 in
    omega arith

pub same_j : (v w code : ℕ) (p : JType) → v < 2 ^ 32 → w < 2 ^ 32 → Matches v 0x7f code (j_type v ≡ p) → Matches w 0x7f code (j_type w ≡ p) → v ≡ w
same_j v w code p v_fits w_fits m n =
    let same : j_type v ≡ j_type w = m.operands_are ∙ sym n.operands_are in
    let imm : field 31 1 v * 2 ^ 20 + field 12 8 v * 2 ^ 12 + field 20 1 v * 2 ^ 11 + field 21 10 v * 2 ≡ field 31 1 w * 2 ^ 20 + field 12 8 w * 2
    ^ 12 + field 20 1 w * 2 ^ 11 + field 21 10 w * 2 =
    extended_once (2 ^ 20) _ _ (omega arith) (omega arith) (omega arith) (ap (λ (q : JType). q.imm) same) in
    let rd = ap (λ (q : JType). q.rd) same in
    let code_is = sym (and_mask v 7) ∙ m.code_is ∙ sym n.code_is ∙ and_mask w 7 in
    omega arith

pub same_shift : (v w code : ℕ) (p : ShiftType) → v < 2 ^ 32 → w < 2 ^ 32 → Matches v 0xfc00707f code (shift_type v ≡ p)
    → Matches w 0xfc00707f code (shift_type w ≡ p) → v ≡ w
same_shift v w code p v_fits w_fits m n =
    let same : shift_type v ≡ shift_type w = m.operands_are ∙ sym n.operands_are in
    let amount = ap (λ (q : ShiftType). q.amount) same in
    let code_is = m.code_is ∙ sym n.code_is in
    let funct3 : bit_and v 0x707f ≡ bit_and w 0x707f = omega (arith, and_funct6 v, and_funct6 w, and_funct3 v, and_funct3 w) in
    same_fields v w v_fits w_fits funct3 (ap (λ (q : ShiftType). q.rd) same) (ap (λ (q : ShiftType). q.rs1) same) (omega (arith, and_funct6 v, and_funct6 w))

pub same_shift_word : (v w code : ℕ) (p : ShiftType) → v < 2 ^ 32 → w < 2 ^ 32 → Matches v 0xfe00707f code (shift_word_type v ≡ p)
    → Matches w 0xfe00707f code (shift_word_type w ≡ p) → v ≡ w
same_shift_word v w code p v_fits w_fits m n =
    let same : shift_word_type v ≡ shift_word_type w = m.operands_are ∙ sym n.operands_are in
    let amount = ap (λ (q : ShiftType). q.amount) same in
    let code_is = m.code_is ∙ sym n.code_is in
    let funct3 : bit_and v 0x707f ≡ bit_and w 0x707f = omega (arith, and_funct7 v, and_funct7 w, and_funct3 v, and_funct3 w) in
    same_fields v w v_fits w_fits funct3 (ap (λ (q : ShiftType). q.rd) same) (ap (λ (q : ShiftType). q.rs1) same) (omega (arith, and_funct7 v, and_funct7 w))

pub same_csr : (v w code : ℕ) (p : CsrType) → v < 2 ^ 32 → w < 2 ^ 32 → Matches v 0x707f code (csr_type v ≡ p) → Matches w 0x707f code (csr_type w ≡ p) → v ≡ w
same_csr v w code p v_fits w_fits m n =
    let same : csr_type v ≡ csr_type w = m.operands_are ∙ sym n.operands_are in
    let csr = ap (λ (q : CsrType). q.csr) same in
    same_fields v w v_fits w_fits (m.code_is ∙ sym n.code_is) (ap (λ (q : CsrType). q.rd) same) (ap (λ (q : CsrType). q.rs1) same) (omega arith)

pub same_csr_imm : (v w code : ℕ) (p : CsrImmType) → v < 2 ^ 32 → w < 2 ^ 32 → Matches v 0x707f code (csr_imm_type v ≡ p)
    → Matches w 0x707f code (csr_imm_type w ≡ p) → v ≡ w
same_csr_imm v w code p v_fits w_fits m n =
    let same : csr_imm_type v ≡ csr_imm_type w = m.operands_are ∙ sym n.operands_are in
    let csr = ap (λ (q : CsrImmType). q.csr) same in
    same_fields v w v_fits w_fits (m.code_is ∙ sym n.code_is) (ap (λ (q : CsrImmType). q.rd) same) (ap (λ (q : CsrImmType). q.imm) same) (omega arith)

-- ---- atomics: bits 26 and 25 do not count

same_but_ordering : (v w : ℕ) → bit_and v 0x707f ≡ bit_and w 0x707f → field 7 5 v ≡ field 7 5 w → field 15 5 v ≡ field 15 5 w → field 20 5 v ≡ field 20 5 w
    → field 27 5 v ≡ field 27 5 w → bit_and v 0xf9ffffff ≡ bit_and w 0xf9ffffff
same_but_ordering v w code rd rs1 rs2 upper =
    let lower : v % 2 ^ 25 ≡ w % 2 ^ 25 = omega (arith, and_funct3 v, and_funct3 w) in
    omega (arith, and_all_but_ordering v, and_all_but_ordering w)

pub same_atomic : (v w code : ℕ) (p : RType) → v < 2 ^ 32 → w < 2 ^ 32 → Matches v 0xf800707f code (r_type v ≡ p) → Matches w 0xf800707f code (r_type w ≡ p)
    → bit_and v 0xf9ffffff ≡ bit_and w 0xf9ffffff
same_atomic v w code p v_fits w_fits m n =
    let same : r_type v ≡ r_type w = m.operands_are ∙ sym n.operands_are in
    let code_is = m.code_is ∙ sym n.code_is in
    let funct3 : bit_and v 0x707f ≡ bit_and w 0x707f = omega (arith, and_funct5 v, and_funct5 w, and_funct3 v, and_funct3 w) in
    same_but_ordering v w funct3 (ap (λ (q : RType). q.rd) same) (ap (λ (q : RType). q.rs1) same) (ap (λ (q : RType). q.rs2) same)
    (omega (arith, and_funct5 v, and_funct5 w))

pub same_load_reserved : (v w code : ℕ) (p : LoadReservedType) → v < 2 ^ 32 → w < 2 ^ 32 → Matches v 0xf9f0707f code (load_reserved_type v ≡ p)
    → Matches w 0xf9f0707f code (load_reserved_type w ≡ p) → bit_and v 0xf9ffffff ≡ bit_and w 0xf9ffffff
same_load_reserved v w code p v_fits w_fits m n =
    let same : load_reserved_type v ≡ load_reserved_type w = m.operands_are ∙ sym n.operands_are in
    let code_is = m.code_is ∙ sym n.code_is in
    let funct3 : bit_and v 0x707f ≡ bit_and w 0x707f = omega (arith, and_funct5_rs2 v, and_funct5_rs2 w, and_funct3 v, and_funct3 w) in
    let rs2 : field 20 5 v ≡ field 20 5 w = omega (arith, and_funct5_rs2 v, and_funct5_rs2 w) in
    same_but_ordering v w funct3 (ap (λ (q : LoadReservedType). q.rd) same) (ap (λ (q : LoadReservedType). q.rs1) same) rs2
    (omega (arith, and_funct5_rs2 v, and_funct5_rs2 w))
