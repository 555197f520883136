-- Each opcode's rows say all that the table says of its words.
use Rattle.std.proofs.Common.{ap, sym, ◌∙◌, refl, Some, ◌≡◌, arith, bit_and, eqb, false}
use Rattle.std.proofs.lemmas.Bool.{ne_eqb}
use Rattle.rv_model.specs.declared.insn.Insn.TheVariants.{Lui, Auipc, Jal}
use Rattle.rv_model.specs.Rows.{load_rows, fence_rows, immediate_rows, immediate_word_rows, store_rows, atomic_rows, register_rows, register_word_rows}
use Rattle.rv_model.specs.Rows.{branch_rows, jalr_rows, system_rows}
use Rattle.rv_model.proofs.RowLemmas.{meaning_of_opcode, meaning_of_row}
use Rattle.rv_words.proofs.decoder.decode.Goals as goal

pub returns-in-3-clause-is : goal.returns-in-3-clause-is
returns-in-3-clause-is c = c.load.ensures.is ∙ meaning_of_opcode c.args.word 3 load_rows c.in-3.is refl

pub returns-in-15-clause-is : goal.returns-in-15-clause-is
returns-in-15-clause-is c = c.fence.ensures.is ∙ meaning_of_opcode c.args.word 15 fence_rows c.in-15.is refl

pub returns-in-19-clause-is : goal.returns-in-19-clause-is
returns-in-19-clause-is c = c.immediate.ensures.is ∙ meaning_of_opcode c.args.word 19 immediate_rows c.in-19.is refl

pub returns-in-27-clause-is : goal.returns-in-27-clause-is
returns-in-27-clause-is c = c.immediate_word.ensures.is ∙ meaning_of_opcode c.args.word 27 immediate_word_rows c.in-27.is refl

pub returns-in-35-clause-is : goal.returns-in-35-clause-is
returns-in-35-clause-is c = c.store.ensures.is ∙ meaning_of_opcode c.args.word 35 store_rows c.in-35.is refl

pub returns-in-47-clause-is : goal.returns-in-47-clause-is
returns-in-47-clause-is c = c.atomic.ensures.is ∙ meaning_of_opcode c.args.word 47 atomic_rows c.in-47.is refl

pub returns-in-51-clause-is : goal.returns-in-51-clause-is
returns-in-51-clause-is c = c.register.ensures.is ∙ meaning_of_opcode c.args.word 51 register_rows c.in-51.is refl

pub returns-in-59-clause-is : goal.returns-in-59-clause-is
returns-in-59-clause-is c = c.register_word.ensures.is ∙ meaning_of_opcode c.args.word 59 register_word_rows c.in-59.is refl

pub returns-in-99-clause-is : goal.returns-in-99-clause-is
returns-in-99-clause-is c = c.branch-word.ensures.is ∙ meaning_of_opcode c.args.word 99 branch_rows c.in-99.is refl

pub returns-in-103-clause-is : goal.returns-in-103-clause-is
returns-in-103-clause-is c = c.jalr.ensures.is ∙ meaning_of_opcode c.args.word 103 jalr_rows c.in-103.is refl

pub returns-in-115-clause-is : goal.returns-in-115-clause-is
returns-in-115-clause-is c = c.system.ensures.is ∙ meaning_of_opcode c.args.word 115 system_rows c.in-115.is refl

pub returns-in-23-clause-is : goal.returns-in-23-clause-is
returns-in-23-clause-is c = ap (λ p. Some (Auipc p)) c.u_operands.ensures.is ∙ sym (meaning_of_row c.args.word 1 _ refl c.in-23.is)

pub returns-in-55-clause-is : goal.returns-in-55-clause-is
returns-in-55-clause-is c = ap (λ p. Some (Lui p)) c.u_operands-in-55.ensures.is ∙ sym (meaning_of_row c.args.word 0 _ refl c.in-55.is)

pub returns-in-111-clause-is : goal.returns-in-111-clause-is
returns-in-111-clause-is c = ap (λ p. Some (Jal p)) c.j_operands.ensures.is ∙ sym (meaning_of_row c.args.word 2 _ refl c.in-111.is)

pub returns-in_default-clause-is : goal.returns-in_default-clause-is
returns-in_default-clause-is c =
    let e3 : eqb 3 (bit_and c.args.word 127) ≡ false = ne_eqb _ _ (λ e. omega arith) in
    let e15 : eqb 15 (bit_and c.args.word 127) ≡ false = ne_eqb _ _ (λ e. omega arith) in
    let e19 : eqb 19 (bit_and c.args.word 127) ≡ false = ne_eqb _ _ (λ e. omega arith) in
    let e23 : eqb 23 (bit_and c.args.word 127) ≡ false = ne_eqb _ _ (λ e. omega arith) in
    let e27 : eqb 27 (bit_and c.args.word 127) ≡ false = ne_eqb _ _ (λ e. omega arith) in
    let e35 : eqb 35 (bit_and c.args.word 127) ≡ false = ne_eqb _ _ (λ e. omega arith) in
    let e47 : eqb 47 (bit_and c.args.word 127) ≡ false = ne_eqb _ _ (λ e. omega arith) in
    let e51 : eqb 51 (bit_and c.args.word 127) ≡ false = ne_eqb _ _ (λ e. omega arith) in
    let e55 : eqb 55 (bit_and c.args.word 127) ≡ false = ne_eqb _ _ (λ e. omega arith) in
    let e59 : eqb 59 (bit_and c.args.word 127) ≡ false = ne_eqb _ _ (λ e. omega arith) in
    let e99 : eqb 99 (bit_and c.args.word 127) ≡ false = ne_eqb _ _ (λ e. omega arith) in
    let e103 : eqb 103 (bit_and c.args.word 127) ≡ false = ne_eqb _ _ (λ e. omega arith) in
    let e111 : eqb 111 (bit_and c.args.word 127) ≡ false = ne_eqb _ _ (λ e. omega arith) in
    let e115 : eqb 115 (bit_and c.args.word 127) ≡ false = ne_eqb _ _ (λ e. omega arith) in
    simp (e3, e15, e19, e23, e27, e35, e47, e51, e55, e59, e99, e103, e111, e115) at (meaning_of_opcode c.args.word (bit_and c.args.word 127) _ refl refl)
