-- Words that mean the same instruction agree in the bits that tell it.
use Rattle.std.proofs.Common.{◌≡◌, ℕ, ◌<◌, ◌^◌, bit_and, ap, sym, ◌∙◌}
use Rattle.rv_model.specs.declared.insn.Insn.{Insn}
use Rattle.rv_model.specs.declared.insn.Insn.TheVariants.{Lui, Auipc, Jal, Jalr, Branch, Load, Store, Immediate, Shift, WordShift, Register, LoadReserved}
use Rattle.rv_model.specs.declared.insn.Insn.TheVariants.{StoreConditional, Amo, Fence, FenceI, Csr, CsrImmediate, Ecall, Ebreak, Mret, Wfi}
use Rattle.rv_model.specs.Means.{Means}
use Rattle.rv_words.specs.KeptBits.{kept_bits}
use Rattle.rv_word_laws.proofs.FormatLemmas.{same_atomic, same_b, same_csr, same_csr_imm, same_i, same_j, same_load_reserved, same_r, same_s, same_shift}
use Rattle.rv_word_laws.proofs.FormatLemmas.{same_shift_word, same_u}

pub kept_bits_agree : (v w : ℕ) → v < 2 ^ 32 → w < 2 ^ 32 → (insn : Insn) → Means v insn → Means w insn
    → bit_and v (kept_bits insn) ≡ bit_and w (kept_bits insn)
kept_bits_agree v w v_fits w_fits (Lui p) m n = ap (λ k. bit_and k 0xffffffff) (same_u v w _ p v_fits w_fits m n)
kept_bits_agree v w v_fits w_fits (Auipc p) m n = ap (λ k. bit_and k 0xffffffff) (same_u v w _ p v_fits w_fits m n)
kept_bits_agree v w v_fits w_fits (Jal p) m n = ap (λ k. bit_and k 0xffffffff) (same_j v w _ p v_fits w_fits m n)
kept_bits_agree v w v_fits w_fits (Jalr p) m n = ap (λ k. bit_and k 0xffffffff) (same_i v w _ p v_fits w_fits m n)
kept_bits_agree v w v_fits w_fits (Branch condition p) m n = ap (λ k. bit_and k 0xffffffff) (same_b v w _ p v_fits w_fits m n)
kept_bits_agree v w v_fits w_fits (Load op p) m n = ap (λ k. bit_and k 0xffffffff) (same_i v w _ p v_fits w_fits m n)
kept_bits_agree v w v_fits w_fits (Store size p) m n = ap (λ k. bit_and k 0xffffffff) (same_s v w _ p v_fits w_fits m n)
kept_bits_agree v w v_fits w_fits (Immediate op p) m n = ap (λ k. bit_and k 0xffffffff) (same_i v w _ p v_fits w_fits m n)
kept_bits_agree v w v_fits w_fits (Shift op p) m n = ap (λ k. bit_and k 0xffffffff) (same_shift v w _ p v_fits w_fits m n)
kept_bits_agree v w v_fits w_fits (WordShift op p) m n = ap (λ k. bit_and k 0xffffffff) (same_shift_word v w _ p v_fits w_fits m n)
kept_bits_agree v w v_fits w_fits (Register op p) m n = ap (λ k. bit_and k 0xffffffff) (same_r v w _ p v_fits w_fits m n)
kept_bits_agree v w v_fits w_fits (LoadReserved width p) m n = same_load_reserved v w _ p v_fits w_fits m n
kept_bits_agree v w v_fits w_fits (StoreConditional width p) m n = same_atomic v w _ p v_fits w_fits m n
kept_bits_agree v w v_fits w_fits (Amo op width p) m n = same_atomic v w _ p v_fits w_fits m n
kept_bits_agree v w v_fits w_fits Fence m n = m ∙ sym n
kept_bits_agree v w v_fits w_fits FenceI m n = m ∙ sym n
kept_bits_agree v w v_fits w_fits (Csr change p) m n = ap (λ k. bit_and k 0xffffffff) (same_csr v w _ p v_fits w_fits m n)
kept_bits_agree v w v_fits w_fits (CsrImmediate change p) m n = ap (λ k. bit_and k 0xffffffff) (same_csr_imm v w _ p v_fits w_fits m n)
kept_bits_agree v w v_fits w_fits Ecall m n = m ∙ sym n
kept_bits_agree v w v_fits w_fits Ebreak m n = m ∙ sym n
kept_bits_agree v w v_fits w_fits Mret m n = m ∙ sym n
kept_bits_agree v w v_fits w_fits Wfi m n = m ∙ sym n
