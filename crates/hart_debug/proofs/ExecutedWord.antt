-- What is true of a word of the program buffer that is executed as a program executes it.
use Rattle.std.proofs.Common.{◌≡◌, ℕ, Bool, true, false, cond, Some, refl, ap, sym, subst, ◌∙◌}
use Rattle.rv_model.specs.declared.did.Did.TheVariants.{Interrupted, Trapped}
use Rattle.rv_model.specs.declared.insn.Insn.{Insn}
use Rattle.rv_model.specs.Board.{Hart}
use Rattle.rv_model.specs.Core.{Core}
use Rattle.rv_model.specs.Effects.{effect_of}
use Rattle.rv_model.specs.Memory.{Memory}
use Rattle.rv_model.specs.ProgramBuffer.{Accesses, Plain, Debugged, executed, ran_insn, ran_meant, ran_sort, ran_word}
use Rattle.rv_model.specs.DebugLaws.{WriteKeeps}
use Rattle.rv_model.specs.Rows.{meaning}
use Rattle.rv_model.proofs.DebugLemmas.{words_keep}
use Rattle.rv_model.proofs.EffectsKeep.{effect_keeps, effect_uninterrupted}
use Rattle.hart_debug.specs.declared.ran_word.RanWord.{RanWord}
use Rattle.hart_debug.specs.BufferWord.{ran_to}

pub executed_sort : (accessed : Bool) (insn : Insn) (h : Hart) (m : Memory) →
    executed (effect_of insn h.core m) accessed h m ≡ ran_sort (cond accessed Accesses Plain) insn h m
executed_sort true insn h m = refl
executed_sort false insn h m = refl

pub trapped_keeps : (insn : Insn) (c : Core) (m : Memory) (cause : ℕ) → (effect_of insn c m).step.did ≡ Trapped cause → (effect_of insn c m).memory ≡ m
unfolding effect_of
trapped_keeps insn c m cause e = ((effect_keeps insn c m).trapped cause e).memory

-- no instruction's effect is an interrupt
pub no_interrupt : (insn : Insn) (c : Core) (m : Memory) → (effect_of insn c m).step.did ≡ Interrupted → ⊥
no_interrupt insn c m e = effect_uninterrupted insn c m e

pub word_keeps : (w : ℕ) (h : Hart) (m : Memory) (insn : Insn) (after : Hart) (left : Memory) (ran : RanWord) →
    Some insn ≡ meaning w → ran_to after left ran ≡ ran_insn insn h m → WriteKeeps h after
unfolding ran_word
word_keeps w h m insn after left ran is e =
    let same : (ran_word w h m).hart ≡ after = ap (λ o. (ran_meant o h m).hart) (sym is) ∙ ap (λ (d : Debugged). d.hart) (sym e) in
    subst (λ (x : Hart). WriteKeeps h x) same (words_keep w h m).hart
