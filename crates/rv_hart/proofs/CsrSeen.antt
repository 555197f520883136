-- A register that is seen where a memory is there is there without one, so a write of it is refused only where it is read-only.
use Rattle.std.proofs.Common.{◌≡◌, ℕ, Bool, true, false, eqb, if◌then◌else◌, Option, Some, None, is_some, Result, Ok, Err, refl, ap, ◌∙◌}
use Rattle.std.specs.Prelude.{⊤}
use Rattle.std.proofs.lemmas.Bool.{eqb-true}
use Rattle.rv_model.specs.Core.{Core}
use Rattle.rv_model.specs.Memory.{Memory}
use Rattle.rv_model.specs.Registers.{csr_read_only, csr_seen, csr_value, mip_number, mip_value}
use Rattle.rv_hart.specs.CsrAnswer.{csr_answer}
use Rattle.rv_hart.specs.declared.csr_fault.CsrFault.{CsrFault}
use Rattle.rv_hart.specs.declared.csr_fault.CsrFault.TheVariants.{Absent, ReadOnly}

mip_there : (c : Core) → is_some (csr_value c mip_number) ≡ true
unfolding csr_value
mip_there c = refl

there_by : (is_mip : Bool) (c : Core) (m : Memory) (number old : ℕ) → (is_mip ≡ true → number ≡ mip_number)
    → (if is_mip then Some (mip_value c m) else csr_value c number) ≡ Some old → is_some (csr_value c number) ≡ true
there_by true c m number old is e = ap (λ n. is_some (csr_value c n)) (is refl) ∙ mip_there c
there_by false c m number old is e = ap is_some e

there : (c : Core) (m : Memory) (number old : ℕ) → csr_seen c m number ≡ Some old → is_some (csr_value c number) ≡ true
unfolding csr_seen
there c m number old e = there_by (eqb number mip_number) c m number old (eqb-true number mip_number) e

refused_by : (is_there refuses : Bool) (fault : CsrFault) → is_there ≡ true
    → (let r : Result ⊤ CsrFault = if is_there then (if refuses then Err ReadOnly else Ok tt) else Err Absent in r) ≡ Err fault → refuses ≡ true
refused_by true true fault is e = refl
refused_by true false fault is e = absurd (cc)
refused_by false refuses fault is e = absurd (cc)

pub refused_read_only : (c : Core) (m : Memory) (number old : ℕ) (fault : CsrFault) → csr_seen c m number ≡ Some old → csr_answer c number ≡ Err fault
    → csr_read_only number ≡ true
refused_read_only c m number old fault seen answer =
    refused_by (is_some (csr_value c number)) (csr_read_only number) fault (there c m number old seen) answer
