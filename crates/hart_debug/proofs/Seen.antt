-- A register that is seen where a memory is there is there without one, so a write of it is refused only where it is read-only.
use Rattle.std.proofs.Common.{◌≡◌, ℕ, Bool, true, false, not, ◌&&◌, Some, is_some, refl, ap, sym, ◌∙◌}
use Rattle.rv_model.specs.Board.{Hart}
use Rattle.rv_model.specs.DebugRegisters.{debug_refuses, debug_seen, debug_value}
use Rattle.rv_model.specs.Memory.{Memory}
use Rattle.rv_model.proofs.DebugRegisterLemmas.{seen_there}

there : (h : Hart) (m : Memory) (number old : ℕ) → debug_seen h m number ≡ Some old → is_some (debug_value h number) ≡ true
there h m number old e = sym (seen_there h m number) ∙ ap is_some e

refuses_by : (is_there refuses : Bool) → is_there ≡ true → (is_there && not refuses) ≡ false → refuses ≡ true
refuses_by true true e answer = refl
refuses_by true false e answer = absurd (cc)
refuses_by false refuses e answer = absurd (cc)

accepts_by : (is_there refuses : Bool) → (is_there && not refuses) ≡ true → refuses ≡ false
accepts_by true true answer = absurd (cc)
accepts_by true false answer = refl
accepts_by false refuses answer = absurd (cc)

pub refused_seen : (h : Hart) (m : Memory) (number old : ℕ) → debug_seen h m number ≡ Some old → (is_some (debug_value h number)
    && not (debug_refuses number)) ≡ false → debug_refuses number ≡ true
refused_seen h m number old seen answer = refuses_by (is_some (debug_value h number)) (debug_refuses number) (there h m number old seen) answer

pub accepted_seen : (h : Hart) (number : ℕ) → (is_some (debug_value h number) && not (debug_refuses number)) ≡ true → debug_refuses number ≡ false
accepted_seen h number answer = accepts_by (is_some (debug_value h number)) (debug_refuses number) answer
