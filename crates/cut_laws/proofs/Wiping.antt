-- Machines whose hart h differs in what may be lost alone.
use Rattle.std.proofs.Common.{◌≡◌, ◌∙◌, ◌++◌, ℕ, zero, suc, List, [], ◌∷◌, Option, Some, None, slice_get, refl, sym, ap, inl, inr}
use Rattle.std.proofs.lemmas.Option.{same_Some}
use Rattle.rv_model.specs.Board.{Board, Hart, cores, machine_of}
use Rattle.rv_model.specs.Core.{Core}
use Rattle.rv_model.specs.Registers.{reg_written}
use Rattle.abstract_debugger.specs.Laws.{IsWritten}
use Rattle.abstract_debugger.specs.Plan.{hart_over}
use Rattle.abstract_debugger.specs.Slots.{over}
use Rattle.abstract_debugger.proofs.OverLemmas.{set-over}
use Rattle.probe_run.specs.Sites.{put_hart}
use Rattle.left_laws.specs.Left.{scratch, wiped, wiped_core}
use Rattle.left_laws.specs.Left.Spared.{Registers}
use Rattle.left_laws.proofs.BoardLemmas.{board_of}
use Rattle.left_laws.proofs.BothLemmas.{wiped_swap}
use Rattle.left_laws.proofs.LossLemmas.{machine_with, reg_forgets}
use Rattle.cut_laws.specs.Cut.{to_write}

-- ---- a core

-- what is lost at most of the one is lost at most of the other
abbrev pub Loses : Option ℕ → (old new : Core) → Type 0
Loses n old new = wiped_core (to_write n ++ scratch) new ≡ wiped_core (to_write n ++ scratch) old

pub written_loses : (n : Option ℕ) (old new : Core) → IsWritten n old new → Loses n old new
written_loses None old new is = ap (wiped_core scratch) is
written_loses (Some r) old new (inl is) = ap (wiped_core (r ∷ scratch)) is
written_loses (Some r) old new (inr (v, is)) = ap (wiped_core (r ∷ scratch)) is ∙ ap (wiped_core scratch) (reg_forgets old r 0 v)

pub scratch_loses : (n : Option ℕ) (old new : Core) → wiped_core scratch new ≡ wiped_core scratch old → Loses n old new
scratch_loses None old new is = is
scratch_loses (Some r) old new is = wiped_swap new r ∙ ap (λ (c : Core). reg_written c r 0) is ∙ sym (wiped_swap old r)

-- ---- a machine

over_cores : (k : Core → Core) (f : Hart → Hart) (h : ℕ) (hs : List Hart) → ((x : Hart) → slice_get hs h ≡ Some x → k (f x).core ≡ k x.core)
    → over h k (cores (over h f hs)) ≡ over h k (cores hs)
over_cores k f h [] same = refl
over_cores k f zero (x ∷ hs) same = ap (λ c. c ∷ cores hs) (same x refl)
over_cores k f (suc h) (x ∷ hs) same = ap (λ cs. x.core ∷ cs) (over_cores k f h hs same)

pub alike_over : (numbers : List ℕ) (f : Hart → Hart) (h : ℕ) (b : Board)
    → ((x : Hart) → slice_get b.harts h ≡ Some x → wiped_core numbers (f x).core ≡ wiped_core numbers x.core)
    → wiped (Registers h numbers) (machine_of (hart_over f h b)) ≡ wiped (Registers h numbers) (machine_of b)
alike_over numbers f h b same = ap (machine_with b.memory) (over_cores (wiped_core numbers) f h b.harts same)

pub alike_put : (numbers : List ℕ) (h : ℕ) (x y : Hart) (b : Board) → slice_get b.harts h ≡ Some x → wiped_core numbers y.core ≡ wiped_core numbers x.core
    → wiped (Registers h numbers) (machine_of (put_hart h y b)) ≡ wiped (Registers h numbers) (machine_of b)
alike_put numbers h x y b at same =
    ap (λ hs. wiped (Registers h numbers) (machine_of (board_of b.memory hs))) (set-over (λ (z : Hart). y) b.harts h x at)
    ∙ alike_over numbers (λ (z : Hart). y) h b (λ z is. same ∙ ap (λ (w : Hart). wiped_core numbers w.core) (same_Some x z (sym at ∙ is)))
