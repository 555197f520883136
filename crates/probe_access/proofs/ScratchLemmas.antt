-- x8 and x9 of a hart: what is written there, and that both put back leave the hart as it was.
use Rattle.std.proofs.Common.{◌≡◌, ◌∙◌, ℕ, ◌<◌, List, length, set, Some, refl, sym, ap, arith, get_or-set_same, get_or-set_other}
use Rattle.std.specs.Prelude.{slice_index}
use Rattle.std.proofs.Math.Seq.{set-set}
use Rattle.std.proofs.lemmas.List.{length-set}
use Rattle.std.proofs.lemmas.Option.{slice_get-get_or}
use Rattle.rv_model.specs.Board.{Hart}
use Rattle.rv_model.specs.Core.{with_x, x_of}
use Rattle.rv_model.specs.DebugRegisters.{debug_value, debug_written}
use Rattle.rv_model.specs.TriggerWords.{trigger_csr_written}
use Rattle.rv_model.proofs.MapLemmas.{set_same}
use Rattle.probe_access.proofs.Turns.{set-swap}

-- ---- as registers

pub x8_value : (y : Hart) → debug_value y 0x1008 ≡ Some (x_of y.core 8)
unfolding debug_value
x8_value y = refl

pub x9_value : (y : Hart) → debug_value y 0x1009 ≡ Some (x_of y.core 9)
unfolding debug_value
x9_value y = refl

abbrev pub with_core_x : Hart → ℕ → ℕ → Hart
with_core_x y r v = record { core = with_x y.core r v; debug = y.debug }

pub x8_written : (y : Hart) (v : ℕ) → debug_written y 0x1008 v ≡ with_core_x y 8 v
unfolding debug_written trigger_csr_written
x8_written y v = refl

pub x9_written : (y : Hart) (v : ℕ) → debug_written y 0x1009 v ≡ with_core_x y 9 v
unfolding debug_written trigger_csr_written
x9_written y v = refl

-- ---- their values

pub x8_holds : (y : Hart) (v : ℕ) → length y.core.x ≡ 32 → x_of (with_core_x y 8 v).core 8 ≡ v
x8_holds y v all = let lt : 8 < length y.core.x = omega arith in rw get_or-set_same refl

pub x9_holds : (y : Hart) (v : ℕ) → length y.core.x ≡ 32 → x_of (with_core_x y 9 v).core 9 ≡ v
x9_holds y v all = let lt : 9 < length y.core.x = omega arith in rw get_or-set_same refl

apart : (j i : ℕ) → j ≡ 9 → i ≡ 8 → j ≡ i → ⊥
apart j i nine eight e = omega arith

pub x9_other : (y : Hart) (v : ℕ) → x_of (with_core_x y 8 v).core 9 ≡ x_of y.core 9
x9_other y v = get_or-set_other y.core.x 8 9 v 0 (apart 9 8 refl refl)

-- ---- both put back

-- a hart with these two values
abbrev pub scratched : ℕ → ℕ → Hart → Hart
scratched p q x = with_core_x (with_core_x x 8 p) 9 q

pub set_itself : (xs : List ℕ) (i : ℕ) → i < length xs → set xs i (slice_index xs i) ≡ xs
set_itself xs i lt = set_same xs i (slice_index xs i) (slice_get-get_or xs i 0 lt)

put_back_list : (xs : List ℕ) (p q : ℕ) → 9 < length xs → set (set (set (set xs 8 p) 9 q) 8 (slice_index xs 8)) 9 (slice_index xs 9) ≡ xs
put_back_list xs p q lt =
    ap (λ (ys : List ℕ). set ys 9 (slice_index xs 9)) (set-swap (set xs 8 p) 9 8 q (slice_index xs 8) (λ e. omega arith))
    ∙ set-set (set (set xs 8 p) 8 (slice_index xs 8)) 9 q (slice_index xs 9)
    ∙ ap (λ (ys : List ℕ). set ys 9 (slice_index xs 9)) (set-set xs 8 p (slice_index xs 8) ∙ set_itself xs 8 (omega arith))
    ∙ set_itself xs 9 lt

abbrev hart_with : Hart → List ℕ → Hart
hart_with x xs = record {
  core = record {
    id = x.core.id;
    x = xs;
    pc = x.core.pc;
    mstatus = x.core.mstatus;
    mie = x.core.mie;
    mtvec = x.core.mtvec;
    mscratch = x.core.mscratch;
    mepc = x.core.mepc;
    mcause = x.core.mcause;
    mtval = x.core.mtval;
  };
  debug = x.debug;
}

pub scratch_back : (x : Hart) (p q : ℕ) → length x.core.x ≡ 32
    → debug_written (debug_written (scratched p q x) 0x1008 (x_of x.core 8)) 0x1009 (x_of x.core 9) ≡ x
scratch_back x p q all =
    ap (λ (y : Hart). debug_written y 0x1009 (x_of x.core 9)) (x8_written (scratched p q x) (x_of x.core 8))
    ∙ x9_written (with_core_x (scratched p q x) 8 (x_of x.core 8)) (x_of x.core 9)
    ∙ ap (hart_with x) (put_back_list x.core.x p q (omega arith))

-- ---- what an access leaves there

pub after_fault_scratched : (x : Hart) (a : ℕ) → length x.core.x ≡ 32 → debug_written x 0x1008 a ≡ scratched a (x_of x.core 9) x
after_fault_scratched x a all =
    x8_written x a
    ∙ ap (hart_with x) (sym (ap (λ v. set (set x.core.x 8 a) 9 v) (sym (x9_other x a))
    ∙ set_itself (set x.core.x 8 a) 9 (let n : length (set x.core.x 8 a) ≡ length x.core.x = length-set x.core.x 8 a in omega arith)))

pub after_store_scratched : (x : Hart) (a v : ℕ) → debug_written (debug_written x 0x1009 v) 0x1008 a ≡ scratched a v x
after_store_scratched x a v =
    ap (λ (y : Hart). debug_written y 0x1008 a) (x9_written x v) ∙ x8_written (with_core_x x 9 v) a
    ∙ ap (hart_with x) (set-swap x.core.x 9 8 v a (λ e. omega arith))

-- ---- x8 alone

pub after_load : (x : Hart) (a v : ℕ) → with_core_x (debug_written x 0x1008 a) 8 v ≡ with_core_x x 8 v
after_load x a v = ap (λ (y : Hart). with_core_x y 8 v) (x8_written x a) ∙ ap (hart_with x) (set-set x.core.x 8 a v)

pub x8_back : (x : Hart) (p : ℕ) → length x.core.x ≡ 32 → debug_written (with_core_x x 8 p) 0x1008 (x_of x.core 8) ≡ x
x8_back x p all =
    x8_written (with_core_x x 8 p) (x_of x.core 8) ∙ ap (hart_with x) (set-set x.core.x 8 p (x_of x.core 8) ∙ set_itself x.core.x 8 (omega arith))

pub x8_scratched : (x : Hart) (p : ℕ) → length x.core.x ≡ 32 → with_core_x x 8 p ≡ scratched p (x_of x.core 9) x
x8_scratched x p all = sym (x8_written x p) ∙ after_fault_scratched x p all
