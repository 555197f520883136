-- A register that is lost, and x8 and x9 beside it: their zeros may be written in any order.
use Rattle.std.proofs.Common.{◌≡◌, ◌∙◌, ◌-◌, ℕ, zero, suc, Bool, true, false, cond, eqb, List, [], ◌∷◌, set, Option, Some, None, refl, sym, ap}
use Rattle.rv_model.specs.Board.{Machine, machine_of}
use Rattle.rv_model.specs.Core.{Core, aligned, with_x}
use Rattle.rv_model.specs.Registers.{Register, csr_written, is_x_number, kept_of, reg_written, register_at, registers, written_at}
use Rattle.abstract_debugger.proofs.OverLemmas.{over_twice}
use Rattle.left_laws.specs.Left.{scratch, wiped, wiped_core}
use Rattle.left_laws.specs.Left.Spared.{Registers}
use Rattle.left_laws.specs.LeftLaws.{BothAreLess}
use Rattle.left_laws.proofs.LossLemmas.{EachRow, OfRow, found, machine_with, over_as, scratched_list, with_list}

-- ---- zeros

zeros_swap : (xs : List ℕ) (i j : ℕ) → set (set xs i 0) j 0 ≡ set (set xs j 0) i 0
zeros_swap [] i j = refl
zeros_swap (x ∷ xs) zero zero = refl
zeros_swap (x ∷ xs) zero (suc j) = refl
zeros_swap (x ∷ xs) (suc i) zero = refl
zeros_swap (x ∷ xs) (suc i) (suc j) = ap (λ ys. x ∷ ys) (zeros_swap xs i j)

scratched_swap : (xs : List ℕ) (i : ℕ) → scratched_list (set xs i 0) ≡ set (scratched_list xs) i 0
scratched_swap xs i = ap (λ ys. set ys 9 0) (zeros_swap xs i 8) ∙ zeros_swap (set xs 8 0) i 9

-- ---- a row of the register table writes no x

abbrev LeavesX : Register → Type 0
LeavesX r = (c : Core) (xs : List ℕ) (v : ℕ) → with_list (r.write v c) xs ≡ r.write v (with_list c xs)

abbrev KeepsX : Register → Type 0
KeepsX r = (c : Core) (v : ℕ) → (r.write v c).x ≡ c.x

each_leaves : EachRow LeavesX registers
each_leaves = (
  λ c xs v. refl,
  (
    λ c xs v. refl,
    (
      λ c xs v. refl,
      (
        λ c xs v. refl,
        (
          λ c xs v. refl,
          (
            λ c xs v. refl,
            (
              λ c xs v. refl,
              (λ c xs v. refl, (λ c xs v. refl, (λ c xs v. refl, (λ c xs v. refl, (λ c xs v. refl, (λ c xs v. refl, tt)))))),
            ),
          ),
        ),
      ),
    ),
  ),
)

each_keeps : EachRow KeepsX registers
each_keeps = (
  λ c v. refl,
  (
    λ c v. refl,
    (
      λ c v. refl,
      (
        λ c v. refl,
        (
          λ c v. refl,
          (
            λ c v. refl,
            (λ c v. refl, (λ c v. refl, (λ c v. refl, (λ c v. refl, (λ c v. refl, (λ c v. refl, (λ c v. refl, tt))))))),
          ),
        ),
      ),
    ),
  ),
)

row_swap : (o : Option Register) (c : Core) (v : ℕ) → OfRow LeavesX o → OfRow KeepsX o
    → with_list (written_at o v c) (scratched_list (written_at o v c).x) ≡ written_at o v (with_list c (scratched_list c.x))
row_swap None c v leaves keeps = refl
row_swap (Some r) c v leaves keeps =
    ap (λ xs. with_list (r.write (kept_of r v) c) (scratched_list xs)) (keeps c (kept_of r v)) ∙ leaves c (scratched_list c.x) (kept_of r v)

csr_swap : (c : Core) (n : ℕ) → with_list (csr_written c n 0) (scratched_list (csr_written c n 0).x) ≡ csr_written (with_list c (scratched_list c.x)) n 0
unfolding csr_written
csr_swap c n =
    row_swap (register_at n) c 0 (found LeavesX (λ r. eqb r.number n) registers each_leaves) (found KeepsX (λ r. eqb r.number n) registers each_keeps)

-- ---- a register

x_swap : (zero_x : Bool) (c : Core) (i : ℕ)
    → (let d : Core = cond zero_x c (with_list c (set c.x i 0)) in with_list d (scratched_list d.x))
    ≡ (let e : Core = with_list c (scratched_list c.x) in cond zero_x e (with_list e (set e.x i 0)))
x_swap true c i = refl
x_swap false c i = ap (with_list c) (scratched_swap c.x i)

swap_by : (x dpc : Bool) (c : Core) (n : ℕ)
    → (let d : Core = cond x (with_x c (n - 0x1000) 0) (cond dpc (record c { pc = aligned 0 }) (csr_written c n 0)) in with_list d (scratched_list d.x))
    ≡ (let e : Core = with_list c (scratched_list c.x) in cond x (with_x e (n - 0x1000) 0) (cond dpc (record e { pc = aligned 0 }) (csr_written e n 0)))
swap_by true dpc c n = x_swap (eqb (n - 0x1000) 0) c (n - 0x1000)
swap_by false true c n = refl
swap_by false false c n = csr_swap c n

pub wiped_swap : (c : Core) (n : ℕ) → wiped_core scratch (reg_written c n 0) ≡ reg_written (wiped_core scratch c) n 0
wiped_swap c n = swap_by (is_x_number n) (eqb n 0x7b1) c n

-- ---- a machine

register_first : (h n : ℕ) (m : Machine) → wiped (Registers h scratch) (wiped (Registers h (n ∷ [])) m) ≡ wiped (Registers h (n ∷ scratch)) m
register_first h n m = ap (machine_with m.memory) (over_twice (wiped_core (n ∷ [])) (wiped_core scratch) h m.cores)

scratch_first : (h n : ℕ) (m : Machine) → wiped (Registers h (n ∷ [])) (wiped (Registers h scratch) m) ≡ wiped (Registers h (n ∷ scratch)) m
scratch_first h n m =
    ap (machine_with m.memory)
    (over_twice (wiped_core scratch) (wiped_core (n ∷ [])) h m.cores
    ∙ over_as (λ (c : Core). reg_written (wiped_core scratch c) n 0) (wiped_core (n ∷ scratch)) h m.cores (λ c. sym (wiped_swap c n)))

pub both_are_less : BothAreLess
both_are_less s h n old new = record {
  register = λ l. record {
    points = l.points;
    board = l.board;
    lives = l.lives;
    journal = l.journal;
    alike = sym (register_first h n (machine_of new.board)) ∙ ap (wiped (Registers h scratch)) l.alike ∙ register_first h n (machine_of l.board);
    parts = l.parts;
  };
  scratch = λ l. record {
    points = l.points;
    board = l.board;
    lives = l.lives;
    journal = l.journal;
    alike = sym (scratch_first h n (machine_of new.board)) ∙ ap (wiped (Registers h (n ∷ []))) l.alike ∙ scratch_first h n (machine_of l.board);
    parts = l.parts;
  };
}
