-- What is wiped: a machine where one hart's registers are 0, and what the others then are.
use Rattle.std.proofs.Common.{◌≡◌, ◌∙◌, ◌+◌, ◌-◌, ℕ, zero, suc, Bool, true, false, cond, eqb, List, [], ◌∷◌, set, Option, Some, None, option_map, ltb}
use Rattle.std.proofs.Common.{slice_get, refl, sym, ap, arith, find}
use Rattle.std.specs.Prelude.{◌≢◌, slice_index}
use Rattle.std.proofs.Math.Seq.{set-set}
use Rattle.std.proofs.lemmas.Bool.{false≢true, ltb-false}
use Rattle.std.proofs.lemmas.List.{get_or-set_other}
use Rattle.std.proofs.lemmas.Option.{same_Some}
use Rattle.rv_model.specs.Board.{Board, Hart, Machine, machine_of}
use Rattle.rv_model.specs.Core.{Core, aligned, with_x, x_of}
use Rattle.rv_model.specs.Memory.{Memory}
use Rattle.rv_model.specs.Registers.{Register, csr_value, csr_written, is_x_number, kept_of, reg_value, reg_written}
use Rattle.rv_model.specs.Registers.{register_at, registers, written_at}
use Rattle.rv_model.specs.Undebugged.{with_reg}
use Rattle.abstract_debugger.specs.Plan.{hart_over}
use Rattle.abstract_debugger.specs.Slots.{over}
use Rattle.abstract_debugger.proofs.OverLemmas.{over_twice, set-over, slice_get-over_other, slice_get-over_same}
use Rattle.probe_access.proofs.Turns.{set-swap}
use Rattle.left_laws.specs.Left.{parts_of, scratch, wiped, wiped_core}
use Rattle.left_laws.specs.Left.Spared.{Registers}
use Rattle.left_laws.specs.LeftLaws.{NothingIsLost, OneCoreIsLost, ScratchForgets, ScratchIsLost, WipedForgets}
use Rattle.left_laws.proofs.BoardLemmas.{map-over, map-over_unseen, same_board}

abbrev pub machine_with : Memory → List Core → Machine
machine_with m cs = record { cores = cs; memory = m }

-- ---- rows of the register table

-- what holds of each row holds of the one that is found
abbrev pub EachRow : (Register → Type 0) → List Register → Type 0
EachRow P [] = Unit {0}
EachRow P (r ∷ rs) = P r × EachRow P rs

abbrev pub OfRow : (Register → Type 0) → Option Register → Type 0
OfRow P None = Unit {0}
OfRow P (Some r) = P r

picked : (P : Register → Type 0) (t : Bool) (r : Register) (o : Option Register) → P r → OfRow P o → OfRow P (cond t (Some r) o)
picked P true r o here there = here
picked P false r o here there = there

pub found : (P : Register → Type 0) (test : Register → Bool) (rs : List Register) → EachRow P rs → OfRow P (find test rs)
found P test [] each = tt
found P test (r ∷ rs) each = picked P (test r) r (find test rs) each.0 (found P test rs each.1)

-- the second write of a row is all that is left
abbrev Forgets : Register → Type 0
Forgets r = (c : Core) (a b : ℕ) → r.write a (r.write b c) ≡ r.write a c

each_forgets : EachRow Forgets registers
each_forgets = (
  λ c a b. refl,
  (
    λ c a b. refl,
    (
      λ c a b. refl,
      (
        λ c a b. refl,
        (
          λ c a b. refl,
          (
            λ c a b. refl,
            (
              λ c a b. refl,
              (λ c a b. refl, (λ c a b. refl, (λ c a b. refl, (λ c a b. refl, (λ c a b. refl, (λ c a b. refl, tt)))))),
            ),
          ),
        ),
      ),
    ),
  ),
)

row_forgets : (o : Option Register) (c : Core) (a b : ℕ) → OfRow Forgets o → written_at o a (written_at o b c) ≡ written_at o a c
row_forgets None c a b each = refl
row_forgets (Some r) c a b each = each c (kept_of r a) (kept_of r b)

-- and no row is one of x
abbrev pub with_list : Core → List ℕ → Core
with_list c xs = record c { x = xs }

abbrev IsApart : Register → Type 0
IsApart r = (c : Core) (xs : List ℕ) → r.read (with_list c xs) ≡ r.read c

each_apart : EachRow IsApart registers
each_apart = (
  λ c xs. refl,
  (
    λ c xs. refl,
    (
      λ c xs. refl,
      (
        λ c xs. refl,
        (
          λ c xs. refl,
          (
            λ c xs. refl,
            (
              λ c xs. refl,
              (λ c xs. refl, (λ c xs. refl, (λ c xs. refl, (λ c xs. refl, (λ c xs. refl, (λ c xs. refl, tt)))))),
            ),
          ),
        ),
      ),
    ),
  ),
)

row_apart : (o : Option Register) (c : Core) (xs : List ℕ) → OfRow IsApart o
    → option_map (λ (r : Register). r.read (with_list c xs)) o ≡ option_map (λ (r : Register). r.read c) o
row_apart None c xs each = refl
row_apart (Some r) c xs each = ap Some (each c xs)

csr_forgets : (c : Core) (n a b : ℕ) → csr_written (csr_written c n b) n a ≡ csr_written c n a
unfolding csr_written
csr_forgets c n a b = row_forgets (register_at n) c a b (found Forgets (λ r. eqb r.number n) registers each_forgets)

csr_apart : (c : Core) (n : ℕ) (xs : List ℕ) → csr_value (with_list c xs) n ≡ csr_value c n
unfolding csr_value
csr_apart c n xs = row_apart (register_at n) c xs (found IsApart (λ r. eqb r.number n) registers each_apart)

-- ---- a register that is written twice

x_forgets : (zero_x : Bool) (c : Core) (r a b : ℕ) → cond zero_x (cond zero_x c (with_list c (set c.x r b)))
    (with_list (cond zero_x c (with_list c (set c.x r b))) (set (cond zero_x c (with_list c (set c.x r b))).x r a))
    ≡ cond zero_x c (with_list c (set c.x r a))
x_forgets true c r a b = refl
x_forgets false c r a b = ap (with_list c) (set-set c.x r b a)

reg_by : (x dpc : Bool) (c : Core) (r a b : ℕ)
    → (let d : Core = cond x (with_x c (r - 0x1000) b) (cond dpc (record c { pc = aligned b }) (csr_written c r b)) in
    cond x (with_x d (r - 0x1000) a) (cond dpc (record d { pc = aligned a }) (csr_written d r a)))
    ≡ cond x (with_x c (r - 0x1000) a) (cond dpc (record c { pc = aligned a }) (csr_written c r a))
reg_by true dpc c r a b = x_forgets (eqb (r - 0x1000) 0) c (r - 0x1000) a b
reg_by false true c r a b = refl
reg_by false false c r a b = csr_forgets c r a b

pub reg_forgets : (c : Core) (r a b : ℕ) → reg_written (reg_written c r b) r a ≡ reg_written c r a
reg_forgets c r a b = reg_by (is_x_number r) (eqb r 0x7b1) c r a b

-- ---- a machine that is wiped

pub over_as : {A : Type 0} (f g : A → A) (h : ℕ) (xs : List A) → ((x : A) → f x ≡ g x) → over h f xs ≡ over h g xs
over_as f g h [] same = refl
over_as f g zero (x ∷ xs) same = ap (λ y. y ∷ xs) (same x)
over_as f g (suc h) (x ∷ xs) same = ap (λ ys. x ∷ ys) (over_as f g h xs same)

forgets_at : (numbers : List ℕ) (o : Option Core) (h n v : ℕ) (m : Machine) → slice_get m.cores h ≡ o
    → ((c : Core) → wiped_core numbers (reg_written c n v) ≡ wiped_core numbers c)
    → wiped (Registers h numbers) (with_reg o h n v m) ≡ wiped (Registers h numbers) m
forgets_at numbers None h n v m at same = refl
forgets_at numbers (Some c) h n v m at same =
    ap (machine_with m.memory)
    (ap (over h (wiped_core numbers)) (set-over (λ (d : Core). reg_written d n v) m.cores h c at)
    ∙ over_twice (λ (d : Core). reg_written d n v) (wiped_core numbers) h m.cores
    ∙ over_as (λ (d : Core). wiped_core numbers (reg_written d n v)) (wiped_core numbers) h m.cores same)

pub wiped_forgets : WipedForgets
wiped_forgets h n v m = forgets_at (n ∷ []) (slice_get m.cores h) h n v m refl (λ c. reg_forgets c n 0 v)

-- ---- x8 and x9

-- what becomes of a core's x
abbrev pub scratched_list : List ℕ → List ℕ
scratched_list xs = set (set xs 8 0) 9 0

scratch_is : (c : Core) → wiped_core scratch c ≡ with_list c (scratched_list c.x)
scratch_is c = refl

pub x9_forgotten : (c : Core) (v : ℕ) → wiped_core scratch (reg_written c 0x1009 v) ≡ wiped_core scratch c
x9_forgotten c v =
    ap (with_list c)
    (ap (λ xs. set xs 9 0) (set-swap c.x 9 8 v 0 (λ e. omega arith)) ∙ set-set (set c.x 8 0) 9 v 0)

pub x8_forgotten : (c : Core) (v : ℕ) → wiped_core scratch (reg_written c 0x1008 v) ≡ wiped_core scratch c
x8_forgotten c v = ap (λ xs. with_list c (set xs 9 0)) (set-set c.x 8 v 0)

pub scratch_forgets : ScratchForgets
scratch_forgets h v m = record {
  x8 = forgets_at scratch (slice_get m.cores h) h 0x1008 v m refl (λ c. x8_forgotten c v);
  x9 = forgets_at scratch (slice_get m.cores h) h 0x1009 v m refl (λ c. x9_forgotten c v);
}

-- another x
x_other : (xs : List ℕ) (r i : ℕ) → r ≡ 0x1000 + i → r ≢ 0x1008 → r ≢ 0x1009 → slice_index (scratched_list xs) i ≡ slice_index xs i
x_other xs r i is not_x8 not_x9 =
    get_or-set_other (set xs 8 0) 9 i 0 0 (λ e. not_x9 (omega arith)) ∙ get_or-set_other xs 8 i 0 0 (λ e. not_x8 (omega arith))

read_x : (zero_x : Bool) (c : Core) (r i : ℕ) → r ≡ 0x1000 + i → r ≢ 0x1008 → r ≢ 0x1009
    → cond zero_x 0 (slice_index (scratched_list c.x) i) ≡ cond zero_x 0 (slice_index c.x i)
read_x true c r i is not_x8 not_x9 = refl
read_x false c r i is not_x8 not_x9 = x_other c.x r i is not_x8 not_x9

read_by : (x dpc : Bool) (c : Core) (r : ℕ) → (x ≡ true → r ≡ 0x1000 + (r - 0x1000)) → r ≢ 0x1008 → r ≢ 0x1009
    → (let d : Core = with_list c (scratched_list c.x) in
    cond x (Some (x_of d (r - 0x1000))) (cond dpc (Some d.pc) (csr_value d r)))
    ≡ cond x (Some (x_of c (r - 0x1000))) (cond dpc (Some c.pc) (csr_value c r))
read_by true dpc c r is not_x8 not_x9 = ap Some (read_x (eqb (r - 0x1000) 0) c r (r - 0x1000) (is refl) not_x8 not_x9)
read_by false true c r is not_x8 not_x9 = refl
read_by false false c r is not_x8 not_x9 = csr_apart c r (scratched_list c.x)

x_from : (below : Bool) (r : ℕ) (o : Bool) → ltb r 0x1000 ≡ below → cond below false o ≡ true → r ≡ 0x1000 + (r - 0x1000)
x_from true r o is e = absurd (false≢true e)
x_from false r o is e = let le = ltb-false r 0x1000 is in omega arith

read_else : (c : Core) (r : ℕ) → r ≢ 0x1008 → r ≢ 0x1009 → reg_value (wiped_core scratch c) r ≡ reg_value c r
read_else c r not_x8 not_x9 =
    read_by (is_x_number r) (eqb r 0x7b1) c r (λ e. x_from (ltb r 0x1000) r (ltb r 0x1020) refl e) not_x8 not_x9

-- ---- a board

abbrev pub wiping : List ℕ → Hart → Hart
wiping numbers x = record x { core = wiped_core numbers x.core }

abbrev pub wiped_board : ℕ → List ℕ → Board → Board
wiped_board h numbers b = hart_over (wiping numbers) h b

pub wiped_parts : (h : ℕ) (numbers : List ℕ) (b : Board) → parts_of (wiped_board h numbers b) ≡ parts_of b
wiped_parts h numbers b = map-over_unseen (λ (x : Hart). x.debug) (wiping numbers) h b.harts (λ x. refl)

pub wiped_machine : (h : ℕ) (numbers : List ℕ) (b : Board) → machine_of (wiped_board h numbers b) ≡ wiped (Registers h numbers) (machine_of b)
wiped_machine h numbers b =
    ap (machine_with b.memory) (map-over (λ (x : Hart). x.core) (wiping numbers) (wiped_core numbers) h b.harts (λ x. refl))

-- two machines that agree but for what is wiped, with the same debug parts, are boards that agree so
pub wiped_same : (h : ℕ) (numbers : List ℕ) (a b : Board) → wiped (Registers h numbers) (machine_of a) ≡ wiped (Registers h numbers) (machine_of b)
    → parts_of a ≡ parts_of b → wiped_board h numbers a ≡ wiped_board h numbers b
wiped_same h numbers a b alike parts =
    same_board (wiped_board h numbers a) (wiped_board h numbers b)
    (wiped_machine h numbers a ∙ alike ∙ sym (wiped_machine h numbers b)) (wiped_parts h numbers a ∙ parts ∙ sym (wiped_parts h numbers b))

pub wiped_alike : (h : ℕ) (numbers : List ℕ) (a b : Board) → wiped_board h numbers a ≡ wiped_board h numbers b
    → wiped (Registers h numbers) (machine_of a) ≡ wiped (Registers h numbers) (machine_of b)
wiped_alike h numbers a b same = sym (wiped_machine h numbers a) ∙ ap machine_of same ∙ wiped_machine h numbers b

-- so their debug parts agree
pub same_parts : (h : ℕ) (numbers : List ℕ) (a b : Board) → wiped_board h numbers a ≡ wiped_board h numbers b → parts_of a ≡ parts_of b
same_parts h numbers a b same = sym (wiped_parts h numbers a) ∙ ap parts_of same ∙ wiped_parts h numbers b

pub nothing_is_lost : NothingIsLost
nothing_is_lost s old new left = same_board new.board left.board left.alike left.parts

wiped_at : (h : ℕ) (numbers : List ℕ) (a b : Board) (x y : Hart) → wiped_board h numbers a ≡ wiped_board h numbers b
    → slice_get a.harts h ≡ Some x → slice_get b.harts h ≡ Some y → wiping numbers x ≡ wiping numbers y
wiped_at h numbers a b x y same here there =
    same_Some (wiping numbers x) (wiping numbers y)
    (sym (ap (option_map (wiping numbers)) here) ∙ sym (slice_get-over_same (wiping numbers) h a.harts)
    ∙ ap (λ (c : Board). slice_get c.harts h) same ∙ slice_get-over_same (wiping numbers) h b.harts ∙ ap (option_map (wiping numbers)) there)

pub one_core_is_lost : OneCoreIsLost
one_core_is_lost s h numbers old new left =
    let same : wiped_board h numbers new.board ≡ wiped_board h numbers left.board =
    wiped_same h numbers new.board left.board left.alike left.parts in
    record {
      memory = ap (λ (c : Board). c.memory) same;
      others = λ j other. sym (slice_get-over_other (wiping numbers) h j new.board.harts other)
          ∙ ap (λ (c : Board). slice_get c.harts j) same ∙ slice_get-over_other (wiping numbers) h j left.board.harts other;
      debug = λ x y here there. ap (λ (z : Hart). z.debug) (wiped_at h numbers new.board left.board x y same here there);
    }

pub scratch_is_lost : ScratchIsLost
scratch_is_lost s h r old new left x y here there not_x8 not_x9 =
    let same : wiping scratch x ≡ wiping scratch y =
    wiped_at h scratch new.board left.board x y (wiped_same h scratch new.board left.board left.alike left.parts) here there in
    sym (read_else x.core r not_x8 not_x9) ∙ ap (λ (z : Hart). reg_value z.core r) same ∙ read_else y.core r not_x8 not_x9
