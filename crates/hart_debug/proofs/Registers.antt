-- Which registers by the debugger's number belong to the core, and which to the debug part: no number belongs to both.
use Rattle.std.proofs.Common.{◌≡◌, ℕ, ◌<◌, ◌≤◌, Bool, true, false, not, ◌&&◌, cond, eqb, ltb, ◌-◌, Option, Some, None, is_some, option_map, Result, Ok, Err}
use Rattle.std.proofs.Common.{refl, ap, sym, ◌∙◌, arith}
use Rattle.std.specs.Bool.{⊤}
use Rattle.std.proofs.lemmas.Bool.{cond-true, lt-ltb, le-ltb, ne_eqb}
use Rattle.rv_model.specs.Board.{DebugPart, Hart}
use Rattle.rv_model.specs.Core.{Core, x_of}
use Rattle.rv_model.specs.DebugRegisters.{debug_csr_value, debug_csr_written, debug_value, debug_refuses, debug_written, value_or}
use Rattle.rv_model.specs.Registers.{Register, csr_value, csr_read_only, refuses_at, register_at, reg_value, reg_written, is_x_number}
use Rattle.rv_model.specs.TriggerWords.{TriggerPart, trigger_csr_written}
use Rattle.rv_hart.specs.declared.csr_fault.CsrFault.{CsrFault}
use Rattle.rv_hart.specs.declared.csr_fault.CsrFault.TheVariants.{Absent, ReadOnly}
use Rattle.hart_debug.specs.RegisterAnswers.{write_answer}

pub x_writable : (r : ℕ) → 0x1000 ≤ r → csr_read_only r ≡ false
unfolding csr_read_only
x_writable r h =
    let e0 : eqb 0x300 r ≡ false = ne_eqb _ _ (λ e. omega arith) in
    let e1 : eqb 0x301 r ≡ false = ne_eqb _ _ (λ e. omega arith) in
    let e2 : eqb 0x304 r ≡ false = ne_eqb _ _ (λ e. omega arith) in
    let e3 : eqb 0x305 r ≡ false = ne_eqb _ _ (λ e. omega arith) in
    let e4 : eqb 0x340 r ≡ false = ne_eqb _ _ (λ e. omega arith) in
    let e5 : eqb 0x341 r ≡ false = ne_eqb _ _ (λ e. omega arith) in
    let e6 : eqb 0x342 r ≡ false = ne_eqb _ _ (λ e. omega arith) in
    let e7 : eqb 0x343 r ≡ false = ne_eqb _ _ (λ e. omega arith) in
    let e8 : eqb 0x344 r ≡ false = ne_eqb _ _ (λ e. omega arith) in
    let e9 : eqb 0xf11 r ≡ false = ne_eqb _ _ (λ e. omega arith) in
    let e10 : eqb 0xf12 r ≡ false = ne_eqb _ _ (λ e. omega arith) in
    let e11 : eqb 0xf13 r ≡ false = ne_eqb _ _ (λ e. omega arith) in
    let e12 : eqb 0xf14 r ≡ false = ne_eqb _ _ (λ e. omega arith) in
    simp (e0, e1, e2, e3, e4, e5, e6, e7, e8, e9, e10, e11, e12) refl

pub dpc_writable : csr_read_only 0x7b1 ≡ false
unfolding csr_read_only
dpc_writable = refl

pub x_answer : (c : Core) (r : ℕ) → 0x1000 ≤ r → r < 0x1020 → Ok tt ≡ write_answer (reg_value c r) r
x_answer c r low high =
    let is : is_x_number r ≡ true = ap (λ b. cond b false (ltb r 0x1020)) (le-ltb r 0x1000 low) ∙ lt-ltb r 0x1020 high in
    let value : reg_value c r ≡ Some (x_of c (r - 0x1000)) = cond-true (is_x_number r) _ _ is in
    sym (ap (λ o. write_answer o r) value ∙ ap (λ b. cond b (Err ReadOnly) (Ok tt)) (x_writable r low))

pub dpc_answer : (c : Core) (r : ℕ) → r ≡ 0x7b1 → Ok tt ≡ write_answer (reg_value c r) r
dpc_answer c r e = rw e (sym (ap (λ b. cond b (Err ReadOnly) (Ok tt)) dpc_writable))

-- ---- the core's numbers are not the debug part's

true_is_not_false : true ≡ false → ⊥
true_is_not_false e = cc

apart : (c : Core) (n r : ℕ) → is_some (reg_value c n) ≡ false → is_some (reg_value c r) ≡ true → eqb r n ≡ false
apart c n r gone there = ne_eqb r n (λ e. true_is_not_false (sym there ∙ ap (λ k. is_some (reg_value c k)) e ∙ gone))

pub debug_stays : (c : Core) (d : DebugPart) (r v : ℕ) → is_some (reg_value c r) ≡ true → debug_csr_written d r v ≡ d
unfolding csr_value trigger_csr_written
debug_stays c d r v there =
    let dcsr : eqb r 0x7b0 ≡ false = apart c 0x7b0 r refl there in
    let tselect : eqb r 0x7a0 ≡ false = apart c 0x7a0 r refl there in
    let tdata1 : eqb r 0x7a1 ≡ false = apart c 0x7a1 r refl there in
    let tdata2 : eqb r 0x7a2 ≡ false = apart c 0x7a2 r refl there in
    simp (dcsr, tselect, tdata1, tdata2) refl

by_parts : (x dpc : Bool) (a b : ℕ) (o : Option ℕ) → is_some (cond x (Some a) (cond dpc (Some b) o)) ≡ false → is_some o ≡ false
by_parts true dpc a b o e = absurd (true_is_not_false e)
by_parts false true a b o e = absurd (true_is_not_false e)
by_parts false false a b o e = e

by_row : (o : Option Register) (c : Core) → is_some (option_map (λ r. r.read c) o) ≡ false → refuses_at o ≡ false
by_row None c e = refl
by_row (Some row) c e = absurd (true_is_not_false e)

absent_writable : (c : Core) (r : ℕ) → is_some (reg_value c r) ≡ false → csr_read_only r ≡ false
unfolding csr_value csr_read_only
absent_writable c r e = by_row (register_at r) c (by_parts (is_x_number r) (eqb r 0x7b1) _ _ (csr_value c r) e)

-- ---- a write's answer, and what it leaves

by_refusal : (refuses : Bool) (answer : Result ⊤ CsrFault) → answer ≡ Ok tt → answer ≡ cond refuses (Err ReadOnly) (Ok tt) → refuses ≡ false
by_refusal true answer is e = cc
by_refusal false answer is e = refl

by_leave : (refuses : Bool) (answer : Result ⊤ CsrFault) → answer ≡ Err ReadOnly → answer ≡ cond refuses (Err ReadOnly) (Ok tt) → refuses ≡ true
by_leave true answer is e = refl
by_leave false answer is e = cc

not_absent : (refuses : Bool) (answer : Result ⊤ CsrFault) → answer ≡ Err Absent → answer ≡ cond refuses (Err ReadOnly) (Ok tt) → ⊥
not_absent true answer is e = cc
not_absent false answer is e = cc

there_or : (o other : Option ℕ) → is_some o ≡ true → is_some (value_or o other) ≡ true
there_or None other e = absurd (true_is_not_false (sym e))
there_or (Some v) other e = refl

or_other : (o other : Option ℕ) → is_some o ≡ false → value_or o other ≡ other
or_other None other e = refl
or_other (Some v) other e = absurd (true_is_not_false e)

done_there : (o : Option ℕ) (r : ℕ) → Ok tt ≡ write_answer o r → is_some o ≡ true
done_there None r e = cc
done_there (Some v) r e = refl

done_writable : (o : Option ℕ) (r : ℕ) → Ok tt ≡ write_answer o r → csr_read_only r ≡ false
done_writable None r e = cc
done_writable (Some v) r e = by_refusal (csr_read_only r) (Ok tt) refl e

refused_there : (o : Option ℕ) (r : ℕ) → Err ReadOnly ≡ write_answer o r → is_some o ≡ true
refused_there None r e = cc
refused_there (Some v) r e = refl

refused_read_only : (o : Option ℕ) (r : ℕ) → Err ReadOnly ≡ write_answer o r → csr_read_only r ≡ true
refused_read_only None r e = cc
refused_read_only (Some v) r e = by_leave (csr_read_only r) (Err ReadOnly) refl e

absent_nowhere : (o : Option ℕ) (r : ℕ) → Err Absent ≡ write_answer o r → is_some o ≡ false
absent_nowhere None r e = refl
absent_nowhere (Some v) r e = absurd (not_absent (csr_read_only r) (Err Absent) refl e)

abbrev pub accepts : Hart → ℕ → Bool
accepts h r = is_some (debug_value h r) && not (debug_refuses r)

and_true : (a : Bool) → (a && true) ≡ a
and_true true = refl
and_true false = refl

and_not : (a b : Bool) → b ≡ true → (a && not b) ≡ false
and_not true b e = rw e refl
and_not false b e = refl

pub done_accepts : (h : Hart) (r : ℕ) → Ok tt ≡ write_answer (reg_value h.core r) r → accepts h r ≡ true
unfolding debug_value debug_refuses
done_accepts h r e =
    let there : is_some (debug_value h r) ≡ true = there_or (reg_value h.core r) _ (done_there (reg_value h.core r) r e) in
    let writable : debug_refuses r ≡ false = done_writable (reg_value h.core r) r e in
    simp (there, writable) refl

pub done_leaves : (h : Hart) (r v : ℕ) → Ok tt ≡ write_answer (reg_value h.core r) r → debug_written h r v ≡ record h { core = reg_written h.core r v }
unfolding debug_written
done_leaves h r v e = ap (λ d. record h { core = reg_written h.core r v; debug = d }) (debug_stays h.core h.debug r v (done_there (reg_value h.core r) r e))

pub refused_accepts : (h : Hart) (r : ℕ) → Err ReadOnly ≡ write_answer (reg_value h.core r) r → accepts h r ≡ false
unfolding debug_value debug_refuses
refused_accepts h r e = and_not (is_some (debug_value h r)) (debug_refuses r) (refused_read_only (reg_value h.core r) r e)

pub refused_leaves : (h : Hart) (r v : ℕ) → Err ReadOnly ≡ write_answer (reg_value h.core r) r
    → debug_written h r v ≡ record h { core = reg_written h.core r v }
unfolding debug_written
refused_leaves h r v e = ap (λ d. record h { core = reg_written h.core r v; debug = d })
    (debug_stays h.core h.debug r v (refused_there (reg_value h.core r) r e))

pub absent_accepts : (h : Hart) (r : ℕ) → Err Absent ≡ write_answer (reg_value h.core r) r → accepts h r ≡ is_some (debug_csr_value h.debug r)
unfolding debug_value debug_refuses
absent_accepts h r e =
    let none : is_some (reg_value h.core r) ≡ false = absent_nowhere (reg_value h.core r) r e in
    let value : debug_value h r ≡ debug_csr_value h.debug r = or_other (reg_value h.core r) _ none in
    let writable : debug_refuses r ≡ false = absent_writable h.core r none in
    simp (value, writable) (and_true (is_some (debug_csr_value h.debug r)))

pub absent_leaves : (h : Hart) (r v : ℕ) → debug_written h r v ≡ record { core = reg_written h.core r v; debug = debug_csr_written h.debug r v }
unfolding debug_written
absent_leaves h r v = refl

-- ---- a write of a trigger register leaves the release

version_by : (is_tselect is_tdata1 is_tdata2 : Bool) (t a b c : TriggerPart) → a.version ≡ t.version → b.version ≡ t.version → c.version ≡ t.version
    → (cond is_tselect a (cond is_tdata1 b (cond is_tdata2 c t))).version ≡ t.version
version_by true is_tdata1 is_tdata2 t a b c p q r = p
version_by false true is_tdata2 t a b c p q r = q
version_by false false true t a b c p q r = r
version_by false false false t a b c p q r = refl

pub version_stays : (t : TriggerPart) (number v : ℕ) → (trigger_csr_written t number v).version ≡ t.version
unfolding trigger_csr_written
version_stays t number v = version_by (eqb number 0x7a0) (eqb number 0x7a1) (eqb number 0x7a2) t _ _ _ refl refl refl
