-- `regs`: the lines of a hart's registers, one behind another.
use Rattle.std.proofs.Common.{map, ◌≡◌, ◌≤◌, ◌<◌, ◌+◌, ℕ, zero, suc, Bool, true, false, List, Option, Some, refl, sym, ap, subst, arith, if◌then◌else◌}
use Rattle.std.specs.Prelude.{is_some, nat_lt}
use Rattle.std.specs.List.{range_with_len}
use Rattle.std.proofs.lemmas.Bool.{false≢true, le-ltb, lt-ltb, ne_eqb}
use Rattle.jt_base.specs.Faults.{Rises}
use Rattle.jt_base.specs.Sink.{GrewByPrefix, grown}
use Rattle.rv_model.specs.Registers.{csr_value, first_x_number, mip_number, pc_number}
use Rattle.probe_access.specs.Pending.{is_mip}
use Rattle.abstract_debugger.specs.Lines.{Line, text_of}
use Rattle.abstract_debugger.specs.Plan.{Plan}
use Rattle.abstract_debugger.specs.Ways.Way.{Still}
use Rattle.probe_run.specs.Acts.{Tells}
use Rattle.probe_session.specs.declared.fault.Failure.{Failure}
use Rattle.probe_session.specs.declared.fault.Failure.TheVariants as failure
use Rattle.probe_session.specs.Calls.{Got, IsOfCores, ReadFell}
use Rattle.abstract_debugger.specs.Debugger.{register_line}
use Rattle.abstract_debugger.specs.Laws.{Quiet}
use Rattle.probe_session.proofs.QuietTails.{quiet_saying}
use Rattle.probe_session.specs.Goes.{Fault, Fell, Spoke}
use Rattle.probe_session.specs.Places.{idle}
use Rattle.probe_session.specs.Reach.{some_shown}
use Rattle.probe_session.specs.Showing.{CalmRegisters, Registers, at_all_registers, at_next_register, at_registers}
use Rattle.probe_session.specs.Steps.Step.{overlooks, reads_next, rests, same}
use Rattle.probe_session.proofs.RegisterLemmas.{of_harts}
use Rattle.probe_session.proofs.SeveralLines.{spoke_fell}
use Rattle.probe_session.proofs.Spoken.{fell_first, fell_line, fell_within, spoke_first, spoke_says, spoke_then, spoke_went, spoke_within}
use Rattle.probe_session.proofs.WentLemmas.{falls_at, went_one, went_then}

-- ---- registers that each core has

pub pc_of_cores : IsOfCores pc_number
unfolding csr_value
pc_of_cores c = refl

x_value : (a b : Bool) (v : ℕ) (rest : Option ℕ) → a ≡ false → b ≡ true → is_some (if (if a then false else b) then Some v else rest) ≡ true
x_value false true v rest is_a is_b = refl
x_value true b v rest is_a is_b = absurd (false≢true (sym is_a))
x_value false false v rest is_a is_b = absurd (false≢true is_b)

pub x_not_mip : (x : ℕ) → is_mip (first_x_number + x) ≡ false
x_not_mip x = ne_eqb (first_x_number + x) mip_number (λ e. omega arith)

pub x_of_cores : (x : ℕ) → x < 32 → IsOfCores (first_x_number + x)
x_of_cores x below c = x_value (nat_lt (first_x_number + x) first_x_number) (nat_lt (first_x_number + x) (first_x_number + 32)) _ _
    (le-ltb (first_x_number + x) first_x_number (omega arith)) (lt-ltb (first_x_number + x) (first_x_number + 32) (omega arith))

-- ---- one register

pub register_put : (h number value : ℕ) {t u : Tells} {c d : Option (List ℕ)} → IsOfCores number → Got h number value t u
    → d ≡ grown (text_of (Line.Register number value)) c
    → Spoke (at_next_register h number) (at_registers h) false t u c d
register_put h number value {c = c} of got put =
    spoke_says Still h (Line.Register number value) (λ (r : Registers). some_shown h r.numbers r.next) refl
    (spoke_first c (went_one (λ r. reads_next r.numbers r.next got of))) put

pub register_fell : (h number : ℕ) {old_count new_count : ℕ} {t u : Tells} (sink_old sink_new : ℕ) (c : Option (List ℕ)) {f : Failure} → IsOfCores number
    → ReadFell h number old_count new_count t u f
    → Fell CalmRegisters (at_next_register h number) old_count new_count t u sink_old sink_new c c f
register_fell h number sink_old sink_new c of fell = fell_first sink_old sink_new c (falls_at (λ r. Fault.reading fell (of_harts number of)))

pub register_cut : (h number value old_count new_count : ℕ) {t u : Tells} {sink_old sink_new : ℕ} {c d : Option (List ℕ)} {f : Failure} → IsOfCores number
    → f ≡ failure.Sink → Got h number value t u
    → GrewByPrefix (text_of (Line.Register number value)) c d → Rises sink_old sink_new
    → Fell CalmRegisters (at_next_register h number) old_count new_count t u sink_old sink_new c d f
register_cut h number value old_count new_count {c = c} of sink got front rises =
    fell_line Still h (Line.Register number value) (λ (r : Registers). some_shown h r.numbers r.next) refl
    (λ (r : Registers) calm b. quiet_saying (map (register_line h b) r.numbers) r.next calm) old_count new_count sink
    (spoke_first c (went_one (λ r. reads_next r.numbers r.next got of))) front rises

-- ---- all of them

abbrev left_from : (x left : ℕ) → Plan → Registers
left_from x left next = record { numbers = range_with_len (first_x_number + x) left; next = next }

-- pc was shown, and the registers below this one
pub record RegistersShown (h x : ℕ) (t u : Tells) (c d : Option (List ℕ)) : Type 0 where
  pub left : ℕ
  pub all : x + left ≡ 32
  pub spoke : Spoke (at_all_registers h) (λ next. at_registers h (left_from x left next)) false t u c d

pub pc_shown : (h : ℕ) {t u : Tells} {c d : Option (List ℕ)} → Spoke (at_next_register h pc_number) (at_registers h) false t u c d → RegistersShown h 1 t u c d
pc_shown h s = record { left = 31; all = omega arith; spoke = spoke_within (left_from 1 31) s }

pub pc_fell : (h : ℕ) {old_count new_count : ℕ} {t u : Tells} {sink_old sink_new : ℕ} {c d : Option (List ℕ)} {f : Failure}
    → Fell CalmRegisters (at_next_register h pc_number) old_count new_count t u sink_old sink_new c d f
    → Fell Quiet (at_all_registers h) old_count new_count t u sink_old sink_new c d f
pc_fell h fell = fell_within (left_from 1 31) (λ next calm. calm) fell

next_address : (x : ℕ) → (first_x_number + x) + 1 ≡ first_x_number + (x + 1)
next_address x = omega arith

abbrev rest_from : (x left : ℕ) → Plan → Registers
rest_from x left next = record { numbers = range_with_len ((first_x_number + x) + 1) left; next = next }

x_shown_by : (h x left : ℕ) {t u v : Tells} {c d e : Option (List ℕ)} → x < 32 → x + left ≡ 32
    → Spoke (at_all_registers h) (λ next. at_registers h (left_from x left next)) false t u c d
    → Spoke (at_next_register h (first_x_number + x)) (at_registers h) false u v d e → RegistersShown h (x + 1) t v c e
x_shown_by h x zero below all s one = absurd (omega arith)
x_shown_by h x (suc n) below all s one = record {
  left = n;
  all = omega arith;
  spoke = spoke_went (spoke_then s (spoke_within (rest_from x n) one)) (went_one
      (λ next. same (ap (λ a. some_shown h (range_with_len a n) next) (next_address x))));
}

pub x_shown : (h x : ℕ) {t u v : Tells} {c d e : Option (List ℕ)} → x < 32 → RegistersShown h x t u c d
    → Spoke (at_next_register h (first_x_number + x)) (at_registers h) false u v d e → RegistersShown h (x + 1) t v c e
x_shown h x below s one = x_shown_by h x s.left below s.all s.spoke one

x_fell_by : (h x left : ℕ) {old_count count new_count : ℕ} {t u v : Tells} {sink_old sink_count sink_new : ℕ} {c d e : Option (List ℕ)} {f : Failure}
    → x < 32 → x + left ≡ 32
    → Spoke (at_all_registers h) (λ next. at_registers h (left_from x left next)) false t u c d → old_count ≤ count → sink_old ≤ sink_count
    → sink_count ≤ sink_new
    → Fell CalmRegisters (at_next_register h (first_x_number + x)) count new_count u v sink_count sink_new d e f
    → Fell Quiet (at_all_registers h) old_count new_count t v sink_old sink_new c e f
x_fell_by h x zero below all s le later more fell = absurd (omega arith)
x_fell_by h x (suc n) below all s le later more fell = spoke_fell s le later more (fell_within (rest_from x n) (λ next calm. calm) fell)

pub x_fell : (h x : ℕ) {old_count count new_count : ℕ} {t u v : Tells} {sink_old sink_count sink_new : ℕ} {c d e : Option (List ℕ)} {f : Failure} → x < 32
    → RegistersShown h x t u c d → old_count ≤ count
    → sink_old ≤ sink_count → sink_count ≤ sink_new → Fell CalmRegisters (at_next_register h (first_x_number + x)) count new_count u v sink_count sink_new d e f
    → Fell Quiet (at_all_registers h) old_count new_count t v sink_old sink_new c e f
x_fell h x below s le later more fell = x_fell_by h x s.left below s.all s.spoke le later more fell

all_by : (h x left : ℕ) {t u : Tells} {c d : Option (List ℕ)} → left ≡ 0
    → Spoke (at_all_registers h) (λ next. at_registers h (left_from x left next)) false t u c d → Spoke (at_all_registers h) idle false t u c d
all_by h x left {t} {u} {c} {d} is s =
    spoke_went (subst (λ n. Spoke (at_all_registers h) (λ next. at_registers h (left_from x n next)) false t u c d) is s)
    (went_then (went_one (λ next. overlooks)) (went_one (λ next. rests)))

pub all_registers : (h x : ℕ) {t u : Tells} {c d : Option (List ℕ)} → x ≡ 32 → RegistersShown h x t u c d → Spoke (at_all_registers h) idle false t u c d
all_registers h x is s = let e : s.left ≡ 0 = omega (arith, s.all) in all_by h x s.left e s.spoke
