-- How a core, a slot, a debug part and a hart are stored where one is the value of a model: each as nested pairs of its fields.
-- It says nothing of harts; `impl Model` asks for it.
use Rattle.std.specs.Prelude.{ℕ, Bool, true, false, if◌then◌else◌, ◌==◌, ◌⊎◌, ◌≡◌, List, Option, refl}
use Rattle.std.specs.Coded.{Coded, code_by, coded×, coded⊎, coded_ℕ, coded_bool, coded_list, coded_option}
use Rattle.std.proofs.Common.{inl, inr}
use Rattle.rv_model.specs.declared.cause.Cause.{Cause}
use Rattle.rv_model.specs.declared.cause.Cause.TheVariants.{Ebreak, Trigger, HaltReq, Step, Reset}
use Rattle.rv_model.specs.declared.slot.Comparison.{Comparison}
use Rattle.rv_model.specs.declared.slot.Comparison.TheVariants.{Equal, AtLeast, Below}
use Rattle.rv_model.specs.declared.slot.Mcontrol6.{Mcontrol6}
use Rattle.rv_model.specs.declared.slot.Icount.{Icount}
use Rattle.rv_model.specs.declared.slot.Trigger.{Trigger as Kind}
use Rattle.rv_model.specs.declared.slot.Trigger.TheVariants as kind
use Rattle.rv_model.specs.declared.slot.Slot.{Slot}
use Rattle.rv_model.specs.declared.version.Version.{Version}
use Rattle.rv_model.specs.declared.version.Version.TheVariants.{V013, V10}
use Rattle.rv_model.specs.Cause.{cause_number}
use Rattle.rv_model.specs.Core.{Core}
use Rattle.rv_model.specs.Board.{DebugPart, Hart}
use Rattle.rv_model.specs.TriggerWords.{comparison_number, comparison_of}

abbrev pub core_code : Coded Core
core_code =
    code_by (ℕ × (List ℕ × (ℕ × (ℕ × (ℕ × (ℕ × (ℕ × (ℕ × (ℕ × ℕ)))))))))
    (coded× coded_ℕ (coded× (coded_list coded_ℕ) (coded× coded_ℕ (coded× coded_ℕ (coded× coded_ℕ (coded× coded_ℕ (coded× coded_ℕ (coded× coded_ℕ
    (coded× coded_ℕ coded_ℕ)))))))))
    (λ c. (c.id, (c.x, (c.pc, (c.mstatus, (c.mie, (c.mtvec, (c.mscratch, (c.mepc, (c.mcause, c.mtval))))))))))
    (λ p. record {
      id = p.0;
      x = p.1.0;
      pc = p.1.1.0;
      mstatus = p.1.1.1.0;
      mie = p.1.1.1.1.0;
      mtvec = p.1.1.1.1.1.0;
      mscratch = p.1.1.1.1.1.1.0;
      mepc = p.1.1.1.1.1.1.1.0;
      mcause = p.1.1.1.1.1.1.1.1.0;
      mtval = p.1.1.1.1.1.1.1.1.1;
    })
    (λ _. refl)

-- ---- a cause, how a slot compares, and a release, by a number or a truth value

abbrev pub cause_of : ℕ → Cause
cause_of n = if n == 1 then Ebreak else (if n == 2 then Trigger else (if n == 3 then HaltReq else (if n == 4 then Step else Reset)))

pub cause_of-cause_number : (c : Cause) → cause_of (cause_number c) ≡ c
cause_of-cause_number Ebreak = refl
cause_of-cause_number Trigger = refl
cause_of-cause_number HaltReq = refl
cause_of-cause_number Step = refl
cause_of-cause_number Reset = refl

abbrev pub cause_code : Coded Cause
cause_code = code_by ℕ coded_ℕ cause_number cause_of cause_of-cause_number

pub comparison_of-comparison_number : (c : Comparison) → comparison_of (comparison_number c) ≡ c
comparison_of-comparison_number Equal = refl
comparison_of-comparison_number AtLeast = refl
comparison_of-comparison_number Below = refl

abbrev pub is_V013 : Version → Bool
is_V013 V013 = true
is_V013 V10 = false

abbrev pub version_from : Bool → Version
version_from true = V013
version_from false = V10

pub version_from-is_V013 : (v : Version) → version_from (is_V013 v) ≡ v
version_from-is_V013 V013 = refl
version_from-is_V013 V10 = refl

abbrev pub version_code : Coded Version
version_code = code_by Bool coded_bool is_V013 version_from version_from-is_V013

abbrev pub comparison_code : Coded Comparison
comparison_code = code_by ℕ coded_ℕ comparison_number comparison_of comparison_of-comparison_number

-- ---- slots

abbrev pub mcontrol6_code : Coded Mcontrol6
mcontrol6_code =
    code_by (Bool × (Comparison × (Bool × (Bool × (Bool × Bool)))))
    (coded× coded_bool (coded× comparison_code (coded× coded_bool (coded× coded_bool (coded× coded_bool coded_bool)))))
    (λ t. (t.hit, (t.comparison, (t.m, (t.execute, (t.store, t.load))))))
    (λ p. record { hit = p.0; comparison = p.1.0; m = p.1.1.0; execute = p.1.1.1.0; store = p.1.1.1.1.0; load = p.1.1.1.1.1 })
    (λ _. refl)

abbrev pub icount_code : Coded Icount
icount_code =
    code_by (Bool × (ℕ × (Bool × Bool)))
    (coded× coded_bool (coded× coded_ℕ (coded× coded_bool coded_bool)))
    (λ t. (t.hit, (t.count, (t.m, t.pending))))
    (λ p. record { hit = p.0; count = p.1.0; m = p.1.1.0; pending = p.1.1.1 })
    (λ _. refl)

abbrev pub kind_apart : Kind → Mcontrol6 ⊎ (Icount ⊎ ℕ)
kind_apart (kind.Mcontrol6 t) = inl t
kind_apart (kind.Icount t) = inr (inl t)
kind_apart kind.Disabled = inr (inr 0)

abbrev pub kind_from : Mcontrol6 ⊎ (Icount ⊎ ℕ) → Kind
kind_from (inl t) = kind.Mcontrol6 t
kind_from (inr (inl t)) = kind.Icount t
kind_from (inr (inr n)) = kind.Disabled

pub kind_from-kind_apart : (k : Kind) → kind_from (kind_apart k) ≡ k
kind_from-kind_apart (kind.Mcontrol6 t) = refl
kind_from-kind_apart (kind.Icount t) = refl
kind_from-kind_apart kind.Disabled = refl

abbrev pub slot_code : Coded Slot
slot_code =
    code_by (Kind × ℕ)
    (coded× (code_by (Mcontrol6 ⊎ (Icount ⊎ ℕ)) (coded⊎ mcontrol6_code (coded⊎ icount_code coded_ℕ)) kind_apart kind_from kind_from-kind_apart) coded_ℕ)
    (λ s. (s.trigger, s.tdata2)) (λ p. record { trigger = p.0; tdata2 = p.1 }) (λ _. refl)

-- ---- a hart

abbrev pub debug_code : Coded DebugPart
debug_code =
    code_by (Version × (Option Cause × (Bool × (Bool × (Bool × (Bool × (Bool × (Bool × (Bool × (ℕ × List Slot))))))))))
    (coded× version_code (coded× (coded_option cause_code)
    (coded× coded_bool (coded× coded_bool (coded× coded_bool (coded× coded_bool (coded× coded_bool (coded× coded_bool (coded× coded_bool
    (coded× coded_ℕ (coded_list slot_code)))))))))))
    (λ d. (
      d.version,
      (d.halted, (d.halt_request, (d.resume_request, (d.resume_ack, (d.have_reset, (d.step, (d.stepie, (d.ebreakm, (d.tselect, d.slots))))))))),
    ))
    (λ p. record {
      version = p.0;
      halted = p.1.0;
      halt_request = p.1.1.0;
      resume_request = p.1.1.1.0;
      resume_ack = p.1.1.1.1.0;
      have_reset = p.1.1.1.1.1.0;
      step = p.1.1.1.1.1.1.0;
      stepie = p.1.1.1.1.1.1.1.0;
      ebreakm = p.1.1.1.1.1.1.1.1.0;
      tselect = p.1.1.1.1.1.1.1.1.1.0;
      slots = p.1.1.1.1.1.1.1.1.1.1;
    })
    (λ _. refl)

abbrev pub hart_code : Coded Hart
hart_code = code_by (Core × DebugPart) (coded× core_code debug_code) (λ h. (h.core, h.debug)) (λ p. record { core = p.0; debug = p.1 }) (λ _. refl)
