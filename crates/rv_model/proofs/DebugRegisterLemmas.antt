-- What the registers that Debug Mode reaches hold, what a write of one keeps, and that it is read back.
use Rattle.std.proofs.Common.{◌≡◌, ℕ, ◌+◌, ◌-◌, ◌<◌, Bool, true, false, cond, eqb, ltb, length, get_or, set, Option, Some, is_some, refl, sym, ap, ◌∙◌, arith}
use Rattle.std.proofs.lemmas.Bool.{cond-true, eqb-true, lt-ltb, le-ltb, ne_eqb}
use Rattle.std.proofs.lemmas.List.{get_or-set_same, length-set}
use Rattle.rv_model.specs.Board.{DebugPart, Hart, slot_count}
use Rattle.rv_model.specs.Core.{Core, x_of, with_x, aligned}
use Rattle.rv_model.specs.Dcsr.{dcsr_word}
use Rattle.rv_model.specs.DebugRegisters.{debug_csr_value, debug_csr_written, value_or, debug_seen, debug_value, debug_refuses, debug_written}
use Rattle.rv_model.specs.DebugLaws.{DebugRegisterNumbers, DebugRegisterExamples, SameRequests, WriteKeeps, WritesKeep, WritesReadBack}
use Rattle.rv_model.specs.Laws.{KeepsCore}
use Rattle.rv_model.specs.Memory.{Memory}
use Rattle.rv_model.specs.Registers.{mip_number, mip_value, reg_value, reg_written, is_x_number, csr_value, csr_written, csr_read_only}
use Rattle.rv_model.specs.Triggers.{CountsFit}
use Rattle.rv_model.specs.TriggerWords.{
  TriggerPart,
  triggers_of,
  tselect_number,
  tdata1_number,
  tdata2_number,
  tdata1_of,
  trigger_csr_value,
  trigger_csr_written,
}
use Rattle.rv_model.proofs.KeptLemmas.{with_x_keeps, at_pc, csr_written_keeps}
use Rattle.rv_model.proofs.SlotLemmas.{set_fits, selected_fits, written_fits}

-- ---- worked examples

pub debug_register_numbers : DebugRegisterNumbers
debug_register_numbers = record { tselect = refl; tdata1 = refl; tdata2 = refl; tinfo = refl; disabled = refl; dcsr = refl; dpc = refl; x0 = refl }

pub debug_register_examples : DebugRegisterExamples
unfolding debug_value debug_refuses debug_written csr_value csr_read_only csr_written dcsr_word tdata1_of trigger_csr_value trigger_csr_written
debug_register_examples = record {
  dcsr = refl;
  dpc = refl;
  tinfo = refl;
  tinfo_V013 = refl;
  tdata1 = λ version. refl;
  mhartid = refl;
  last_x = refl;
  behind_last_x = refl;
  dscratch0 = refl;
  mhartid_refuses = refl;
  misa_ignores = refl;
  misa_written = refl;
  tinfo_written = refl;
  x0_written = refl;
}

-- ---- mip, which memory tells

seen_else : (is_mip : Bool) (h : Hart) (m : Memory) (number : ℕ) → is_mip ≡ false
    → cond is_mip (Some (mip_value h.core m)) (debug_value h number) ≡ debug_value h number
seen_else true h m number e = absurd (cc)
seen_else false h m number e = refl

-- what is seen of each other register is its value
pub seen_is_value : (h : Hart) (m : Memory) (number : ℕ) → eqb number mip_number ≡ false → debug_seen h m number ≡ debug_value h number
unfolding debug_seen
seen_is_value h m number other = seen_else (eqb number mip_number) h m number other

mip_there : (h : Hart) → is_some (debug_value h mip_number) ≡ true
unfolding debug_value csr_value
mip_there h = refl

seen_there_by : (is_mip : Bool) (h : Hart) (m : Memory) (number : ℕ) → (is_mip ≡ true → number ≡ mip_number)
    → is_some (cond is_mip (Some (mip_value h.core m)) (debug_value h number)) ≡ is_some (debug_value h number)
seen_there_by true h m number is = sym (ap (λ n. is_some (debug_value h n)) (is refl) ∙ mip_there h)
seen_there_by false h m number is = refl

-- and the same registers are there
pub seen_there : (h : Hart) (m : Memory) (number : ℕ) → is_some (debug_seen h m number) ≡ is_some (debug_value h number)
unfolding debug_seen
seen_there h m number = seen_there_by (eqb number mip_number) h m number (eqb-true number mip_number)

-- ---- writes of registers

reg_by : (x dpc : Bool) (c : Core) (r v : ℕ) → KeepsCore c (cond x (with_x c (r - 0x1000) v) (cond dpc (record c { pc = aligned v }) (csr_written c r v)))
reg_by true dpc c r v = with_x_keeps c (r - 0x1000) v
reg_by false true c r v = at_pc c (aligned v) (λ core. omega arith)
reg_by false false c r v = csr_written_keeps c r v

pub reg_written_keeps : (c : Core) (r v : ℕ) → KeepsCore c (reg_written c r v)
reg_written_keeps c r v = reg_by (is_x_number r) (eqb r 0x7b1) c r v

-- what a debug part keeps of what is true of every hart
pub record DebugKeeps (d after : DebugPart) : Type 0 where
  pub requests : SameRequests d after
  pub slots : length after.slots ≡ length d.slots
  pub counts : CountsFit d.slots → CountsFit after.slots
  pub selected : d.tselect < slot_count → after.tselect < slot_count

same_requests : (d : DebugPart) → SameRequests d d
same_requests d = record { version = refl; halted = refl; halt_request = refl; resume_request = refl; resume_ack = refl; have_reset = refl }

abbrev TriggersKeep : TriggerPart → TriggerPart → Type 0
TriggersKeep t after = (length after.slots ≡ length t.slots) × (CountsFit t.slots → CountsFit after.slots)
    × (t.tselect < slot_count → after.tselect < slot_count)

triggers_by : (is_tselect is_tdata1 is_tdata2 : Bool) (t a b c : TriggerPart) → TriggersKeep t a → TriggersKeep t b → TriggersKeep t c
    → TriggersKeep t (cond is_tselect a (cond is_tdata1 b (cond is_tdata2 c t)))
triggers_by true is_tdata1 is_tdata2 t a b c p q r = p
triggers_by false true is_tdata2 t a b c p q r = q
triggers_by false false true t a b c p q r = r
triggers_by false false false t a b c p q r = (refl, λ fits. fits, λ below. below)

triggers_keep : (t : TriggerPart) (number v : ℕ) → TriggersKeep t (trigger_csr_written t number v)
unfolding trigger_csr_written
triggers_keep t number v =
    triggers_by (eqb number tselect_number) (eqb number tdata1_number) (eqb number tdata2_number) t _ _ _
    (refl, λ fits. fits, λ below. omega arith)
    (length-set t.slots t.tselect _, λ fits. set_fits t.slots t.tselect _ (written_fits t.version v) fits, λ below. below)
    (length-set t.slots t.tselect _, λ fits. set_fits t.slots t.tselect _ (selected_fits t.slots t.tselect fits) fits, λ below. below)

debug_by : (dcsr : Bool) (d a b : DebugPart) → DebugKeeps d a → DebugKeeps d b → DebugKeeps d (cond dcsr a b)
debug_by true d a b h k = h
debug_by false d a b h k = k

pub debug_csr_keeps : (d : DebugPart) (number v : ℕ) → DebugKeeps d (debug_csr_written d number v)
debug_csr_keeps d number v =
    let t = triggers_keep (triggers_of d) number v in
    debug_by (eqb number 0x7b0) d _ _
    (record {
      requests = record { version = refl; halted = refl; halt_request = refl; resume_request = refl; resume_ack = refl; have_reset = refl };
      slots = refl;
      counts = λ fits. fits;
      selected = λ below. below;
    })
    (record {
      requests = record { version = refl; halted = refl; halt_request = refl; resume_request = refl; resume_ack = refl; have_reset = refl };
      slots = t.0;
      counts = t.1;
      selected = t.2;
    })

-- a hart whose core and debug part keep that
hart_keeps : (h after : Hart) → KeepsCore h.core after.core → DebugKeeps h.debug after.debug → WriteKeeps h after
hart_keeps h after core debug = record {
  requests = debug.requests;
  core = core;
  is_hart = λ n is. record {
    number = core.same_id ∙ is.number;
    core = core.is_core is.core;
    slots = debug.slots ∙ is.slots;
    counts = debug.counts is.counts;
    selected = debug.selected is.selected;
  };
}

same_debug_part : (d : DebugPart) → DebugKeeps d d
same_debug_part d = record { requests = same_requests d; slots = refl; counts = λ fits. fits; selected = λ below. below }

pub core_alone : (h : Hart) (core : Core) → KeepsCore h.core core → WriteKeeps h (record h { core = core })
core_alone h core keeps = hart_keeps h (record h { core = core }) keeps (same_debug_part h.debug)

pub writes_keep : WritesKeep
unfolding debug_written
writes_keep h number v = hart_keeps h _ (reg_written_keeps h.core number v) (debug_csr_keeps h.debug number v)

-- ---- written and read back

pub is_x : (r : ℕ) → r < 32 → is_x_number (0x1000 + r) ≡ true
is_x r inside = ap (λ b. cond b false (ltb (0x1000 + r) (0x1000 + 32))) (le-ltb (0x1000 + r) 0x1000 (omega arith))
    ∙ lt-ltb (0x1000 + r) (0x1000 + 32) (omega arith)

x_read_back : (c : Core) (r v : ℕ) → 0 < r → r < length c.x → x_of (with_x c r v) r ≡ v
x_read_back c r v some inside =
    let other : eqb r 0 ≡ false = ne_eqb r 0 (λ e. omega arith) in
    ap (λ b. cond b 0 (get_or (cond b c (record c { x = set c.x r v })).x r 0)) other ∙ get_or-set_same c.x r v 0 inside

x_value : (c : Core) (k : ℕ) → is_x_number k ≡ true → reg_value c k ≡ Some (x_of c (k - 0x1000))
x_value c k is = cond-true (is_x_number k) _ _ is

x_written : (c : Core) (k v : ℕ) → is_x_number k ≡ true → reg_written c k v ≡ with_x c (k - 0x1000) v
x_written c k v is = cond-true (is_x_number k) _ _ is

x_reads_back : (h : Hart) (r v : ℕ) → 0 < r → r < length h.core.x → r < 32 → debug_value (debug_written h (0x1000 + r) v) (0x1000 + r) ≡ Some v
unfolding debug_value debug_written
x_reads_back h r v some inside fits =
    let k : ℕ = 0x1000 + r in
    let place : k - 0x1000 ≡ r = omega arith in
    let other : Option ℕ = debug_csr_value (debug_csr_written h.debug k v) k in
    ap (λ (c : Core). value_or (reg_value c k) other) (x_written h.core k v (is_x r fits))
    ∙ ap (λ o. value_or o other) (x_value (with_x h.core (k - 0x1000) v) k (is_x r fits))
    ∙ ap (λ q. Some (x_of (with_x h.core q v) q)) place
    ∙ ap Some (x_read_back h.core r v some inside)

pub writes_read_back : WritesReadBack
unfolding debug_value debug_written csr_value csr_written trigger_csr_value trigger_csr_written
writes_read_back h v = record {
  x = λ r some inside fits. x_reads_back h r v some inside fits;
  x0 = refl;
  dpc = refl;
  dcsr = refl;
  tselect = refl;
  tdata1 = λ here. ap (λ s. Some (tdata1_of h.debug.version s.trigger)) (get_or-set_same h.debug.slots h.debug.tselect _ _ here);
  tdata2 = λ here. ap (λ s. Some s.tdata2) (get_or-set_same h.debug.slots h.debug.tselect _ _ here);
  tinfo = refl;
}
