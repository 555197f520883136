-- The worked examples, computed.
use Rattle.std.proofs.Common.{◌≡◌, ◌∙◌, Option, true, is_some, refl, sym, ap, subst}
use Rattle.std.specs.Fmt.{digits}
use Rattle.std.specs.Prelude.{unwrap_or}
use Rattle.rv_model.specs.Alu.{alu_of}
use Rattle.rv_model.specs.Effects.{effect_of}
use Rattle.rv_model.specs.Memory.{Memory}
use Rattle.rv_model.specs.Registers.{csr_value, csr_read_only}
use Rattle.rv_model.specs.Rows.{meaning}
use Rattle.debug_model.specs.Registers.{name_of_register, named_registers}
use Rattle.debug_model.specs.Spelling.{hexadecimal}
use Rattle.abstract_debugger.specs.Debugger.{session, stepping, until, waiting}
use Rattle.abstract_debugger.specs.ExampleCases.{Case, Happens, Holds}
use Rattle.abstract_debugger.specs.LineExamples.{LinesRead}
use Rattle.abstract_debugger.specs.LossExamples.{no_halt, no_ack, step_without_halt, step_without_ack, wait_in_vain, cut_in_a_step, foreign_request}
use Rattle.abstract_debugger.specs.LossExamples.{LossesHappen}
use Rattle.abstract_debugger.specs.RefusalExamples.{five_breaks, hart_7, hart_1_running, read_only_register, misaligned_read, no_hart_to_wait_for}
use Rattle.abstract_debugger.specs.RefusalExamples.{RefusalsHappen}
use Rattle.abstract_debugger.specs.StopExamples.{step_from_reset, break_twice, pc_onto_break, pc_onto_the_same_break, step_onto_break, count_five}
use Rattle.abstract_debugger.specs.StopExamples.{watched_store, ebreak_halts, halt_running, StopsHappen}
use Rattle.abstract_debugger.specs.Transcript.{End, Outcome, start, transcript}
use Rattle.abstract_debugger.proofs.Fetched.{computed, computed-agrees, some-unwrap}

-- ---- a session's outcome, computed

abbrev nothing : Case → Memory → Outcome
nothing c m = record { world = start (c.board m); end = End.Open }

abbrev computed_case : Case → Memory → Option Outcome
computed_case c m = computed c.program (session c.script) (start (c.board m)) c.journal

abbrev row : Case → Memory → Outcome
row c m = unwrap_or (computed_case c m) (nothing c m)

record Computes (c : Case) (m : Memory) : Type 0 where
  memory_is : (c.board m).memory ≡ m
  some : is_some (computed_case c m) ≡ true
  lines : (row c m).world.lines ≡ c.lines
  end : (row c m).end ≡ c.end
  past : (row c m).world.past ≡ c.past

happens : (c : Case) → ((m : Memory) → Computes c m) → Happens c
happens c computes m holds =
    let k : Computes c m = computes m in
    let e : transcript (c.board m) c.script c.journal ≡ row c m =
    computed-agrees c.program (session c.script) (start (c.board m)) c.journal (row c m) (subst (Holds c.program) (sym k.memory_is) holds)
    (some-unwrap (computed_case c m) (nothing c m) k.some) in
    record {
      lines_are = ap (λ (o : Outcome). o.world.lines) e ∙ k.lines;
      end_is = ap (λ (o : Outcome). o.end) e ∙ k.end;
      past_is = ap (λ (o : Outcome). o.world.past) e ∙ k.past;
    }

step_from_reset_happens : Happens step_from_reset
unfolding computed meaning alu_of effect_of stepping until waiting csr_value csr_read_only
step_from_reset_happens = happens step_from_reset (λ m. record { memory_is = refl; some = refl; lines = refl; end = refl; past = refl })

break_twice_happens : Happens break_twice
unfolding computed meaning alu_of effect_of stepping until waiting csr_value csr_read_only
break_twice_happens = happens break_twice (λ m. record { memory_is = refl; some = refl; lines = refl; end = refl; past = refl })

pc_onto_break_happens : Happens pc_onto_break
unfolding computed meaning alu_of effect_of stepping until waiting csr_value csr_read_only
pc_onto_break_happens = happens pc_onto_break (λ m. record { memory_is = refl; some = refl; lines = refl; end = refl; past = refl })

pc_onto_the_same_break_happens : Happens pc_onto_the_same_break
unfolding computed meaning alu_of effect_of stepping until waiting csr_value csr_read_only
pc_onto_the_same_break_happens = happens pc_onto_the_same_break (λ m. record { memory_is = refl; some = refl; lines = refl; end = refl; past = refl })

step_onto_break_happens : Happens step_onto_break
unfolding computed meaning alu_of effect_of stepping until waiting csr_value csr_read_only
step_onto_break_happens = happens step_onto_break (λ m. record { memory_is = refl; some = refl; lines = refl; end = refl; past = refl })

count_five_happens : Happens count_five
unfolding computed meaning alu_of effect_of stepping until waiting csr_value csr_read_only
count_five_happens = happens count_five (λ m. record { memory_is = refl; some = refl; lines = refl; end = refl; past = refl })

watched_store_happens : Happens watched_store
unfolding computed meaning alu_of effect_of stepping until waiting csr_value csr_read_only
watched_store_happens = happens watched_store (λ m. record { memory_is = refl; some = refl; lines = refl; end = refl; past = refl })

ebreak_halts_happens : Happens ebreak_halts
unfolding computed meaning alu_of effect_of stepping until waiting csr_value csr_read_only
ebreak_halts_happens = happens ebreak_halts (λ m. record { memory_is = refl; some = refl; lines = refl; end = refl; past = refl })

halt_running_happens : Happens halt_running
unfolding computed meaning alu_of effect_of stepping until waiting csr_value csr_read_only
halt_running_happens = happens halt_running (λ m. record { memory_is = refl; some = refl; lines = refl; end = refl; past = refl })

five_breaks_happens : Happens five_breaks
unfolding computed meaning alu_of effect_of stepping until waiting csr_value csr_read_only
five_breaks_happens = happens five_breaks (λ m. record { memory_is = refl; some = refl; lines = refl; end = refl; past = refl })

hart_7_happens : Happens hart_7
unfolding computed meaning alu_of effect_of stepping until waiting csr_value csr_read_only
hart_7_happens = happens hart_7 (λ m. record { memory_is = refl; some = refl; lines = refl; end = refl; past = refl })

hart_1_running_happens : Happens hart_1_running
unfolding computed meaning alu_of effect_of stepping until waiting csr_value csr_read_only
hart_1_running_happens = happens hart_1_running (λ m. record { memory_is = refl; some = refl; lines = refl; end = refl; past = refl })

no_hart_to_wait_for_happens : Happens no_hart_to_wait_for
unfolding computed meaning alu_of effect_of stepping until waiting csr_value csr_read_only
no_hart_to_wait_for_happens = happens no_hart_to_wait_for (λ m. record { memory_is = refl; some = refl; lines = refl; end = refl; past = refl })

read_only_register_happens : Happens read_only_register
unfolding computed meaning alu_of effect_of stepping until waiting csr_value csr_read_only
read_only_register_happens = happens read_only_register (λ m. record { memory_is = refl; some = refl; lines = refl; end = refl; past = refl })

misaligned_read_happens : Happens misaligned_read
unfolding computed meaning alu_of effect_of stepping until waiting csr_value csr_read_only
misaligned_read_happens = happens misaligned_read (λ m. record { memory_is = refl; some = refl; lines = refl; end = refl; past = refl })

no_halt_happens : Happens no_halt
unfolding computed meaning alu_of effect_of stepping until waiting csr_value csr_read_only
no_halt_happens = happens no_halt (λ m. record { memory_is = refl; some = refl; lines = refl; end = refl; past = refl })

no_ack_happens : Happens no_ack
unfolding computed meaning alu_of effect_of stepping until waiting csr_value csr_read_only
no_ack_happens = happens no_ack (λ m. record { memory_is = refl; some = refl; lines = refl; end = refl; past = refl })

step_without_halt_happens : Happens step_without_halt
unfolding computed meaning alu_of effect_of stepping until waiting csr_value csr_read_only
step_without_halt_happens = happens step_without_halt (λ m. record { memory_is = refl; some = refl; lines = refl; end = refl; past = refl })

step_without_ack_happens : Happens step_without_ack
unfolding computed meaning alu_of effect_of stepping until waiting csr_value csr_read_only
step_without_ack_happens = happens step_without_ack (λ m. record { memory_is = refl; some = refl; lines = refl; end = refl; past = refl })

wait_in_vain_happens : Happens wait_in_vain
unfolding computed meaning alu_of effect_of stepping until waiting csr_value csr_read_only
wait_in_vain_happens = happens wait_in_vain (λ m. record { memory_is = refl; some = refl; lines = refl; end = refl; past = refl })

cut_in_a_step_happens : Happens cut_in_a_step
unfolding computed meaning alu_of effect_of stepping until waiting csr_value csr_read_only
cut_in_a_step_happens = happens cut_in_a_step (λ m. record { memory_is = refl; some = refl; lines = refl; end = refl; past = refl })

foreign_request_happens : Happens foreign_request
unfolding computed meaning alu_of effect_of stepping until waiting csr_value csr_read_only
foreign_request_happens = happens foreign_request (λ m. record { memory_is = refl; some = refl; lines = refl; end = refl; past = refl })

-- ---- together

pub stops_happen : StopsHappen
stops_happen = record {
  from_reset = step_from_reset_happens;
  twice = break_twice_happens;
  onto_break = pc_onto_break_happens;
  onto_the_same = pc_onto_the_same_break_happens;
  steps = step_onto_break_happens;
  counts = count_five_happens;
  watches = watched_store_happens;
  ebreaks = ebreak_halts_happens;
  halts = halt_running_happens;
}

pub refusals_happen : RefusalsHappen
refusals_happen = record {
  slots = five_breaks_happens;
  absent = hart_7_happens;
  none = no_hart_to_wait_for_happens;
  running = hart_1_running_happens;
  register = read_only_register_happens;
  misaligned = misaligned_read_happens;
}

pub losses_happen : LossesHappen
losses_happen = record {
  halt = no_halt_happens;
  ack = no_ack_happens;
  step_halt = step_without_halt_happens;
  step_ack = step_without_ack_happens;
  wait = wait_in_vain_happens;
  cut = cut_in_a_step_happens;
  foreign = foreign_request_happens;
}

-- ---- text

pub lines_read : LinesRead
unfolding hexadecimal name_of_register named_registers digits
lines_read = record {
  idcode = refl;
  stepped = refl;
  triggered = refl;
  strange = refl;
  element = refl;
  row = refl;
  armed = refl;
  freed = refl;
  running = refl;
  refused = refl;
  loaded = refl;
  soft = refl;
  not_soft = refl;
  register = refl;
}
