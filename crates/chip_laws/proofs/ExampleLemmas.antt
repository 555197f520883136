-- The worked examples, by computing.
use Rattle.std.proofs.Common.{◌≡◌, ℕ, [], true, Option, Some, None, ap, refl}
use Rattle.rv_model.specs.Board.{Hart}
use Rattle.rv_model.specs.DebugRegisters.{debug_seen}
use Rattle.rv_model.specs.Effects.{Outcome, effect_of}
use Rattle.rv_model.specs.Fields.{bit_value}
use Rattle.rv_model.specs.Memory.{Memory}
use Rattle.rv_model.specs.declared.did.Did.{Did}
use Rattle.rv_model.specs.declared.did.Did.TheVariants.{Interrupted, Retired, Trapped}
use Rattle.rv_model.specs.ProgramBuffer.{executed_by, ran_word}
use Rattle.rv_model.specs.Rows.{meaning}
use Rattle.debug_model.specs.declared.cmderr.Cmderr.TheVariants as cmderr
use Rattle.debug_model.specs.Commands.{low_half, micro_step, no_command, refusal, transferred}
use Rattle.debug_model.specs.Module.{register_at}
use Rattle.debug_model.specs.Transport.{updated_dtm}
use Rattle.chip_laws.specs.Examples.{CommandExamples, ModuleExamples, TransportExamples, WordExamples, before_word, load_word, met_late}

pub word_examples : WordExamples
word_examples = record { dtmcs = refl; no_such_hart = refl; running = refl; halted = refl; no_such_hart_V013 = refl; running_V013 = refl; halted_V013 = refl; abstractcs = refl; sbcs = refl }

pub transport_examples : TransportExamples
unfolding updated_dtm
transport_examples = record { busy = λ op. refl; stuck = λ op bits. refl }

pub module_examples : ModuleExamples
unfolding register_at refusal
module_examples = record { looks = λ m. refl; requests = λ m. refl; refuses = λ m. refl; refuses_word = λ m. refl }

-- a load is an access whatever becomes of it
pub load_accesses : (hart : Hart) (m : Memory) → (micro_step hart m (before_word load_word)).accessed ≡ true
unfolding micro_step ran_word meaning
load_accesses hart m = by (effect_of _ hart.core m) (effect_of _ hart.core m).step.did where
  by : (o : Outcome) (did : Did) → (executed_by did o true hart m).accessed ≡ true
  by o Retired = refl
  by o (Trapped cause) = refl
  by o Interrupted = refl

pub late_at_end : (hart : Hart) (m : Memory) → (micro_step hart m met_late).unit.error ≡ cmderr.Busy
unfolding micro_step
late_at_end hart m = by (debug_seen hart m 0) where
  by : (value : Option ℕ) → (transferred value no_command [] hart m met_late).unit.error ≡ cmderr.Busy
  by None = refl
  by (Some v) = refl

pub command_examples : CommandExamples
unfolding micro_step ran_word meaning effect_of debug_seen
command_examples = record {
  load_accesses = load_accesses;
  ebreak_accesses_not = λ hart m. refl;
  mip_accesses = λ size hart m. refl;
  mip_shows = λ hart m set. ap (λ b. low_half (bit_value 3 b)) set;
  mip_written = λ size hart m. refl;
  without_ebreak = λ hart m. refl;
  with_ebreak = λ hart m. refl;
  late_not_yet = refl;
  late_at_end = late_at_end;
  misaligned = λ v. refl;
}
