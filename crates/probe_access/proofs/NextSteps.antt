-- A register goes into the data words, and behind it the program buffer makes an access and raises the address, while turns pass: the access is made at one
-- moment, and from there on memory is as it left it.
use Rattle.std.proofs.Common.{◌≡◌, ◌∙◌, ◌+◌, ◌%◌, ◌^◌, ◌/◌, ℕ, List, [], ◌∷◌, ◌++◌, true, false, Some, None, refl, sym, ap}
use Rattle.rv_model.specs.declared.debug_did.DebugDid.TheVariants as ended
use Rattle.rv_model.specs.declared.size.Size.{Size}
use Rattle.rv_model.specs.declared.size.Size.TheVariants.{B1, B2, B4, B8}
use Rattle.rv_model.specs.Board.{Hart}
use Rattle.rv_model.specs.Core.{x_of}
use Rattle.rv_model.specs.DebugRegisters.{debug_seen}
use Rattle.rv_model.specs.Alu.{alu_of}
use Rattle.rv_model.specs.Effects.{effect_of}
use Rattle.rv_model.specs.Memory.{Memory}
use Rattle.rv_model.specs.ProgramBuffer.{Debugged, debugged, ran_word}
use Rattle.rv_model.specs.Rows.{meaning}
use Rattle.rv_model.specs.Size.{count_of}
use Rattle.rv_model.proofs.ProgramBufferLemmas.{program_buffer_examples}
use Rattle.debug_model.specs.declared.abstractauto.Abstractauto.{Abstractauto}
use Rattle.debug_model.specs.declared.cmderr.Cmderr.{Cmderr}
use Rattle.debug_model.specs.declared.cmderr.Cmderr.TheVariants.{Exception}
use Rattle.debug_model.specs.declared.micro.Micro.{Micro}
use Rattle.debug_model.specs.declared.micro.Micro.TheVariants.{Run, Transfer}
use Rattle.debug_model.specs.Commands.{CommandUnit, executed_word, micro_step}
use Rattle.debug_model.specs.Deeds.{Deed, after_deed, bus_stepped, command_stepped, ran, turned}
use Rattle.debug_model.specs.Deeds.Deed.{Turned, CommandStepped, BusStepped}
use Rattle.debug_model.specs.Module.{DebugModule, Site}
use Rattle.debug_model.specs.SystemBus.{BusUnit}
use Rattle.probe_access.specs.RegisterAccess.{advance_word, ebreak_word, next_command, x9_number}
use Rattle.probe_access.proofs.Plain.{seen_held}
use Rattle.probe_access.proofs.AccessSteps.{WordDid, after_micro, one_more, program_of, rest_of}
use Rattle.probe_access.proofs.AccessSteps.WordDid.{went, faulted}
use Rattle.probe_access.proofs.Aside.{Frozen, accessed, aside, passed}
use Rattle.probe_access.proofs.Quiet.{command_quiet}
use Rattle.probe_access.proofs.ReadyUnit.{Held, Kept}
use Rattle.probe_access.proofs.ScratchLemmas.{with_core_x, x9_value}
use Rattle.probe_access.proofs.Steps.{Does, does_aside, stepped_aside}
use Rattle.probe_access.proofs.Turns.{stays_passed}
use Rattle.probe_run.proofs.SiteLemmas.{bus_rests}

-- ---- the address is raised

abbrev pub advanced : Size → Hart → Hart
advanced size z = with_core_x z 8 ((x_of z.core 8 + count_of size) % 2 ^ 64)

pub advance_ran : (size : Size) (z : Hart) (m : Memory) → ran_word (advance_word size) z m ≡ debugged ended.Next false (advanced size z) m
unfolding ran_word meaning effect_of alu_of
advance_ran B1 z m = refl
advance_ran B2 z m = refl
advance_ran B4 z m = refl
advance_ran B8 z m = refl

pub advanced_frozen : (size : Size) (z : Hart) → Frozen z → Frozen (advanced size z)
advanced_frozen size z f = record { why = f.why; halted = f.halted; not_asked = f.not_asked }

-- ---- the words

-- the data words hold the value
abbrev pub holding : ℕ → Kept → Kept
holding v k = record k { data0 = v % 2 ^ 32; data1 = v / 2 ^ 32 }

-- the transfer comes first
abbrev pub all_next : Kept → List Micro
all_next k = Transfer next_command ∷ program_of k

-- what is left behind the access, and behind the raising
abbrev pub third_of : Kept → List Micro
third_of k = Run k.progbuf2 ∷ Run k.progbuf3 ∷ []

-- with this autoexec, and with an error that was set before or meanwhile
abbrev pub commands_at : Abstractauto → Cmderr → Kept → List Micro → CommandUnit
commands_at a e k steps = record {
  data0 = k.data0;
  data1 = k.data1;
  progbuf0 = k.progbuf0;
  progbuf1 = k.progbuf1;
  progbuf2 = k.progbuf2;
  progbuf3 = k.progbuf3;
  auto = a;
  command = k.command;
  error = e;
  steps = steps;
  late = false;
}

abbrev pub going : Abstractauto → Cmderr → Kept → List Micro → ℕ → BusUnit → DebugModule
going a e k steps h bus = record { version = k.version; active = true; hartsel = h; commands = commands_at a e k steps; bus = bus }

pub transfer_does : (a : Abstractauto) (e : Cmderr) (k : Kept) (y : Hart)
    → Does y (commands_at a e k (all_next k)) y (commands_at a e (holding (x_of y.core 9) k) (program_of (holding (x_of y.core 9) k)))
unfolding micro_step
transfer_does a e k y = record {
  each = λ m. let is : debug_seen y m x9_number ≡ Some (x_of y.core 9) = seen_held y m x9_number (x_of y.core 9) (record { is = x9_value y; other = refl }) in
      rw is refl;
}

access_of : (a : Abstractauto) (e : Cmderr) (k : Kept) (y : Hart) (m : Memory) (d : Debugged) → ran_word k.progbuf0 y m ≡ d
    → micro_step y m (commands_at a e k (program_of k)) ≡ executed_word d (rest_of k) (commands_at a e k (program_of k))
unfolding micro_step
access_of a e k y m d is = ap (λ (o : Debugged). executed_word o (rest_of k) (commands_at a e k (program_of k))) is

advance_does : (a : Abstractauto) (e : Cmderr) (size : Size) (k : Kept) (z : Hart) → k.progbuf1 ≡ advance_word size
    → Does z (commands_at a e k (rest_of k)) (advanced size z) (commands_at a e k (third_of k))
unfolding micro_step
advance_does a e size k z is = record {
  each = λ m.
      ap (λ (o : Debugged). executed_word o (third_of k) (commands_at a e k (rest_of k)))
      (ap (λ n. ran_word n z m) is ∙ advance_ran size z m);
}

third_does : (a : Abstractauto) (e : Cmderr) (k : Kept) (z : Hart) → k.progbuf2 ≡ ebreak_word
    → Does z (commands_at a e k (third_of k)) z (commands_at a e k [])
unfolding micro_step
third_does a e k z is = record {
  each = λ m.
      ap (λ (o : Debugged). executed_word o (Run k.progbuf3 ∷ []) (commands_at a e k (third_of k)))
      (ap (λ n. ran_word n z m) is ∙ program_buffer_examples.ebreak z m);
}

-- ---- the stages, with the words before the transfer and behind it

pub data NextStage (a : Abstractauto) (e : Cmderr) (P : Memory → Hart → Memory → Type 0) (Q : Memory → Type 0) (size : Size) (k j : Kept) (h : ℕ) (bus : BusUnit) (y : Hart)
    (base s : Site) : Type 0 where
  at_transfer : (harts : List ℕ) → s ≡ aside (going a e k (all_next k) h bus) h y (passed harts base) → NextStage a e P Q size k j h bus y base s
  at_start : (harts : List ℕ) → s ≡ aside (going a e j (program_of j) h bus) h y (passed harts base) → NextStage a e P Q size k j h bus y base s
  in_middle : (before harts : List ℕ) (z : Hart) (n : Memory) → P (passed before base).board.memory z n → Frozen z
      → s ≡ aside (going a e j (rest_of j) h bus) h z (passed harts (accessed n (passed before base))) → NextStage a e P Q size k j h bus y base s
  in_third : (before harts : List ℕ) (z : Hart) (n : Memory) → P (passed before base).board.memory z n → Frozen z
      → s ≡ aside (going a e j (third_of j) h bus) h (advanced size z) (passed harts (accessed n (passed before base)))
      → NextStage a e P Q size k j h bus y base s
  at_end : (before harts : List ℕ) (z : Hart) (n : Memory) → P (passed before base).board.memory z n → Frozen z
      → s ≡ aside (going a e j [] h bus) h (advanced size z) (passed harts (accessed n (passed before base))) → NextStage a e P Q size k j h bus y base s
  at_fault : (before harts : List ℕ) → Q (passed before base).board.memory
      → s ≡ aside (going a Exception j [] h bus) h y (passed harts (accessed (passed before base).board.memory (passed before base)))
      → NextStage a e P Q size k j h bus y base s

-- what all of it rests on
pub record NextRunning (a : Abstractauto) (e : Cmderr) (P : Memory → Hart → Memory → Type 0) (Q : Memory → Type 0) (size : Size) (k j : Kept) (h : ℕ) (bus : BusUnit) (y : Hart)
    (base : Site) (w : Hart) : Type 0 where
  pub held : Held h w base
  pub frozen : Frozen y
  pub moves : Does y (commands_at a e k (all_next k)) y (commands_at a e j (program_of j))
  pub idle : bus.pending ≡ None
  pub version : j.version ≡ k.version
  pub advance : j.progbuf1 ≡ advance_word size
  pub ebreak : j.progbuf2 ≡ ebreak_word
  pub decides : (m : Memory) → WordDid P Q j.progbuf0 y m

next_turn : (a : Abstractauto) (e : Cmderr) (P : Memory → Hart → Memory → Type 0) (Q : Memory → Type 0) (size : Size) (k j : Kept) (h : ℕ) (bus : BusUnit) (y : Hart) (base : Site) (w : Hart)
    (g : ℕ) (s : Site) → NextRunning a e P Q size k j h bus y base w
    → NextStage a e P Q size k j h bus y base s → NextStage a e P Q size k j h bus y base (turned g s)
next_turn a e P Q size k j h bus y base w g s r (at_transfer harts is) =
    at_transfer (harts ++ g ∷ []) (one_more (going a e k (all_next k) h bus) h y base w harts g s r.held.here r.held.frozen r.frozen is)
next_turn a e P Q size k j h bus y base w g s r (at_start harts is) =
    at_start (harts ++ g ∷ []) (one_more (going a e j (program_of j) h bus) h y base w harts g s r.held.here r.held.frozen r.frozen is)
next_turn a e P Q size k j h bus y base w g s r (in_middle before harts z n p fz is) =
    in_middle before (harts ++ g ∷ []) z n p fz
    (one_more (going a e j (rest_of j) h bus) h z (accessed n (passed before base)) w harts g s (stays_passed h before base w r.held.here r.held.frozen)
    r.held.frozen fz is)
next_turn a e P Q size k j h bus y base w g s r (in_third before harts z n p fz is) =
    in_third before (harts ++ g ∷ []) z n p fz
    (one_more (going a e j (third_of j) h bus) h (advanced size z) (accessed n (passed before base)) w harts g s
    (stays_passed h before base w r.held.here r.held.frozen) r.held.frozen (advanced_frozen size z fz) is)
next_turn a e P Q size k j h bus y base w g s r (at_end before harts z n p fz is) =
    at_end before (harts ++ g ∷ []) z n p fz
    (one_more (going a e j [] h bus) h (advanced size z) (accessed n (passed before base)) w harts g s (stays_passed h before base w r.held.here r.held.frozen)
    r.held.frozen (advanced_frozen size z fz) is)
next_turn a e P Q size k j h bus y base w g s r (at_fault before harts q is) =
    at_fault before (harts ++ g ∷ []) q
    (one_more (going a Exception j [] h bus) h y (accessed (passed before base).board.memory (passed before base)) w harts g s
    (stays_passed h before base w r.held.here r.held.frozen) r.held.frozen r.frozen is)

next_first : (a : Abstractauto) (e : Cmderr) (P : Memory → Hart → Memory → Type 0) (Q : Memory → Type 0) (size : Size) (k j : Kept) (h : ℕ) (bus : BusUnit) (y : Hart) (base : Site) (w : Hart)
    (harts : List ℕ) (s : Site) → NextRunning a e P Q size k j h bus y base w
    → s ≡ aside (going a e j (program_of j) h bus) h y (passed harts base) → WordDid P Q j.progbuf0 y (passed harts base).board.memory
    → NextStage a e P Q size k j h bus y base (command_stepped s)
unfolding passed
next_first a e P Q size k j h bus y base w harts s r is (went z n p fz did) =
    in_middle harts [] z n p fz
    (ap command_stepped is
    ∙ stepped_aside (going a e j (program_of j) h bus) h y (passed harts base) w (Run j.progbuf0) (rest_of j)
    (stays_passed h harts base w r.held.here r.held.frozen) refl refl
    ∙ ap (after_micro (going a e j (program_of j) h bus) h (passed harts base))
    (access_of a e j y (passed harts base).board.memory (debugged ended.Next true z n) did))
next_first a e P Q size k j h bus y base w harts s r is (faulted q did) =
    at_fault harts [] q
    (ap command_stepped is
    ∙ stepped_aside (going a e j (program_of j) h bus) h y (passed harts base) w (Run j.progbuf0) (rest_of j)
    (stays_passed h harts base w r.held.here r.held.frozen) refl refl
    ∙ ap (after_micro (going a e j (program_of j) h bus) h (passed harts base))
    (access_of a e j y (passed harts base).board.memory (debugged ended.Exception true y (passed harts base).board.memory) did))

next_step : (a : Abstractauto) (e : Cmderr) (P : Memory → Hart → Memory → Type 0) (Q : Memory → Type 0) (size : Size) (k j : Kept) (h : ℕ) (bus : BusUnit) (y : Hart) (base : Site) (w : Hart)
    (s : Site) → NextRunning a e P Q size k j h bus y base w
    → NextStage a e P Q size k j h bus y base s → NextStage a e P Q size k j h bus y base (command_stepped s)
next_step a e P Q size k j h bus y base w s r (at_transfer harts is) =
    at_start harts
    (ap command_stepped is
    ∙ does_aside (going a e k (all_next k) h bus) h y (passed harts base) w (Transfer next_command) (program_of k) y (commands_at a e j (program_of j))
    (stays_passed h harts base w r.held.here r.held.frozen) refl refl r.moves
    ∙ ap (λ v. let m : DebugModule = record { version = v; active = true; hartsel = h; commands = commands_at a e j (program_of j); bus = bus } in
    aside m h y (passed harts base)) (sym r.version))
next_step a e P Q size k j h bus y base w s r (at_start harts is) = next_first a e P Q size k j h bus y base w harts s r is (r.decides (passed harts base).board.memory)
next_step a e P Q size k j h bus y base w s r (in_middle before harts z n p fz is) =
    in_third before harts z n p fz
    (ap command_stepped is
    ∙ does_aside (going a e j (rest_of j) h bus) h z (passed harts (accessed n (passed before base))) w (Run j.progbuf1) (third_of j) (advanced size z)
    (commands_at a e j (third_of j))
    (stays_passed h harts (accessed n (passed before base)) w (stays_passed h before base w r.held.here r.held.frozen) r.held.frozen) refl refl
    (advance_does a e size j z r.advance))
next_step a e P Q size k j h bus y base w s r (in_third before harts z n p fz is) =
    at_end before harts z n p fz
    (ap command_stepped is
    ∙ does_aside (going a e j (third_of j) h bus) h (advanced size z) (passed harts (accessed n (passed before base))) w (Run j.progbuf2)
    (Run j.progbuf3 ∷ []) (advanced size z) (commands_at a e j [])
    (stays_passed h harts (accessed n (passed before base)) w (stays_passed h before base w r.held.here r.held.frozen) r.held.frozen) refl refl
    (third_does a e j (advanced size z) r.ebreak))
next_step a e P Q size k j h bus y base w s r (at_end before harts z n p fz is) =
    at_end before harts z n p fz (ap command_stepped is
    ∙ command_quiet (aside (going a e j [] h bus) h (advanced size z) (passed harts (accessed n (passed before base)))) refl)
next_step a e P Q size k j h bus y base w s r (at_fault before harts q is) =
    at_fault before harts q (ap command_stepped is
    ∙ command_quiet (aside (going a Exception j [] h bus) h y (passed harts (accessed (passed before base).board.memory (passed before base)))) refl)

next_bus : (a : Abstractauto) (e : Cmderr) (P : Memory → Hart → Memory → Type 0) (Q : Memory → Type 0) (size : Size) (k j : Kept) (h : ℕ) (bus : BusUnit) (y : Hart) (base s : Site)
    → bus.pending ≡ None
    → NextStage a e P Q size k j h bus y base s → NextStage a e P Q size k j h bus y base (bus_stepped s)
next_bus a e P Q size k j h bus y base s idle (at_transfer harts is) =
    at_transfer harts (ap bus_stepped is ∙ bus_rests (aside (going a e k (all_next k) h bus) h y (passed harts base)) idle)
next_bus a e P Q size k j h bus y base s idle (at_start harts is) =
    at_start harts (ap bus_stepped is ∙ bus_rests (aside (going a e j (program_of j) h bus) h y (passed harts base)) idle)
next_bus a e P Q size k j h bus y base s idle (in_middle before harts z n p fz is) =
    in_middle before harts z n p fz (ap bus_stepped is ∙ bus_rests (aside (going a e j (rest_of j) h bus) h z (passed harts (accessed n (passed before base))))
    idle)
next_bus a e P Q size k j h bus y base s idle (in_third before harts z n p fz is) =
    in_third before harts z n p fz (ap bus_stepped is
    ∙ bus_rests (aside (going a e j (third_of j) h bus) h (advanced size z) (passed harts (accessed n (passed before base)))) idle)
next_bus a e P Q size k j h bus y base s idle (at_end before harts z n p fz is) =
    at_end before harts z n p fz (ap bus_stepped is
    ∙ bus_rests (aside (going a e j [] h bus) h (advanced size z) (passed harts (accessed n (passed before base)))) idle)
next_bus a e P Q size k j h bus y base s idle (at_fault before harts q is) =
    at_fault before harts q (ap bus_stepped is
    ∙ bus_rests (aside (going a Exception j [] h bus) h y (passed harts (accessed (passed before base).board.memory (passed before base)))) idle)

pub next_ran : (ds : List Deed) (a : Abstractauto) (e : Cmderr) (P : Memory → Hart → Memory → Type 0) (Q : Memory → Type 0) (size : Size) (k j : Kept) (h : ℕ) (bus : BusUnit) (y : Hart)
    (base : Site) (w : Hart) (s : Site) → NextRunning a e P Q size k j h bus y base w
    → NextStage a e P Q size k j h bus y base s → NextStage a e P Q size k j h bus y base (ran ds s)
unfolding ran after_deed
next_ran [] a e P Q size k j h bus y base w s r st = st
next_ran (Turned g ∷ ds) a e P Q size k j h bus y base w s r st =
    next_ran ds a e P Q size k j h bus y base w (turned g s) r (next_turn a e P Q size k j h bus y base w g s r st)
next_ran (CommandStepped ∷ ds) a e P Q size k j h bus y base w s r st =
    next_ran ds a e P Q size k j h bus y base w (command_stepped s) r (next_step a e P Q size k j h bus y base w s r st)
next_ran (BusStepped ∷ ds) a e P Q size k j h bus y base w s r st =
    next_ran ds a e P Q size k j h bus y base w (bus_stepped s) r (next_bus a e P Q size k j h bus y base s r.idle st)
