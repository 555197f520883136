-- The program buffer behind a transfer while turns pass: its access is made at one moment, and from there on memory is as the access left it.
use Rattle.std.proofs.Common.{◌≡◌, ◌∙◌, ℕ, List, [], ◌∷◌, ◌++◌, true, None, refl, sym, ap}
use Rattle.rv_model.specs.declared.debug_did.DebugDid.TheVariants as ended
use Rattle.rv_model.specs.Board.{Hart}
use Rattle.rv_model.specs.Memory.{Memory}
use Rattle.rv_model.specs.ProgramBuffer.{Debugged, debugged, ran_word}
use Rattle.rv_model.proofs.ProgramBufferLemmas.{program_buffer_examples}
use Rattle.debug_model.specs.declared.cmderr.Cmderr.TheVariants.{Fine, Exception}
use Rattle.debug_model.specs.declared.micro.Micro.{Micro}
use Rattle.debug_model.specs.declared.micro.Micro.TheVariants.{Run, Transfer}
use Rattle.debug_model.specs.Commands.{Stepped, executed_word, micro_step}
use Rattle.debug_model.specs.Deeds.{Deed, access_points, after_deed, bus_stepped, command_stepped, ran, turned}
use Rattle.debug_model.specs.Deeds.Deed.{Turned, CommandStepped, BusStepped}
use Rattle.debug_model.specs.Module.{DebugModule, Site}
use Rattle.debug_model.specs.SystemBus.{BusUnit}
use Rattle.probe_access.specs.RegisterAccess.{program_command, x8_number}
use Rattle.probe_access.proofs.Aside.{Frozen, HartAt, accessed, aside, passed, with_unit}
use Rattle.probe_run.proofs.SiteLemmas.{bus_rests}
use Rattle.probe_access.proofs.Quiet.{command_quiet}
use Rattle.probe_access.proofs.ReadyUnit.{Held, Kept, commands_of, unit_of, unit_with}
use Rattle.probe_access.proofs.Steps.{Does, does_aside, stepped_aside}
use Rattle.probe_access.proofs.Turns.{aside_turned, passed-append, stays_passed}

-- ---- what the first word does

pub data WordDid (P : Memory → Hart → Memory → Type 0) (Q : Memory → Type 0) (word : ℕ) (y : Hart) (m : Memory) : Type 0 where
  went : (z : Hart) (n : Memory) → P m z n → Frozen z → ran_word word y m ≡ debugged ended.Next true z n → WordDid P Q word y m
  faulted : Q m → ran_word word y m ≡ debugged ended.Exception true y m → WordDid P Q word y m

abbrev pub running : Kept → List Micro → ℕ → BusUnit → DebugModule
running k steps h bus = unit_with k Fine steps h bus

abbrev pub rest_of : Kept → List Micro
rest_of k = Run k.progbuf1 ∷ Run k.progbuf2 ∷ Run k.progbuf3 ∷ []

abbrev pub program_of : Kept → List Micro
program_of k = Run k.progbuf0 ∷ rest_of k

-- the transfer of the address comes first
abbrev pub all_of : Kept → List Micro
all_of k = Transfer (program_command x8_number) ∷ program_of k

pub micro_of : (k : Kept) (y : Hart) (m : Memory) (d : Debugged) → ran_word k.progbuf0 y m ≡ d
    → micro_step y m (commands_of k Fine (program_of k)) ≡ executed_word d (rest_of k) (commands_of k Fine (program_of k))
unfolding micro_step
micro_of k y m d is = ap (λ (e : Debugged). executed_word e (rest_of k) (commands_of k Fine (program_of k))) is

ebreak_does : (k : Kept) (z : Hart) → k.progbuf1 ≡ 0x00100073 → Does z (commands_of k Fine (rest_of k)) z (commands_of k Fine [])
unfolding micro_step
ebreak_does k z is = record {
  each = λ m.
      ap (λ (e : Debugged). executed_word e (Run k.progbuf2 ∷ Run k.progbuf3 ∷ []) (commands_of k Fine (rest_of k)))
      (ap (λ n. ran_word n z m) is ∙ program_buffer_examples.ebreak z m);
}

-- ---- the stages

pub data Stage (P : Memory → Hart → Memory → Type 0) (Q : Memory → Type 0) (k : Kept) (h : ℕ) (bus : BusUnit) (x y : Hart) (base s : Site) : Type 0 where
  at_transfer : (harts : List ℕ) → s ≡ aside (running k (all_of k) h bus) h x (passed harts base) → Stage P Q k h bus x y base s
  at_start : (harts : List ℕ) → s ≡ aside (running k (program_of k) h bus) h y (passed harts base) → Stage P Q k h bus x y base s
  in_middle : (before harts : List ℕ) (z : Hart) (n : Memory) → P (passed before base).board.memory z n → Frozen z
      → s ≡ aside (running k (rest_of k) h bus) h z (passed harts (accessed n (passed before base))) → Stage P Q k h bus x y base s
  at_end : (before harts : List ℕ) (z : Hart) (n : Memory) → P (passed before base).board.memory z n → Frozen z
      → s ≡ aside (unit_of k h bus) h z (passed harts (accessed n (passed before base))) → Stage P Q k h bus x y base s
  at_fault : (before harts : List ℕ) → Q (passed before base).board.memory
      → s ≡ aside (unit_with k Exception [] h bus) h y (passed harts (accessed (passed before base).board.memory (passed before base)))
      → Stage P Q k h bus x y base s

-- what all of it rests on
pub record Running (P : Memory → Hart → Memory → Type 0) (Q : Memory → Type 0) (k : Kept) (h : ℕ) (bus : BusUnit) (x y : Hart) (base : Site)
    (w : Hart) : Type 0 where
  pub held : Held h w base
  pub frozen_x : Frozen x
  pub frozen : Frozen y
  pub moves : Does x (commands_of k Fine (all_of k)) y (commands_of k Fine (program_of k))
  pub idle : bus.pending ≡ None
  pub ebreak : k.progbuf1 ≡ 0x00100073
  pub decides : (m : Memory) → WordDid P Q k.progbuf0 y m

pub one_more : (m : DebugModule) (h : ℕ) (y : Hart) (base : Site) (w : Hart) (harts : List ℕ) (g : ℕ) (s : Site) → HartAt h base w → Frozen w → Frozen y
    → s ≡ aside m h y (passed harts base)
    → turned g s ≡ aside m h y (passed (harts ++ g ∷ []) base)
unfolding passed
one_more m h y base w harts g s here fw fy is =
    ap (turned g) is ∙ aside_turned m h g y (passed harts base) w (stays_passed h harts base w here fw) fw fy
    ∙ ap (aside m h y) (sym (passed-append harts (g ∷ []) base))

stage_turn : (P : Memory → Hart → Memory → Type 0) (Q : Memory → Type 0) (k : Kept) (h : ℕ) (bus : BusUnit) (x y : Hart) (base : Site) (w : Hart) (g : ℕ)
    (s : Site) → Running P Q k h bus x y base w
    → Stage P Q k h bus x y base s → Stage P Q k h bus x y base (turned g s)
stage_turn P Q k h bus x y base w g s r (at_transfer harts is) =
    at_transfer (harts ++ g ∷ []) (one_more (running k (all_of k) h bus) h x base w harts g s r.held.here r.held.frozen r.frozen_x is)
stage_turn P Q k h bus x y base w g s r (at_start harts is) =
    at_start (harts ++ g ∷ []) (one_more (running k (program_of k) h bus) h y base w harts g s r.held.here r.held.frozen r.frozen is)
stage_turn P Q k h bus x y base w g s r (in_middle before harts z n p fz is) =
    in_middle before (harts ++ g ∷ []) z n p fz
    (one_more (running k (rest_of k) h bus) h z (accessed n (passed before base)) w harts g s (stays_passed h before base w r.held.here r.held.frozen)
    r.held.frozen fz is)
stage_turn P Q k h bus x y base w g s r (at_end before harts z n p fz is) =
    at_end before (harts ++ g ∷ []) z n p fz
    (one_more (unit_of k h bus) h z (accessed n (passed before base)) w harts g s (stays_passed h before base w r.held.here r.held.frozen) r.held.frozen fz
    is)
stage_turn P Q k h bus x y base w g s r (at_fault before harts q is) =
    at_fault before (harts ++ g ∷ []) q
    (one_more (unit_with k Exception [] h bus) h y (accessed (passed before base).board.memory (passed before base)) w harts g s
    (stays_passed h before base w r.held.here r.held.frozen) r.held.frozen r.frozen is)

abbrev pub after_micro : DebugModule → ℕ → Site → Stepped → Site
after_micro m h t d = aside (with_unit d.unit m) h d.hart
    (record { unit = t.unit; board = record { harts = t.board.harts; memory = d.memory }; journal = t.journal ++ access_points d.accessed })

stage_first : (P : Memory → Hart → Memory → Type 0) (Q : Memory → Type 0) (k : Kept) (h : ℕ) (bus : BusUnit) (x y : Hart) (base : Site) (w : Hart)
    (harts : List ℕ) (s : Site) → Running P Q k h bus x y base w
    → s ≡ aside (running k (program_of k) h bus) h y (passed harts base) → WordDid P Q k.progbuf0 y (passed harts base).board.memory
    → Stage P Q k h bus x y base (command_stepped s)
unfolding passed
stage_first P Q k h bus x y base w harts s r is (went z n p fz did) =
    in_middle harts [] z n p fz
    (ap command_stepped is
    ∙ stepped_aside (running k (program_of k) h bus) h y (passed harts base) w (Run k.progbuf0) (rest_of k)
    (stays_passed h harts base w r.held.here r.held.frozen) refl refl
    ∙ ap (after_micro (running k (program_of k) h bus) h (passed harts base))
    (micro_of k y (passed harts base).board.memory (debugged ended.Next true z n) did))
stage_first P Q k h bus x y base w harts s r is (faulted q did) =
    at_fault harts [] q
    (ap command_stepped is
    ∙ stepped_aside (running k (program_of k) h bus) h y (passed harts base) w (Run k.progbuf0) (rest_of k)
    (stays_passed h harts base w r.held.here r.held.frozen) refl refl
    ∙ ap (after_micro (running k (program_of k) h bus) h (passed harts base))
    (micro_of k y (passed harts base).board.memory (debugged ended.Exception true y (passed harts base).board.memory) did))

stage_step : (P : Memory → Hart → Memory → Type 0) (Q : Memory → Type 0) (k : Kept) (h : ℕ) (bus : BusUnit) (x y : Hart) (base : Site) (w : Hart) (s : Site)
    → Running P Q k h bus x y base w
    → Stage P Q k h bus x y base s → Stage P Q k h bus x y base (command_stepped s)
stage_step P Q k h bus x y base w s r (at_transfer harts is) =
    at_start harts
    (ap command_stepped is
    ∙ does_aside (running k (all_of k) h bus) h x (passed harts base) w (Transfer (program_command x8_number)) (program_of k) y
    (commands_of k Fine (program_of k))
    (stays_passed h harts base w r.held.here r.held.frozen) refl refl r.moves)
stage_step P Q k h bus x y base w s r (at_start harts is) = stage_first P Q k h bus x y base w harts s r is (r.decides (passed harts base).board.memory)
stage_step P Q k h bus x y base w s r (in_middle before harts z n p fz is) =
    at_end before harts z n p fz
    (ap command_stepped is
    ∙ does_aside (running k (rest_of k) h bus) h z (passed harts (accessed n (passed before base))) w (Run k.progbuf1) (Run k.progbuf2 ∷ Run k.progbuf3 ∷ []) z
    (commands_of k Fine [])
    (stays_passed h harts (accessed n (passed before base)) w (stays_passed h before base w r.held.here r.held.frozen) r.held.frozen) refl refl
    (ebreak_does k z r.ebreak))
stage_step P Q k h bus x y base w s r (at_end before harts z n p fz is) =
    at_end before harts z n p fz (ap command_stepped is ∙ command_quiet (aside (unit_of k h bus) h z (passed harts (accessed n (passed before base)))) refl)
stage_step P Q k h bus x y base w s r (at_fault before harts q is) =
    at_fault before harts q (ap command_stepped is
    ∙ command_quiet (aside (unit_with k Exception [] h bus) h y (passed harts (accessed (passed before base).board.memory (passed before base)))) refl)

stage_bus : (P : Memory → Hart → Memory → Type 0) (Q : Memory → Type 0) (k : Kept) (h : ℕ) (bus : BusUnit) (x y : Hart) (base : Site) (s : Site)
    → bus.pending ≡ None
    → Stage P Q k h bus x y base s → Stage P Q k h bus x y base (bus_stepped s)
stage_bus P Q k h bus x y base s idle (at_transfer harts is) =
    at_transfer harts (ap bus_stepped is ∙ bus_rests (aside (running k (all_of k) h bus) h x (passed harts base)) idle)
stage_bus P Q k h bus x y base s idle (at_start harts is) =
    at_start harts (ap bus_stepped is ∙ bus_rests (aside (running k (program_of k) h bus) h y (passed harts base)) idle)
stage_bus P Q k h bus x y base s idle (in_middle before harts z n p fz is) =
    in_middle before harts z n p fz (ap bus_stepped is ∙ bus_rests (aside (running k (rest_of k) h bus) h z (passed harts (accessed n (passed before base))))
    idle)
stage_bus P Q k h bus x y base s idle (at_end before harts z n p fz is) =
    at_end before harts z n p fz (ap bus_stepped is ∙ bus_rests (aside (unit_of k h bus) h z (passed harts (accessed n (passed before base)))) idle)
stage_bus P Q k h bus x y base s idle (at_fault before harts q is) =
    at_fault before harts q (ap bus_stepped is
    ∙ bus_rests (aside (unit_with k Exception [] h bus) h y (passed harts (accessed (passed before base).board.memory (passed before base)))) idle)

pub stage_ran : (ds : List Deed) (P : Memory → Hart → Memory → Type 0) (Q : Memory → Type 0) (k : Kept) (h : ℕ) (bus : BusUnit) (x y : Hart) (base : Site)
    (w : Hart) (s : Site) → Running P Q k h bus x y base w
    → Stage P Q k h bus x y base s → Stage P Q k h bus x y base (ran ds s)
unfolding ran after_deed
stage_ran [] P Q k h bus x y base w s r st = st
stage_ran (Turned g ∷ ds) P Q k h bus x y base w s r st = stage_ran ds P Q k h bus x y base w (turned g s) r (stage_turn P Q k h bus x y base w g s r st)
stage_ran (CommandStepped ∷ ds) P Q k h bus x y base w s r st =
    stage_ran ds P Q k h bus x y base w (command_stepped s) r (stage_step P Q k h bus x y base w s r st)
stage_ran (BusStepped ∷ ds) P Q k h bus x y base w s r st = stage_ran ds P Q k h bus x y base w (bus_stepped s) r (stage_bus P Q k h bus x y base s r.idle st)
