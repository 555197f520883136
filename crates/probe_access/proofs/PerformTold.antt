-- What an instruction from the program buffer does at a told chip.
use Rattle.std.proofs.Common.{◌≡◌, ◌∙◌, ℕ, List, [], ◌∷◌, true, false, not, Option, Some, None, refl, sym, ap, subst, cond}
use Rattle.rv_model.specs.declared.cause.Cause.{Cause}
use Rattle.rv_model.specs.Board.{Hart}
use Rattle.rv_model.specs.Core.{x_of}
use Rattle.rv_model.specs.DebugRegisters.{debug_refuses, debug_seen, debug_value}
use Rattle.rv_model.specs.Memory.{Memory}
use Rattle.rv_model.specs.Registers.{csr_read_only}
use Rattle.debug_model.specs.Addresses.{abstractcs_address, command_address}
use Rattle.debug_model.specs.declared.cmderr.Cmderr.TheVariants.{Fine, Exception, HaltResume}
use Rattle.debug_model.specs.declared.micro.Micro.{Micro}
use Rattle.debug_model.specs.Commands.{is_held, micro_step, refusal}
use Rattle.debug_model.specs.Deeds.{Deed, ran}
use Rattle.debug_model.specs.Dmi.{value_of}
use Rattle.debug_model.specs.Module.{Site, after_write, result_of}
use Rattle.debug_model.specs.SystemBus.{BusUnit}
use Rattle.probe_access.specs.CommandRuns.{clearing, command_acts, error_shown, shows_busy}
use Rattle.probe_access.specs.RegisterAccess.{program_command, program_word, x8_number}
use Rattle.probe_access.proofs.AccessSteps.{Running, Stage, WordDid, all_of, program_of, running, stage_ran}
use Rattle.probe_access.proofs.AccessSteps.Stage.{at_transfer, at_start, in_middle, at_end, at_fault}
use Rattle.probe_access.proofs.Along.{SiteActs}
use Rattle.probe_access.proofs.Aside.{Frozen, accessed, aside, passed}
use Rattle.probe_access.proofs.Plain.{seen_held}
use Rattle.probe_access.proofs.Quiet.{active_ran}
use Rattle.probe_access.proofs.ReadyUnit.{Held, Kept, commands_of, unit_of, unit_with}
use Rattle.probe_access.proofs.RegisterTold.{CommandCut, Stood, command_cut, error_cleared, fine_left}
use Rattle.probe_access.proofs.ScratchLemmas.{x8_value}
use Rattle.probe_access.proofs.Steps.{Does, DoneAt}
use Rattle.probe_access.proofs.TransferLemmas.{Commanded, Ended, behind_frozen, command_starts, commanded, ended_at, hart_behind, shown_idle, with_command}
use Rattle.probe_access.proofs.Turns.{stays_passed}
use Rattle.probe_access.proofs.WordLemmas.{program_back}

-- ---- the start

pub program_starts : (y : Hart) → Frozen y → refusal (Some y) (program_command x8_number) ≡ Fine
unfolding refusal debug_value debug_refuses csr_read_only
program_starts y f =
    ap (λ (p : Option Cause). cond (not (is_held p y.debug.resume_request)) HaltResume Fine) f.halted
    ∙ ap (λ q. cond (not (is_held (Some f.why) q)) HaltResume Fine) f.not_asked

abbrev pub programmed : Kept → Kept
programmed k = with_command (program_command x8_number) k

-- the address in the data words goes into x8
pub program_moves : (k : Kept) (x : Hart)
    → Does x (commands_of (programmed k) Fine (all_of (programmed k))) (hart_behind true x8_number k x)
    (commands_of (programmed k) Fine (program_of (programmed k)))
unfolding micro_step
program_moves k x = record {
  each = λ m. let is : debug_seen x m x8_number ≡ Some (x_of x.core 8) = seen_held x m x8_number (x_of x.core 8) (record { is = x8_value x; other = refl }) in
      rw is refl;
}

-- what it rests on, from a site that serves
pub program_runs : (P : Memory → Hart → Memory → Type 0) (Q : Memory → Type 0) (h : ℕ) (bus : BusUnit) (x : Hart) (base : Site) (w : Hart) (k : Kept)
    → Held h w base → Frozen x → bus.pending ≡ None → k.progbuf1 ≡ 0x00100073 → ((m : Memory) → WordDid P Q k.progbuf0 (hart_behind true x8_number k x) m)
    → Running P Q (programmed k) h bus x (hart_behind true x8_number k x) base w
program_runs P Q h bus x base w k held fx idle ebreak decides = record {
  held = held;
  frozen_x = fx;
  frozen = behind_frozen true x8_number k x fx;
  moves = program_moves k x;
  idle = idle;
  ebreak = ebreak;
  decides = decides;
}

-- ---- its end

pub data PerformEnd (P : Memory → Hart → Memory → Type 0) (Q : Memory → Type 0) (last : ℕ) (k : Kept) (h : ℕ) (bus : BusUnit) (y : Hart) (base : Site)
    (t : Site) : Type 0 where
  ran_well : (before : List ℕ) (z : Hart) (n : Memory) → P (passed before base).board.memory z n → Frozen z
      → Ended 0 (unit_of k h bus) h z (accessed n (passed before base)) last t → PerformEnd P Q last k h bus y base t
  ran_badly : (before : List ℕ) → Q (passed before base).board.memory
      → Ended 3 (unit_with k Exception [] h bus) h y (accessed (passed before base).board.memory (passed before base)) last t
      → PerformEnd P Q last k h bus y base t

pub held_behind : (h : ℕ) (w : Hart) (base : Site) (before : List ℕ) (n : Memory) → Held h w base → Held h w (accessed n (passed before base))
held_behind h w base before n held = record { here = stays_passed h before base w held.here held.frozen; frozen = held.frozen }

still_some : (m : Micro) (ms steps : List Micro) → steps ≡ m ∷ ms → steps ≡ [] → ⊥
still_some m ms steps some none = let e : m ∷ ms ≡ [] = sym some ∙ none in cc

stage_ends : (P : Memory → Hart → Memory → Type 0) (Q : Memory → Type 0) (last : ℕ) (k : Kept) (h : ℕ) (bus : BusUnit) (x y : Hart) (base : Site) (w : Hart)
    (shown t : Site) (behind : List Deed) → Running P Q k h bus x y base w
    → shown.unit.active ≡ true → last ≡ value_of (result_of abstractcs_address shown) → shown.unit.commands.steps ≡ [] → t ≡ ran behind shown
    → Stage P Q k h bus x y base shown → PerformEnd P Q last k h bus y base t
unfolding passed
stage_ends P Q last k h bus x y base w shown t behind r on last_is none moved (at_transfer harts is) =
    absurd (still_some _ _ shown.unit.commands.steps (ap (λ (s : Site). s.unit.commands.steps) is) none)
stage_ends P Q last k h bus x y base w shown t behind r on last_is none moved (at_start harts is) =
    absurd (still_some _ _ shown.unit.commands.steps (ap (λ (s : Site). s.unit.commands.steps) is) none)
stage_ends P Q last k h bus x y base w shown t behind r on last_is none moved (in_middle before harts z n p fz is) =
    absurd (still_some _ _ shown.unit.commands.steps (ap (λ (s : Site). s.unit.commands.steps) is) none)
stage_ends P Q last k h bus x y base w shown t behind r on last_is none moved (at_end before harts z n p fz is) =
    ran_well before z n p fz
    (ended_at (unit_of k h bus) h z (accessed n (passed before base)) w last shown t behind (held_behind h w base before n r.held) fz refl r.idle on last_is
    moved (record { harts = harts; is = is }))
stage_ends P Q last k h bus x y base w shown t behind r on last_is none moved (at_fault before harts q is) =
    ran_badly before q
    (ended_at (unit_with k Exception [] h bus) h y (accessed (passed before base).board.memory (passed before base)) w last shown t behind
    (held_behind h w base before (passed before base).board.memory r.held) r.frozen refl r.idle on last_is moved
    (record { harts = harts; is = is }))

pub program_ends : (P : Memory → Hart → Memory → Type 0) (Q : Memory → Type 0) (last : ℕ) (k : Kept) (h : ℕ) (bus : BusUnit) (x y : Hart) (base : Site)
    (w : Hart) (t : Site) → Running P Q (programmed k) h bus x y base w
    → Commanded program_word last (unit_of k h bus) h x base t → shows_busy last ≡ false → PerformEnd P Q last (programmed k) h bus y base t
program_ends P Q last k h bus x y base w t r c not_busy =
    let start : Site = after_write command_address program_word (aside (unit_of k h bus) h x (passed c.harts base)) in
    let starts : start ≡ aside (running (programmed k) (all_of (programmed k)) h bus) h x (passed c.harts base) =
    command_starts program_word (program_command x8_number) Fine k h bus x (passed c.harts base) w (stays_passed h c.harts base w r.held.here r.held.frozen)
    program_back (program_starts x r.frozen_x) in
    let active : c.shown.unit.active ≡ true = ap (λ (s : Site). s.unit.active) c.shown_is ∙ active_ran c.during start
    ∙ ap (λ (s : Site). s.unit.active) starts in
    let stage : Stage P Q (programmed k) h bus x y base (ran c.during start) =
    stage_ran c.during P Q (programmed k) h bus x y base w start r (at_transfer c.harts starts) in
    stage_ends P Q last (programmed k) h bus x y base w c.shown t c.behind r active c.last_is (shown_idle c.shown last active c.last_is not_busy) c.is
    (subst (λ s. Stage P Q (programmed k) h bus x y base s) (sym c.shown_is) stage)

-- ---- with its error cleared

pub data ProgramTold (P : Memory → Hart → Memory → Type 0) (Q : Memory → Type 0) (last h : ℕ) (bus : BusUnit) (y : Hart) (base : Site) (w : Hart)
    (t : Site) : Type 0 where
  went : (before : List ℕ) (z : Hart) (n : Memory) (k : Kept) → P (passed before base).board.memory z n → error_shown last ≡ 0
      → Stood h bus z (accessed n (passed before base)) w k t → ProgramTold P Q last h bus y base w t
  faulted : (before : List ℕ) (k : Kept) → Q (passed before base).board.memory → error_shown last ≡ 3
      → Stood h bus y (accessed (passed before base).board.memory (passed before base)) w k t → ProgramTold P Q last h bus y base w t

program_cleared : (P : Memory → Hart → Memory → Type 0) (Q : Memory → Type 0) (last : ℕ) (k : Kept) (h : ℕ) (bus : BusUnit) (x y : Hart) (base : Site)
    (w : Hart) (mid t : Site) → Running P Q k h bus x y base w
    → PerformEnd P Q last k h bus y base mid → SiteActs (clearing (error_shown last)) mid t → ProgramTold P Q last h bus y base w t
program_cleared P Q last k h bus x y base w mid t r (ran_well before z n p fz end) acts =
    went before z n k p end.error_is
    (record {
      held = held_behind h w base before n r.held;
      frozen = fz;
      idle = r.idle;
      at = subst (λ u. DoneAt (unit_of k h bus) h z (accessed n (passed before base)) u) (sym (fine_left (error_shown last) mid t end.error_is acts))
          end.done_at;
    })
program_cleared P Q last k h bus x y base w mid t r (ran_badly before q end) acts =
    faulted before k q end.error_is
    (error_cleared (error_shown last) h bus y (accessed (passed before base).board.memory (passed before base)) w k mid t end.error_is
    (held_behind h w base before (passed before base).board.memory r.held) r.frozen r.idle end.done_at acts)

-- the hart has the address of the data words in x8
pub program_told : (P : Memory → Hart → Memory → Type 0) (Q : Memory → Type 0) (words : List ℕ) (last : ℕ) (k : Kept) (h : ℕ) (bus : BusUnit) (x : Hart)
    (base : Site) (w : Hart) (s t : Site) → Stood h bus x base w k s
    → k.progbuf1 ≡ 0x00100073 → ((m : Memory) → WordDid P Q k.progbuf0 (hart_behind true x8_number k x) m)
    → SiteActs (command_acts [] program_word words last) s t → shows_busy last ≡ false → ProgramTold P Q last h bus (hart_behind true x8_number k x) base w t
program_told P Q words last k h bus x base w s t st ebreak decides acts not_busy =
    let y : Hart = hart_behind true x8_number k x in
    let cut : CommandCut words program_word last s t = command_cut words program_word last s t acts in
    let c : Commanded program_word last (unit_of k h bus) h x base cut.mid =
    commanded program_word words last (unit_of k h bus) h x base w s cut.mid st.held st.frozen refl st.idle st.at cut.ran in
    let r : Running P Q (programmed k) h bus x y base w = program_runs P Q h bus x base w k st.held st.frozen st.idle ebreak decides in
    program_cleared P Q last (programmed k) h bus x y base w cut.mid t r (program_ends P Q last k h bus x y base w cut.mid r c not_busy) cut.cleared
