-- What the command of a block's elements does at a told chip: x9 goes into the data words, one access is made, and the address in x8 is raised.
use Rattle.std.proofs.Common.{◌≡◌, ◌∙◌, ◌%◌, ◌/◌, ◌^◌, ℕ, List, [], ◌∷◌, true, false, not, Option, Some, None, refl, sym, ap, subst, cond, arith}
use Rattle.rv_model.specs.declared.cause.Cause.{Cause}
use Rattle.rv_model.specs.declared.size.Size.{Size}
use Rattle.rv_model.specs.Board.{Hart}
use Rattle.rv_model.specs.Core.{x_of}
use Rattle.rv_model.specs.DebugRegisters.{debug_refuses, debug_value}
use Rattle.rv_model.specs.Memory.{Memory}
use Rattle.rv_model.specs.Registers.{csr_read_only}
use Rattle.debug_model.specs.Addresses.{abstractcs_address, command_address}
use Rattle.debug_model.specs.declared.cmderr.Cmderr.TheVariants.{Fine, Exception, HaltResume}
use Rattle.debug_model.specs.declared.micro.Micro.{Micro}
use Rattle.debug_model.specs.Commands.{is_held, no_auto, refusal}
use Rattle.debug_model.specs.Deeds.{Deed, ran}
use Rattle.debug_model.specs.Dmi.{value_of}
use Rattle.debug_model.specs.Module.{Site, after_write, result_of}
use Rattle.debug_model.specs.ModuleWords.{command_of}
use Rattle.debug_model.specs.SystemBus.{BusUnit}
use Rattle.debug_model.specs.Told.{Far, site_of}
use Rattle.probe_run.specs.Acts.{Act, Tells}
use Rattle.probe_access.specs.CommandRuns.{RanCommand, clearing, command_acts, error_shown, shows_busy}
use Rattle.probe_access.specs.RegisterAccess.{advance_word, ebreak_word, next_command, next_word}
use Rattle.probe_access.proofs.AccessSteps.{WordDid, running}
use Rattle.probe_access.proofs.Along.{AtSites, SiteActs, Split, did_sites, site_acts-split}
use Rattle.probe_access.proofs.Aside.{Frozen, accessed, aside, passed}
use Rattle.probe_access.proofs.NextSteps.{NextRunning, NextStage, advanced, advanced_frozen, all_next, holding, next_ran, transfer_does}
use Rattle.probe_access.proofs.NextSteps.NextStage.{at_transfer, at_start, in_middle, in_third, at_end, at_fault}
use Rattle.probe_access.proofs.PerformTold.{held_behind}
use Rattle.probe_access.proofs.Quiet.{active_ran}
use Rattle.probe_access.proofs.ReadyUnit.{Held, Kept, unit_of, unit_with}
use Rattle.probe_access.proofs.RegAnswers.{StoodTold, front_stood}
use Rattle.probe_access.proofs.RegisterTold.{CommandCut, Stood, WordPuts, command_cut, error_cleared, fine_left}
use Rattle.probe_access.proofs.Steps.{DoneAt}
use Rattle.probe_access.proofs.TransferLemmas.{Commanded, Ended, command_starts, commanded, ended_at, shown_idle, with_command}
use Rattle.probe_access.proofs.Turns.{stays_passed}

-- ---- the start

pub next_back : command_of next_word ≡ next_command
next_back = refl

pub next_starts : (y : Hart) → Frozen y → refusal (Some y) next_command ≡ Fine
unfolding refusal debug_value debug_refuses csr_read_only
next_starts y f =
    ap (λ (p : Option Cause). cond (not (is_held p y.debug.resume_request)) HaltResume Fine) f.halted
    ∙ ap (λ q. cond (not (is_held (Some f.why) q)) HaltResume Fine) f.not_asked

-- the words when the command has started, and behind its transfer
abbrev pub begun : Kept → Kept
begun k = with_command next_command k

abbrev pub handed : Hart → Kept → Kept
handed y k = holding (x_of y.core 9) (begun k)

pub next_runs : (P : Memory → Hart → Memory → Type 0) (Q : Memory → Type 0) (size : Size) (h : ℕ) (bus : BusUnit) (y : Hart) (base : Site) (w : Hart) (k : Kept)
    → Held h w base → Frozen y → bus.pending ≡ None → k.progbuf1 ≡ advance_word size → k.progbuf2 ≡ ebreak_word
    → ((m : Memory) → WordDid P Q k.progbuf0 y m) → NextRunning no_auto Fine P Q size (begun k) (handed y k) h bus y base w
next_runs P Q size h bus y base w k held fy idle advance ebreak decides = record {
  held = held;
  frozen = fy;
  moves = transfer_does no_auto Fine (begun k) y;
  idle = idle;
  version = refl;
  advance = advance;
  ebreak = ebreak;
  decides = decides;
}

-- it goes through its stages from where it was written
pub next_sent : (k : Kept) (h : ℕ) (bus : BusUnit) (y : Hart) (base : Site) (w : Hart) (harts : List ℕ) → Held h w base → Frozen y
    → after_write command_address next_word (aside (unit_of k h bus) h y (passed harts base))
    ≡ aside (running (begun k) (all_next (begun k)) h bus) h y (passed harts base)
next_sent k h bus y base w harts held fy =
    command_starts next_word next_command Fine k h bus y (passed harts base) w (stays_passed h harts base w held.here held.frozen) next_back (next_starts y fy)

-- ---- its end

pub data NextEnd (P : Memory → Hart → Memory → Type 0) (Q : Memory → Type 0) (size : Size) (last : ℕ) (j : Kept) (h : ℕ) (bus : BusUnit) (y : Hart)
    (base t : Site) : Type 0 where
  ran_well : (before : List ℕ) (z : Hart) (n : Memory) → P (passed before base).board.memory z n → Frozen z
      → Ended 0 (unit_of j h bus) h (advanced size z) (accessed n (passed before base)) last t → NextEnd P Q size last j h bus y base t
  ran_badly : (before : List ℕ) → Q (passed before base).board.memory
      → Ended 3 (unit_with j Exception [] h bus) h y (accessed (passed before base).board.memory (passed before base)) last t
      → NextEnd P Q size last j h bus y base t

still_some : (m : Micro) (ms steps : List Micro) → steps ≡ m ∷ ms → steps ≡ [] → ⊥
still_some m ms steps some none = let e : m ∷ ms ≡ [] = sym some ∙ none in cc

stage_ends : (P : Memory → Hart → Memory → Type 0) (Q : Memory → Type 0) (size : Size) (last : ℕ) (k j : Kept) (h : ℕ) (bus : BusUnit) (y : Hart)
    (base : Site) (w : Hart) (shown t : Site) (behind : List Deed) → NextRunning no_auto Fine P Q size k j h bus y base w
    → shown.unit.active ≡ true → last ≡ value_of (result_of abstractcs_address shown) → shown.unit.commands.steps ≡ [] → t ≡ ran behind shown
    → NextStage no_auto Fine P Q size k j h bus y base shown → NextEnd P Q size last j h bus y base t
unfolding passed
stage_ends P Q size last k j h bus y base w shown t behind r on last_is none moved (at_transfer harts is) =
    absurd (still_some _ _ shown.unit.commands.steps (ap (λ (s : Site). s.unit.commands.steps) is) none)
stage_ends P Q size last k j h bus y base w shown t behind r on last_is none moved (at_start harts is) =
    absurd (still_some _ _ shown.unit.commands.steps (ap (λ (s : Site). s.unit.commands.steps) is) none)
stage_ends P Q size last k j h bus y base w shown t behind r on last_is none moved (in_middle before harts z n p fz is) =
    absurd (still_some _ _ shown.unit.commands.steps (ap (λ (s : Site). s.unit.commands.steps) is) none)
stage_ends P Q size last k j h bus y base w shown t behind r on last_is none moved (in_third before harts z n p fz is) =
    absurd (still_some _ _ shown.unit.commands.steps (ap (λ (s : Site). s.unit.commands.steps) is) none)
stage_ends P Q size last k j h bus y base w shown t behind r on last_is none moved (at_end before harts z n p fz is) =
    ran_well before z n p fz
    (ended_at (unit_of j h bus) h (advanced size z) (accessed n (passed before base)) w last shown t behind (held_behind h w base before n r.held)
    (advanced_frozen size z fz) refl r.idle on last_is moved (record { harts = harts; is = is }))
stage_ends P Q size last k j h bus y base w shown t behind r on last_is none moved (at_fault before harts q is) =
    ran_badly before q
    (ended_at (unit_with j Exception [] h bus) h y (accessed (passed before base).board.memory (passed before base)) w last shown t behind
    (held_behind h w base before (passed before base).board.memory r.held) r.frozen refl r.idle on last_is moved
    (record { harts = harts; is = is }))

pub next_ends : (P : Memory → Hart → Memory → Type 0) (Q : Memory → Type 0) (size : Size) (last : ℕ) (k : Kept) (h : ℕ) (bus : BusUnit) (y : Hart)
    (base : Site) (w : Hart) (t : Site) → NextRunning no_auto Fine P Q size (begun k) (handed y k) h bus y base w
    → Commanded next_word last (unit_of k h bus) h y base t → shows_busy last ≡ false → NextEnd P Q size last (handed y k) h bus y base t
next_ends P Q size last k h bus y base w t r c not_busy =
    let start : Site = after_write command_address next_word (aside (unit_of k h bus) h y (passed c.harts base)) in
    let starts : start ≡ aside (running (begun k) (all_next (begun k)) h bus) h y (passed c.harts base) =
    next_sent k h bus y base w c.harts r.held r.frozen in
    let active : c.shown.unit.active ≡ true = ap (λ (s : Site). s.unit.active) c.shown_is ∙ active_ran c.during start
    ∙ ap (λ (s : Site). s.unit.active) starts in
    let stage : NextStage no_auto Fine P Q size (begun k) (handed y k) h bus y base (ran c.during start) =
    next_ran c.during no_auto Fine P Q size (begun k) (handed y k) h bus y base w start r (at_transfer c.harts starts) in
    stage_ends P Q size last (begun k) (handed y k) h bus y base w c.shown t c.behind r active c.last_is
    (shown_idle c.shown last active c.last_is not_busy) c.is
    (subst (λ s. NextStage no_auto Fine P Q size (begun k) (handed y k) h bus y base s) (sym c.shown_is) stage)

-- ---- with its error cleared

pub data NextTold (P : Memory → Hart → Memory → Type 0) (Q : Memory → Type 0) (size : Size) (last h : ℕ) (bus : BusUnit) (y : Hart) (base : Site) (w : Hart)
    (j : Kept) (t : Site) : Type 0 where
  went : (before : List ℕ) (z : Hart) (n : Memory) → P (passed before base).board.memory z n → error_shown last ≡ 0
      → Stood h bus (advanced size z) (accessed n (passed before base)) w j t → NextTold P Q size last h bus y base w j t
  faulted : (before : List ℕ) → Q (passed before base).board.memory → error_shown last ≡ 3
      → Stood h bus y (accessed (passed before base).board.memory (passed before base)) w j t → NextTold P Q size last h bus y base w j t

next_cleared : (P : Memory → Hart → Memory → Type 0) (Q : Memory → Type 0) (size : Size) (last : ℕ) (k j : Kept) (h : ℕ) (bus : BusUnit) (y : Hart)
    (base : Site) (w : Hart) (mid t : Site) → NextRunning no_auto Fine P Q size k j h bus y base w
    → NextEnd P Q size last j h bus y base mid → SiteActs (clearing (error_shown last)) mid t → NextTold P Q size last h bus y base w j t
next_cleared P Q size last k j h bus y base w mid t r (ran_well before z n p fz end) acts =
    went before z n p end.error_is
    (record {
      held = held_behind h w base before n r.held;
      frozen = advanced_frozen size z fz;
      idle = r.idle;
      at = subst (λ u. DoneAt (unit_of j h bus) h (advanced size z) (accessed n (passed before base)) u)
          (sym (fine_left (error_shown last) mid t end.error_is acts)) end.done_at;
    })
next_cleared P Q size last k j h bus y base w mid t r (ran_badly before q end) acts =
    faulted before q end.error_is
    (error_cleared (error_shown last) h bus y (accessed (passed before base).board.memory (passed before base)) w j mid t end.error_is
    (held_behind h w base before (passed before base).board.memory r.held) r.frozen r.idle end.done_at acts)

next_told_at : (P : Memory → Hart → Memory → Type 0) (Q : Memory → Type 0) (size : Size) (words : List ℕ) (last : ℕ) (k : Kept) (h : ℕ) (bus : BusUnit)
    (y : Hart) (base : Site) (w : Hart) (s t : Site) → Stood h bus y base w k s
    → k.progbuf1 ≡ advance_word size → k.progbuf2 ≡ ebreak_word → ((m : Memory) → WordDid P Q k.progbuf0 y m)
    → SiteActs (command_acts [] next_word words last) s t → shows_busy last ≡ false → NextTold P Q size last h bus y base w (handed y k) t
next_told_at P Q size words last k h bus y base w s t st advance ebreak decides acts not_busy =
    let cut : CommandCut words next_word last s t = command_cut words next_word last s t acts in
    let c : Commanded next_word last (unit_of k h bus) h y base cut.mid =
    commanded next_word words last (unit_of k h bus) h y base w s cut.mid st.held st.frozen refl st.idle st.at cut.ran in
    let r : NextRunning no_auto Fine P Q size (begun k) (handed y k) h bus y base w = next_runs P Q size h bus y base w k st.held st.frozen st.idle advance ebreak decides in
    next_cleared P Q size last (begun k) (handed y k) h bus y base w cut.mid t r (next_ends P Q size last k h bus y base w cut.mid r c not_busy) cut.cleared

-- ---- along a told link

-- the program of a block is there
pub record IsProgram (word : ℕ) (size : Size) (k : Kept) : Type 0 where
  pub first : k.progbuf0 ≡ word
  pub second : k.progbuf1 ≡ advance_word size
  pub third : k.progbuf2 ≡ ebreak_word

pub record RanNext (P : Memory → Hart → Memory → Type 0) (Q : Memory → Type 0) (word : ℕ) (size : Size) (last h : ℕ) (bus : BusUnit) (y : Hart)
    (base : Site) (w : Hart) (told : Option Far) : Type 0 where
  pub far : Far
  pub is : told ≡ Some far
  pub kept : Kept
  pub program : IsProgram word size kept
  pub next : NextTold P Q size last h bus y base w (handed y kept) (site_of far)

pub ran_next : (P : Memory → Hart → Memory → Type 0) (Q : Memory → Type 0) (word : ℕ) (size : Size) (front : List Act) (l : Kept) (last h : ℕ)
    (bus : BusUnit) (y : Hart) (base : Site) (w : Hart) (old new : Tells) → (st : StoodTold h bus y base w old.far) → WordPuts h bus y st.kept front l
    → IsProgram word size l → ((m : Memory) → WordDid P Q word y m) → RanCommand front next_word last old new
    → RanNext P Q word size last h bus y base w new.far
ran_next P Q word size front l last h bus y base w old new st puts program decides ran =
    let at : AtSites _ st.far new.far = did_sites old _ new st.far ran.did st.is in
    let rest : List Act = command_acts [] next_word ran.words last in
    let cut : Split front rest (site_of st.far) (site_of at.far) = site_acts-split front rest (site_of st.far) (site_of at.far) at.acts_are in
    let ready : Stood h bus y base w l cut.mid =
    front_stood front rest h bus y base w st.kept l (site_of st.far) (site_of at.far) puts st.stood cut in
    record {
      far = at.far;
      is = at.is;
      kept = l;
      program = program;
      next = next_told_at P Q size ran.words last l h bus y base w cut.mid (site_of at.far) ready program.second program.third
          (subst (λ n. (m : Memory) → WordDid P Q n y m) (sym program.first) decides) cut.rest ran.idle;
    }

-- ---- by cmderr

-- the words behind the command: the program is still there, and the data words hold what x9 held
pub record Handing (word : ℕ) (size : Size) (value h : ℕ) (bus : BusUnit) (z : Hart) (base : Site) (w : Hart) (told : Option Far) : Type 0 where
  pub then : StoodTold h bus z base w told
  pub program : IsProgram word size then.kept
  pub data0 : then.kept.data0 ≡ value % 2 ^ 32
  pub data1 : then.kept.data1 ≡ value / 2 ^ 32

pub record NextWent (P : Memory → Hart → Memory → Type 0) (word : ℕ) (size : Size) (h : ℕ) (bus : BusUnit) (y : Hart) (base : Site) (w : Hart)
    (told : Option Far) : Type 0 where
  pub before : List ℕ
  pub hart : Hart
  pub memory : Memory
  pub did : P (passed before base).board.memory hart memory
  pub then : Handing word size (x_of y.core 9) h bus (advanced size hart) (accessed memory (passed before base)) w told

pub record NextFaulted (Q : Memory → Type 0) (word : ℕ) (size : Size) (h : ℕ) (bus : BusUnit) (y : Hart) (base : Site) (w : Hart) (told : Option Far) : Type 0
  where
    pub before : List ℕ
    pub did : Q (passed before base).board.memory
    pub then : Handing word size (x_of y.core 9) h bus y (accessed (passed before base).board.memory (passed before base)) w told

unequal : (n : ℕ) → n ≡ 3 → n ≡ 0 → ⊥
unequal n a b = omega arith

kept_program : (word : ℕ) (size : Size) (y : Hart) (k : Kept) → IsProgram word size k → IsProgram word size (handed y k)
kept_program word size y k p = record { first = p.first; second = p.second; third = p.third }

went_by : (P : Memory → Hart → Memory → Type 0) (Q : Memory → Type 0) (word : ℕ) (size : Size) (last h : ℕ) (bus : BusUnit) (y : Hart) (base : Site)
    (w : Hart) (k : Kept) (told : Option Far) (f : Far) → told ≡ Some f → IsProgram word size k → error_shown last ≡ 0
    → NextTold P Q size last h bus y base w (handed y k) (site_of f) → NextWent P word size h bus y base w told
went_by P Q word size last h bus y base w k told f is program fine (went before z n p error st) = record {
  before = before;
  hart = z;
  memory = n;
  did = p;
  then = record { then = record { far = f; is = is; kept = handed y k; stood = st }; program = kept_program word size y k program; data0 = refl; data1 = refl };
}
went_by P Q word size last h bus y base w k told f is program fine (faulted before q error st) = absurd (unequal (error_shown last) error fine)

faulted_by : (P : Memory → Hart → Memory → Type 0) (Q : Memory → Type 0) (word : ℕ) (size : Size) (last h : ℕ) (bus : BusUnit) (y : Hart) (base : Site)
    (w : Hart) (k : Kept) (told : Option Far) (f : Far) → told ≡ Some f → IsProgram word size k → error_shown last ≡ 3
    → NextTold P Q size last h bus y base w (handed y k) (site_of f) → NextFaulted Q word size h bus y base w told
faulted_by P Q word size last h bus y base w k told f is program bad (went before z n p error st) = absurd (unequal (error_shown last) bad error)
faulted_by P Q word size last h bus y base w k told f is program bad (faulted before q error st) = record {
  before = before;
  did = q;
  then = record { then = record { far = f; is = is; kept = handed y k; stood = st }; program = kept_program word size y k program; data0 = refl; data1 = refl };
}

pub next_went : (P : Memory → Hart → Memory → Type 0) (Q : Memory → Type 0) (word : ℕ) (size : Size) (last h : ℕ) (bus : BusUnit) (y : Hart) (base : Site)
    (w : Hart) (told : Option Far) → RanNext P Q word size last h bus y base w told → error_shown last ≡ 0 → NextWent P word size h bus y base w told
next_went P Q word size last h bus y base w told r fine = went_by P Q word size last h bus y base w r.kept told r.far r.is r.program fine r.next

pub next_faulted : (P : Memory → Hart → Memory → Type 0) (Q : Memory → Type 0) (word : ℕ) (size : Size) (last h : ℕ) (bus : BusUnit) (y : Hart)
    (base : Site) (w : Hart) (told : Option Far) → RanNext P Q word size last h bus y base w told → error_shown last ≡ 3
    → NextFaulted Q word size h bus y base w told
next_faulted P Q word size last h bus y base w told r bad = faulted_by P Q word size last h bus y base w r.kept told r.far r.is r.program bad r.next

neither_by : (P : Memory → Hart → Memory → Type 0) (Q : Memory → Type 0) (size : Size) (last h : ℕ) (bus : BusUnit) (y : Hart) (base : Site) (w : Hart)
    (j : Kept) (t : Site) → NextTold P Q size last h bus y base w j t → (error_shown last ≡ 0 → ⊥) → (error_shown last ≡ 3 → ⊥) → ⊥
neither_by P Q size last h bus y base w j t (went before z n p error st) some other = some error
neither_by P Q size last h bus y base w j t (faulted before q error st) some other = other error

pub next_neither : (P : Memory → Hart → Memory → Type 0) (Q : Memory → Type 0) (word : ℕ) (size : Size) (last h : ℕ) (bus : BusUnit) (y : Hart)
    (base : Site) (w : Hart) (told : Option Far) → RanNext P Q word size last h bus y base w told → (error_shown last ≡ 0 → ⊥) → (error_shown last ≡ 3 → ⊥)
    → ⊥
next_neither P Q word size last h bus y base w told r some other =
    neither_by P Q size last h bus y base w (handed y r.kept) (site_of r.far) r.next some other
