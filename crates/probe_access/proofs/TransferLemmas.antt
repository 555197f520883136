-- What a command to transfer a register does: at one moment the register goes into the data words or they into it, or the command is refused.
use Rattle.std.proofs.Common.{
  ◌≡◌,
  ◌∙◌,
  ◌++◌,
  ℕ,
  ◌<◌,
  ◌^◌,
  ◌/◌,
  ◌%◌,
  List,
  [],
  ◌∷◌,
  map,
  Bool,
  true,
  false,
  not,
  ◌&&◌,
  Option,
  Some,
  None,
  is_some,
  refl,
  sym,
  ap,
  subst,
  cond,
  if◌then◌else◌,
}
use Rattle.rv_model.specs.declared.version.Version.{Version}
use Rattle.rv_model.specs.declared.cause.Cause.{Cause}
use Rattle.rv_model.specs.Board.{Hart}
use Rattle.rv_model.specs.DebugLaws.{WriteKeeps}
use Rattle.rv_model.specs.DebugRegisters.{debug_value, debug_refuses, debug_written}
use Rattle.rv_model.proofs.DebugLemmas.{writes_keep}
use Rattle.debug_model.specs.Addresses.{abstractcs_address, command_address}
use Rattle.debug_model.specs.declared.abstract_command.AbstractCommand.{AbstractCommand}
use Rattle.debug_model.specs.declared.cmderr.Cmderr.{Cmderr}
use Rattle.debug_model.specs.declared.cmderr.Cmderr.TheVariants.{Fine, Exception, HaltResume}
use Rattle.debug_model.specs.declared.dmi_op.DmiOp.TheVariants.{Read, Write}
use Rattle.debug_model.specs.declared.micro.Micro.{Micro}
use Rattle.debug_model.specs.declared.micro.Micro.TheVariants.{Transfer}
use Rattle.debug_model.specs.Commands.{CommandUnit, abstractcs_shown, is_held, is_under_way, joined_halves, micro_step, refusal, started_by}
use Rattle.debug_model.specs.Course.{OneOperation}
use Rattle.debug_model.specs.Deeds.{Deed, ran}
use Rattle.debug_model.specs.Module.{DebugModule, Site, after_write, operated, register_at, result_of}
use Rattle.debug_model.specs.Dmi.{value_of}
use Rattle.debug_model.specs.ModuleWords.{abstractcs_of, abstractcs_word, cmderr_number, command_of}
use Rattle.debug_model.specs.SystemBus.{BusUnit}
use Rattle.probe_run.specs.Acts.Act.{Got, Put}
use Rattle.probe_access.proofs.Aside.{Frozen, HartAt, aside, passed, with_unit}
use Rattle.probe_access.specs.RegisterAccess.{transfer_command, transfer_word}
use Rattle.probe_access.proofs.Along.{SiteActs, Split, site_acts-split}
use Rattle.chip_laws.proofs.PathLemmas.{ran-append}
use Rattle.probe_access.proofs.Plain.{Holds, Transferable, seen_held, seen_some, small_number}
use Rattle.probe_access.proofs.Quiet.{active_ran}
use Rattle.probe_access.proofs.ReadyUnit.{Held, Kept, OpAt, commands_of, done_ran, op_at, unit_of, unit_with}
use Rattle.probe_access.proofs.Steps.{Between, Course, Does, DoneAt, between_done, between_ran}
use Rattle.probe_access.proofs.Steps.Between.{still}
use Rattle.probe_access.proofs.Turns.{hart_aside, stays_passed}
use Rattle.probe_access.proofs.WordLemmas.{busy_shown, cmderr_shown, status_small, transfer_back}

-- ---- polls

same_if : (b : Bool) (s : Site) → cond b s s ≡ s
same_if true s = refl
same_if false s = refl

-- abstractcs is read: nothing changes
pub read_status : (s : Site) → operated (Read abstractcs_address) s ≡ s
unfolding register_at
read_status s = same_if s.unit.active s

pub record RanAlone (s t : Site) : Type 0 where
  pub deeds : List Deed
  pub is : t ≡ ran deeds s

pub polls_ran : (values : List ℕ) (s t : Site) → SiteActs (map (Got abstractcs_address) values) s t → RanAlone s t
unfolding ran
polls_ran [] s t is = record { deeds = []; is = is }
polls_ran (v ∷ values) s t p =
    let o : OneOperation (Read abstractcs_address) p.1.result s p.0 = p.1.one in
    let one : p.0 ≡ ran (o.before ++ o.behind) s = o.is ∙ ap (ran o.behind) (read_status (ran o.before s)) ∙ sym (ran-append o.before o.behind s) in
    let later : RanAlone p.0 t = polls_ran values p.0 t p.2 in
    record { deeds = (o.before ++ o.behind) ++ later.deeds; is = later.is ∙ ap (ran later.deeds) one ∙ sym (ran-append (o.before ++ o.behind) later.deeds s) }

-- ---- a command, and the look that saw its end

pub record Commanded (word last : ℕ) (n : DebugModule) (h : ℕ) (y : Hart) (base t : Site) : Type 0 where
  pub harts : List ℕ
  pub during : List Deed
  pub behind : List Deed
  pub shown : Site
  pub shown_is : shown ≡ ran during (after_write command_address word (aside n h y (passed harts base)))
  pub last_is : last ≡ value_of (result_of abstractcs_address shown)
  pub is : t ≡ ran behind shown

pub commanded : (word : ℕ) (values : List ℕ) (last : ℕ) (n : DebugModule) (h : ℕ) (y : Hart) (base : Site) (w : Hart) (s t : Site) → Held h w base → Frozen y
    → n.commands.steps ≡ [] → n.bus.pending ≡ None
    → DoneAt n h y base s → SiteActs (Put command_address word ∷ (map (Got abstractcs_address) values ++ Got abstractcs_address last ∷ [])) s t
    → Commanded word last n h y base t
commanded word values last n h y base w s t held fy none idle d p =
    let first : OpAt (Write command_address word) word n h y base p.0 = op_at (Write command_address word) word n h y base w s p.0 held fy none idle d p.1 in
    let cut : Split (map (Got abstractcs_address) values) (Got abstractcs_address last ∷ []) p.0 t =
    site_acts-split (map (Got abstractcs_address) values) (Got abstractcs_address last ∷ []) p.0 t p.2 in
    let polled : RanAlone p.0 cut.mid = polls_ran values p.0 cut.mid cut.first in
    let look : OneOperation (Read abstractcs_address) cut.rest.1.result cut.mid cut.rest.0 = cut.rest.1.one in
    let written : Site = after_write command_address word (aside n h y (passed first.harts base)) in
    record {
      harts = first.harts;
      during = first.behind ++ (polled.deeds ++ look.before);
      behind = look.behind;
      shown = ran look.before cut.mid;
      shown_is =
          ap (ran look.before) polled.is ∙ sym (ran-append polled.deeds look.before p.0) ∙ ap (ran (polled.deeds ++ look.before)) first.is
          ∙ sym (ran-append first.behind (polled.deeds ++ look.before) written);
      last_is = cut.rest.1.value_is ∙ ap value_of look.result_is;
      is = cut.rest.2 ∙ look.is ∙ ap (ran look.behind) (read_status (ran look.before cut.mid));
    }

-- a module that works goes on working, and shows its register
shown_status : (s : Site) (active : Bool) → s.unit.active ≡ active → active ≡ true
    → result_of abstractcs_address s ≡ abstractcs_word (abstractcs_shown s.unit.commands)
unfolding register_at
shown_status s true is on = rw is refl
shown_status s false is on = let none : ⊥ = cc in absurd none

pub idle_by : (steps : List Micro) → is_under_way steps ≡ false → steps ≡ []
idle_by [] is = refl
idle_by (m ∷ ms) is = let none : ⊥ = cc in absurd none

pub shown_idle : (s : Site) (last : ℕ) → s.unit.active ≡ true → last ≡ value_of (result_of abstractcs_address s) → (abstractcs_of last).busy ≡ false
    → s.unit.commands.steps ≡ []
shown_idle s last on is idle =
    let e : last ≡ abstractcs_word (abstractcs_shown s.unit.commands) = is ∙ ap value_of (shown_status s s.unit.active refl on)
    ∙ status_small s.unit.commands in
    idle_by s.unit.commands.steps (sym (busy_shown s.unit.commands) ∙ sym (ap (λ v. (abstractcs_of v).busy) e) ∙ idle)

pub shown_error : (s : Site) (last : ℕ) → s.unit.active ≡ true → last ≡ value_of (result_of abstractcs_address s)
    → (abstractcs_of last).cmderr ≡ cmderr_number s.unit.commands.error
shown_error s last on is =
    let e : last ≡ abstractcs_word (abstractcs_shown s.unit.commands) = is ∙ ap value_of (shown_status s s.unit.active refl on)
    ∙ status_small s.unit.commands in
    ap (λ v. (abstractcs_of v).cmderr) e ∙ cmderr_shown s.unit.commands

-- ---- the start of a command

abbrev pub with_command : AbstractCommand → Kept → Kept
with_command c k = record k { command = c }

abbrev started_unit : Version → Cmderr → CommandUnit → ℕ → BusUnit → DebugModule
started_unit v e u h bus = record { version = v; active = true; hartsel = h; commands = started_by e u; bus = bus }

-- by why it is refused
pub command_starts : (word : ℕ) (c : AbstractCommand) (why : Cmderr) (k : Kept) (h : ℕ) (bus : BusUnit) (y : Hart) (z : Site) (w : Hart) → HartAt h z w
    → command_of word ≡ c → refusal (Some y) c ≡ why
    → after_write command_address word (aside (unit_of k h bus) h y z) ≡ aside (started_unit k.version why (commands_of (with_command c k) Fine []) h bus) h y z
unfolding register_at
command_starts word c why k h bus y z w here is reason =
    ap (λ o. aside (started_unit k.version (refusal o (command_of word)) (commands_of (with_command (command_of word) k) Fine []) h bus) h y z)
    (hart_aside (unit_of k h bus) h y z w here)
    ∙ ap (λ (d : AbstractCommand). aside (started_unit k.version (refusal (Some y) d) (commands_of (with_command d k) Fine []) h bus) h y z) is
    ∙ ap (λ e. aside (started_unit k.version e (commands_of (with_command c k) Fine []) h bus) h y z) reason

-- ---- why a transfer is refused

abbrev pub refusing : Bool → ℕ → Bool
refusing write number = write && debug_refuses number

pub transfer_refusal_by : (y : Hart) (write : Bool) (number : ℕ) (o : Option ℕ) (r : Bool) → Frozen y → debug_value y number ≡ o → refusing write number ≡ r
    → refusal (Some y) (transfer_command write number) ≡ cond (not (is_some o && not r)) Exception Fine
unfolding refusal
transfer_refusal_by y write number o r f is refuses =
    ap (λ (p : Option Cause). cond (not (is_held p y.debug.resume_request)) HaltResume
    (cond (not (is_some (debug_value y number) && not (refusing write number))) Exception Fine)) f.halted
    ∙ ap (λ q. cond (not (is_held (Some f.why) q)) HaltResume (cond (not (is_some (debug_value y number) && not (refusing write number))) Exception Fine))
    f.not_asked
    ∙ ap (λ p. cond (not (is_some p && not (refusing write number))) Exception Fine) is
    ∙ ap (λ b. cond (not (is_some o && not b)) Exception Fine) refuses

-- ---- a command of one step

pub record Ended (error : ℕ) (n : DebugModule) (h : ℕ) (y : Hart) (base : Site) (last : ℕ) (t : Site) : Type 0 where
  pub error_is : (abstractcs_of last).cmderr ≡ error
  pub done_at : DoneAt n h y base t

-- the module behind the look that saw the end
pub ended_at : (n : DebugModule) (h : ℕ) (y : Hart) (base : Site) (w : Hart) (last : ℕ) (shown t : Site) (behind : List Deed) → Held h w base → Frozen y
    → n.commands.steps ≡ [] → n.bus.pending ≡ None
    → shown.unit.active ≡ true → last ≡ value_of (result_of abstractcs_address shown) → t ≡ ran behind shown → DoneAt n h y base shown
    → Ended (cmderr_number n.commands.error) n h y base last t
ended_at n h y base w last shown t behind held fy none idle on is moved d = record {
  error_is = shown_error shown last on is ∙ ap (λ (s : Site). cmderr_number s.unit.commands.error) d.is;
  done_at = done_ran n h y base w behind shown t held fy none idle moved d;
}

pub one_step_ends : (word last : ℕ) (n m : DebugModule) (v : CommandUnit) (h : ℕ) (y z : Hart) (base : Site) (w : Hart) (a : Micro) (t : Site) → Held h w base
    → Frozen y → Frozen z
    → m.active ≡ true → m.hartsel ≡ h → m.bus.pending ≡ None → m.commands.steps ≡ a ∷ [] → v.steps ≡ [] → Does y m.commands z v
    → (c : Commanded word last n h y base t) → after_write command_address word (aside n h y (passed c.harts base)) ≡ aside m h y (passed c.harts base)
    → (abstractcs_of last).busy ≡ false
    → Ended (cmderr_number v.error) (with_unit v m) h z base last t
one_step_ends word last n m v h y z base w a t held fy fz on selected idle one none does c starts not_busy =
    let start : Site = after_write command_address word (aside n h y (passed c.harts base)) in
    let active : c.shown.unit.active ≡ true = ap (λ (s : Site). s.unit.active) c.shown_is ∙ active_ran c.during start ∙ ap (λ (s : Site). s.unit.active) starts
    ∙ on in
    let course : Course m h y base w = record { here = held.here; frozen = held.frozen; frozen_x = fy; selected = selected; bus = idle } in
    let stage : Between m (with_unit v m) h y z base (ran c.during start) =
    between_ran c.during m v h y z base w a start course fz one none does (still c.harts starts) in
    let at_end : DoneAt (with_unit v m) h z base c.shown =
    between_done m (with_unit v m) h y z base c.shown a [] one (shown_idle c.shown last active c.last_is not_busy)
    (subst (λ s. Between m (with_unit v m) h y z base s) (sym c.shown_is) stage) in
    ended_at (with_unit v m) h z base w last c.shown t c.behind held fz none idle active c.last_is c.is at_end

-- ---- a command that is refused

pub refused_ends : (word last : ℕ) (n m : DebugModule) (h : ℕ) (y : Hart) (base : Site) (w : Hart) (t : Site) → Held h w base → Frozen y
    → m.active ≡ true → m.bus.pending ≡ None → m.commands.steps ≡ []
    → (c : Commanded word last n h y base t) → after_write command_address word (aside n h y (passed c.harts base)) ≡ aside m h y (passed c.harts base)
    → Ended (cmderr_number m.commands.error) m h y base last t
refused_ends word last n m h y base w t held fy on idle none c starts =
    let start : Site = after_write command_address word (aside n h y (passed c.harts base)) in
    let active : c.shown.unit.active ≡ true = ap (λ (s : Site). s.unit.active) c.shown_is ∙ active_ran c.during start ∙ ap (λ (s : Site). s.unit.active) starts
    ∙ on in
    let first : DoneAt m h y base start = record { harts = c.harts; is = starts } in
    ended_at m h y base w last c.shown t c.behind held fy none idle active c.last_is c.is
    (done_ran m h y base w c.during start c.shown held fy none idle c.shown_is first)

-- ---- a transfer

-- the words and the hart behind it
abbrev pub words_behind : Bool → ℕ → ℕ → Kept → Kept
words_behind write number v k = record k {
  data0 = if write then k.data0 else v % 2 ^ 32;
  data1 = if write then k.data1 else v / 2 ^ 32;
  command = transfer_command write number;
}

abbrev pub hart_behind : Bool → ℕ → Kept → Hart → Hart
hart_behind true number k y = debug_written y number (joined_halves k.data0 k.data1)
hart_behind false number k y = y

pub held_does : (number v : ℕ) (k : Kept) (y : Hart) → Holds y number v
    → Does y (commands_of (with_command (transfer_command false number) k) Fine (Transfer (transfer_command false number) ∷ [])) y
    (commands_of (words_behind false number v k) Fine [])
unfolding micro_step
held_does number v k y held = record { each = λ m. let shown = seen_held y m number v held in let other = held.other in rw (shown, other) refl }

pub transfer_does : (write : Bool) (number v : ℕ) (k : Kept) (y : Hart) → Transferable write number → debug_value y number ≡ Some v
    → Does y (commands_of (with_command (transfer_command write number) k) Fine (Transfer (transfer_command write number) ∷ [])) (hart_behind write number k y)
    (commands_of (words_behind write number v k) Fine [])
unfolding micro_step
transfer_does true number v k y may is = record { each = λ m. let s = seen_some y m number v is in let shown = s.is in rw shown refl }
transfer_does false number v k y may is = held_does number v k y (record { is = is; other = may.other })

pub written_frozen : (y : Hart) (number v : ℕ) → Frozen y → Frozen (debug_written y number v)
written_frozen y number v f =
    let keeps : WriteKeeps y (debug_written y number v) = writes_keep y number v in
    record { why = f.why; halted = keeps.requests.halted ∙ f.halted; not_asked = keeps.requests.resume_request ∙ f.not_asked }

pub behind_frozen : (write : Bool) (number : ℕ) (k : Kept) (y : Hart) → Frozen y → Frozen (hart_behind write number k y)
behind_frozen true number k y f = written_frozen y number (joined_halves k.data0 k.data1) f
behind_frozen false number k y f = f

pub data TransferEnd (write : Bool) (number last : ℕ) (k : Kept) (h : ℕ) (bus : BusUnit) (y : Hart) (base t : Site) : Type 0 where
  took : (v : ℕ) → debug_value y number ≡ Some v → refusing write number ≡ false
      → Ended 0 (unit_of (words_behind write number v k) h bus) h (hart_behind write number k y) base last t → TransferEnd write number last k h bus y base t
  refused : is_some (debug_value y number) && not (refusing write number) ≡ false
      → Ended 3 (unit_with (with_command (transfer_command write number) k) Exception [] h bus) h y base last t → TransferEnd write number last k h bus y base t

transfer_by : (write : Bool) (number last : ℕ) (k : Kept) (h : ℕ) (bus : BusUnit) (y : Hart) (base : Site) (w : Hart) (t : Site) (o : Option ℕ) (r : Bool)
    → Held h w base → Frozen y → Transferable write number → bus.pending ≡ None
    → debug_value y number ≡ o → refusing write number ≡ r → Commanded (transfer_word write number) last (unit_of k h bus) h y base t
    → (abstractcs_of last).busy ≡ false
    → TransferEnd write number last k h bus y base t
transfer_by write number last k h bus y base w t (Some v) false held fy small idle is refuses c not_busy =
    let word : ℕ = transfer_word write number in
    let command : AbstractCommand = transfer_command write number in
    let starts = command_starts word command Fine k h bus y (passed c.harts base) w (stays_passed h c.harts base w held.here held.frozen)
    (transfer_back write number (small_number write number small)) (transfer_refusal_by y write number (Some v) false fy is refuses) in
    took v is refuses
    (one_step_ends word last (unit_of k h bus) (unit_with (with_command command k) Fine (Transfer command ∷ []) h bus)
    (commands_of (words_behind write number v k) Fine []) h y (hart_behind write number k y) base w
    (Transfer command) t held fy (behind_frozen write number k y fy) refl refl idle refl refl (transfer_does write number v k y small is) c starts not_busy)
transfer_by write number last k h bus y base w t (Some v) true held fy small idle is refuses c not_busy =
    let word : ℕ = transfer_word write number in
    let command : AbstractCommand = transfer_command write number in
    let starts = command_starts word command Exception k h bus y (passed c.harts base) w (stays_passed h c.harts base w held.here held.frozen)
    (transfer_back write number (small_number write number small)) (transfer_refusal_by y write number (Some v) true fy is refuses) in
    refused (ap (λ p. is_some p && not (refusing write number)) is ∙ ap not refuses)
    (refused_ends word last (unit_of k h bus) (unit_with (with_command command k) Exception [] h bus) h y base w t held fy refl idle refl c starts)
transfer_by write number last k h bus y base w t None r held fy small idle is refuses c not_busy =
    let word : ℕ = transfer_word write number in
    let command : AbstractCommand = transfer_command write number in
    let starts = command_starts word command Exception k h bus y (passed c.harts base) w (stays_passed h c.harts base w held.here held.frozen)
    (transfer_back write number (small_number write number small)) (transfer_refusal_by y write number None r fy is refuses) in
    refused (ap (λ p. is_some p && not (refusing write number)) is)
    (refused_ends word last (unit_of k h bus) (unit_with (with_command command k) Exception [] h bus) h y base w t held fy refl idle refl c starts)

pub transfer_ends : (write : Bool) (number last : ℕ) (k : Kept) (h : ℕ) (bus : BusUnit) (y : Hart) (base : Site) (w : Hart) (t : Site) → Held h w base
    → Frozen y → Transferable write number → bus.pending ≡ None
    → Commanded (transfer_word write number) last (unit_of k h bus) h y base t → (abstractcs_of last).busy ≡ false
    → TransferEnd write number last k h bus y base t
transfer_ends write number last k h bus y base w t held fy small idle c not_busy =
    transfer_by write number last k h bus y base w t (debug_value y number) (refusing write number) held fy small idle refl refl c not_busy
