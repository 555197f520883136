-- A transfer of mip into the data words at a told chip: one access at one moment among turns of harts, which finds what memory shows then.
use Rattle.std.proofs.Common.{◌≡◌, ◌∙◌, ◌++◌, ◌<◌, ◌^◌, ℕ, List, [], ◌∷◌, Bool, true, false, Option, Some, None, refl, sym, ap, subst, arith}
use Rattle.rv_model.specs.Board.{Hart}
use Rattle.rv_model.specs.Core.{Core}
use Rattle.rv_model.specs.DebugRegisters.{debug_seen, debug_value}
use Rattle.rv_model.specs.Fields.{bit_value}
use Rattle.rv_model.specs.Memory.{Memory, msip_bit}
use Rattle.rv_model.specs.Registers.{csr_value, mip_number, mip_value}
use Rattle.debug_model.specs.Addresses.{command_address}
use Rattle.debug_model.specs.declared.cmderr.Cmderr.TheVariants.{Fine}
use Rattle.debug_model.specs.declared.micro.Micro.{Micro}
use Rattle.debug_model.specs.declared.micro.Micro.TheVariants.{Transfer}
use Rattle.debug_model.specs.Commands.{micro_step}
use Rattle.debug_model.specs.Deeds.{Deed, after_deed, bus_stepped, command_stepped, ran, turned}
use Rattle.debug_model.specs.Deeds.Deed.{Turned, CommandStepped, BusStepped}
use Rattle.debug_model.specs.Module.{DebugModule, Site, after_write}
use Rattle.debug_model.specs.ModuleWords.{abstractcs_of}
use Rattle.debug_model.specs.SystemBus.{BusUnit}
use Rattle.debug_model.specs.Told.{Far, site_of}
use Rattle.probe_run.specs.Acts.{Tells}
use Rattle.probe_run.proofs.SiteLemmas.{bus_rests}
use Rattle.probe_access.specs.CommandRuns.{RanCommand, error_shown}
use Rattle.probe_access.specs.RegisterAccess.{transfer_command, transfer_word}
use Rattle.probe_access.specs.RegisterRuns.{ReadApart}
use Rattle.probe_access.proofs.AccessSteps.{after_micro, one_more}
use Rattle.probe_access.proofs.Along.{AtSites, did_sites}
use Rattle.probe_access.proofs.Aside.{Frozen, accessed, aside, passed}
use Rattle.probe_access.proofs.AtOnceTold.{going_unit}
use Rattle.probe_access.proofs.PerformTold.{held_behind}
use Rattle.probe_access.proofs.Quiet.{active_ran, command_quiet}
use Rattle.probe_access.proofs.ReadyUnit.{Held, Kept, commands_of, unit_of}
use Rattle.probe_access.proofs.RegAnswers.{StoodTold, words_joined}
use Rattle.probe_access.proofs.RegisterTold.{CommandCut, Stood, WordsGot, command_cut, fine_left, words_got}
use Rattle.probe_access.proofs.Steps.{DoneAt, stepped_aside}
use Rattle.probe_access.proofs.TransferLemmas.{Commanded, Ended, command_starts, commanded, ended_at, shown_idle, transfer_refusal_by, with_command, words_behind}
use Rattle.probe_access.proofs.Turns.{stays_passed}
use Rattle.probe_access.proofs.WordLemmas.{transfer_back}

-- ---- mip

-- it is there, and a halted hart's own part of it is 0
pub mip_there : (y : Hart) → debug_value y mip_number ≡ Some 0
unfolding debug_value csr_value
mip_there y = refl

pub mip_seen : (y : Hart) (m : Memory) → debug_seen y m mip_number ≡ Some (mip_value y.core m)
unfolding debug_seen
mip_seen y m = refl

bit_small : (b : Bool) → bit_value 3 b < 2 ^ 64
bit_small true = omega arith
bit_small false = omega arith

mip_small : (c : Core) (m : Memory) → mip_value c m < 2 ^ 64
mip_small c m = bit_small (msip_bit m c.id)

-- ---- the one step

abbrev pub mip_going : Kept → ℕ → BusUnit → DebugModule
mip_going k h bus = going_unit k mip_number h bus

-- the data words behind it
abbrev pub mip_words : Hart → Memory → Kept → Kept
mip_words y m k = words_behind false mip_number (mip_value y.core m) k

mip_micro : (k : Kept) (y : Hart) (m : Memory)
    → micro_step y m (commands_of (with_command (transfer_command false mip_number) k) Fine (Transfer (transfer_command false mip_number) ∷ []))
    ≡ record { unit = commands_of (mip_words y m k) Fine []; hart = y; memory = m; accessed = true }
unfolding micro_step debug_seen
mip_micro k y m = refl

-- it is still to come, or was made behind these turns
pub data PendingStage (k : Kept) (h : ℕ) (bus : BusUnit) (y : Hart) (base s : Site) : Type 0 where
  waits : (harts : List ℕ) → s ≡ aside (mip_going k h bus) h y (passed harts base) → PendingStage k h bus y base s
  was_read : (before harts : List ℕ) → s ≡ aside (unit_of (mip_words y (passed before base).board.memory k) h bus) h y
      (passed harts (accessed (passed before base).board.memory (passed before base))) → PendingStage k h bus y base s

-- what both rest on
pub record Waiting (h : ℕ) (bus : BusUnit) (y : Hart) (base : Site) (w : Hart) : Type 0 where
  pub held : Held h w base
  pub frozen : Frozen y
  pub idle : bus.pending ≡ None

stage_turn : (k : Kept) (h : ℕ) (bus : BusUnit) (y : Hart) (base : Site) (w : Hart) (g : ℕ) (s : Site) → Waiting h bus y base w
    → PendingStage k h bus y base s → PendingStage k h bus y base (turned g s)
stage_turn k h bus y base w g s r (waits harts is) =
    waits (harts ++ g ∷ []) (one_more (mip_going k h bus) h y base w harts g s r.held.here r.held.frozen r.frozen is)
stage_turn k h bus y base w g s r (was_read before harts is) =
    let m : Memory = (passed before base).board.memory in
    was_read before (harts ++ g ∷ [])
    (one_more (unit_of (mip_words y m k) h bus) h y (accessed m (passed before base)) w harts g s (stays_passed h before base w r.held.here r.held.frozen)
    r.held.frozen r.frozen is)

stage_step : (k : Kept) (h : ℕ) (bus : BusUnit) (y : Hart) (base : Site) (w : Hart) (s : Site) → Waiting h bus y base w
    → PendingStage k h bus y base s → PendingStage k h bus y base (command_stepped s)
unfolding passed
stage_step k h bus y base w s r (waits harts is) =
    was_read harts []
    (ap command_stepped is
    ∙ stepped_aside (mip_going k h bus) h y (passed harts base) w (Transfer (transfer_command false mip_number)) []
    (stays_passed h harts base w r.held.here r.held.frozen) refl refl
    ∙ ap (after_micro (mip_going k h bus) h (passed harts base)) (mip_micro k y (passed harts base).board.memory))
stage_step k h bus y base w s r (was_read before harts is) =
    let m : Memory = (passed before base).board.memory in
    was_read before harts
    (ap command_stepped is ∙ command_quiet (aside (unit_of (mip_words y m k) h bus) h y (passed harts (accessed m (passed before base)))) refl)

stage_bus : (k : Kept) (h : ℕ) (bus : BusUnit) (y : Hart) (base : Site) (s : Site) → bus.pending ≡ None
    → PendingStage k h bus y base s → PendingStage k h bus y base (bus_stepped s)
stage_bus k h bus y base s idle (waits harts is) =
    waits harts (ap bus_stepped is ∙ bus_rests (aside (mip_going k h bus) h y (passed harts base)) idle)
stage_bus k h bus y base s idle (was_read before harts is) =
    let m : Memory = (passed before base).board.memory in
    was_read before harts
    (ap bus_stepped is ∙ bus_rests (aside (unit_of (mip_words y m k) h bus) h y (passed harts (accessed m (passed before base)))) idle)

pub pending_ran : (ds : List Deed) (k : Kept) (h : ℕ) (bus : BusUnit) (y : Hart) (base : Site) (w : Hart) (s : Site) → Waiting h bus y base w
    → PendingStage k h bus y base s → PendingStage k h bus y base (ran ds s)
unfolding ran after_deed
pending_ran [] k h bus y base w s r st = st
pending_ran (Turned g ∷ ds) k h bus y base w s r st = pending_ran ds k h bus y base w (turned g s) r (stage_turn k h bus y base w g s r st)
pending_ran (CommandStepped ∷ ds) k h bus y base w s r st =
    pending_ran ds k h bus y base w (command_stepped s) r (stage_step k h bus y base w s r st)
pending_ran (BusStepped ∷ ds) k h bus y base w s r st = pending_ran ds k h bus y base w (bus_stepped s) r (stage_bus k h bus y base s r.idle st)

-- ---- the command

pub pending_starts : (k : Kept) (h : ℕ) (bus : BusUnit) (y : Hart) (base : Site) (w : Hart) (harts : List ℕ) → Waiting h bus y base w
    → after_write command_address (transfer_word false mip_number) (aside (unit_of k h bus) h y (passed harts base))
    ≡ aside (mip_going k h bus) h y (passed harts base)
pending_starts k h bus y base w harts r =
    command_starts (transfer_word false mip_number) (transfer_command false mip_number) Fine k h bus y (passed harts base) w
    (stays_passed h harts base w r.held.here r.held.frozen) (transfer_back false mip_number (omega arith))
    (transfer_refusal_by y false mip_number (Some 0) false r.frozen (mip_there y) refl)

-- its end
pub record PendingEnd (last : ℕ) (k : Kept) (h : ℕ) (bus : BusUnit) (y : Hart) (base t : Site) : Type 0 where
  pub before : List ℕ
  pub end : Ended 0 (unit_of (mip_words y (passed before base).board.memory k) h bus) h y (accessed (passed before base).board.memory (passed before base)) last t

cons_none : (a : Micro) (rest : List Micro) → a ∷ rest ≡ [] → ⊥
cons_none a rest e = cc

some_step : (k : Kept) (h : ℕ) (bus : BusUnit) (y : Hart) (z s : Site) → s ≡ aside (mip_going k h bus) h y z → s.unit.commands.steps ≡ [] → ⊥
some_step k h bus y z s is none =
    cons_none (Transfer (transfer_command false mip_number)) [] (sym (ap (λ (t : Site). t.unit.commands.steps) is) ∙ none)

end_by : (last : ℕ) (k : Kept) (h : ℕ) (bus : BusUnit) (y : Hart) (base : Site) (w : Hart) (t : Site) → Waiting h bus y base w
    → (c : Commanded (transfer_word false mip_number) last (unit_of k h bus) h y base t) → c.shown.unit.active ≡ true → c.shown.unit.commands.steps ≡ []
    → PendingStage k h bus y base c.shown → PendingEnd last k h bus y base t
end_by last k h bus y base w t r c active none (waits harts is) = absurd (some_step k h bus y (passed harts base) c.shown is none)
end_by last k h bus y base w t r c active none (was_read before harts is) =
    let m : Memory = (passed before base).board.memory in
    record {
      before = before;
      end = ended_at (unit_of (mip_words y m k) h bus) h y (accessed m (passed before base)) w last c.shown t c.behind (held_behind h w base before m r.held)
          r.frozen refl r.idle active c.last_is c.is (record { harts = harts; is = is });
    }

pub pending_ends : (last : ℕ) (k : Kept) (h : ℕ) (bus : BusUnit) (y : Hart) (base : Site) (w : Hart) (t : Site) → Waiting h bus y base w
    → Commanded (transfer_word false mip_number) last (unit_of k h bus) h y base t → (abstractcs_of last).busy ≡ false → PendingEnd last k h bus y base t
pending_ends last k h bus y base w t r c not_busy =
    let start : Site = after_write command_address (transfer_word false mip_number) (aside (unit_of k h bus) h y (passed c.harts base)) in
    let starts : start ≡ aside (mip_going k h bus) h y (passed c.harts base) = pending_starts k h bus y base w c.harts r in
    let active : c.shown.unit.active ≡ true = ap (λ (s : Site). s.unit.active) c.shown_is ∙ active_ran c.during start ∙ ap (λ (s : Site). s.unit.active) starts in
    end_by last k h bus y base w t r c active (shown_idle c.shown last active c.last_is not_busy)
    (subst (λ s. PendingStage k h bus y base s) (sym c.shown_is) (pending_ran c.during k h bus y base w start r (waits c.harts starts)))

-- ---- along a told link

pub stood_waiting : (h : ℕ) (bus : BusUnit) (y : Hart) (base : Site) (w : Hart) (k : Kept) (s : Site) → Stood h bus y base w k s → Waiting h bus y base w
stood_waiting h bus y base w k s st = record { held = st.held; frozen = st.frozen; idle = st.idle }

-- the transfer ended, without an error
pub record PendingRan (last h : ℕ) (bus : BusUnit) (y : Hart) (base : Site) (w : Hart) (told : Option Far) : Type 0 where
  pub error_is : error_shown last ≡ 0
  pub before : List ℕ
  pub words : Kept
  pub far : Far
  pub is : told ≡ Some far
  pub stood : Stood h bus y (accessed (passed before base).board.memory (passed before base)) w
      (mip_words y (passed before base).board.memory words) (site_of far)

pub pending_command : (last h : ℕ) (bus : BusUnit) (y : Hart) (base : Site) (w : Hart) (old new : Tells) → StoodTold h bus y base w old.far
    → RanCommand [] (transfer_word false mip_number) last old new → PendingRan last h bus y base w new.far
pending_command last h bus y base w old new st ran =
    let word : ℕ = transfer_word false mip_number in
    let k : Kept = st.kept in
    let at : AtSites _ st.far new.far = did_sites old _ new st.far ran.did st.is in
    let cut : CommandCut ran.words word last (site_of st.far) (site_of at.far) =
    command_cut ran.words word last (site_of st.far) (site_of at.far) at.acts_are in
    let c : Commanded word last (unit_of k h bus) h y base cut.mid =
    commanded word ran.words last (unit_of k h bus) h y base w (site_of st.far) cut.mid st.stood.held st.stood.frozen refl st.stood.idle st.stood.at cut.ran in
    let r : Waiting h bus y base w = stood_waiting h bus y base w k (site_of st.far) st.stood in
    let e : PendingEnd last k h bus y base cut.mid = pending_ends last k h bus y base w cut.mid r c ran.idle in
    let m : Memory = (passed e.before base).board.memory in
    let next : Site = accessed m (passed e.before base) in
    record {
      error_is = e.end.error_is;
      before = e.before;
      words = k;
      far = at.far;
      is = at.is;
      stood = record {
        held = held_behind h w base e.before m r.held;
        frozen = r.frozen;
        idle = r.idle;
        at = subst (λ u. DoneAt (unit_of (mip_words y m k) h bus) h y next u)
            (sym (fine_left (error_shown last) cut.mid (site_of at.far) e.end.error_is cut.cleared)) e.end.done_at;
      };
    }

-- and its words were read
pub record PendingTold (value h : ℕ) (bus : BusUnit) (y : Hart) (base : Site) (w : Hart) (told : Option Far) : Type 0 where
  pub before : List ℕ
  pub value_is : value ≡ mip_value y.core (passed before base).board.memory
  pub then : StoodTold h bus y (accessed (passed before base).board.memory (passed before base)) w told

pub pending_told : (value h : ℕ) (bus : BusUnit) (y : Hart) (base : Site) (w : Hart) (old new : Tells) → StoodTold h bus y base w old.far
    → ReadApart mip_number value old new → PendingTold value h bus y base w new.far
pending_told value h bus y base w old new st r =
    let p : PendingRan r.ran.last h bus y base w r.mid.far = pending_command r.ran.last h bus y base w old r.mid st r.ran.ran in
    let m : Memory = (passed p.before base).board.memory in
    let next : Site = accessed m (passed p.before base) in
    let v : ℕ = mip_value y.core m in
    let at : AtSites _ p.far new.far = did_sites r.mid _ new p.far r.words.did p.is in
    let got : WordsGot r.words.low r.words.high h bus y next w (mip_words y m p.words) (site_of at.far) =
    words_got r.words.low r.words.high h bus y next w (mip_words y m p.words) (site_of p.far) (site_of at.far) p.stood at.acts_are in
    record {
      before = p.before;
      value_is = r.words.is ∙ words_joined v r.words.low r.words.high (mip_small y.core m) got.low_is got.high_is;
      then = record { far = at.far; is = at.is; kept = mip_words y m p.words; stood = got.stood };
    }
