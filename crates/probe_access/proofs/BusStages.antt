-- An access of the system bus that is under way: since it was started turns pass, and at one moment it is made.
use Rattle.std.proofs.Common.{◌≡◌, ◌∙◌, ℕ, List, [], ◌∷◌, ◌++◌, map, true, false, None, sym, ap, subst, if◌then◌else◌}
use Rattle.std.proofs.lemmas.Bool.{false≢true}
use Rattle.rv_model.specs.Memory.{Memory}
use Rattle.debug_model.specs.Addresses.{sbcs_address}
use Rattle.debug_model.specs.declared.dmi_op.DmiOp.TheVariants.{Read, Write}
use Rattle.debug_model.specs.Deeds.{Deed, access_points, after_deed, bus_stepped, command_stepped, ran, turned}
use Rattle.debug_model.specs.Deeds.Deed.{Turned, CommandStepped, BusStepped}
use Rattle.debug_model.specs.Dmi.{value_of}
use Rattle.debug_model.specs.Module.{Site, operated, operation_result, register_at, result_by}
use Rattle.debug_model.specs.declared.module_register.ModuleRegister.TheVariants.{Sbcs}
use Rattle.debug_model.specs.ModuleWords.{sbcs_word}
use Rattle.debug_model.specs.SystemBus.{BusDone, BusUnit, bus_done, sbcs_shown}
use Rattle.probe_run.specs.Acts.Act.{Put}
use Rattle.probe_access.specs.BusRuns.{bus_busy, bus_poll}
use Rattle.probe_access.proofs.Along.{SiteActs}
use Rattle.probe_access.proofs.Aside.{accessed, harts_of, passed}
use Rattle.probe_access.proofs.BusSites.{AtBus, BusOp, Works, Writes, at_bus, at_bus_turned, bus_op, bus_ran, works_passed, written_bus}
use Rattle.probe_access.proofs.Quiet.{command_quiet}
use Rattle.probe_access.proofs.Turns.{passed-append}

-- ---- the access

-- a bus whose access is under way: it is made once, whatever memory holds
pub record Pends (p : BusUnit) : Type 0 where
  pub accesses : (m : Memory) → (bus_done m p).accessed ≡ true
  pub ends : (m : Memory) → (bus_done m p).unit.pending ≡ None

-- what it makes behind these turns
abbrev pub done_behind : List ℕ → BusUnit → Site → BusDone
done_behind before p base = bus_done (passed before base).board.memory p

-- the site behind it
abbrev pub done_site : List ℕ → BusUnit → Site → Site
done_site before p base = accessed (done_behind before p base).memory (passed before base)

pub data BusStage (p : BusUnit) (base t : Site) : Type 0 where
  waits : (harts : List ℕ) → t ≡ at_bus p (passed harts base) → BusStage p base t
  made : (before behind : List ℕ) → t ≡ at_bus (done_behind before p base).unit (passed behind (done_site before p base)) → BusStage p base t

step_made : (p : BusUnit) (base : Site) (harts : List ℕ) → Pends p
    → bus_stepped (at_bus p (passed harts base)) ≡ at_bus (done_behind harts p base).unit (done_site harts p base)
step_made p base harts pends =
    let z : Site = passed harts base in
    let d : BusDone = done_behind harts p base in
    ap (λ b. let t : Site = record {
      unit = record z.unit { bus = d.unit };
      board =
          record { harts = z.board.harts; memory = d.memory };
      journal = z.journal ++ access_points b;
    } in t)
    (pends.accesses z.board.memory)

works_done : (before : List ℕ) (p : BusUnit) (base : Site) → Works base → Works (done_site before p base)
works_done before p base w = let v : Works (passed before base) = works_passed before base w in record { active = v.active; steps = v.steps }

stage_deed : (p : BusUnit) (base s : Site) (d : Deed) → Works base → Pends p → BusStage p base s → BusStage p base (after_deed d s)
unfolding after_deed passed ran
stage_deed p base s (Turned g) w pends (waits harts is) =
    waits (harts ++ g ∷ []) (ap (turned g) is ∙ at_bus_turned p g (passed harts base) ∙ ap (at_bus p) (sym (passed-append harts (g ∷ []) base)))
stage_deed p base s CommandStepped w pends (waits harts is) =
    waits harts (ap command_stepped is ∙ command_quiet (at_bus p (passed harts base)) (works_passed harts base w).steps)
stage_deed p base s BusStepped w pends (waits harts is) = made harts [] (ap bus_stepped is ∙ step_made p base harts pends)
stage_deed p base s (Turned g) w pends (made before behind is) =
    made before (behind ++ g ∷ []) (bus_ran (done_behind before p base).unit (done_site before p base) (Turned g ∷ []) s behind (works_done before p base w)
    (pends.ends (passed before base).board.memory) is)
stage_deed p base s CommandStepped w pends (made before behind is) =
    made before (behind ++ []) (bus_ran (done_behind before p base).unit (done_site before p base) (CommandStepped ∷ []) s behind (works_done before p base w)
    (pends.ends (passed before base).board.memory) is)
stage_deed p base s BusStepped w pends (made before behind is) =
    made before (behind ++ []) (bus_ran (done_behind before p base).unit (done_site before p base) (BusStepped ∷ []) s behind (works_done before p base w)
    (pends.ends (passed before base).board.memory) is)

pub stage_ran : (p : BusUnit) (base : Site) (ds : List Deed) (s : Site) → Works base → Pends p → BusStage p base s → BusStage p base (ran ds s)
unfolding ran
stage_ran p base [] s w pends st = st
stage_ran p base (d ∷ ds) s w pends st = stage_ran p base ds (after_deed d s) w pends (stage_deed p base s d w pends st)

-- ---- the write that starts it

pub start_bus : (a v : ℕ) (f : BusUnit → BusUnit) (u p : BusUnit) (base s t : Site) → Writes a v f → Works base → u.pending ≡ None → f u ≡ p → Pends p
    → AtBus u base s → SiteActs (Put a v ∷ []) s t → BusStage p base t
start_bus a v f u p base s t writes works none makes pends at acts =
    let o : BusOp (Write a v) v u base acts.0 = bus_op (Write a v) v u base s acts.0 works none at acts.1 in
    let begun : operated (Write a v) (at_bus u (passed o.harts base)) ≡ at_bus p (passed o.harts base) =
    written_bus a v f u (passed o.harts base) writes (works_passed o.harts base works).active ∙ ap (λ (x : BusUnit). at_bus x (passed o.harts base)) makes in
    subst (λ (x : Site). BusStage p base x) (sym acts.2)
    (subst (λ (x : Site). BusStage p base x) (sym o.is)
    (stage_ran p base o.behind (operated (Write a v) (at_bus u (passed o.harts base))) works pends (waits o.harts begun)))

-- ---- polls

pub works_stage : (p : BusUnit) (base s : Site) → Works base → BusStage p base s → s.unit.active ≡ true
works_stage p base s w (waits harts is) = ap (λ (z : Site). z.unit.active) is ∙ (works_passed harts base w).active
works_stage p base s w (made before behind is) = ap (λ (z : Site). z.unit.active) is
    ∙ (works_passed behind (done_site before p base) (works_done before p base w)).active

-- a read of sbcs changes nothing
pub reads_sbcs : (z : Site) → z.unit.active ≡ true → operated (Read sbcs_address) z ≡ z
unfolding register_at
reads_sbcs z active = ap (λ b. if b then z else z) active

abbrev pub sbcs_at : Site → ℕ
sbcs_at z = value_of (sbcs_word (sbcs_shown z.unit.bus))

shows_sbcs : (z : Site) → z.unit.active ≡ true → operation_result (Read sbcs_address) z ≡ sbcs_word (sbcs_shown z.unit.bus)
unfolding register_at
shows_sbcs z active = ap (λ b. result_by b Sbcs z) active

-- at the last of some polls it showed this, and deeds followed
pub record PolledAt (p : BusUnit) (last : ℕ) (base t : Site) : Type 0 where
  pub mid : Site
  pub stage : BusStage p base mid
  pub shows : last ≡ sbcs_at mid
  pub behind : List Deed
  pub is : t ≡ ran behind mid

pub polled_at : (p : BusUnit) (words : List ℕ) (last : ℕ) (base s t : Site) → Works base → Pends p → BusStage p base s
    → SiteActs (map bus_poll words ++ bus_poll last ∷ []) s t → PolledAt p last base t
polled_at p [] last base s t w pends st acts =
    let one = acts.1.one in
    let z : Site = ran one.before s in
    let at : BusStage p base z = stage_ran p base one.before s w pends st in
    let active : z.unit.active ≡ true = works_stage p base z w at in
    record {
      mid = z;
      stage = at;
      shows = acts.1.value_is ∙ ap value_of (one.result_is ∙ shows_sbcs z active);
      behind = one.behind;
      is = acts.2 ∙ one.is ∙ ap (ran one.behind) (reads_sbcs z active);
    }
polled_at p (word ∷ words) last base s t w pends st acts =
    let one = acts.1.one in
    let z : Site = ran one.before s in
    let at : BusStage p base z = stage_ran p base one.before s w pends st in
    let active : z.unit.active ≡ true = works_stage p base z w at in
    polled_at p words last base acts.0 t w pends
    (subst (λ (x : Site). BusStage p base x) (sym (one.is ∙ ap (ran one.behind) (reads_sbcs z active))) (stage_ran p base one.behind z w pends at)) acts.2

-- the end of an access
pub record BusMade (p : BusUnit) (last : ℕ) (base t : Site) : Type 0 where
  pub before : List ℕ
  pub after : AtBus (done_behind before p base).unit (done_site before p base) t
  pub shows : last ≡ value_of (sbcs_word (sbcs_shown (done_behind before p base).unit))

ended_by : (p : BusUnit) (last : ℕ) (base t mid : Site) (behind : List Deed) → Works base → Pends p → bus_busy (value_of (sbcs_word (sbcs_shown p))) ≡ true
    → bus_busy last ≡ false → BusStage p base mid → last ≡ sbcs_at mid → t ≡ ran behind mid
    → BusMade p last base t
ended_by p last base t mid behind w pends busy idle (waits harts is) shows after =
    absurd (false≢true (sym idle ∙ ap bus_busy shows ∙ ap (λ (z : Site). bus_busy (sbcs_at z)) is ∙ busy))
ended_by p last base t mid behind w pends busy idle (made before some is) shows after = record {
  before = before;
  after = record {
    harts = some ++ harts_of behind;
    is = after ∙ bus_ran (done_behind before p base).unit (done_site before p base) behind mid some (works_done before p base w)
        (pends.ends (passed before base).board.memory) is;
  };
  shows = shows ∙ ap sbcs_at is;
}

pub bus_ended : (p : BusUnit) (last : ℕ) (base t : Site) → Works base → Pends p → bus_busy (value_of (sbcs_word (sbcs_shown p))) ≡ true → bus_busy last ≡ false
    → PolledAt p last base t → BusMade p last base t
bus_ended p last base t w pends busy idle a = ended_by p last base t a.mid a.behind w pends busy idle a.stage a.shows a.is

pub done_works : (before : List ℕ) (p : BusUnit) (base : Site) → Works base → Works (done_site before p base)
done_works before p base w = works_done before p base w
