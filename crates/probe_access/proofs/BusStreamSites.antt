-- A site along a run of loads by the system bus: elements were loaded, and an access is under way, or was made, or was refused.
use Rattle.std.proofs.Common.{◌≡◌, ◌∙◌, ◌<◌, ◌++◌, ◌^◌, ℕ, List, ◌∷◌, length, Bool, true, None, refl, sym, ap, subst, append_assoc, if◌then◌else◌}
use Rattle.rv_model.specs.declared.size.Size.{Size}
use Rattle.rv_model.specs.Board.{Board}
use Rattle.rv_model.specs.Memory.{Memory, loaded}
use Rattle.rv_model.specs.Size.{count_of}
use Rattle.rv_model.proofs.WideMemory.{loaded_small}
use Rattle.abstract_debugger.specs.Turns.{after_turns, turns}
use Rattle.abstract_debugger.proofs.StandsLemmas.{after_turns-append, turns-append}
use Rattle.debug_model.specs.Addresses.{sbaddress0_address, sbaddress1_address, sbcs_address, sbdata0_address, sbdata1_address}
use Rattle.debug_model.specs.declared.dmi_op.DmiOp.TheVariants.{Read, Write}
use Rattle.debug_model.specs.declared.module_register.ModuleRegister.TheVariants.{Sbaddress0, Sbaddress1, Sbcs, Sbdata0, Sbdata1}
use Rattle.debug_model.specs.declared.point.Point.{Point}
use Rattle.debug_model.specs.declared.point.Point.TheVariants.{Access}
use Rattle.debug_model.specs.Commands.{high_half, low_half}
use Rattle.debug_model.specs.Deeds.{Deed, ran}
use Rattle.debug_model.specs.Module.{DebugModule, Site, operated, operation_result, register_at, result_by}
use Rattle.debug_model.specs.ModuleWords.{sbcs_word}
use Rattle.debug_model.specs.SystemBus.{BusDone, BusUnit, bus_looked, sbcs_shown, sbdata0_read}
use Rattle.debug_model.specs.Told.{BusReady, ModuleReady, SiteReady}
use Rattle.probe_access.specs.Accesses.{OneBusAccess, unchanged, with_memory}
use Rattle.probe_access.specs.Blocks.{element_at}
use Rattle.probe_access.specs.BusBlocks.{BusLoadedEach, BusLoadedOne, BusNotLoadedOne}
use Rattle.probe_access.proofs.AccessEnd.{ready_before}
use Rattle.probe_access.proofs.Aside.{accessed, harts_of, passed}
use Rattle.probe_access.proofs.BusSites.{AtBus, Writes, at_bus, bus_ran, works_passed, written_bus}
use Rattle.probe_access.proofs.BusStages.{BusStage, done_behind, done_site, stage_ran}
use Rattle.probe_access.proofs.BusStages.BusStage.{waits, made}
use Rattle.probe_access.proofs.BusStreamUnits.{RunEnd, read_bus, reading, refused_bus, run_end, run_pends}
use Rattle.probe_access.proofs.BusStreamUnits.RunEnd.{was_read, not_read}
use Rattle.probe_access.proofs.BusTold.{at_start, bus_one_access, bus_serving, unit_like, works_ready}
use Rattle.probe_access.proofs.ReadyTurns.{BoardReady, Passed, board_ready_turns, passed_turns}
use Rattle.probe_access.proofs.Turns.{unit_passed}

-- ---- reads of the bus's registers

-- what a read of this address makes of the bus, and what it shows
pub data Reads : ℕ → (BusUnit → BusUnit) → (BusUnit → ℕ) → Type 0 where
  of_sbcs : Reads sbcs_address (λ u. u) (λ u. sbcs_word (sbcs_shown u))
  of_sbaddress0 : Reads sbaddress0_address bus_looked (λ u. low_half u.address)
  of_sbaddress1 : Reads sbaddress1_address bus_looked (λ u. high_half u.address)
  of_sbdata0 : Reads sbdata0_address sbdata0_read (λ u. low_half u.value)
  of_sbdata1 : Reads sbdata1_address bus_looked (λ u. high_half u.value)

pub read_changes : (a : ℕ) (f : BusUnit → BusUnit) (g : BusUnit → ℕ) (u : BusUnit) (z : Site) → Reads a f g → z.unit.active ≡ true
    → operated (Read a) (at_bus u z) ≡ at_bus (f u) z
unfolding register_at
read_changes _ _ _ u z of_sbcs active = ap (λ b. if b then (at_bus u z) else at_bus u z) active
read_changes _ _ _ u z of_sbaddress0 active = ap (λ b. if b then (at_bus (bus_looked u) z) else at_bus u z) active
read_changes _ _ _ u z of_sbaddress1 active = ap (λ b. if b then (at_bus (bus_looked u) z) else at_bus u z) active
read_changes _ _ _ u z of_sbdata0 active = ap (λ b. if b then (at_bus (sbdata0_read u) z) else at_bus u z) active
read_changes _ _ _ u z of_sbdata1 active = ap (λ b. if b then (at_bus (bus_looked u) z) else at_bus u z) active

pub read_shows : (a : ℕ) (f : BusUnit → BusUnit) (g : BusUnit → ℕ) (u : BusUnit) (z : Site) → Reads a f g → z.unit.active ≡ true
    → operation_result (Read a) (at_bus u z) ≡ g u
unfolding register_at
read_shows _ _ _ u z of_sbcs active = ap (λ b. result_by b Sbcs (at_bus u z)) active
read_shows _ _ _ u z of_sbaddress0 active = ap (λ b. result_by b Sbaddress0 (at_bus u z)) active
read_shows _ _ _ u z of_sbaddress1 active = ap (λ b. result_by b Sbaddress1 (at_bus u z)) active
read_shows _ _ _ u z of_sbdata0 active = ap (λ b. result_by b Sbdata0 (at_bus u z)) active
read_shows _ _ _ u z of_sbdata1 active = ap (λ b. result_by b Sbdata1 (at_bus u z)) active

-- ---- an operation, where turns alone passed since a base

pub at_read : (a : ℕ) (f : BusUnit → BusUnit) (g : BusUnit → ℕ) (u v : BusUnit) (base x : Site) → Reads a f g → SiteReady base → f u ≡ v → AtBus u base x
    → AtBus v base (operated (Read a) x)
at_read a f g u v base x reads ready makes at = record {
  harts = at.harts;
  is = ap (operated (Read a)) at.is
      ∙ read_changes a f g u (passed at.harts base) reads (works_passed at.harts base (works_ready base ready)).active
      ∙ ap (λ (w : BusUnit). at_bus w (passed at.harts base)) makes;
}

pub shown_at : (a : ℕ) (f : BusUnit → BusUnit) (g : BusUnit → ℕ) (u : BusUnit) (base x : Site) → Reads a f g → SiteReady base → AtBus u base x
    → operation_result (Read a) x ≡ g u
shown_at a f g u base x reads ready at =
    ap (operation_result (Read a)) at.is ∙ read_shows a f g u (passed at.harts base) reads (works_passed at.harts base (works_ready base ready)).active

pub at_write : (a v : ℕ) (f : BusUnit → BusUnit) (u w : BusUnit) (base x : Site) → Writes a v f → SiteReady base → f u ≡ w → AtBus u base x
    → AtBus w base (operated (Write a v) x)
at_write a v f u w base x writes ready makes at = record {
  harts = at.harts;
  is = ap (operated (Write a v)) at.is
      ∙ written_bus a v f u (passed at.harts base) writes (works_passed at.harts base (works_ready base ready)).active
      ∙ ap (λ (y : BusUnit). at_bus y (passed at.harts base)) makes;
}

pub at_ran : (u : BusUnit) (base x : Site) (ds : List Deed) → SiteReady base → u.pending ≡ None → AtBus u base x → AtBus u base (ran ds x)
at_ran u base x ds ready idle at = record { harts = at.harts ++ harts_of ds; is = bus_ran u base ds x at.harts (works_ready base ready) idle at.is }

module_ready : (m : DebugModule) (u : BusUnit) → ModuleReady m → BusReady u → ModuleReady (unit_like m u)
module_ready m u r b = record { active = r.active; commands = r.commands; bus = b }

pub ready_at : (u : BusUnit) (base t : Site) → SiteReady base → BusReady u → AtBus u base t → SiteReady t
ready_at u base t ready bus a =
    let q : Passed base (passed a.harts base) = passed_turns a.harts base in
    let c : BoardReady (after_turns q.harts base.board) =
    board_ready_turns q.harts base.board (record { harts = ready.harts; memory = ready.memory }) in
    let d : BoardReady t.board = subst (λ (x : Board). BoardReady x) (sym (ap (λ (x : Site). x.board) a.is ∙ q.board)) c in
    record {
      unit = subst (λ (k : DebugModule). ModuleReady k)
          (sym (ap (λ (x : Site). x.unit) a.is ∙ ap (λ (k : DebugModule). unit_like k u) (unit_passed a.harts base)))
          (module_ready base.unit u ready.unit bus);
      harts = d.harts;
      memory = d.memory;
    }

-- ---- turns behind an access

pub access_passed : (m : Memory → Memory) (before behind : List ℕ) (s mid : Site) (u : BusUnit) (t : Site) → OneBusAccess m before behind s mid
    → (a : AtBus u mid t) → OneBusAccess m before (behind ++ (passed_turns a.harts mid).harts) s t
access_passed m before behind s mid u t one a =
    let q : Passed mid (passed a.harts mid) = passed_turns a.harts mid in
    record {
      board =
          ap (λ (x : Site). x.board) a.is ∙ q.board ∙ ap (after_turns q.harts) one.board
          ∙ sym (after_turns-append behind q.harts (with_memory (m (after_turns before s.board).memory) (after_turns before s.board)));
      journal =
          ap (λ (x : Site). x.journal) a.is ∙ q.journal ∙ ap (λ (j : List Point). j ++ turns q.harts) one.journal
          ∙ append_assoc (s.journal ++ turns before) (Access ∷ turns behind) (turns q.harts)
          ∙ ap (λ (j : List Point). (s.journal ++ turns before) ++ Access ∷ j) (sym (turns-append behind q.harts));
      unit =
          ap (λ (x : Site). x.unit) a.is
          ∙ ap (λ (k : DebugModule). unit_like k u) (unit_passed a.harts mid ∙ one.unit)
          ∙ ap (unit_like s.unit) (sym (ap (λ (x : Site). x.unit.bus) a.is));
    }

pub loaded_passed : (size : Size) (address v : ℕ) (s mid : Site) (u : BusUnit) (t : Site) → BusLoadedOne size address v s mid → AtBus u mid t
    → BusLoadedOne size address v s t
loaded_passed size address v s mid u t one a = record {
  before = one.before;
  behind = one.behind ++ (passed_turns a.harts mid).harts;
  value_is = one.value_is;
  access = access_passed unchanged one.before one.behind s mid u t one.access a;
}

pub refused_passed : (size : Size) (address : ℕ) (s mid : Site) (u : BusUnit) (t : Site) → BusNotLoadedOne size address s mid → AtBus u mid t
    → BusNotLoadedOne size address s t
refused_passed size address s mid u t one a = record {
  before = one.before;
  behind = one.behind ++ (passed_turns a.harts mid).harts;
  why = one.why;
  refused = one.refused;
  access = access_passed unchanged one.before one.behind s mid u t one.access a;
}

-- ---- where a run stands

-- an access is under way, behind these values; sbdata holds the last of them
pub record Waiting (size : Size) (address count : ℕ) (s : Site) (on_data collided : Bool) (values : List ℕ) (value : ℕ) (t : Site) : Type 0 where
  pub mid : Site
  pub each : BusLoadedEach size address s values mid
  pub ready : SiteReady mid
  pub below : length values < count
  pub at : AtBus (reading on_data size (element_at size address (length values)) value collided) mid t

-- the next one was loaded too
pub record Resting (size : Size) (address count : ℕ) (s : Site) (on_data collided : Bool) (values : List ℕ) (value : ℕ) (t : Site) : Type 0 where
  pub first : Site
  pub each : BusLoadedEach size address s values first
  pub mid : Site
  pub one : BusLoadedOne size (element_at size address (length values)) value first mid
  pub small : value < 256 ^ count_of size
  pub ready : SiteReady mid
  pub below : length values < count
  pub at : AtBus (read_bus on_data size (element_at size address (length values)) value collided) mid t

-- the next one was refused
pub record Refusing (size : Size) (address count : ℕ) (s : Site) (on_data collided : Bool) (values : List ℕ) (value : ℕ) (t : Site) : Type 0 where
  pub first : Site
  pub each : BusLoadedEach size address s values first
  pub mid : Site
  pub refused : BusNotLoadedOne size (element_at size address (length values)) first mid
  pub ready : SiteReady mid
  pub below : length values < count
  pub at : AtBus (refused_bus on_data size (element_at size address (length values)) value collided) mid t

pub data Stands (size : Size) (address count : ℕ) (s : Site) (on_data collided : Bool) (values : List ℕ) (value : ℕ) (t : Site) : Type 0 where
  waiting : Waiting size address count s on_data collided values value t → Stands size address count s on_data collided values value t
  resting : (v : ℕ) → Resting size address count s on_data collided values v t → Stands size address count s on_data collided values value t
  refusing : Refusing size address count s on_data collided values value t → Stands size address count s on_data collided values value t

-- ---- deeds

-- the access was made behind these turns
abbrev made_site : List ℕ → Site → Site
made_site before mid = accessed (passed before mid).board.memory (passed before mid)

made_ready : (before : List ℕ) (mid : Site) → SiteReady mid → SiteReady (made_site before mid)
made_ready before mid ready =
    let z : Site = made_site before mid in
    bus_serving z.unit.bus (passed before mid).board.memory before mid z ready (ready_before before mid ready).memory
    (subst (λ (k : DebugModule). BusReady k.bus) (sym (unit_passed before mid)) ready.unit.bus) (at_start z)

made_access : (before : List ℕ) (mid : Site)
    → OneBusAccess unchanged (passed_turns before mid).harts (passed_turns (at_start (made_site before mid)).harts (made_site before mid)).harts mid
    (made_site before mid)
made_access before mid = let z : Site = made_site before mid in
    bus_one_access z.unit.bus (passed before mid).board.memory unchanged before mid z (at_start z) refl

stage_end : (size : Size) (address count : ℕ) (s : Site) (on_data collided : Bool) (values : List ℕ) (value : ℕ) (mid t : Site) (before behind : List ℕ)
    → BusLoadedEach size address s values mid → SiteReady mid → length values < count
    → t ≡ at_bus (done_behind before (reading on_data size (element_at size address (length values)) value collided) mid).unit
    (passed behind (done_site before (reading on_data size (element_at size address (length values)) value collided) mid))
    → RunEnd on_data size (element_at size address (length values)) value collided (passed before mid).board.memory
    → Stands size address count s on_data collided values value t
stage_end size address count s on_data collided values value mid t before behind each ready below is (was_read v held done) =
    let a : ℕ = element_at size address (length values) in
    resting v (record {
      first = mid;
      each = each;
      mid = made_site before mid;
      one = record {
        before = (passed_turns before mid).harts;
        behind = (passed_turns (at_start (made_site before mid)).harts (made_site before mid)).harts;
        value_is = ap (λ (b : Board). loaded b.memory a size) (sym (passed_turns before mid).board) ∙ held;
        access = made_access before mid;
      };
      small = loaded_small (passed before mid).board.memory a size v (ready_before before mid ready).memory held;
      ready = made_ready before mid ready;
      below = below;
      at = record {
        harts = behind;
        is = subst (λ (d : BusDone). t ≡ at_bus d.unit (passed behind (accessed d.memory (passed before mid)))) done is;
      };
    })
stage_end size address count s on_data collided values value mid t before behind each ready below is (not_read why held done) =
    let a : ℕ = element_at size address (length values) in
    refusing (record {
      first = mid;
      each = each;
      mid = made_site before mid;
      refused = record {
        before = (passed_turns before mid).harts;
        behind = (passed_turns (at_start (made_site before mid)).harts (made_site before mid)).harts;
        why = why;
        refused = ap (λ (b : Board). loaded b.memory a size) (sym (passed_turns before mid).board) ∙ held;
        access = made_access before mid;
      };
      ready = made_ready before mid ready;
      below = below;
      at = record {
        harts = behind;
        is = subst (λ (d : BusDone). t ≡ at_bus d.unit (passed behind (accessed d.memory (passed before mid)))) done is;
      };
    })

pub stage_stands : (size : Size) (address count : ℕ) (s : Site) (on_data collided : Bool) (values : List ℕ) (value : ℕ) (mid t : Site)
    → BusLoadedEach size address s values mid → SiteReady mid → length values < count
    → BusStage (reading on_data size (element_at size address (length values)) value collided) mid t
    → Stands size address count s on_data collided values value t
stage_stands size address count s on_data collided values value mid t each ready below (waits harts is) =
    waiting (record { mid = mid; each = each; ready = ready; below = below; at = record { harts = harts; is = is } })
stage_stands size address count s on_data collided values value mid t each ready below (made before behind is) =
    stage_end size address count s on_data collided values value mid t before behind each ready below is
    (run_end on_data size (element_at size address (length values)) value collided (passed before mid).board.memory)

pub waiting_ran : (size : Size) (address count : ℕ) (s : Site) (on_data collided : Bool) (values : List ℕ) (value : ℕ) (x : Site) (ds : List Deed)
    → Waiting size address count s on_data collided values value x → Stands size address count s on_data collided values value (ran ds x)
waiting_ran size address count s on_data collided values value x ds w =
    let p : BusUnit = reading on_data size (element_at size address (length values)) value collided in
    stage_stands size address count s on_data collided values value w.mid (ran ds x) w.each w.ready w.below
    (stage_ran p w.mid ds x (works_ready w.mid w.ready) (run_pends on_data size (element_at size address (length values)) value collided)
    (waits w.at.harts w.at.is))

pub resting_ran : (size : Size) (address count : ℕ) (s : Site) (on_data collided : Bool) (values : List ℕ) (value : ℕ) (x : Site) (ds : List Deed)
    → Resting size address count s on_data collided values value x → Resting size address count s on_data collided values value (ran ds x)
resting_ran size address count s on_data collided values value x ds r = record {
  first = r.first;
  each = r.each;
  mid = r.mid;
  one = r.one;
  small = r.small;
  ready = r.ready;
  below = r.below;
  at = at_ran (read_bus on_data size (element_at size address (length values)) value collided) r.mid x ds r.ready refl r.at;
}

pub refusing_ran : (size : Size) (address count : ℕ) (s : Site) (on_data collided : Bool) (values : List ℕ) (value : ℕ) (x : Site) (ds : List Deed)
    → Refusing size address count s on_data collided values value x → Refusing size address count s on_data collided values value (ran ds x)
refusing_ran size address count s on_data collided values value x ds r = record {
  first = r.first;
  each = r.each;
  mid = r.mid;
  refused = r.refused;
  ready = r.ready;
  below = r.below;
  at = at_ran (refused_bus on_data size (element_at size address (length values)) value collided) r.mid x ds r.ready refl r.at;
}
