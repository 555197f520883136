-- What an access by the system bus did at a told chip: one access among turns, and all but the bus as it was.
use Rattle.std.proofs.Common.{
  ◌≡◌,
  ◌∙◌,
  ◌++◌,
  ◌<◌,
  ◌^◌,
  ℕ,
  List,
  [],
  ◌∷◌,
  map,
  Bool,
  true,
  false,
  Some,
  None,
  refl,
  sym,
  ap,
  subst,
  append_assoc,
  arith,
  if◌then◌else◌,
}
use Rattle.rv_model.specs.declared.size.Size.{Size}
use Rattle.rv_model.specs.declared.size.Size.TheVariants.{B1, B2, B4, B8}
use Rattle.rv_model.specs.Board.{Board}
use Rattle.rv_model.specs.Memory.{Memory, is_aligned}
use Rattle.rv_model.specs.Size.{count_of}
use Rattle.debug_model.specs.Addresses.{sbcs_address, sbaddress0_address, sbaddress1_address, sbdata0_address, sbdata1_address}
use Rattle.debug_model.specs.declared.bus_access.BusAccess.TheVariants as access
use Rattle.debug_model.specs.declared.dmi_op.DmiOp.TheVariants.{Read}
use Rattle.debug_model.specs.declared.module_register.ModuleRegister.TheVariants.{Sbdata0, Sbdata1}
use Rattle.debug_model.specs.declared.point.Point.{Point}
use Rattle.debug_model.specs.declared.point.Point.TheVariants.{Access}
use Rattle.debug_model.specs.declared.sberror.Sberror.TheVariants.{Fine, Address}
use Rattle.debug_model.specs.Commands.{high_half, low_half}
use Rattle.debug_model.specs.Dmi.{value_of}
use Rattle.debug_model.specs.Module.{DebugModule, Site, operated, operation_result, read_by, register_at, result_by}
use Rattle.debug_model.specs.ModuleWords.{sbcs_word}
use Rattle.debug_model.specs.SystemBus.{BusDone, BusUnit, bus_done, sbcs_shown}
use Rattle.rv_model.specs.Widths.{MemoryReady}
use Rattle.debug_model.specs.Told.{BusReady, ModuleReady, SiteReady}
use Rattle.abstract_debugger.specs.Turns.{after_turns, turns}
use Rattle.probe_run.specs.Acts.Act.{Got, Put}
use Rattle.probe_run.specs.Opening.{clears_sberror}
use Rattle.probe_access.specs.Accesses.{OneBusAccess, with_memory}
use Rattle.probe_access.specs.BusRuns.{bus_busy, bus_poll, cut_to, read_started, setting, write_started}
use Rattle.probe_access.specs.RegisterAccess.{joined}
use Rattle.probe_access.proofs.AccessEnd.{ready_before}
use Rattle.probe_access.proofs.Along.{SiteActs}
use Rattle.probe_access.proofs.Aside.{accessed, passed}
use Rattle.probe_access.proofs.BusSites.{AtBus, BusOp, Works, at_bus, bus_op, bus_op_done, put_bus, works_passed}
use Rattle.probe_access.proofs.BusSites.Writes.{to_sbaddress0, to_sbaddress1, to_sbcs, to_sbdata0, to_sbdata1}
use Rattle.probe_access.proofs.BusStages.{BusMade, BusStage, bus_ended, polled_at, start_bus}
use Rattle.probe_access.proofs.BusUnits.{
  bus_at,
  cleared_bus,
  data_put,
  data_put_writes,
  done_as,
  high_put,
  low_put,
  low_put_reads,
  pends,
  set_bus,
  shown_by,
  upper_put,
}
use Rattle.probe_access.proofs.ReadyTurns.{BoardReady, Passed, board_ready_turns, passed_turns}
use Rattle.probe_access.proofs.Turns.{unit_passed}

-- ---- the start

pub works_ready : (s : Site) → SiteReady s → Works s
works_ready s r = record { active = r.unit.active; steps = r.unit.commands.idle }

pub at_start : (s : Site) → AtBus s.unit.bus s s
unfolding passed
at_start s = record { harts = []; is = refl }

pub addressed_at : (on_address : Bool) (size : Size) (address : ℕ) (s t : Site) → SiteReady s
    → (acts : SiteActs (Put sbcs_address (setting on_address size) ∷ Put sbaddress1_address (high_half address) ∷ []) s t)
    → AtBus (bus_at on_address size (upper_put s.unit.bus.address address) s.unit.bus.value Fine None) s t
addressed_at on_address size address s t ready p =
    let w : Works s = works_ready s ready in
    let first : AtBus (bus_at on_address size s.unit.bus.address s.unit.bus.value Fine None) s p.0 =
    put_bus sbcs_address (setting on_address size) _ s.unit.bus (bus_at on_address size s.unit.bus.address s.unit.bus.value Fine None) s s p.0
    (to_sbcs (setting on_address size)) w ready.unit.bus.idle
    (set_bus on_address size s.unit.bus ready.unit.bus) refl (at_start s) (p.0, p.1, refl) in
    put_bus sbaddress1_address (high_half address) _ (bus_at on_address size s.unit.bus.address s.unit.bus.value Fine None)
    (bus_at on_address size (upper_put s.unit.bus.address address) s.unit.bus.value Fine None) s p.0 t
    (to_sbaddress1 (high_half address)) w refl (high_put on_address size s.unit.bus.address s.unit.bus.value address) refl first p.2

pub read_begun : (size : Size) (address : ℕ) (s t : Site) → SiteReady s → is_aligned address size ≡ true → SiteActs (read_started size address) s t
    → BusStage (bus_at true size address s.unit.bus.value Fine (Some access.Read)) s t
read_begun size address s t ready aligned p =
    let at : AtBus (bus_at true size (upper_put s.unit.bus.address address) s.unit.bus.value Fine None) s p.2.0 =
    addressed_at true size address s p.2.0 ready (p.0, p.1, (p.2.0, p.2.1, refl)) in
    start_bus sbaddress0_address (low_half address) _ (bus_at true size (upper_put s.unit.bus.address address) s.unit.bus.value Fine None)
    (bus_at true size address s.unit.bus.value Fine (Some access.Read)) s p.2.0 t
    (to_sbaddress0 (low_half address)) (works_ready s ready) refl (low_put_reads size s.unit.bus.address s.unit.bus.value address aligned)
    (pends true size address s.unit.bus.value access.Read) at p.2.2

pub write_begun : (size : Size) (address value : ℕ) (s t : Site) → SiteReady s → is_aligned address size ≡ true
    → SiteActs (write_started size address value) s t → BusStage (bus_at false size address value Fine (Some access.Write)) s t
write_begun size address value s t ready aligned p =
    let w : Works s = works_ready s ready in
    let u : BusUnit = s.unit.bus in
    let at : AtBus (bus_at false size (upper_put u.address address) u.value Fine None) s p.2.0 =
    addressed_at false size address s p.2.0 ready (p.0, p.1, (p.2.0, p.2.1, refl)) in
    let q = p.2.2 in
    let low : AtBus (bus_at false size address u.value Fine None) s q.0 =
    put_bus sbaddress0_address (low_half address) _ (bus_at false size (upper_put u.address address) u.value Fine None)
    (bus_at false size address u.value Fine None) s p.2.0 q.0 (to_sbaddress0 (low_half address)) w refl
    (low_put size u.address u.value address) refl at (q.0, q.1, refl) in
    let high : AtBus (bus_at false size address (upper_put u.value value) Fine None) s q.2.0 =
    put_bus sbdata1_address (high_half value) _ (bus_at false size address u.value Fine None) (bus_at false size address (upper_put u.value value) Fine None) s
    q.0 q.2.0 (to_sbdata1 (high_half value)) w refl
    (data_put size address u.value value) refl low (q.2.0, q.2.1, refl) in
    start_bus sbdata0_address (low_half value) _ (bus_at false size address (upper_put u.value value) Fine None)
    (bus_at false size address value Fine (Some access.Write)) s q.2.0 t
    (to_sbdata0 (low_half value)) w refl (data_put_writes size address u.value value aligned) (pends false size address value access.Write) high q.2.2

-- ---- the end

abbrev pending_shown : Bool → Size → ℕ → ℕ → BusUnit
pending_shown on_address size address value = bus_at on_address size address value Fine (Some access.Read)

pub read_made : (size : Size) (address value last : ℕ) (words : List ℕ) (base s t : Site) → Works base
    → BusStage (bus_at true size address value Fine (Some access.Read)) base s → bus_busy last ≡ false
    → SiteActs (map bus_poll words ++ bus_poll last ∷ []) s t → BusMade (bus_at true size address value Fine (Some access.Read)) last base t
read_made size address value last words base s t w st idle acts =
    bus_ended (bus_at true size address value Fine (Some access.Read)) last base t w (pends true size address value access.Read)
    (shown_by true size true false).busy_is idle
    (polled_at (bus_at true size address value Fine (Some access.Read)) words last base s t w (pends true size address value access.Read) st acts)

pub write_made : (size : Size) (address value last : ℕ) (words : List ℕ) (base s t : Site) → Works base
    → BusStage (bus_at false size address value Fine (Some access.Write)) base s → bus_busy last ≡ false
    → SiteActs (map bus_poll words ++ bus_poll last ∷ []) s t → BusMade (bus_at false size address value Fine (Some access.Write)) last base t
write_made size address value last words base s t w st idle acts =
    bus_ended (bus_at false size address value Fine (Some access.Write)) last base t w (pends false size address value access.Write)
    (shown_by false size true false).busy_is idle
    (polled_at (bus_at false size address value Fine (Some access.Write)) words last base s t w (pends false size address value access.Write) st acts)

-- with what the access left of the bus and of memory
pub record MadeAs (u : BusUnit) (n : Memory) (before : List ℕ) (last : ℕ) (base t : Site) : Type 0 where
  pub after : AtBus u (accessed n (passed before base)) t
  pub shows : last ≡ value_of (sbcs_word (sbcs_shown u))

pub made_as : (p u : BusUnit) (n : Memory) (last : ℕ) (base t : Site) (m : BusMade p last base t)
    → bus_done (passed m.before base).board.memory p ≡ done_as u n → MadeAs u n m.before last base t
made_as p u n last base t m is =
    subst (λ (d : BusDone). MadeAs d.unit d.memory m.before last base t) is (record { after = m.after; shows = m.shows })

pub works_accessed : (n : Memory) (before : List ℕ) (base : Site) → Works base → Works (accessed n (passed before base))
works_accessed n before base w = let v : Works (passed before base) = works_passed before base w in record { active = v.active; steps = v.steps }

-- ---- an error is cleared

pub refused_cleared : (on_address : Bool) (size : Size) (address value : ℕ) (base s t : Site) → Works base
    → AtBus (bus_at on_address size address value Address None) base s → SiteActs (Put sbcs_address clears_sberror ∷ []) s t
    → AtBus (bus_at false B1 address value Fine None) base t
refused_cleared on_address size address value base s t w at p =
    put_bus sbcs_address clears_sberror _ (bus_at on_address size address value Address None) (bus_at false B1 address value Fine None) base s t
    (to_sbcs clears_sberror) w refl (cleared_bus on_address size address value) refl at p

-- ---- what was read is fetched

pub got0_at : (u : BusUnit) (z : Site) (on_address : Bool) (size : Size) (address v : ℕ) → z.unit.active ≡ true
    → operated (Read sbdata0_address) (at_bus (bus_at on_address size address v Fine None) z) ≡ at_bus (bus_at on_address size address v Fine None) z
unfolding register_at
got0_at u z on_address size address v active =
    let x : Site = at_bus (bus_at on_address size address v Fine None) z in ap (λ b. if b then read_by Sbdata0 x else x) active

pub got1_at : (z : Site) (on_address : Bool) (size : Size) (address v : ℕ) → z.unit.active ≡ true
    → operated (Read sbdata1_address) (at_bus (bus_at on_address size address v Fine None) z) ≡ at_bus (bus_at on_address size address v Fine None) z
unfolding register_at
got1_at z on_address size address v active =
    let x : Site = at_bus (bus_at on_address size address v Fine None) z in ap (λ b. if b then read_by Sbdata1 x else x) active

low_shown : (z : Site) (on_address : Bool) (size : Size) (address v : ℕ) → z.unit.active ≡ true
    → operation_result (Read sbdata0_address) (at_bus (bus_at on_address size address v Fine None) z) ≡ low_half v
unfolding register_at
low_shown z on_address size address v active = ap (λ b. result_by b Sbdata0 (at_bus (bus_at on_address size address v Fine None) z)) active

high_shown : (z : Site) (on_address : Bool) (size : Size) (address v : ℕ) → z.unit.active ≡ true
    → operation_result (Read sbdata1_address) (at_bus (bus_at on_address size address v Fine None) z) ≡ high_half v
unfolding register_at
high_shown z on_address size address v active = ap (λ b. result_by b Sbdata1 (at_bus (bus_at on_address size address v Fine None) z)) active

pub record FetchedAt (u : BusUnit) (v low high : ℕ) (base t : Site) : Type 0 where
  pub low_is : low ≡ value_of (low_half v)
  pub high_is : high ≡ value_of (high_half v)
  pub after : AtBus u base t

pub fetched_at : (on_address : Bool) (size : Size) (address v low high : ℕ) (base s t : Site) → Works base
    → AtBus (bus_at on_address size address v Fine None) base s → SiteActs (Got sbdata0_address low ∷ Got sbdata1_address high ∷ []) s t
    → FetchedAt (bus_at on_address size address v Fine None) v low high base t
fetched_at on_address size address v low high base s t w at p =
    let u : BusUnit = bus_at on_address size address v Fine None in
    let first : BusOp (Read sbdata0_address) p.1.result u base p.0 = bus_op (Read sbdata0_address) p.1.result u base s p.0 w refl at p.1.one in
    let mid : AtBus u base p.0 = bus_op_done (Read sbdata0_address) p.1.result u u base p.0 w refl first
    (got0_at u (passed first.harts base) on_address size address v (works_passed first.harts base w).active) in
    let second : BusOp (Read sbdata1_address) p.2.1.result u base p.2.0 = bus_op (Read sbdata1_address) p.2.1.result u base p.0 p.2.0 w refl mid p.2.1.one in
    let last : AtBus u base p.2.0 = bus_op_done (Read sbdata1_address) p.2.1.result u u base p.2.0 w refl second
    (got1_at (passed second.harts base) on_address size address v (works_passed second.harts base w).active) in
    record {
      low_is = p.1.value_is ∙ ap value_of (first.value_is
          ∙ low_shown (passed first.harts base) on_address size address v (works_passed first.harts base w).active);
      high_is = p.2.1.value_is ∙ ap value_of (second.value_is
          ∙ high_shown (passed second.harts base) on_address size address v (works_passed second.harts base w).active);
      after = subst (λ (x : Site). AtBus u base x) (sym p.2.2) last;
    }

pub value_whole : (size : Size) (v low high : ℕ) → v < 256 ^ count_of size → low ≡ value_of (low_half v) → high ≡ value_of (high_half v)
    → cut_to size (joined low high) ≡ v
value_whole B1 v low high small is_low is_high = omega arith
value_whole B2 v low high small is_low is_high = omega arith
value_whole B4 v low high small is_low is_high = omega arith
value_whole B8 v low high small is_low is_high = omega arith

-- ---- one access

abbrev pub unit_like : DebugModule → BusUnit → DebugModule
unit_like m u = record m { bus = u }

pub bus_one_access : (u : BusUnit) (n : Memory) (m : Memory → Memory) (before : List ℕ) (base t : Site) → (a : AtBus u (accessed n (passed before base)) t)
    → n ≡ m (passed before base).board.memory
    → OneBusAccess m (passed_turns before base).harts (passed_turns a.harts (accessed n (passed before base))).harts base t
bus_one_access u n m before base t a is =
    let z : Site = accessed n (passed before base) in
    let p : Passed base (passed before base) = passed_turns before base in
    let q : Passed z (passed a.harts z) = passed_turns a.harts z in
    record {
      board =
          ap (λ (x : Site). x.board) a.is ∙ q.board ∙ ap (λ (b : Board). after_turns q.harts (with_memory n b)) p.board
          ∙ ap (λ (o : Memory). after_turns q.harts (with_memory o (after_turns p.harts base.board))) (is ∙ ap (λ (b : Board). m b.memory) p.board);
      journal =
          ap (λ (x : Site). x.journal) a.is ∙ q.journal ∙ ap (λ (j : List Point). (j ++ Access ∷ []) ++ turns q.harts) p.journal
          ∙ append_assoc (base.journal ++ turns p.harts) (Access ∷ []) (turns q.harts);
      unit =
          ap (λ (x : Site). x.unit) a.is
          ∙ ap (λ (k : DebugModule). unit_like k u) (unit_passed a.harts z ∙ unit_passed before base)
          ∙ ap (unit_like base.unit) (sym (ap (λ (x : Site). x.unit.bus) a.is));
    }

module_ready : (m : DebugModule) (u : BusUnit) → ModuleReady m → BusReady u → ModuleReady (unit_like m u)
module_ready m u r b = record { active = r.active; commands = r.commands; bus = b }

pub bus_serving : (u : BusUnit) (n : Memory) (before : List ℕ) (base t : Site) → SiteReady base → MemoryReady n → BusReady u
    → AtBus u (accessed n (passed before base)) t → SiteReady t
bus_serving u n before base t ready memory bus a =
    let z : Site = accessed n (passed before base) in
    let q : Passed z (passed a.harts z) = passed_turns a.harts z in
    let b : BoardReady (passed before base).board = ready_before before base ready in
    let c : BoardReady (after_turns q.harts z.board) = board_ready_turns q.harts z.board (record { harts = b.harts; memory = memory }) in
    let d : BoardReady t.board = subst (λ (x : Board). BoardReady x) (sym (ap (λ (x : Site). x.board) a.is ∙ q.board)) c in
    record {
      unit = subst (λ (k : DebugModule). ModuleReady k)
          (sym (ap (λ (x : Site). x.unit) a.is ∙ ap (λ (k : DebugModule). unit_like k u) (unit_passed a.harts z ∙ unit_passed before base)))
          (module_ready base.unit u ready.unit bus);
      harts = d.harts;
      memory = d.memory;
    }
