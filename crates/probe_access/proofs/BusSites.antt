-- A site with the system bus as given, and what turns, deeds and operations make of it.
use Rattle.std.proofs.Common.{◌≡◌, ◌∙◌, ℕ, List, [], ◌∷◌, ◌++◌, true, Option, Some, None, slice_get, refl, sym, ap, subst, if◌then◌else◌}
use Rattle.rv_model.specs.Board.{Hart}
use Rattle.debug_model.specs.Addresses.{sbcs_address, sbaddress0_address, sbaddress1_address, sbdata0_address, sbdata1_address}
use Rattle.debug_model.specs.declared.dmi_op.DmiOp.{DmiOp}
use Rattle.debug_model.specs.declared.dmi_op.DmiOp.TheVariants.{Write}
use Rattle.debug_model.specs.Course.{OneOperation}
use Rattle.debug_model.specs.Deeds.{Deed, ran, turned, turned_by}
use Rattle.debug_model.specs.Module.{DebugModule, Site, operated, operation_result, register_at, with_bus}
use Rattle.debug_model.specs.SystemBus.{BusUnit, sbaddress0_written, sbaddress1_written, sbcs_written, sbdata0_written, sbdata1_written}
use Rattle.probe_run.specs.Acts.Act.{Put}
use Rattle.probe_access.proofs.Along.{SiteActs}
use Rattle.probe_access.proofs.Aside.{harts_of, passed}
use Rattle.probe_access.proofs.Quiet.{quiet_ran}
use Rattle.probe_access.proofs.Turns.{passed-append, unit_passed}

abbrev pub at_bus : BusUnit → Site → Site
at_bus u s = record {
  unit = record s.unit { bus = u };
  board = s.board;
  journal =
      s.journal;
}

-- ---- turns

at_bus_by : (u : BusUnit) (g : ℕ) (s : Site) (o : Option Hart) → turned_by o g (at_bus u s) ≡ at_bus u (turned_by o g s)
at_bus_by u g s None = refl
at_bus_by u g s (Some x) = refl

pub at_bus_turned : (u : BusUnit) (g : ℕ) (s : Site) → turned g (at_bus u s) ≡ at_bus u (turned g s)
at_bus_turned u g s = at_bus_by u g s (slice_get s.board.harts g)

pub at_bus_passed : (u : BusUnit) (harts : List ℕ) (s : Site) → passed harts (at_bus u s) ≡ at_bus u (passed harts s)
unfolding passed
at_bus_passed u [] s = refl
at_bus_passed u (g ∷ harts) s = ap (passed harts) (at_bus_turned u g s) ∙ at_bus_passed u harts (turned g s)

-- ---- a module that works, with no command under way

pub record Works (s : Site) : Type 0 where
  pub active : s.unit.active ≡ true
  pub steps : s.unit.commands.steps ≡ []

pub works_passed : (harts : List ℕ) (s : Site) → Works s → Works (passed harts s)
works_passed harts s w = record {
  active = ap (λ (m : DebugModule). m.active) (unit_passed harts s) ∙ w.active;
  steps = ap (λ (m : DebugModule). m.commands.steps) (unit_passed harts s) ∙ w.steps;
}

-- since a base turns alone, and the bus is so
pub record AtBus (u : BusUnit) (base t : Site) : Type 0 where
  pub harts : List ℕ
  pub is : t ≡ at_bus u (passed harts base)

pub bus_ran : (u : BusUnit) (base : Site) (ds : List Deed) (s : Site) (harts : List ℕ) → Works base → u.pending ≡ None → s ≡ at_bus u (passed harts base)
    → ran ds s ≡ at_bus u (passed (harts ++ harts_of ds) base)
bus_ran u base ds s harts w none is =
    ap (ran ds) is
    ∙ quiet_ran ds (at_bus u (passed harts base)) (works_passed harts base w).steps none
    ∙ at_bus_passed u (harts_of ds) (passed harts base)
    ∙ ap (at_bus u) (sym (passed-append harts (harts_of ds) base))

-- ---- one operation there

pub record BusOp (op : DmiOp) (value : ℕ) (u : BusUnit) (base t : Site) : Type 0 where
  pub harts : List ℕ
  pub behind : List Deed
  pub is : t ≡ ran behind (operated op (at_bus u (passed harts base)))
  pub value_is : value ≡ operation_result op (at_bus u (passed harts base))

pub bus_op : (op : DmiOp) (value : ℕ) (u : BusUnit) (base s t : Site) → Works base → u.pending ≡ None → AtBus u base s → OneOperation op value s t
    → BusOp op value u base t
bus_op op value u base s t w none a o =
    let at : ran o.before s ≡ at_bus u (passed (a.harts ++ harts_of o.before) base) = bus_ran u base o.before s a.harts w none a.is in
    record {
      harts = a.harts ++ harts_of o.before;
      behind = o.behind;
      is = o.is ∙ ap (λ (z : Site). ran o.behind (operated op z)) at;
      value_is = o.result_is ∙ ap (operation_result op) at;
    }

-- one that leaves the bus so, and nothing under way
pub bus_op_done : (op : DmiOp) (value : ℕ) (u v : BusUnit) (base t : Site) → Works base → v.pending ≡ None → (o : BusOp op value u base t)
    → operated op (at_bus u (passed o.harts base)) ≡ at_bus v (passed o.harts base) → AtBus v base t
bus_op_done op value u v base t w none o changes =
    record { harts = o.harts ++ harts_of o.behind; is = o.is ∙ bus_ran v base o.behind (operated op (at_bus u (passed o.harts base))) o.harts w none changes }

-- ---- writes of its registers

write_of : (f : BusUnit → BusUnit) (u : BusUnit) (z : Site) → z.unit.active ≡ true
    → (if z.unit.active then with_bus f (at_bus u z) else at_bus u z) ≡ at_bus (f u) z
write_of f u z active = ap (λ b. if b then at_bus (f u) z else at_bus u z) active

-- what a write of this address makes of the bus
pub data Writes : ℕ → ℕ → (BusUnit → BusUnit) → Type 0 where
  to_sbcs : (v : ℕ) → Writes sbcs_address v (sbcs_written v)
  to_sbaddress0 : (v : ℕ) → Writes sbaddress0_address v (sbaddress0_written v)
  to_sbaddress1 : (v : ℕ) → Writes sbaddress1_address v (sbaddress1_written v)
  to_sbdata0 : (v : ℕ) → Writes sbdata0_address v (sbdata0_written v)
  to_sbdata1 : (v : ℕ) → Writes sbdata1_address v (sbdata1_written v)

pub written_bus : (a v : ℕ) (f : BusUnit → BusUnit) (u : BusUnit) (z : Site) → Writes a v f → z.unit.active ≡ true
    → operated (Write a v) (at_bus u z) ≡ at_bus (f u) z
unfolding register_at
written_bus _ _ _ u z (to_sbcs v) active = write_of (sbcs_written v) u z active
written_bus _ _ _ u z (to_sbaddress0 v) active = write_of (sbaddress0_written v) u z active
written_bus _ _ _ u z (to_sbaddress1 v) active = write_of (sbaddress1_written v) u z active
written_bus _ _ _ u z (to_sbdata0 v) active = write_of (sbdata0_written v) u z active
written_bus _ _ _ u z (to_sbdata1 v) active = write_of (sbdata1_written v) u z active

-- one that starts no access
pub put_bus : (a v : ℕ) (f : BusUnit → BusUnit) (u w : BusUnit) (base s t : Site) → Writes a v f → Works base → u.pending ≡ None → f u ≡ w → w.pending ≡ None
    → AtBus u base s → SiteActs (Put a v ∷ []) s t → AtBus w base t
put_bus a v f u w base s t writes works none makes idle at p =
    let o : BusOp (Write a v) v u base p.0 = bus_op (Write a v) v u base s p.0 works none at p.1 in
    subst (λ (x : Site). AtBus w base x) (sym p.2)
    (bus_op_done (Write a v) v u w base p.0 works idle o
    (written_bus a v f u (passed o.harts base) writes (works_passed o.harts base works).active
    ∙ ap (λ (x : BusUnit). at_bus x (passed o.harts base)) makes))
