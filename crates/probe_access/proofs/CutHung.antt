-- A site that a call which broke off leaves: one hart aside, and the others and memory as turns leave them.
use Rattle.std.proofs.Common.{◌≡◌, ℕ, List, Option, Some, refl}
use Rattle.rv_model.specs.Board.{Hart}
use Rattle.debug_model.specs.Module.{DebugModule, Site}
use Rattle.debug_model.specs.SystemBus.{BusUnit}
use Rattle.debug_model.specs.Told.{Far, site_of}
use Rattle.probe_access.proofs.Aside.{aside, passed}
use Rattle.probe_access.proofs.ReadyUnit.{Kept, unit_of}
use Rattle.probe_access.proofs.RegisterTold.{Stood}
use Rattle.probe_access.proofs.Steps.{Between, DoneAt}
use Rattle.probe_access.proofs.Steps.Between.{still, done}

-- ---- a site with hart h aside, whatever its commands are about

pub record HungAt (Y : Hart → Type 0) (h : ℕ) (bus : BusUnit) (base t : Site) : Type 0 where
  pub unit : DebugModule
  pub bus_is : unit.bus ≡ bus
  pub hart : Hart
  pub one : Y hart
  pub harts : List ℕ
  pub at : t ≡ aside unit h hart (passed harts base)

pub record Hung (Y : Hart → Type 0) (h : ℕ) (bus : BusUnit) (base : Site) (told : Option Far) : Type 0 where
  pub far : Far
  pub is : told ≡ Some far
  pub hung : HungAt Y h bus base (site_of far)

pub hung_map : (Y Z : Hart → Type 0) (h : ℕ) (bus : BusUnit) (base : Site) (told : Option Far) → ((z : Hart) → Y z → Z z) → Hung Y h bus base told
    → Hung Z h bus base told
hung_map Y Z h bus base told f p = record {
  far = p.far;
  is = p.is;
  hung = record { unit = p.hung.unit; bus_is = p.hung.bus_is; hart = p.hung.hart; one = f p.hung.hart p.hung.one; harts = p.hung.harts; at = p.hung.at };
}

pub hung_done : (Y : Hart → Type 0) (n : DebugModule) (h : ℕ) (bus : BusUnit) (y : Hart) (base t : Site) → n.bus ≡ bus → Y y → DoneAt n h y base t
    → HungAt Y h bus base t
hung_done Y n h bus y base t bus_is one d = record { unit = n; bus_is = bus_is; hart = y; one = one; harts = d.harts; at = d.is }

pub hung_stood : (Y : Hart → Type 0) (h : ℕ) (bus : BusUnit) (y : Hart) (base : Site) (w : Hart) (k : Kept) (t : Site) → Y y → Stood h bus y base w k t
    → HungAt Y h bus base t
hung_stood Y h bus y base w k t one st = hung_done Y (unit_of k h bus) h bus y base t refl one st.at

-- a step that is still to come, or was done
pub between_hung : (Y : Hart → Type 0) (m n : DebugModule) (h : ℕ) (bus : BusUnit) (y z : Hart) (base t : Site) → m.bus ≡ bus → n.bus ≡ bus → Y y → Y z
    → Between m n h y z base t → HungAt Y h bus base t
between_hung Y m n h bus y z base t bm bn first second (still harts is) = record { unit = m; bus_is = bm; hart = y; one = first; harts = harts; at = is }
between_hung Y m n h bus y z base t bm bn first second (done harts is) = record { unit = n; bus_is = bn; hart = z; one = second; harts = harts; at = is }
