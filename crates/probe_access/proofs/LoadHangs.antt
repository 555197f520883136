-- Where a block of loads stands at a told chip whose call broke off: elements were loaded, more than were handed out maybe, and the next one maybe too.
use Rattle.std.proofs.Common.{◌≡◌, ◌∙◌, ◌<◌, ◌++◌, ℕ, List, [], length, Option, Some, refl, ap}
use Rattle.rv_model.specs.declared.size.Size.{Size}
use Rattle.rv_model.specs.Board.{Hart}
use Rattle.debug_model.specs.Module.{Site}
use Rattle.debug_model.specs.SystemBus.{BusUnit}
use Rattle.debug_model.specs.Told.{Far, site_of}
use Rattle.probe_access.specs.Blocks.{LoadedEach, element_at}
use Rattle.probe_access.specs.Blocks.LoadedEach.{nothing as none_loaded}
use Rattle.probe_access.specs.Cuts.{LoadLeaves}
use Rattle.probe_access.proofs.Aside.{HartAt}
use Rattle.probe_access.proofs.CutAccess.{AnyScratch, HungInside, InsideAt}
use Rattle.probe_access.proofs.CutAccess.InsideAt.{not_yet}
use Rattle.probe_access.proofs.CutHung.{Hung, HungAt}
use Rattle.probe_access.proofs.ElementWords.{LoadsElement, scratched_advanced, x9_again}
use Rattle.probe_access.proofs.LoadPlaces.{on_element}
use Rattle.probe_access.proofs.NextCuts.{NextFits}
use Rattle.probe_access.proofs.NextSteps.{advanced}
use Rattle.probe_access.proofs.ScratchLemmas.{scratched}
use Rattle.probe_access.proofs.WordAccess.{LoadFaults}

-- ---- where it stands

-- elements were loaded, more than were handed out maybe, and the next one maybe too; or all were
pub data LoadHungAt (size : Size) (address count : ℕ) (values : List ℕ) (h : ℕ) (bus : BusUnit) (x : Hart) (s t : Site) : Type 0 where
  within : (more : List ℕ) (base : Site) → length (values ++ more) < count → LoadedEach size address s (values ++ more) base → HartAt h base x
      → base.unit.bus ≡ bus → InsideAt (AnyScratch x) LoadLeaves h bus base t → LoadHungAt size address count values h bus x s t
  behind : (more : List ℕ) (base : Site) → length (values ++ more) ≡ count → LoadedEach size address s (values ++ more) base → HartAt h base x
      → base.unit.bus ≡ bus → HungAt (AnyScratch x) h bus base t → LoadHungAt size address count values h bus x s t

pub record LoadHung (size : Size) (address count : ℕ) (values : List ℕ) (h : ℕ) (bus : BusUnit) (x : Hart) (s : Site) (told : Option Far) : Type 0 where
  pub far : Far
  pub is : told ≡ Some far
  pub hung : LoadHungAt size address count values h bus x s (site_of far)

pub hung_within : (size : Size) (address count h : ℕ) (values more : List ℕ) (bus : BusUnit) (x : Hart) (s base : Site) (told : Option Far)
    → length (values ++ more) < count → LoadedEach size address s (values ++ more) base → HartAt h base x → base.unit.bus ≡ bus
    → HungInside (AnyScratch x) LoadLeaves h bus base told → LoadHung size address count values h bus x s told
hung_within size address count h values more bus x s base told below each here bus_is p =
    record { far = p.far; is = p.is; hung = within more base below each here bus_is p.inside }

pub hung_behind : (size : Size) (address count h : ℕ) (values more : List ℕ) (bus : BusUnit) (x : Hart) (s base : Site) (told : Option Far)
    → length (values ++ more) ≡ count → LoadedEach size address s (values ++ more) base → HartAt h base x → base.unit.bus ≡ bus
    → Hung (AnyScratch x) h bus base told → LoadHung size address count values h bus x s told
hung_behind size address count h values more bus x s base told all each here bus_is p =
    record { far = p.far; is = p.is; hung = behind more base all each here bus_is p.hung }

pub hung_before : (size : Size) (address count h : ℕ) (bus : BusUnit) (x : Hart) (s : Site) (told : Option Far) → 0 < count → HartAt h s x
    → s.unit.bus ≡ bus → Hung (AnyScratch x) h bus s told → LoadHung size address count [] h bus x s told
hung_before size address count h bus x s told some here bus_is p =
    record { far = p.far; is = p.is; hung = within [] s some none_loaded here bus_is (not_yet p.hung) }

-- ---- one element

pub load_fits : (size : Size) (address done q : ℕ) (x : Hart) → length x.core.x ≡ 32
    → NextFits (LoadsElement size (element_at size address done) (on_element size address done q x)) (LoadFaults size (element_at size address done))
    (AnyScratch x) LoadLeaves size (on_element size address done q x)
load_fits size address done q x all =
    let a : ℕ = element_at size address done in
    record {
      first = record { p = a; q = q; is = refl };
      hart = λ m z n l. record { p = a; q = l.value; is = l.hart ∙ x9_again a q l.value x };
      raised = λ m z n l. record {
        p = _;
        q = l.value;
        is = ap (advanced size) (l.hart ∙ x9_again a q l.value x) ∙ scratched_advanced size a l.value x all;
      };
      memory = λ m z n l. l.memory;
      refused = λ m q. refl;
    }

pub any_scratched : (x z : Hart) (p q : ℕ) → z ≡ scratched p q x → AnyScratch x z
any_scratched x z p q is = record { p = p; q = q; is = is }
