-- Where an access by the system bus broke off among the writes that start it.
use Rattle.std.proofs.Common.{◌≡◌, ◌++◌, ℕ, List, [], ◌∷◌, Bool, true, false, Option, Some, None, refl, sym, ap, subst}
use Rattle.rv_model.specs.declared.size.Size.{Size}
use Rattle.rv_model.specs.Memory.{Memory, is_aligned}
use Rattle.debug_model.specs.Addresses.{sbcs_address, sbaddress0_address, sbaddress1_address, sbdata0_address, sbdata1_address}
use Rattle.debug_model.specs.declared.bus_access.BusAccess.TheVariants as access
use Rattle.debug_model.specs.declared.dmi.DmiFault.{DmiFault}
use Rattle.debug_model.specs.declared.dmi_op.DmiOp.TheVariants.{Write}
use Rattle.debug_model.specs.declared.sberror.Sberror.TheVariants.{Fine}
use Rattle.debug_model.specs.Commands.{high_half, low_half}
use Rattle.debug_model.specs.Dmi.{DmiComing}
use Rattle.debug_model.specs.Module.{Site}
use Rattle.debug_model.specs.SystemBus.{BusDone, BusUnit}
use Rattle.debug_model.specs.Told.{Far, SiteReady, site_of}
use Rattle.probe_run.specs.Acts.{Act, Attempt, Broke, tells}
use Rattle.probe_run.specs.Acts.Act.{Put}
use Rattle.probe_run.specs.Acts.Attempt.{Operation}
use Rattle.probe_access.specs.BusRuns.{Starting, addressed, read_started, setting, write_started}
use Rattle.probe_access.specs.BusRuns.Starting.{next}
use Rattle.probe_access.specs.Cuts.{LoadLeaves, StoreLeaves}
use Rattle.probe_access.proofs.Along.{SiteActs}
use Rattle.probe_access.proofs.BusClauses.{reading, writing}
use Rattle.probe_access.proofs.BusCuts.{BusLeft, Leaves as LeavesMemory, Nth, nth_of, start_left, write_left}
use Rattle.probe_access.proofs.BusCuts.Nth.{here, there}
use Rattle.probe_access.proofs.BusSites.{AtBus, put_bus}
use Rattle.probe_access.proofs.BusSites.Writes.{to_sbaddress0, to_sbaddress1, to_sbcs, to_sbdata0, to_sbdata1}
use Rattle.probe_access.proofs.BusTold.{addressed_at, at_start, works_ready}
use Rattle.probe_access.proofs.BusUnits.{bus_at, data_put, data_put_writes, high_put, low_put, low_put_reads, made_is, pends, set_bus, upper_put}
use Rattle.probe_access.proofs.CutSites.{CutAt, cut_at}

-- ---- what accesses leave of memory

pub read_leaves : (size : Size) (address value : ℕ) → LeavesMemory LoadLeaves (bus_at true size address value Fine (Some access.Read))
read_leaves size address value = record { each = λ m. ap (λ (d : BusDone). d.memory) (made_is true size address value access.Read m) }

pub write_leaves : (size : Size) (address value : ℕ) → LeavesMemory (StoreLeaves size address value) (bus_at false size address value Fine (Some access.Write))
write_leaves size address value = record { each = λ m. ap (λ (d : BusDone). d.memory) (made_is false size address value access.Write m) }

-- ---- the writes in front

set_at : (on_address : Bool) (size : Size) (s t : Site) → SiteReady s → SiteActs (Put sbcs_address (setting on_address size) ∷ []) s t
    → AtBus (bus_at on_address size s.unit.bus.address s.unit.bus.value Fine None) s t
set_at on_address size s t ready p =
    put_bus sbcs_address (setting on_address size) _ s.unit.bus (bus_at on_address size s.unit.bus.address s.unit.bus.value Fine None) s s t
    (to_sbcs (setting on_address size)) (works_ready s ready) ready.unit.bus.idle
    (set_bus on_address size s.unit.bus ready.unit.bus) refl (at_start s) p

low_at : (size : Size) (address : ℕ) (s t : Site) → SiteReady s → SiteActs (addressed (setting false size) address) s t
    → AtBus (bus_at false size address s.unit.bus.value Fine None) s t
low_at size address s t ready p =
    let u : BusUnit = s.unit.bus in
    let at : AtBus (bus_at false size (upper_put u.address address) u.value Fine None) s p.2.0 =
    addressed_at false size address s p.2.0 ready (p.0, p.1, (p.2.0, p.2.1, refl)) in
    put_bus sbaddress0_address (low_half address) _ (bus_at false size (upper_put u.address address) u.value Fine None)
    (bus_at false size address u.value Fine None) s p.2.0 t (to_sbaddress0 (low_half address)) (works_ready s ready) refl
    (low_put size u.address u.value address) refl at p.2.2

high_at : (size : Size) (address value : ℕ) (s t : Site) → SiteReady s
    → SiteActs (addressed (setting false size) address ++ Put sbdata1_address (high_half value) ∷ []) s t
    → AtBus (bus_at false size address (upper_put s.unit.bus.value value) Fine None) s t
high_at size address value s t ready p =
    let u : BusUnit = s.unit.bus in
    let q = p.2.2 in
    put_bus sbdata1_address (high_half value) _ (bus_at false size address u.value Fine None) (bus_at false size address (upper_put u.value value) Fine None) s
    q.0 t (to_sbdata1 (high_half value)) (works_ready s ready) refl
    (data_put size address u.value value) refl (low_at size address s q.0 ready (p.0, p.1, (p.2.0, p.2.1, (q.0, q.1, refl)))) q.2

-- ---- cut among them

pub record BusCut (N : Memory → Memory → Type 0) (base : Site) (told : Option Far) : Type 0 where
  pub far : Far
  pub is : told ≡ Some far
  pub left : BusLeft N base (site_of far)

pub no_more : (front : List Act) (y : Act) → Nth [] front y → ⊥
no_more front y n = elim n [ ]

read_start_at : (size : Size) (address old_count new_count : ℕ) (f : Far) (coming : Option DmiComing) (told : Option Far) (why : DmiFault) (front : List Act)
    (a v : ℕ) → SiteReady (site_of f) → is_aligned address size ≡ true
    → Nth (read_started size address) front (Put a v) → Broke front (Operation (Write a v)) old_count new_count (tells (Some f) coming) told why
    → BusCut LoadLeaves (site_of f) told
read_start_at size address old_count new_count f coming told why _ _ _ ready aligned (here _ _) b =
    let s : Site = site_of f in
    let c : CutAt [] (Write sbcs_address (setting true size)) f told =
    cut_at [] (Write sbcs_address (setting true size)) old_count new_count (tells (Some f) coming) told why f refl b in
    record {
      far = c.far;
      is = c.is;
      left = write_left LoadLeaves sbcs_address (setting true size) _ s.unit.bus (bus_at true size s.unit.bus.address s.unit.bus.value Fine None) s c.mid
          (site_of c.far) (to_sbcs (setting true size)) (works_ready s ready) ready.unit.bus.idle
          (set_bus true size s.unit.bus ready.unit.bus) refl (subst (λ (x : Site). AtBus s.unit.bus s x) (sym c.acts_are) (at_start s)) c.cut;
    }
read_start_at size address old_count new_count f coming told why _ _ _ ready aligned (there _ _ _ _ (here _ _)) b =
    let s : Site = site_of f in
    let u : BusUnit = s.unit.bus in
    let c : CutAt (Put sbcs_address (setting true size) ∷ []) (Write sbaddress1_address (high_half address)) f told =
    cut_at (Put sbcs_address (setting true size) ∷ []) (Write sbaddress1_address (high_half address)) old_count new_count (tells (Some f) coming) told why f
    refl b in
    record {
      far = c.far;
      is = c.is;
      left = write_left LoadLeaves sbaddress1_address (high_half address) _ (bus_at true size u.address u.value Fine None)
          (bus_at true size (upper_put u.address address) u.value Fine None) s c.mid (site_of c.far) (to_sbaddress1 (high_half address))
          (works_ready s ready) refl (high_put true size u.address u.value address) refl (set_at true size s c.mid ready c.acts_are) c.cut;
    }
read_start_at size address old_count new_count f coming told why _ _ _ ready aligned (there _ _ _ _ (there _ _ _ _ (here _ _))) b =
    let s : Site = site_of f in
    let u : BusUnit = s.unit.bus in
    let front : List Act = Put sbcs_address (setting true size) ∷ Put sbaddress1_address (high_half address) ∷ [] in
    let c : CutAt front (Write sbaddress0_address (low_half address)) f told =
    cut_at front (Write sbaddress0_address (low_half address)) old_count new_count (tells (Some f) coming) told why f refl b in
    record {
      far = c.far;
      is = c.is;
      left = start_left LoadLeaves sbaddress0_address (low_half address) _ (bus_at true size (upper_put u.address address) u.value Fine None)
          (reading size address s) s c.mid (site_of c.far) (to_sbaddress0 (low_half address)) (works_ready s ready) refl
          (low_put_reads size u.address u.value address aligned) (pends true size address u.value access.Read) (read_leaves size address u.value)
          (addressed_at true size address s c.mid ready c.acts_are) c.cut;
    }
read_start_at size address old_count new_count f coming told why _ a v ready aligned (there _ _ _ _ (there _ _ _ _ (there _ _ front _ n))) b =
    absurd (no_more front (Put a v) n)

write_start_at : (size : Size) (address value old_count new_count : ℕ) (f : Far) (coming : Option DmiComing) (told : Option Far) (why : DmiFault)
    (front : List Act) (a v : ℕ) → SiteReady (site_of f) → is_aligned address size ≡ true
    → Nth (write_started size address value) front (Put a v) → Broke front (Operation (Write a v)) old_count new_count (tells (Some f) coming) told why
    → BusCut (StoreLeaves size address value) (site_of f) told
write_start_at size address value old_count new_count f coming told why _ _ _ ready aligned (here _ _) b =
    let s : Site = site_of f in
    let c : CutAt [] (Write sbcs_address (setting false size)) f told =
    cut_at [] (Write sbcs_address (setting false size)) old_count new_count (tells (Some f) coming) told why f refl b in
    record {
      far = c.far;
      is = c.is;
      left = write_left (StoreLeaves size address value) sbcs_address (setting false size) _ s.unit.bus
          (bus_at false size s.unit.bus.address s.unit.bus.value Fine None) s c.mid (site_of c.far) (to_sbcs (setting false size)) (works_ready s ready)
          ready.unit.bus.idle (set_bus false size s.unit.bus ready.unit.bus) refl (subst (λ (x : Site). AtBus s.unit.bus s x) (sym c.acts_are) (at_start s))
          c.cut;
    }
write_start_at size address value old_count new_count f coming told why _ _ _ ready aligned (there _ _ _ _ (here _ _)) b =
    let s : Site = site_of f in
    let u : BusUnit = s.unit.bus in
    let c : CutAt (Put sbcs_address (setting false size) ∷ []) (Write sbaddress1_address (high_half address)) f told =
    cut_at (Put sbcs_address (setting false size) ∷ []) (Write sbaddress1_address (high_half address)) old_count new_count (tells (Some f) coming) told why f
    refl b in
    record {
      far = c.far;
      is = c.is;
      left = write_left (StoreLeaves size address value) sbaddress1_address (high_half address) _ (bus_at false size u.address u.value Fine None)
          (bus_at false size (upper_put u.address address) u.value Fine None) s c.mid (site_of c.far)
          (to_sbaddress1 (high_half address)) (works_ready s ready) refl (high_put false size u.address u.value address) refl
          (set_at false size s c.mid ready c.acts_are) c.cut;
    }
write_start_at size address value old_count new_count f coming told why _ _ _ ready aligned (there _ _ _ _ (there _ _ _ _ (here _ _))) b =
    let s : Site = site_of f in
    let u : BusUnit = s.unit.bus in
    let front : List Act = Put sbcs_address (setting false size) ∷ Put sbaddress1_address (high_half address) ∷ [] in
    let c : CutAt front (Write sbaddress0_address (low_half address)) f told =
    cut_at front (Write sbaddress0_address (low_half address)) old_count new_count (tells (Some f) coming) told why f refl b in
    record {
      far = c.far;
      is = c.is;
      left = write_left (StoreLeaves size address value) sbaddress0_address (low_half address) _
          (bus_at false size (upper_put u.address address) u.value Fine None) (bus_at false size address u.value Fine None) s c.mid (site_of c.far)
          (to_sbaddress0 (low_half address)) (works_ready s ready) refl (low_put size u.address u.value address) refl
          (addressed_at false size address s c.mid ready c.acts_are) c.cut;
    }
write_start_at size address value old_count new_count f coming told why _ _ _ ready aligned (there _ _ _ _ (there _ _ _ _ (there _ _ _ _ (here _ _)))) b =
    let s : Site = site_of f in
    let u : BusUnit = s.unit.bus in
    let c : CutAt (addressed (setting false size) address) (Write sbdata1_address (high_half value)) f told =
    cut_at (addressed (setting false size) address) (Write sbdata1_address (high_half value)) old_count new_count (tells (Some f) coming) told why f refl b in
    record {
      far = c.far;
      is = c.is;
      left = write_left (StoreLeaves size address value) sbdata1_address (high_half value) _ (bus_at false size address u.value Fine None)
          (bus_at false size address (upper_put u.value value) Fine None) s c.mid (site_of c.far)
          (to_sbdata1 (high_half value)) (works_ready s ready) refl (data_put size address u.value value) refl (low_at size address s c.mid ready c.acts_are)
          c.cut;
    }
write_start_at size address value old_count new_count f coming told why _ _ _ ready aligned
    (there _ _ _ _ (there _ _ _ _ (there _ _ _ _ (there _ _ _ _ (here _ _))))) b =
    let s : Site = site_of f in
    let u : BusUnit = s.unit.bus in
    let front : List Act = addressed (setting false size) address ++ Put sbdata1_address (high_half value) ∷ [] in
    let c : CutAt front (Write sbdata0_address (low_half value)) f told =
    cut_at front (Write sbdata0_address (low_half value)) old_count new_count (tells (Some f) coming) told why f refl b in
    record {
      far = c.far;
      is = c.is;
      left = start_left (StoreLeaves size address value) sbdata0_address (low_half value) _ (bus_at false size address (upper_put u.value value) Fine None)
          (writing size address value) s c.mid (site_of c.far) (to_sbdata0 (low_half value))
          (works_ready s ready) refl (data_put_writes size address u.value value aligned) (pends false size address value access.Write)
          (write_leaves size address value) (high_at size address value s c.mid ready c.acts_are) c.cut;
    }
write_start_at size address value old_count new_count f coming told why _ a v ready aligned
    (there _ _ _ _ (there _ _ _ _ (there _ _ _ _ (there _ _ _ _ (there _ _ front _ n))))) b = absurd (no_more front (Put a v) n)

pub read_start_cut : (size : Size) (address old_count new_count : ℕ) (f : Far) (coming : Option DmiComing) (told : Option Far) (why : DmiFault)
    (acts : List Act) (failed : Attempt) → SiteReady (site_of f) → is_aligned address size ≡ true
    → Starting (read_started size address) acts failed → Broke acts failed old_count new_count (tells (Some f) coming) told why
    → BusCut LoadLeaves (site_of f) told
read_start_cut size address old_count new_count f coming told why _ _ ready aligned (next front rest a v is) b =
    read_start_at size address old_count new_count f coming told why front a v ready aligned (nth_of (read_started size address) front rest (Put a v) is) b

pub write_start_cut : (size : Size) (address value old_count new_count : ℕ) (f : Far) (coming : Option DmiComing) (told : Option Far) (why : DmiFault)
    (acts : List Act) (failed : Attempt) → SiteReady (site_of f) → is_aligned address size ≡ true
    → Starting (write_started size address value) acts failed → Broke acts failed old_count new_count (tells (Some f) coming) told why
    → BusCut (StoreLeaves size address value) (site_of f) told
write_start_cut size address value old_count new_count f coming told why _ _ ready aligned (next front rest a v is) b =
    write_start_at size address value old_count new_count f coming told why front a v ready aligned
    (nth_of (write_started size address value) front rest (Put a v) is) b
