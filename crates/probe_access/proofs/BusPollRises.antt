-- Under a fair schedule the first poll of sbcs shows the end of an access: in front of it each part of the chip got on.
use Rattle.std.proofs.Common.{◌≡◌, ◌∙◌, ◌⊎◌, ℕ, zero, suc, ◌+◌, ◌*◌, ◌%◌, ◌^◌, ◌<◌, ◌≤◌, Bool, true, false, cond, if◌then◌else◌, List, [], ◌∷◌, Result, Ok, Err}
use Rattle.std.proofs.Common.{Option, Some, None, IfSome, Contains, is_some, inl, inr, refl, sym, ap, subst, arith, slice_get}
use Rattle.std.proofs.lemmas.Bool.{false≢true}
use Rattle.std.proofs.lemmas.Option.{same_Some}
use Rattle.chip_laws.proofs.ModuleLemmas.{plain_reads}
use Rattle.debug_model.proofs.RiseLemmas.{within_then}
use Rattle.rv_model.specs.declared.mem_fault.MemFault.{MemFault}
use Rattle.rv_model.specs.declared.size.Size.{Size}
use Rattle.rv_model.specs.Board.{Hart}
use Rattle.rv_model.specs.Fields.{bit, bit_value}
use Rattle.rv_model.specs.Memory.{Memory, loaded, store_answer}
use Rattle.debug_model.specs.Addresses.{sbcs_address}
use Rattle.debug_model.specs.declared.dmi_op.DmiOp.TheVariants.{Read}
use Rattle.debug_model.specs.declared.micro.Micro.{Micro}
use Rattle.debug_model.specs.declared.module_register.ModuleRegister.TheVariants.{Sbcs}
use Rattle.debug_model.specs.declared.sberror.Sberror.{Sberror}
use Rattle.debug_model.specs.declared.sberror.Sberror.TheVariants as sberror
use Rattle.debug_model.specs.Chip.{Chip}
use Rattle.debug_model.specs.Deeds.{Deed, after_deed, ran, stepped_by, turned_by}
use Rattle.debug_model.specs.Deeds.Deed.{Turned, CommandStepped, BusStepped}
use Rattle.debug_model.specs.Dmi.{Operated, value_of}
use Rattle.debug_model.specs.Kept.{DmiSeen}
use Rattle.debug_model.specs.Module.{Site, operation_result, register_at, result_by, selected_hart}
use Rattle.debug_model.specs.ModuleWords.{sbcs_word, sberror_number}
use Rattle.debug_model.specs.Pacing.{Paced, PacedAlong}
use Rattle.debug_model.specs.Rises.{PacedWithin, Within}
use Rattle.debug_model.specs.Scan.{WhereTold}
use Rattle.debug_model.specs.declared.bus_access.BusAccess.{BusAccess}
use Rattle.debug_model.specs.declared.bus_access.BusAccess.TheVariants as access
use Rattle.debug_model.specs.SystemBus.{BusUnit, access_size, bus_done, bus_done_by, bus_made, bus_read_by, bus_wrote_by, grown, sbcs_shown}
use Rattle.debug_model.specs.Told.{Far, chip_of, site_of}
use Rattle.probe_access.specs.BusRuns.{bus_busy}
use Rattle.probe_access.proofs.PollRises.{AtMost, within_few}
use Rattle.probe_access.proofs.WordLemmas.{bit_clear}

-- ---- no access is under way behind one that was made

abbrev pending_in : Site → Option BusAccess
pending_in s = s.unit.bus.pending

grown_by : (grows : Bool) (size : Size) (u : BusUnit) (a : ℕ) → u.pending ≡ None → (if grows then record u { address = a } else u).pending ≡ None
grown_by true size u a e = e
grown_by false size u a e = e

read_done : (r : Result ℕ MemFault) (size : Size) (u : BusUnit) → (bus_read_by r size u).pending ≡ None
read_done (Ok v) size u = grown_by u.autoincrement size _ _ refl
read_done (Err fault) size u = refl

wrote_done : (r : Result (Unit {0}) MemFault) (size : Size) (u : BusUnit) → (bus_wrote_by r size u).pending ≡ None
wrote_done (Ok done) size u = grown_by u.autoincrement size _ _ refl
wrote_done (Err fault) size u = refl

made_done : (what : BusAccess) (size : Size) (m : Memory) (u : BusUnit) → (bus_made what size m u).unit.pending ≡ None
made_done access.Read size m u = read_done (loaded m u.address size) size u
made_done access.Write size m u = wrote_done (store_answer m u.address size) size u

done_by : (pending : Option BusAccess) (size : Option Size) (m : Memory) (u : BusUnit) → u.pending ≡ pending → (bus_done_by pending size m u).unit.pending ≡ None
done_by (Some what) (Some size) m u e = made_done what size m u
done_by (Some what) None m u e = refl
done_by None size m u e = e

bus_then : (s : Site) → pending_in (after_deed BusStepped s) ≡ None
unfolding after_deed bus_done
bus_then s = done_by (pending_in s) (access_size s.unit.bus.access) s.board.memory s.unit.bus refl

turned_keeps : (hart : Option Hart) (h : ℕ) (s : Site) → pending_in (turned_by hart h s) ≡ pending_in s
turned_keeps (Some hart) h s = refl
turned_keeps None h s = refl

stepped_keeps : (steps : List Micro) (hart : Option Hart) (s : Site) → pending_in (stepped_by steps hart s) ≡ pending_in s
stepped_keeps [] hart s = refl
stepped_keeps (m ∷ ms) (Some hart) s = refl
stepped_keeps (m ∷ ms) None s = refl

deed_keeps : (d : Deed) (s : Site) → pending_in s ≡ None → pending_in (after_deed d s) ≡ None
unfolding after_deed
deed_keeps (Turned h) s e = turned_keeps (slice_get s.board.harts h) h s ∙ e
deed_keeps CommandStepped s e = stepped_keeps s.unit.commands.steps (selected_hart s) s ∙ e
deed_keeps BusStepped s e = bus_then s

ran_keeps : (ds : List Deed) (s : Site) → pending_in s ≡ None → pending_in (ran ds s) ≡ None
unfolding ran
ran_keeps [] s e = e
ran_keeps (d ∷ ds) s e = ran_keeps ds (after_deed d s) (deed_keeps d s e)

ran_done : (ds : List Deed) (s : Site) → Contains ds BusStepped → pending_in (ran ds s) ≡ None
unfolding ran
ran_done [] s (n, below, is) = absurd (omega arith)
ran_done (d ∷ ds) s (zero, below, is) = ran_keeps ds (after_deed d s) (ap (λ x. pending_in (after_deed x s)) is ∙ bus_then s)
ran_done (d ∷ ds) s (suc n, below, is) = ran_done ds (after_deed d s) (n, omega arith, is)

-- ---- what sbcs shows of it

bit_most : (place : ℕ) (set : Bool) → bit_value place set ≤ 2 ^ place
bit_most place true = omega arith
bit_most place false = omega arith

error_most : (e : Sberror) → sberror_number e ≤ 4
error_most sberror.Fine = omega arith
error_most sberror.Timeout = omega arith
error_most sberror.Address = omega arith
error_most sberror.Alignment = omega arith
error_most sberror.Size = omega arith

idle_word : (collided on_address grows on_data : Bool) (size error : ℕ) → bus_busy (value_of (sbcs_word (record {
  sbversion = 1;
  sbbusyerror = collided;
  sbbusy = false;
  sbreadonaddr = on_address;
  sbaccess = size;
  sbautoincrement = grows;
  sbreadondata = on_data;
  sberror = error;
  sbasize = 64;
  sizes = 0xf;
}))) ≡ false
idle_word true on_address grows on_data size error =
    let a : bit_value 20 on_address ≤ 2 ^ 20 = bit_most 20 on_address in
    let b : bit_value 16 grows ≤ 2 ^ 16 = bit_most 16 grows in
    let c : bit_value 15 on_data ≤ 2 ^ 15 = bit_most 15 on_data in
    bit_clear 21 _ (omega (arith, a, b, c))
idle_word false on_address grows on_data size error =
    let a : bit_value 20 on_address ≤ 2 ^ 20 = bit_most 20 on_address in
    let b : bit_value 16 grows ≤ 2 ^ 16 = bit_most 16 grows in
    let c : bit_value 15 on_data ≤ 2 ^ 15 = bit_most 15 on_data in
    bit_clear 21 _ (omega (arith, a, b, c))

idle_shown : (u : BusUnit) (busy : Bool) → busy ≡ is_some u.pending → busy ≡ false → bus_busy (value_of (sbcs_word (sbcs_shown u))) ≡ false
idle_shown u busy is idle =
    subst (λ b. bus_busy (value_of (sbcs_word (record {
      sbversion = 1;
      sbbusyerror = u.busyerror;
      sbbusy = b;
      sbreadonaddr = u.readonaddr;
      sbaccess = u.access;
      sbautoincrement = u.autoincrement;
      sbreadondata = u.readondata;
      sberror = sberror_number u.error;
      sbasize = 64;
      sizes = 0xf;
    }))) ≡ false) (sym idle ∙ is) (idle_word u.busyerror u.readonaddr u.autoincrement u.readondata u.access (sberror_number u.error))

shown_by : (active : Bool) (m : Site) → pending_in m ≡ None → bus_busy (value_of (result_by active Sbcs m)) ≡ false
shown_by true m e = idle_shown m.unit.bus (is_some (pending_in m)) refl (ap is_some e)
shown_by false m e = refl

shown_idle : (m : Site) → pending_in m ≡ None → bus_busy (value_of (operation_result (Read sbcs_address) m)) ≡ false
unfolding register_at
shown_idle m e = shown_by m.unit.active m e

at_once : (harts : ℕ) (s t : Site) (result : ℕ) → PacedAlong harts s (record { op = Read sbcs_address; result = result } ∷ []) t → bus_busy (value_of result) ≡ false
at_once harts s t result (m, before, shown, behind) =
    ap (λ r. bus_busy (value_of r)) shown
    ∙ shown_idle m (ap pending_in before.is ∙ ran_done before.deeds s before.lively.bus)

-- ---- polls

none_busy : (n word : ℕ) (f : Far) (mid new : Option Far) (slack : Option ℕ) → (Paced (chip_of f).inside → PacedWithin slack n (chip_of f) mid)
    → WhereTold (Operated (Read sbcs_address) word) mid new → bus_busy word ≡ true → Paced (chip_of f).inside → ⊥
none_busy n word f mid new slack within did busy paced =
    let p = within paced in
    let o : Operated (Read sbcs_address) word (chip_of p.far) new = subst (λ x. WhereTold (Operated (Read sbcs_address) word) x new) p.is did in
    false≢true (sym (ap bus_busy o.value_is ∙ at_once _ (site_of p.far) (site_of o.far) o.result (o.pace p.paced)) ∙ busy)

once_told : (n k word : ℕ) (slack : Option ℕ) (old mid new : Option Far) → WhereTold (λ c now. Paced c.inside → PacedWithin slack n c now) old mid
    → WhereTold (Operated (Read sbcs_address) word) mid new → bus_busy word ≡ true → IfSome old (λ f. Paced (chip_of f).inside → k ≤ 0)
once_told n k word slack None mid new within did busy = tt
once_told n k word slack (Some f) mid new within did busy = λ paced. absurd (none_busy n word f mid new slack within did busy paced)

-- a poll that shows an access under way comes under no fair schedule
pub bus_once : (n k word : ℕ) (old mid new : DmiSeen) → Within n old mid → WhereTold (Operated (Read sbcs_address) word) mid.far new.far
    → bus_busy word ≡ true → AtMost k 0 old
bus_once n k word old mid new within did busy = once_told n k word old.fixed.slack old.far mid.far new.far within.told did busy

one_told : (n : ℕ) (old : Option Far) → IfSome old (λ f. Paced (chip_of f).inside → n ≤ 0) → IfSome old (λ f. Paced (chip_of f).inside → n + 1 ≤ 1)
one_told n None e = tt
one_told n (Some f) e = λ paced. let none : n ≤ 0 = e paced in omega arith

none_told : (told : Option Far) → IfSome told (λ f. Paced (chip_of f).inside → 0 ≤ 0)
none_told None = tt
none_told (Some f) = λ paced. omega arith

pub bus_none : (old : DmiSeen) → AtMost 0 0 old
bus_none old = none_told old.far

-- one more behind so many
pub bus_more : (n : ℕ) (old mid new : DmiSeen) → Within n old mid → AtMost n 0 old → Within 1 mid new → mid.fixed ≡ old.fixed → Within 1 old new
bus_more n old mid new first none second fixed =
    within_few (n + 1) 1 old new (within_then n 1 (n + 1) old mid new first second fixed (omega arith)) (one_told n old.far none)

more_told : (n k : ℕ) (old : Option Far) → n ≤ k → IfSome old (λ f. Paced (chip_of f).inside → k ≤ 0) → IfSome old (λ f. Paced (chip_of f).inside → n ≤ 1)
more_told n k None less e = tt
more_told n k (Some f) less e = λ paced. let none : k ≤ 0 = e paced in omega arith

pub bus_all : (n : ℕ) (old new : DmiSeen) → Within n old new → AtMost n 0 old → Within 1 old new
bus_all n old new within none = within_few n 1 old new within (more_told n n old.far (omega arith) none)
