-- Setting a breakpoint is a read and then a write: what each says is said of both.
use Rattle.std.proofs.Common.{◌≡◌, ◌∙◌, ◌<◌, ◌%◌, ◌^◌, ℕ, Bool, true, false, ◌||◌, List, [], ◌∷◌, Option, Some, None, Result, Ok, Err, IfErr, IsErrAnd, All, refl}
use Rattle.std.proofs.Common.{sym, subst, arith}
use Rattle.std.specs.Prelude.{◌==◌}
use Rattle.std.proofs.lemmas.Bool.{eq-eqb, eqb-true, false≢true}
use Rattle.std.proofs.lemmas.List.Elements.{All-head, All-tail}
use Rattle.std.proofs.lemmas.Option.{none-some}
use Rattle.rv_model.specs.declared.size.Size.TheVariants.{B4}
use Rattle.rv_model.specs.Memory.{is_aligned}
use Rattle.debug_model.specs.Scan.{WhereTold}
use Rattle.debug_model.specs.SoftCommand.{IsSoftAddress}
use Rattle.debug_model.specs.Told.{Far, site_of}
use Rattle.probe_run.specs.Acts.{Tells}
use Rattle.probe_access.specs.declared.fault.AccessFault.{AccessFault}
use Rattle.probe_access.specs.declared.fault.AccessFault.TheVariants as access_fault
use Rattle.probe_access.specs.Accesses.{AccessLeft, BusLoadRefused, BusLoadedAt, BusStoreRefused, BusStoredAt}
use Rattle.probe_access.specs.BusRuns.{BusLoaded}
use Rattle.probe_access.specs.Cuts.{BusLeftOff, IfCut, IsLeft, Leaves, LoadLeaves, StoreLeaves}
use Rattle.soft_laws.specs.SoftBreaks.{ebreak_word, is_listed}
use Rattle.soft_break.specs.Calls.{PlantCut, PlantRefused, PlantedAt, ReadOne}
use Rattle.soft_break.specs.Calls.PlantCut.{in_read, in_write}
use Rattle.soft_break.specs.Calls.PlantRefused.{at_read, at_write}

-- ---- addresses

pub aligned_word : (a : ℕ) → IsSoftAddress a → is_aligned a B4 ≡ true
aligned_word a h = eq-eqb (a % 4) 0 h.0

pub listed_word : (cs : List ℕ) (a : ℕ) → All IsSoftAddress cs → is_listed cs a ≡ true → IsSoftAddress a
listed_word [] a h is = absurd (false≢true is)
listed_word (c ∷ cs) a h is = by (a == c) refl is (listed_word cs a (All-tail IsSoftAddress c cs h))
  where
    by : (b : Bool) → (a == c) ≡ b → (b || is_listed cs a) ≡ true → (is_listed cs a ≡ true → IsSoftAddress a) → IsSoftAddress a
    by true e h' later = subst IsSoftAddress (sym (eqb-true a c e)) (All-head IsSoftAddress c cs h)
    by false e h' later = later h'

-- a word that was read fits
pub word_fits : (a v : ℕ) (old new : Tells) → BusLoaded B4 a v old new → v < 2 ^ 32
word_fits a v old new l = subst (λ n. n < 2 ^ 32) (sym l.fetched.is) (small _)
  where
    small : (n : ℕ) → n % 4294967296 < 4294967296
    small n = omega arith

-- ---- at a told chip

pub planted_told : (a v : ℕ) (old mid new : Option Far) → WhereTold (BusLoadedAt B4 a v) old mid → WhereTold (BusStoredAt B4 a ebreak_word) mid new
    → WhereTold (PlantedAt a v) old new
planted_told a v None mid new before one = subst (λ (m : Option Far). WhereTold (BusStoredAt B4 a ebreak_word) m new) before one
planted_told a v (Some f) mid new before one = record {
  mid = before.far;
  read = subst (λ (m : Option Far). BusLoadedAt B4 a v f.live.chip m) before.is before;
  wrote = subst (λ (m : Option Far). WhereTold (BusStoredAt B4 a ebreak_word) m new) before.is one;
}

read_refused : (a : ℕ) (old new : Option Far) → WhereTold (BusLoadRefused B4 a) old new → WhereTold (PlantRefused a) old new
read_refused a None new h = h
read_refused a (Some f) new h = at_read h

write_refused : (a v : ℕ) (old mid new : Option Far) → WhereTold (BusLoadedAt B4 a v) old mid → WhereTold (BusStoreRefused B4 a) mid new
    → WhereTold (PlantRefused a) old new
write_refused a v None mid new before one = subst (λ (m : Option Far). WhereTold (BusStoreRefused B4 a) m new) before one
write_refused a v (Some f) mid new before one =
    at_write v before.far (subst (λ (m : Option Far). BusLoadedAt B4 a v f.live.chip m) before.is before)
    (subst (λ (m : Option Far). WhereTold (BusStoreRefused B4 a) m new) before.is one)

untold : (a v : ℕ) (old mid : Option Far) → WhereTold (BusLoadedAt B4 a v) old mid → mid ≡ None → old ≡ None
untold a v None mid before none = refl
untold a v (Some f) mid before none = absurd (none-some before.far (sym none ∙ before.is))

pub read_left : (a : ℕ) (old new : Option Far) (why : AccessFault) → AccessLeft (BusLoadRefused B4 a) a old new why → AccessLeft (PlantRefused a) a old new why
read_left a old new (access_fault.Dmi why) h = tt
read_left a old new (access_fault.Memory at) h = (h.0, read_refused a old new h.1)
read_left a old new (access_fault.Register number) h = h
read_left a old new access_fault.StillBusy h = tt
read_left a old new (access_fault.Run why) h = h
read_left a old new (access_fault.Odd shown) h = h

pub write_left : (a v : ℕ) (old mid new : Option Far) (why : AccessFault) → WhereTold (BusLoadedAt B4 a v) old mid
    → AccessLeft (BusStoreRefused B4 a) a mid new why → AccessLeft (PlantRefused a) a old new why
write_left a v old mid new (access_fault.Dmi why) before h = tt
write_left a v old mid new (access_fault.Memory at) before h = (h.0, write_refused a v old mid new before h.1)
write_left a v old mid new (access_fault.Register number) before h = untold a v old mid before h
write_left a v old mid new access_fault.StillBusy before h = tt
write_left a v old mid new (access_fault.Run why) before h = h
write_left a v old mid new (access_fault.Odd shown) before h = untold a v old mid before h

if_cut : (P Q : Type 0) (why : AccessFault) → (P → Q) → IfCut P why → IfCut Q why
if_cut P Q (access_fault.Dmi why) f p = f p
if_cut P Q (access_fault.Memory at) f p = tt
if_cut P Q (access_fault.Register number) f p = tt
if_cut P Q access_fault.StillBusy f p = f p
if_cut P Q (access_fault.Run why) f p = tt
if_cut P Q (access_fault.Odd shown) f p = tt

read_leaves : (a : ℕ) (old new : Option Far) → Leaves (BusLeftOff LoadLeaves) old new → Leaves (PlantCut a) old new
read_leaves a None new h = tt
read_leaves a (Some f) new h = record { far = h.far; is = h.is; left = in_read h.left }

write_leaves : (a v : ℕ) (old mid new : Option Far) → WhereTold (BusLoadedAt B4 a v) old mid → Leaves (BusLeftOff (StoreLeaves B4 a ebreak_word)) mid new
    → Leaves (PlantCut a) old new
write_leaves a v None mid new before left = tt
write_leaves a v (Some f) mid new before left =
    let l : IsLeft (BusLeftOff (StoreLeaves B4 a ebreak_word)) before.far.live.chip new =
    subst (λ (m : Option Far). Leaves (BusLeftOff (StoreLeaves B4 a ebreak_word)) m new) before.is left in
    let r : ReadOne a v (site_of f) (site_of before.far) =
    record { before = before.before; behind = before.behind; value_is = before.value_is; access = before.access } in
    record { far = l.far; is = l.is; left = in_write v (site_of before.far) r l.left }

pub read_cut : (a : ℕ) (old new : Option Far) (why : AccessFault) → IfCut (Leaves (BusLeftOff LoadLeaves) old new) why → IfCut (Leaves (PlantCut a) old new) why
read_cut a old new why h = if_cut (Leaves (BusLeftOff LoadLeaves) old new) (Leaves (PlantCut a) old new) why (read_leaves a old new) h

pub write_cut : (a v : ℕ) (old mid new : Option Far) (why : AccessFault) → WhereTold (BusLoadedAt B4 a v) old mid
    → IfCut (Leaves (BusLeftOff (StoreLeaves B4 a ebreak_word)) mid new) why → IfCut (Leaves (PlantCut a) old new) why
write_cut a v old mid new why before h =
    if_cut (Leaves (BusLeftOff (StoreLeaves B4 a ebreak_word)) mid new) (Leaves (PlantCut a) old new) why (write_leaves a v old mid new before) h

-- ---- the answer that carries the fault

pub err_carried : {A : Type 0} (r : Result A AccessFault) (why : AccessFault) (P : AccessFault → Type 0) → IsErrAnd r (λ x. x ≡ why) → P why → IfErr r P
err_carried (Ok x) why P is p = tt
err_carried (Err x) why P is p = subst P (sym is) p
