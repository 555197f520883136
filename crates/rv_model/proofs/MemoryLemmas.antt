-- What a store, a reservation and an sc leave of memory.
use Rattle.std.proofs.Common.{
  ◌≡◌,
  ℕ,
  Bool,
  true,
  false,
  cond,
  ◌&&◌,
  ◌<◌,
  ◌≤◌,
  List,
  length,
  set,
  Option,
  Some,
  None,
  is_some,
  Result,
  Ok,
  Err,
  slice_get,
  option_map,
  refl,
  sym,
  ap,
  ◌∙◌,
  subst,
  inl,
  inr,
}
use Rattle.std.specs.Prelude.{⊤}
use Rattle.std.proofs.lemmas.Bool.{le-ltb, lt-ltb}
use Rattle.std.proofs.lemmas.List.{length-map}
use Rattle.std.proofs.lemmas.Option.{slice_get-map}
use Rattle.rv_model.specs.declared.mem_fault.MemFault.{MemFault}
use Rattle.rv_model.specs.declared.mem_fault.MemFault.TheVariants.{Misaligned, Outside}
use Rattle.rv_model.specs.declared.size.Size.{Size}
use Rattle.rv_model.specs.declared.size.Size.TheVariants.{B4}
use Rattle.rv_model.specs.Size.{count_of}
use Rattle.rv_model.specs.Memory.{Memory, fetch_of, ram_base, value_at, with_value, is_aligned, is_inside, or_outside, loaded, store_answer}
use Rattle.rv_model.specs.Memory.{after_store, touches, kept, cleared}
use Rattle.rv_model.specs.Laws.{answered, KeptOrCleared, RefusedStoresKeepMemory}
use Rattle.rv_model.proofs.MapLemmas.{slice_get-set_other}

-- ---- stores

answered_inside : (o : Option ℕ) → (cond (is_some o) (Ok tt) (Err Outside)) ≡ answered (or_outside o)
answered_inside None = refl
answered_inside (Some v) = refl

-- a store is refused exactly where a load of its bytes is, and for the same reason
pub store_answer_is : (m : Memory) (a : ℕ) (size : Size) → store_answer m a size ≡ answered (loaded m a size)
unfolding store_answer loaded
store_answer_is m a size =
    elim (is_aligned a size) as (λ b. cond b (cond (is_inside m a size) (Ok tt) (Err Outside)) (Err Misaligned)
    ≡ answered (cond b (or_outside (value_at m.bytes a (count_of size))) (Err Misaligned))) [
      | true ↦ answered_inside (value_at m.bytes a (count_of size))
      | false ↦ refl
    ]

abbrev answer_of : Bool → Bool → Result ⊤ MemFault
answer_of aligned inside = cond aligned (cond inside (Ok tt) (Err Outside)) (Err Misaligned)

ok_is_not_err : (fault : MemFault) → answer_of true true ≡ Err fault → ⊥
ok_is_not_err fault is = cc

chosen_refused : (aligned inside : Bool) (fault : MemFault) (taken m : Memory) → answer_of aligned inside ≡ Err fault → cond (aligned && inside) taken m ≡ m
chosen_refused true true fault taken m is = absurd (ok_is_not_err fault is)
chosen_refused true false fault taken m is = refl
chosen_refused false inside fault taken m is = refl

outside_is_not_ok : answer_of true false ≡ Ok tt → ⊥
outside_is_not_ok is = cc

misaligned_is_not_ok : (inside : Bool) → answer_of false inside ≡ Ok tt → ⊥
misaligned_is_not_ok inside is = cc

chosen_taken : (aligned inside : Bool) (taken m : Memory) → answer_of aligned inside ≡ Ok tt → cond (aligned && inside) taken m ≡ taken
chosen_taken true true taken m is = refl
chosen_taken true false taken m is = absurd (outside_is_not_ok is)
chosen_taken false inside taken m is = absurd (misaligned_is_not_ok inside is)

-- a refused store changes nothing
pub after_store_refused : (m : Memory) (a : ℕ) (size : Size) (v : ℕ) (fault : MemFault) → store_answer m a size ≡ Err fault → after_store m a size v ≡ m
unfolding store_answer after_store
after_store_refused m a size v fault is = chosen_refused (is_aligned a size) (is_inside m a size) fault _ m is

-- any other store writes the bytes and clears what they touch
pub after_store_taken : (m : Memory) (a : ℕ) (size : Size) (v : ℕ) → store_answer m a size ≡ Ok tt
    → after_store m a size v ≡ cleared (record m { bytes = with_value m.bytes a (count_of size) v }) a (count_of size)
unfolding store_answer after_store
after_store_taken m a size v is = chosen_taken (is_aligned a size) (is_inside m a size) _ m is

-- ---- fetches

-- from RAM's base on, a fetch is a load
pub fetch_high : (m : Memory) (pc : ℕ) → ram_base ≤ pc → fetch_of m pc ≡ loaded m pc B4
unfolding fetch_of
fetch_high m pc high = ap (λ b. cond b (Err Outside) (loaded m pc B4)) (le-ltb pc ram_base high)

-- below it there is no word
pub fetch_low : (m : Memory) (pc : ℕ) → pc < ram_base → fetch_of m pc ≡ Err Outside
unfolding fetch_of
fetch_low m pc low = ap (λ b. cond b (Err Outside) (loaded m pc B4)) (lt-ltb pc ram_base low)

-- ---- reservations

cleared_if : (b : Bool) (place : ℕ) → KeptOrCleared (Some (Some place)) (Some (cond b None (Some place)))
cleared_if true place = inr refl
cleared_if false place = inl refl

kept_or_cleared : (a count : ℕ) (o : Option (Option ℕ)) → KeptOrCleared o (option_map (kept a count) o)
kept_or_cleared a count None = inl refl
kept_or_cleared a count (Some None) = inl refl
kept_or_cleared a count (Some (Some place)) = cleared_if (touches a count place) place

pub cleared_others : (m : Memory) (a count j : ℕ) → KeptOrCleared (slice_get m.reserved j) (slice_get (cleared m a count).reserved j)
cleared_others m a count j =
    let P : Option (Option ℕ) → Type 0 = λ o. KeptOrCleared (slice_get m.reserved j) o in
    subst P (sym (slice_get-map (kept a count) m.reserved j)) (kept_or_cleared a count (slice_get m.reserved j))

pub after_store_others : (m : Memory) (a : ℕ) (size : Size) (v j : ℕ) → KeptOrCleared (slice_get m.reserved j) (slice_get (after_store m a size v).reserved j)
after_store_others m a size v j =
    elim (store_answer m a size) as (λ r. store_answer m a size ≡ r → KeptOrCleared (slice_get m.reserved j) (slice_get (after_store m a size v).reserved j)) [
      | Ok u ↦ λ is.
          let P : Memory → Type 0 = λ n. KeptOrCleared (slice_get m.reserved j) (slice_get n.reserved j) in
          subst P (sym (after_store_taken m a size v is)) (cleared_others (record m { bytes = with_value m.bytes a (count_of size) v }) a (count_of size) j)
      | Err fault ↦ λ is.
          let P : Memory → Type 0 = λ n. KeptOrCleared (slice_get m.reserved j) (slice_get n.reserved j) in
          subst P (sym (after_store_refused m a size v fault is)) (inl refl)
    ] refl

-- no place comes or goes
pub after_store_places : (m : Memory) (a : ℕ) (size : Size) (v : ℕ) → length (after_store m a size v).reserved ≡ length m.reserved
after_store_places m a size v =
    elim (store_answer m a size) as (λ r. store_answer m a size ≡ r → length (after_store m a size v).reserved ≡ length m.reserved) [
      | Ok u ↦ λ is. ap (λ (n : Memory). length n.reserved) (after_store_taken m a size v is) ∙ length-map m.reserved (kept a (count_of size))
      | Err fault ↦ λ is. ap (λ (n : Memory). length n.reserved) (after_store_refused m a size v fault is)
    ] refl

-- a later change of one hart's own place leaves the others' as they were
pub others_at : (old new : List (Option ℕ)) (h j : ℕ) (o : Option ℕ) → (j ≡ h → ⊥)
    → KeptOrCleared (slice_get old j) (slice_get new j) → KeptOrCleared (slice_get old j) (slice_get (set new h o) j)
others_at old new h j o other so_far =
    let P : Option (Option ℕ) → Type 0 = λ r. KeptOrCleared (slice_get old j) r in
    subst P (sym (slice_get-set_other new h j o other)) so_far

pub refused_stores_keep_memory : RefusedStoresKeepMemory
refused_stores_keep_memory m a size v = record { as_load = store_answer_is m a size; same = λ fault is. after_store_refused m a size v fault is }
