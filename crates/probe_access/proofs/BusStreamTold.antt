-- A run of loads by the system bus at a told chip: the words that were read, and where the run stands.
use Rattle.std.proofs.Common.{◌≡◌, ◌∙◌, ◌≤◌, ◌<◌, ◌+◌, ◌*◌, ◌++◌, ◌^◌, ◌%◌, ℕ, List, [], ◌∷◌, length, Bool, true, false, refl, sym, ap, append_assoc, append-nil, arith}
use Rattle.std.proofs.lemmas.Bool.{eq-eqb, eqb-true}
use Rattle.rv_model.specs.declared.size.Size.{Size}
use Rattle.rv_model.specs.declared.size.Size.TheVariants.{B1, B2, B4, B8}
use Rattle.rv_model.specs.Memory.{is_aligned}
use Rattle.rv_model.specs.Size.{count_of}
use Rattle.debug_model.specs.Addresses.{sbdata0_address, sbdata1_address}
use Rattle.debug_model.specs.declared.dmi_op.DmiOp.TheVariants.{Read}
use Rattle.debug_model.specs.Deeds.{Deed, ran}
use Rattle.debug_model.specs.Module.{Site, operated}
use Rattle.debug_model.specs.SystemBus.{BusUnit, bus_looked, sbdata0_read}
use Rattle.probe_access.specs.Blocks.{element_at}
use Rattle.probe_access.proofs.BusStreamSites.{Reads, Refusing, Resting, Stands, Waiting, at_read, refusing_ran, resting_ran, waiting_ran}
use Rattle.probe_access.proofs.BusStreamSites.Reads.{of_sbdata0, of_sbdata1}
use Rattle.probe_access.proofs.BusStreamSites.Stands.{waiting as still_waiting, resting as was_loaded, refusing as was_refused}
use Rattle.probe_access.proofs.BusStreamUnits.{erred_reads, next_of, read_bus, reading, refused_bus, refused_reads}

-- ---- addresses

pub element_aligned : (size : Size) (address n : ℕ) → is_aligned address size ≡ true → is_aligned (element_at size address n) size ≡ true
element_aligned B1 a k is = eq-eqb ((a + k * 1) % 1) 0 (omega (arith, eqb-true (a % 1) 0 is))
element_aligned B2 a k is = eq-eqb ((a + k * 2) % 2) 0 (omega (arith, eqb-true (a % 2) 0 is))
element_aligned B4 a k is = eq-eqb ((a + k * 4) % 4) 0 (omega (arith, eqb-true (a % 4) 0 is))
element_aligned B8 a k is = eq-eqb ((a + k * 8) % 8) 0 (omega (arith, eqb-true (a % 8) 0 is))

pub first_at : (size : Size) (address : ℕ) → element_at size address 0 ≡ address
first_at B1 a = omega arith
first_at B2 a = omega arith
first_at B4 a = omega arith
first_at B8 a = omega arith

pub next_is : (size : Size) (address count n : ℕ) → address + count * count_of size ≤ 2 ^ 64 → n + 1 < count
    → next_of size (element_at size address n) ≡ element_at size address (n + 1)
next_is B1 a count n ends below = omega arith
next_is B2 a count n ends below = omega arith
next_is B4 a count n ends below = omega arith
next_is B8 a count n ends below = omega arith

-- the last of these values
pub data Last (size : Size) : List ℕ → ℕ → Type 0 where
  none : (value : ℕ) → Last size [] value
  some : (front : List ℕ) (value : ℕ) → value < 256 ^ count_of size → Last size (front ++ value ∷ []) value

-- ---- where a run stands, behind these words

-- an error is set: what was read in front of it is right
pub data Bad (size : Size) (address count : ℕ) (s : Site) (read : List ℕ) (t : Site) : Type 0 where
  waiting : (on_data : Bool) (values rest : List ℕ) (value : ℕ) → Waiting size address count s on_data true values value t → Last size values value
      → read ≡ values ++ rest → Bad size address count s read t
  resting : (on_data : Bool) (values rest : List ℕ) (value : ℕ) → Resting size address count s on_data true values value t → read ≡ values ++ rest
      → Bad size address count s read t
  refusing : (on_data collided : Bool) (values rest : List ℕ) (value : ℕ) → Refusing size address count s on_data collided values value t
      → Last size values value → read ≡ values ++ rest → Bad size address count s read t

pub data Going (size : Size) (address count : ℕ) (s : Site) (on_data : Bool) (read : List ℕ) (t : Site) : Type 0 where
  waits : (value : ℕ) → Waiting size address count s on_data false read value t → Last size read value → Going size address count s on_data read t
  rests : (value : ℕ) → Resting size address count s on_data false read value t → Going size address count s on_data read t
  bad : Bad size address count s read t → Going size address count s on_data read t

-- all were read
pub data Done (size : Size) (address count : ℕ) (s : Site) (read : List ℕ) (t : Site) : Type 0 where
  right : (values : List ℕ) (value : ℕ) → Resting size address count s false false values value t → read ≡ values ++ value ∷ []
      → Done size address count s read t
  wrong : Bad size address count s read t → Done size address count s read t

-- ---- deeds

bad_waited : (size : Size) (address count : ℕ) (s : Site) (on_data : Bool) (read values rest : List ℕ) (value : ℕ) (t : Site) → Last size values value
    → read ≡ values ++ rest → Stands size address count s on_data true values value t → Bad size address count s read t
bad_waited size address count s on_data read values rest value t last is (still_waiting w) = Bad.waiting on_data values rest value w last is
bad_waited size address count s on_data read values rest value t last is (was_loaded v r) = Bad.resting on_data values rest v r is
bad_waited size address count s on_data read values rest value t last is (was_refused r) = Bad.refusing on_data true values rest value r last is

pub bad_ran : (size : Size) (address count : ℕ) (s : Site) (read : List ℕ) (x : Site) (ds : List Deed) → Bad size address count s read x
    → Bad size address count s read (ran ds x)
bad_ran size address count s read x ds (Bad.waiting on_data values rest value w last is) =
    bad_waited size address count s on_data read values rest value (ran ds x) last is (waiting_ran size address count s on_data true values value x ds w)
bad_ran size address count s read x ds (Bad.resting on_data values rest value r is) =
    Bad.resting on_data values rest value (resting_ran size address count s on_data true values value x ds r) is
bad_ran size address count s read x ds (Bad.refusing on_data collided values rest value r last is) =
    Bad.refusing on_data collided values rest value (refusing_ran size address count s on_data collided values value x ds r) last is

pub waited : (size : Size) (address count : ℕ) (s : Site) (on_data : Bool) (read : List ℕ) (value : ℕ) (t : Site) → Last size read value
    → Stands size address count s on_data false read value t → Going size address count s on_data read t
waited size address count s on_data read value t last (still_waiting w) = waits value w last
waited size address count s on_data read value t last (was_loaded v r) = rests v r
waited size address count s on_data read value t last (was_refused r) = bad (Bad.refusing on_data false read [] value r last (sym (append-nil read)))

pub going_ran : (size : Size) (address count : ℕ) (s : Site) (on_data : Bool) (read : List ℕ) (x : Site) (ds : List Deed)
    → Going size address count s on_data read x → Going size address count s on_data read (ran ds x)
going_ran size address count s on_data read x ds (waits value w last) =
    waited size address count s on_data read value (ran ds x) last (waiting_ran size address count s on_data false read value x ds w)
going_ran size address count s on_data read x ds (rests v r) = rests v (resting_ran size address count s on_data false read v x ds r)
going_ran size address count s on_data read x ds (bad b) = bad (bad_ran size address count s read x ds b)

pub done_ran : (size : Size) (address count : ℕ) (s : Site) (read : List ℕ) (x : Site) (ds : List Deed) → Done size address count s read x
    → Done size address count s read (ran ds x)
done_ran size address count s read x ds (Done.right values value r is) =
    Done.right values value (resting_ran size address count s false false values value x ds r) is
done_ran size address count s read x ds (Done.wrong b) = Done.wrong (bad_ran size address count s read x ds b)

-- ---- one operation of a run that stands at a place

pub bad_more : (size : Size) (address count : ℕ) (s : Site) (read more : List ℕ) (t : Site) → Bad size address count s read t
    → Bad size address count s (read ++ more) t
bad_more size address count s read more t (Bad.waiting on_data values rest value w last is) =
    Bad.waiting on_data values (rest ++ more) value w last (ap (λ xs. xs ++ more) is ∙ append_assoc values rest more)
bad_more size address count s read more t (Bad.resting on_data values rest value r is) =
    Bad.resting on_data values (rest ++ more) value r (ap (λ xs. xs ++ more) is ∙ append_assoc values rest more)
bad_more size address count s read more t (Bad.refusing on_data collided values rest value r last is) =
    Bad.refusing on_data collided values (rest ++ more) value r last (ap (λ xs. xs ++ more) is ∙ append_assoc values rest more)

-- too early
pub waiting_read : (size : Size) (address count : ℕ) (s : Site) (on_data collided : Bool) (values : List ℕ) (value : ℕ) (x : Site) (a : ℕ)
    (f : BusUnit → BusUnit) (g : BusUnit → ℕ) → Reads a f g
    → f (reading on_data size (element_at size address (length values)) value collided)
    ≡ reading on_data size (element_at size address (length values)) value true
    → Waiting size address count s on_data collided values value x → Waiting size address count s on_data true values value (operated (Read a) x)
waiting_read size address count s on_data collided values value x a f g reads makes w = record {
  mid = w.mid;
  each = w.each;
  ready = w.ready;
  below = w.below;
  at = at_read a f g (reading on_data size (element_at size address (length values)) value collided)
      (reading on_data size (element_at size address (length values)) value true) w.mid x reads w.ready makes w.at;
}

pub resting_read : (size : Size) (address count : ℕ) (s : Site) (on_data collided : Bool) (values : List ℕ) (value : ℕ) (x : Site) (a : ℕ)
    (f : BusUnit → BusUnit) (g : BusUnit → ℕ) → Reads a f g
    → f (read_bus on_data size (element_at size address (length values)) value collided)
    ≡ read_bus on_data size (element_at size address (length values)) value collided
    → Resting size address count s on_data collided values value x → Resting size address count s on_data collided values value (operated (Read a) x)
resting_read size address count s on_data collided values value x a f g reads same r = record {
  first = r.first;
  each = r.each;
  mid = r.mid;
  one = r.one;
  small = r.small;
  ready = r.ready;
  below = r.below;
  at = at_read a f g (read_bus on_data size (element_at size address (length values)) value collided)
      (read_bus on_data size (element_at size address (length values)) value collided) r.mid x reads r.ready same r.at;
}

pub refusing_read : (size : Size) (address count : ℕ) (s : Site) (on_data collided : Bool) (values : List ℕ) (value : ℕ) (x : Site) (a : ℕ)
    (f : BusUnit → BusUnit) (g : BusUnit → ℕ) → Reads a f g
    → f (refused_bus on_data size (element_at size address (length values)) value collided)
    ≡ refused_bus on_data size (element_at size address (length values)) value collided
    → Refusing size address count s on_data collided values value x → Refusing size address count s on_data collided values value (operated (Read a) x)
refusing_read size address count s on_data collided values value x a f g reads same r = record {
  first = r.first;
  each = r.each;
  mid = r.mid;
  refused = r.refused;
  ready = r.ready;
  below = r.below;
  at = at_read a f g (refused_bus on_data size (element_at size address (length values)) value collided)
      (refused_bus on_data size (element_at size address (length values)) value collided) r.mid x reads r.ready same r.at;
}

pub bad_upper : (size : Size) (address count : ℕ) (s : Site) (read : List ℕ) (x : Site) → Bad size address count s read x
    → Bad size address count s read (operated (Read sbdata1_address) x)
bad_upper size address count s read x (Bad.waiting on_data values rest value w last is) =
    Bad.waiting on_data values rest value
    (waiting_read size address count s on_data true values value x sbdata1_address bus_looked _ of_sbdata1 refl w) last is
bad_upper size address count s read x (Bad.resting on_data values rest value r is) =
    Bad.resting on_data values rest value
    (resting_read size address count s on_data true values value x sbdata1_address bus_looked _ of_sbdata1 refl r) is
bad_upper size address count s read x (Bad.refusing on_data collided values rest value r last is) =
    Bad.refusing on_data collided values rest value
    (refusing_read size address count s on_data collided values value x sbdata1_address bus_looked _ of_sbdata1 refl r) last is

pub bad_lower : (size : Size) (address count : ℕ) (s : Site) (read : List ℕ) (x : Site) → Bad size address count s read x
    → Bad size address count s read (operated (Read sbdata0_address) x)
bad_lower size address count s read x (Bad.waiting on_data values rest value w last is) =
    Bad.waiting on_data values rest value
    (waiting_read size address count s on_data true values value x sbdata0_address sbdata0_read _ of_sbdata0 refl w) last is
bad_lower size address count s read x (Bad.resting on_data values rest value r is) =
    Bad.resting on_data values rest value
    (resting_read size address count s on_data true values value x sbdata0_address sbdata0_read _ of_sbdata0
    (erred_reads on_data size (next_of size (element_at size address (length values))) value) r) is
bad_lower size address count s read x (Bad.refusing on_data collided values rest value r last is) =
    Bad.refusing on_data collided values rest value
    (refusing_read size address count s on_data collided values value x sbdata0_address sbdata0_read _ of_sbdata0
    (refused_reads on_data size (element_at size address (length values)) value collided) r) last is
