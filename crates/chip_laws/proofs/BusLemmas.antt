-- The access of the system bus that is under way, by what memory answers.
use Rattle.std.proofs.Common.{◌≡◌, ℕ, ◌+◌, ◌^◌, ◌%◌, Bool, true, false, Some, None, Result, Ok, Err, if◌then◌else◌, refl, sym, ap₂, subst}
use Rattle.std.specs.Prelude.{⊤}
use Rattle.rv_model.specs.declared.mem_fault.MemFault.{MemFault}
use Rattle.rv_model.specs.declared.size.Size.{Size}
use Rattle.rv_model.specs.Memory.{Memory, loaded, store_answer}
use Rattle.rv_model.specs.Size.{count_of}
use Rattle.debug_model.specs.declared.bus_access.BusAccess.TheVariants.{Read, Write}
use Rattle.debug_model.specs.SystemBus.{BusUnit, access_size, bus_done, bus_done_by, bus_made, bus_read_by, bus_wrote_by, grown}
use Rattle.chip_laws.specs.BusLaws.{BusReads, BusRefused, BusServed, BusWrites, GrewBy}

record Grows (on : Bool) (size : Size) (u after : BusUnit) : Type 0 where
  pub pending : after.pending ≡ u.pending
  pub error : after.error ≡ u.error
  pub busyerror : after.busyerror ≡ u.busyerror
  pub value : after.value ≡ u.value
  pub grew : GrewBy on (count_of size) u.address after.address

grows_by : (on : Bool) (size : Size) (u : BusUnit) → Grows on size u (if on then record u { address = (u.address + count_of size) % 2 ^ 64 } else u)
grows_by true size u = record { pending = refl; error = refl; busyerror = refl; value = refl; grew = refl }
grows_by false size u = record { pending = refl; error = refl; busyerror = refl; value = refl; grew = refl }

grows : (size : Size) (u : BusUnit) → Grows u.autoincrement size u (grown size u)
grows size u = grows_by u.autoincrement size u

-- ---- by what memory answers

read_brings : (a : Result ℕ MemFault) (v : ℕ) (size : Size) (u : BusUnit) → a ≡ Ok v → (bus_read_by a size u).value ≡ v
read_brings a v size u is = rw is (grows size (record u { pending = None; value = v })).value

read_served : (a : Result ℕ MemFault) (v : ℕ) (size : Size) (u : BusUnit) → a ≡ Ok v → BusServed (count_of size) u (bus_read_by a size u)
read_served a v size u is = rw is (let g = grows size (record u { pending = None; value = v }) in
    record { idle = g.pending; error = g.error; busyerror = g.busyerror; grew = g.grew })

read_refused : (a : Result ℕ MemFault) (fault : MemFault) (size : Size) (u : BusUnit) → a ≡ Err fault → BusRefused u (bus_read_by a size u)
read_refused a fault size u is = rw is (record { idle = refl; error = refl; address = refl; value = refl })

write_keeps : (a : Result ⊤ MemFault) (size : Size) (u : BusUnit) → (bus_wrote_by a size u).value ≡ u.value
write_keeps (Ok done) size u = (grows size (record u { pending = None })).value
write_keeps (Err fault) size u = refl

write_served : (a : Result ⊤ MemFault) (done : ⊤) (size : Size) (u : BusUnit) → a ≡ Ok done → BusServed (count_of size) u (bus_wrote_by a size u)
write_served a done size u is = rw is (let g = grows size (record u { pending = None }) in
    record { idle = g.pending; error = g.error; busyerror = g.busyerror; grew = g.grew })

write_refused : (a : Result ⊤ MemFault) (fault : MemFault) (size : Size) (u : BusUnit) → a ≡ Err fault → BusRefused u (bus_wrote_by a size u)
write_refused a fault size u is = rw is (record { idle = refl; error = refl; address = refl; value = refl })

-- ---- accesses

made_read : (u : BusUnit) (size : Size) (m : Memory) → BusReads u size m (bus_made Read size m u)
made_read u size m = record {
  accessed = refl;
  memory = refl;
  brings = λ v is. read_brings (loaded m u.address size) v size u is;
  served = λ v is. read_served (loaded m u.address size) v size u is;
  refused = λ fault is. read_refused (loaded m u.address size) fault size u is;
}

made_write : (u : BusUnit) (size : Size) (m : Memory) → BusWrites u size m (bus_made Write size m u)
made_write u size m = record {
  accessed = refl;
  memory = refl;
  value = write_keeps (store_answer m u.address size) size u;
  served = λ done is. write_served (store_answer m u.address size) done size u is;
  refused = λ fault is. write_refused (store_answer m u.address size) fault size u is;
}

pub bus_reads : (u : BusUnit) (size : Size) (m : Memory) → u.pending ≡ Some Read → access_size u.access ≡ Some size → BusReads u size m (bus_done m u)
unfolding bus_done
bus_reads u size m pending is = subst (BusReads u size m) (sym (ap₂ (λ p k. bus_done_by p k m u) pending is)) (made_read u size m)

pub bus_writes : (u : BusUnit) (size : Size) (m : Memory) → u.pending ≡ Some Write → access_size u.access ≡ Some size → BusWrites u size m (bus_done m u)
unfolding bus_done
bus_writes u size m pending is = subst (BusWrites u size m) (sym (ap₂ (λ p k. bus_done_by p k m u) pending is)) (made_write u size m)
