-- Answers that a wire to a chain hands on, whole or cut short by a fault.
use Rattle.std.proofs.Common.{◌≡◌, ℕ, List, ap, Option, Some, None, option_map, Result, Ok, Err, OnOk, OnErr}
use Rattle.debug_model.specs.Told.{Far}
use Rattle.debug_model.specs.Wire.{ReadsFront, ReadsSome}
use Rattle.debug_model.specs.declared.wire.WireFault.{WireFault}
use Rattle.probe_scan.specs.Answers.{KeepsChip}
use Rattle.chain_scan.specs.Told.{ChainFar, ChainReadsFront, ChainReadsSome, KeepsChain, chip_told}

pub bad_kept : {T : Type 0} (received : Result T WireFault) (into : List ℕ) (told new : Option ChainFar) → OnOk received (ChainReadsFront into told new)
    → OnErr received (ChainReadsSome into told new) → KeepsChain told new
bad_kept (Ok x) into None new read some = read
bad_kept (Err e) into None new read some = some
bad_kept (Ok x) into (Some f) new read some = (read.0, read.2)
bad_kept (Err e) into (Some f) new read some = (some.0, some.2)

-- of its chip alone

pub front_of_chip : (into : List ℕ) (told new : Option ChainFar) → ChainReadsFront into told new → ReadsFront into (chip_told told) (chip_told new)
front_of_chip into None new r = ap chip_told r
front_of_chip into (Some f) new r = (r.0, r.1, ap chip_told r.2)

pub some_of_chip : (into : List ℕ) (told new : Option ChainFar) → ChainReadsSome into told new → ReadsSome into (chip_told told) (chip_told new)
some_of_chip into None new r = ap chip_told r
some_of_chip into (Some f) new r = (r.0, r.1, ap chip_told r.2)

pub chip_kept : (told new : Option ChainFar) → KeepsChain told new → KeepsChip (chip_told told) (chip_told new)
chip_kept None new k = ap chip_told k
chip_kept (Some f) new k = (k.0, ap chip_told k.1)

pub ok_of_chip : {T : Type 0} (received : Result T WireFault) (into : List ℕ) (told new : Option ChainFar) → OnOk received (ChainReadsFront into told new)
    → OnOk received (ReadsFront into (chip_told told) (chip_told new))
ok_of_chip (Ok x) into told new r = front_of_chip into told new r
ok_of_chip (Err e) into told new r = tt

pub err_of_chip : {T : Type 0} (received : Result T WireFault) (into : List ℕ) (told new : Option ChainFar) → OnErr received (ChainReadsSome into told new)
    → OnErr received (ReadsSome into (chip_told told) (chip_told new))
err_of_chip (Ok x) into told new r = tt
err_of_chip (Err e) into told new r = some_of_chip into told new r
