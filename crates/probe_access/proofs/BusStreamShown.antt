-- What sbcs shows along a run of loads by the system bus.
use Rattle.std.proofs.Common.{◌≡◌, ℕ, Bool, true, false, None, refl}
use Rattle.rv_model.specs.declared.size.Size.{Size}
use Rattle.rv_model.specs.declared.size.Size.TheVariants.{B1, B2, B4, B8}
use Rattle.debug_model.specs.declared.sberror.Sberror.TheVariants.{Fine}
use Rattle.debug_model.specs.Dmi.{value_of}
use Rattle.debug_model.specs.ModuleWords.{sbcs_word}
use Rattle.debug_model.specs.SystemBus.{BusUnit, sbcs_shown}
use Rattle.probe_access.specs.BusRuns.{bus_busy, bus_collided, bus_error}
use Rattle.probe_access.proofs.BusStreamUnits.{reading, refused_bus, run_bus}

pub record RunShown (busy : Bool) (error : ℕ) (collided : Bool) (word : ℕ) : Type 0 where
  pub busy_is : bus_busy word ≡ busy
  pub error_is : bus_error word ≡ error
  pub collided_is : bus_collided word ≡ collided

abbrev pub sbcs_seen : BusUnit → ℕ
sbcs_seen u = value_of (sbcs_word (sbcs_shown u))

pub reading_shown : (on_data : Bool) (size : Size) (address value : ℕ) (collided : Bool)
    → RunShown true 0 collided (sbcs_seen (reading on_data size address value collided))
reading_shown true B1 address value true = record { busy_is = refl; error_is = refl; collided_is = refl }
reading_shown true B1 address value false = record { busy_is = refl; error_is = refl; collided_is = refl }
reading_shown true B2 address value true = record { busy_is = refl; error_is = refl; collided_is = refl }
reading_shown true B2 address value false = record { busy_is = refl; error_is = refl; collided_is = refl }
reading_shown true B4 address value true = record { busy_is = refl; error_is = refl; collided_is = refl }
reading_shown true B4 address value false = record { busy_is = refl; error_is = refl; collided_is = refl }
reading_shown true B8 address value true = record { busy_is = refl; error_is = refl; collided_is = refl }
reading_shown true B8 address value false = record { busy_is = refl; error_is = refl; collided_is = refl }
reading_shown false B1 address value true = record { busy_is = refl; error_is = refl; collided_is = refl }
reading_shown false B1 address value false = record { busy_is = refl; error_is = refl; collided_is = refl }
reading_shown false B2 address value true = record { busy_is = refl; error_is = refl; collided_is = refl }
reading_shown false B2 address value false = record { busy_is = refl; error_is = refl; collided_is = refl }
reading_shown false B4 address value true = record { busy_is = refl; error_is = refl; collided_is = refl }
reading_shown false B4 address value false = record { busy_is = refl; error_is = refl; collided_is = refl }
reading_shown false B8 address value true = record { busy_is = refl; error_is = refl; collided_is = refl }
reading_shown false B8 address value false = record { busy_is = refl; error_is = refl; collided_is = refl }

pub rest_shown : (on_data : Bool) (size : Size) (address value : ℕ) (collided : Bool)
    → RunShown false 0 collided (sbcs_seen (run_bus on_data size address value Fine collided None))
rest_shown true B1 address value true = record { busy_is = refl; error_is = refl; collided_is = refl }
rest_shown true B1 address value false = record { busy_is = refl; error_is = refl; collided_is = refl }
rest_shown true B2 address value true = record { busy_is = refl; error_is = refl; collided_is = refl }
rest_shown true B2 address value false = record { busy_is = refl; error_is = refl; collided_is = refl }
rest_shown true B4 address value true = record { busy_is = refl; error_is = refl; collided_is = refl }
rest_shown true B4 address value false = record { busy_is = refl; error_is = refl; collided_is = refl }
rest_shown true B8 address value true = record { busy_is = refl; error_is = refl; collided_is = refl }
rest_shown true B8 address value false = record { busy_is = refl; error_is = refl; collided_is = refl }
rest_shown false B1 address value true = record { busy_is = refl; error_is = refl; collided_is = refl }
rest_shown false B1 address value false = record { busy_is = refl; error_is = refl; collided_is = refl }
rest_shown false B2 address value true = record { busy_is = refl; error_is = refl; collided_is = refl }
rest_shown false B2 address value false = record { busy_is = refl; error_is = refl; collided_is = refl }
rest_shown false B4 address value true = record { busy_is = refl; error_is = refl; collided_is = refl }
rest_shown false B4 address value false = record { busy_is = refl; error_is = refl; collided_is = refl }
rest_shown false B8 address value true = record { busy_is = refl; error_is = refl; collided_is = refl }
rest_shown false B8 address value false = record { busy_is = refl; error_is = refl; collided_is = refl }

pub refused_shown : (on_data : Bool) (size : Size) (address value : ℕ) (collided : Bool)
    → RunShown false 2 collided (sbcs_seen (refused_bus on_data size address value collided))
refused_shown true B1 address value true = record { busy_is = refl; error_is = refl; collided_is = refl }
refused_shown true B1 address value false = record { busy_is = refl; error_is = refl; collided_is = refl }
refused_shown true B2 address value true = record { busy_is = refl; error_is = refl; collided_is = refl }
refused_shown true B2 address value false = record { busy_is = refl; error_is = refl; collided_is = refl }
refused_shown true B4 address value true = record { busy_is = refl; error_is = refl; collided_is = refl }
refused_shown true B4 address value false = record { busy_is = refl; error_is = refl; collided_is = refl }
refused_shown true B8 address value true = record { busy_is = refl; error_is = refl; collided_is = refl }
refused_shown true B8 address value false = record { busy_is = refl; error_is = refl; collided_is = refl }
refused_shown false B1 address value true = record { busy_is = refl; error_is = refl; collided_is = refl }
refused_shown false B1 address value false = record { busy_is = refl; error_is = refl; collided_is = refl }
refused_shown false B2 address value true = record { busy_is = refl; error_is = refl; collided_is = refl }
refused_shown false B2 address value false = record { busy_is = refl; error_is = refl; collided_is = refl }
refused_shown false B4 address value true = record { busy_is = refl; error_is = refl; collided_is = refl }
refused_shown false B4 address value false = record { busy_is = refl; error_is = refl; collided_is = refl }
refused_shown false B8 address value true = record { busy_is = refl; error_is = refl; collided_is = refl }
refused_shown false B8 address value false = record { busy_is = refl; error_is = refl; collided_is = refl }
