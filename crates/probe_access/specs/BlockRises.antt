-- How much a block of so many elements lets TCK rise at most where the schedule is fair, in operations of the rate.
-- It is this project's own: counted are what stands round the elements, the polls behind each command and each access of the bus, and what runs that come
-- too early waste. By the hart these are seven at most, for each has one look more than the one before; by the bus all behind such a run are awaited.
use Rattle.std.specs.Prelude.{ℕ, List, length, ◌+◌, ◌*◌}
use Rattle.probe_access.specs.BusStoreStreams.{data_words}

-- by the selected hart
abbrev pub load_rises : ℕ → ℕ
load_rises count = 82 * count + 64

abbrev pub store_rises : ℕ → ℕ
store_rises count = 63 * count + 304

-- by the system bus
abbrev pub bus_load_rises : ℕ → ℕ
bus_load_rises count = 6 * count + 26

abbrev pub bus_store_rises : ℕ → ℕ
bus_store_rises count = 4 * count + 14

-- of a list of values, by the words of the data that it takes
abbrev pub bus_values_rises : List ℕ → ℕ
bus_values_rises values = 2 * (data_words values + length values) + 14
