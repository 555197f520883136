-- What calls of a debugger may do, beside letting turns pass.
-- They are this project's own words.
use Rattle.std.specs.Prelude.{ℕ, [], ◌∷◌, Bool, true, false}
use Rattle.rv_model.specs.declared.size.Size.{Size}
use Rattle.left_laws.specs.Left.{Scope}
use Rattle.left_laws.specs.Left.Harts.{AnyHart, NoHart, OneHart}

-- nothing
abbrev pub passive : Scope
passive = record { asks = NoHart; changes = NoHart; accesses = false; stores = [] }

-- a hart is looked at, and asked to halt and to resume
abbrev pub asking : ℕ → Scope
asking h = record { asks = OneHart h; changes = NoHart; accesses = false; stores = [] }

-- a hart's debug part is written
abbrev pub changing : ℕ → Scope
changing h = record { asks = NoHart; changes = OneHart h; accesses = false; stores = [] }

-- both
abbrev pub driving : ℕ → Scope
driving h = record { asks = OneHart h; changes = OneHart h; accesses = false; stores = [] }

-- both of any hart
abbrev pub preparing : Scope
preparing = record { asks = AnyHart; changes = AnyHart; accesses = false; stores = [] }

-- memory is read, or not
abbrev pub reading : Bool → Scope
reading accesses = record { asks = NoHart; changes = NoHart; accesses = accesses; stores = [] }

-- so many elements of memory are given a value, or accessed in vain
abbrev pub storing : Size → ℕ → ℕ → ℕ → Scope
storing size address value count =
    record { asks = NoHart; changes = NoHart; accesses = true; stores = record { size = size; address = address; value = value; count = count } ∷ [] }
