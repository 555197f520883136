-- A sink in memory, of a room that is set when it is made, with the numbers of the calls that fail.
-- A put writes what fits, and nothing where its call is to fail. No public standard defines this.
use Rattle.std.specs.Prelude.{ℕ, ◌-◌, ◌&&◌, List, [], ◌++◌, length, take, Bool, not, if◌then◌else◌, nat_le}
use Rattle.jt_base.specs.Faults.{counted}
use Rattle.jt_base.specs.FileStore.{is_listed}

pub record ByteStore : Type 0 where
  pub room : ℕ
  pub fail_at : List ℕ
  pub contents : List ℕ
  pub calls : ℕ
  pub faults : ℕ

-- whether a put of these bytes is Ok
abbrev pub takes_all : List ℕ → ByteStore → Bool
takes_all bytes s = not (is_listed s.calls s.fail_at) && nat_le (length bytes) (s.room - length s.contents)

-- what it writes
abbrev pub written : List ℕ → ByteStore → List ℕ
written bytes s = if is_listed s.calls s.fail_at then [] else take (s.room - length s.contents) bytes

abbrev pub after_put : List ℕ → ByteStore → ByteStore
after_put bytes s = record s {
  contents = s.contents ++ written bytes s;
  calls = counted s.calls;
  faults = if takes_all bytes s then s.faults else counted s.faults;
}
