-- A net in memory: what it holds, what each call answers and changes, and what it tells. It gives its input in pieces of a
-- set size, keeps what is put within a set room, and fails at the calls of the listed numbers. Behind `join` what is put at
-- one end is unread at the other. No public standard defines this.
use Rattle.std.specs.Prelude.{
  ◌≡◌,
  ℕ,
  ◌+◌,
  ◌-◌,
  ◌&&◌,
  ◌==◌,
  min,
  List,
  [],
  ◌++◌,
  length,
  take,
  drop,
  Bool,
  true,
  false,
  not,
  if◌then◌else◌,
  nat_le,
  nat_lt,
  Option,
  None,
  Some,
  option_map,
  Result,
  Ok,
  Err,
}
use Rattle.jt_base.specs.Faults.{counted}
use Rattle.jt_base.specs.FileStore.{is_listed}
use Rattle.debug_model.specs.Net.{given_most, Exchange, NetState, Peer, Pipe}
use Rattle.debug_model.specs.Ties.{NetTies, Opening}
use Rattle.debug_model.specs.declared.net.Call.{Call}
use Rattle.debug_model.specs.declared.net.NetFault.{NetFault}
use Rattle.debug_model.specs.declared.net.NetFault.TheVariants as faults
use Rattle.debug_model.specs.declared.net.End.{End}
use Rattle.debug_model.specs.declared.net.End.TheVariants as ends

pub record Store : Type 0 where
  pub coming : List ℕ  -- unread at the near end
  pub put : List ℕ  -- put at the near end; behind `join`, what of it is unread at the far end
  pub piece : ℕ  -- the most bytes of one take
  pub room : ℕ
  pub fail_at : List ℕ
  pub calls : ℕ
  pub opening : Option Call
  pub address : Option (List ℕ)
  pub near_open : Bool
  pub far_open : Bool
  pub near_given : ℕ
  pub far_given : ℕ
  pub faults : ℕ
  pub ends : ℕ

abbrev pub new_store : List ℕ → ℕ → ℕ → List ℕ → Store
new_store input piece room fail_at = record {
  coming = input;
  put = [];
  piece = piece;
  room = room;
  fail_at = fail_at;
  calls = 0;
  opening = None;
  address = None;
  near_open = false;
  far_open = false;
  near_given = 0;
  far_given = 0;
  faults = 0;
  ends = 0;
}

-- What it tells

abbrev pub exchange_of : Bool → Bool → List ℕ → List ℕ → Option Exchange
exchange_of false far coming put = None
exchange_of true false coming put = Some (record { coming = coming; put = put })
exchange_of true true coming put = None

abbrev pub pipe_of : Bool → List ℕ → List ℕ → Option Pipe
pipe_of false coming put = None
pipe_of true coming put = Some (record { near = coming; far = put })

abbrev pub opened_at : Option (List ℕ) → Call → Opening
opened_at address call = record { call = call; address = address }

abbrev pub ties_of : Store → NetTies
ties_of s = record { tells_pipe = true; opening = option_map (opened_at s.address) s.opening }

abbrev pub state_of : Store → NetState
state_of s = record {
  ties = ties_of s;
  near_open = s.near_open;
  far_open = s.far_open;
  near_given = s.near_given;
  far_given = s.far_given;
  chip = None;
  exchange = exchange_of s.near_open s.far_open s.coming s.put;
  pipe = pipe_of s.far_open s.coming s.put;
}

abbrev pub peer_of : Store → Peer
peer_of s = record { chip = None; coming = Some s.coming }

-- What its calls do

-- whether this call is one of those that fail
abbrev pub fails_here : Store → Bool
fails_here s = is_listed s.calls s.fail_at

abbrev pub called : Store → Store
called s = record s { calls = counted s.calls }

abbrev pub failed : Store → Store
failed s = record s { faults = counted s.faults }

abbrev pub started : Call → Store → Store
started call s = record (called s) { opening = Some call; address = None }

abbrev pub opened_near : Store → Store
opened_near s = record s { put = []; near_open = true; far_open = false }

abbrev pub opened_both : Store → Store
opened_both s = record s { coming = []; put = []; near_open = true; far_open = true }

-- how many bytes may still be put at an end
abbrev pub left_at : End → Store → ℕ
left_at ends.Near s = s.room - length s.put
left_at ends.Far s = s.room - length s.coming

abbrev pub kept_at : End → List ℕ → Store → Store
kept_at ends.Near bytes s = record s { put = s.put ++ bytes }
kept_at ends.Far bytes s = record s { coming = s.coming ++ bytes }

-- what is unread at an end, and how many bytes it gave
abbrev pub unread : End → Store → List ℕ
unread ends.Near s = s.coming
unread ends.Far s = s.put

abbrev pub given : End → Store → ℕ
given ends.Near s = s.near_given
given ends.Far s = s.far_given

-- how many bytes come out of an end for so many that are wanted
abbrev pub count_at : End → ℕ → Store → ℕ
count_at at wanted s = min (min s.piece (given_most - given at s)) (min wanted (length (unread at s)))

abbrev pub taken_at : End → ℕ → Store → Store
taken_at ends.Near n s = record s { coming = drop n s.coming; near_given = s.near_given + n }
taken_at ends.Far n s = record s { put = drop n s.put; far_given = s.far_given + n }

abbrev pub takes_all : End → List ℕ → Store → Bool
takes_all at bytes s = not (fails_here s) && nat_le (length bytes) (left_at at s)

abbrev pub gives_any : End → Store → Bool
gives_any at s = not (fails_here s) && nat_lt (given at s) given_most

-- the answers of a call that opens: it fails where its number is listed, or for want of memory
abbrev pub Opens : {T : Type 0} → Bool → Result T NetFault → Type 0
Opens listed (Ok _) = listed ≡ false
Opens listed (Err faults.Failed) = listed ≡ true
Opens listed (Err faults.NoMemory) = Unit {0}

-- after a call that was made at this address and failed
abbrev pub refused_at : Option (List ℕ) → Call → Store → Store
refused_at address call s = failed (record (started call s) { address = address })

abbrev pub Refused : NetFault → Store → Store → Type 0
Refused faults.Failed new wanted = new ≡ wanted
Refused faults.NoMemory new wanted = Unit {0}

-- after a put: what fits is kept, and nothing where its number is listed
abbrev pub after_put : End → List ℕ → Store → Store
after_put at bytes s = if fails_here s then failed (called s) else if nat_le (length bytes) (left_at at s) then kept_at at bytes (called s)
    else failed (kept_at at (take (left_at at s) bytes) (called s))

-- after a take of so many bytes, of which none is the end
abbrev pub counted_end : ℕ → Store → Store
counted_end n s = record s { ends = if n == 0 then counted s.ends else s.ends }
