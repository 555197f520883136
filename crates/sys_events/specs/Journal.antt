-- What a journal counts of the points that it was told, each of which is a turn, a Look, a request of a debugger or an access to memory.
-- The Debug Specification has no journal: this is the record by which a session is compared with its definition.
use Rattle.std.specs.Prelude.{◌≡◌, ◌+◌, ◌-◌, ◌^◌, ◌≤◌, ℕ, Bool, true, false, List, length, count_by}
use Rattle.debug_model.specs.declared.point.Point.{Point}
use Rattle.debug_model.specs.declared.point.Point.TheVariants.{Turn, Look, HaltReq, HaltClear, ResumeReq, Access}

abbrev pub is_turn : Point → Bool
is_turn (Turn h) = true
is_turn (Look n) = false
is_turn (HaltReq h) = false
is_turn (HaltClear h) = false
is_turn (ResumeReq h) = false
is_turn Access = false

abbrev pub is_look : Point → Bool
is_look (Turn h) = false
is_look (Look n) = true
is_look (HaltReq h) = false
is_look (HaltClear h) = false
is_look (ResumeReq h) = false
is_look Access = false

abbrev pub is_request : Point → Bool
is_request (Turn h) = false
is_request (Look n) = false
is_request (HaltReq h) = true
is_request (HaltClear h) = true
is_request (ResumeReq h) = true
is_request Access = false

abbrev pub is_access : Point → Bool
is_access (Turn h) = false
is_access (Look n) = false
is_access (HaltReq h) = false
is_access (HaltClear h) = false
is_access (ResumeReq h) = false
is_access Access = true

-- how many points a journal can count
abbrev pub journal_room : ℕ
journal_room = 2 ^ 64 - 1

-- four counts are those of these points
pub record AreCountsOf (turns looks requests accesses : ℕ) (points : List Point) : Type 0 where
  pub turns_are : turns ≡ count_by is_turn points
  pub looks_are : looks ≡ count_by is_look points
  pub requests_are : requests ≡ count_by is_request points
  pub accesses_are : accesses ≡ count_by is_access points
  pub all : turns + looks + requests + accesses ≡ length points
  pub room : length points ≤ journal_room
