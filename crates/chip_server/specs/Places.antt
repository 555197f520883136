-- The place of an end: among so many bytes, in a later piece, and behind a first one.
use Rattle.std.proofs.Common.{◌≡◌, ◌+◌, ◌<◌, ℕ, Option, Some, None, refl, subst}
use Rattle.debug_model.specs.declared.chip_end.ChipEnd.{ChipEnd}
use Rattle.debug_model.specs.declared.chip_end.ChipEnd.TheVariants.{Quitted, BadByte, AtLimit}
use Rattle.chip_core.specs.Fed.{fed_at, placed}
use Rattle.chip_core.specs.Pieces.{joined, moved_by}
use Rattle.chip_core.specs.declared.fed.Fed.{Fed}
use Rattle.chip_server.specs.Feeding.{StandsIn}

pub stands_as : (n m : ℕ) (f : Fed) → m ≡ n → StandsIn m f → StandsIn n f
stands_as n m f is stands = subst (λ k. StandsIn k f) is stands

pub stands_placed : (o : Option ChipEnd) (place n : ℕ) (later : Fed) → place < n → StandsIn n later → StandsIn n (placed o place later)
stands_placed None place n later here stands = stands
stands_placed (Some Quitted) place n later here stands = here
stands_placed (Some (BadByte b)) place n later here stands = here
stands_placed (Some AtLimit) place n later here stands = here

moved_at : (e : ChipEnd) (n place : ℕ) → fed_at e (n + place) ≡ moved_by n (fed_at e place)
moved_at Quitted n place = refl
moved_at (BadByte b) n place = refl
moved_at AtLimit n place = refl

pub moved_placed : (o : Option ChipEnd) (n place : ℕ) (first whole : Fed) → whole ≡ moved_by n first
    → placed o (n + place) whole ≡ moved_by n (placed o place first)
moved_placed None n place first whole is = is
moved_placed (Some e) n place first whole is = moved_at e n place

joined_at : (e : ChipEnd) (n place : ℕ) (second : Fed) → fed_at e place ≡ joined n (fed_at e place) second
joined_at Quitted n place second = refl
joined_at (BadByte b) n place second = refl
joined_at AtLimit n place second = refl

pub joined_placed : (o : Option ChipEnd) (n place : ℕ) (whole first second : Fed) → whole ≡ joined n first second
    → placed o place whole ≡ joined n (placed o place first) second
joined_placed None n place whole first second is = is
joined_placed (Some e) n place whole first second is = joined_at e n place second
