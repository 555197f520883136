-- How what a probe remembers of its software breakpoints stands to the table along which a session's plan is lowered.
-- It is this project's own. The two list the same words, in orders of their own, and remember the same of each.
use Rattle.std.specs.Prelude.{◌≡◌, ◌<◌, ◌^◌, ℕ, true}
use Rattle.soft_laws.specs.Lowered.{Table}
use Rattle.soft_laws.specs.Shown.{original_at}
use Rattle.soft_laws.specs.SoftBreaks.{AreSoftAddresses, is_listed, meets_some}
use Rattle.std.specs.FinMap.{get}
use Rattle.soft_break.specs.Patches.{ArePatches, Patches, laid, original_of}

pub record Holds (p : Patches) (t : Table) : Type 0 where
  pub are : ArePatches p
  pub listed : (a : ℕ) → is_listed t.covered a ≡ is_listed p.addresses a
  pub words : AreSoftAddresses t.covered
  pub fits : (a : ℕ) → is_listed p.addresses a ≡ true → original_of a p < 2 ^ 32
  pub exact : (a : ℕ) → is_listed p.addresses a ≡ true → original_at t a ≡ original_of a p
  pub bytes : (q : ℕ) → meets_some t.covered q 1 ≡ true → get t.originals q ≡ get (laid p.addresses p.originals) q
