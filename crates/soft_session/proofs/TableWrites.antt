-- The probe's table and the plan's show and merge the same, and go on together through what a user writes.
use Rattle.std.proofs.Common.{◌≡◌, ◌∙◌, ◌<◌, ◌^◌, ℕ, true, false, List, length, unwrap_or}
use Rattle.std.proofs.Common.{All, is_some, refl, sym, ap, subst}
use Rattle.std.specs.FinMap.{get}
use Rattle.std.proofs.lemmas.Bool.{false≢true}
use Rattle.debug_model.specs.SoftCommand.{IsSoftAddress}
use Rattle.soft_laws.specs.Lowered.{Table, merged, written_table}
use Rattle.soft_laws.specs.Shown.{RemembersEach, shown_value}
use Rattle.soft_laws.specs.SoftBreaks.{AreSoftAddresses, is_listed, meets_some}
use Rattle.soft_laws.proofs.ByteLemmas.{Place, byte_above, byte_below, byte_or, get-with_value, place_of, value_alike}
use Rattle.soft_laws.proofs.ByteLemmas.Place.{below, within, above}
use Rattle.soft_laws.proofs.PatchLemmas.{remembers-write}
use Rattle.soft_laws.proofs.PatchedLemmas.{meets-here}
use Rattle.soft_break.specs.Patches.{ArePatches, IsSameTable, KeepsWords, Patches, Upwards, laid, original_of, table_of}
use Rattle.soft_break.proofs.LeadLemmas.{byte_apart}
use Rattle.soft_break.proofs.TableBytes.{all_soft, laid_there, laid_word, listed_byte, meets_alike, merged_alike}
use Rattle.soft_break.proofs.TableBytes.{shown_alike}
use Rattle.soft_session.specs.Tables.{Holds}

pub covers_alike : (p : Patches) (t : Table) → Holds p t → (q n : ℕ) → meets_some t.covered q n ≡ meets_some p.addresses q n
covers_alike p t h q n = meets_alike t.covered p.addresses h.listed q n

pub remembers_each : (p : Patches) (t : Table) → Holds p t → RemembersEach t
remembers_each p t h q is =
    ap is_some (h.bytes q is) ∙ laid_there q p.addresses p.originals h.are.alike (sym (covers_alike p t h q 1) ∙ is)

pub values_alike : (p : Patches) (t : Table) → Holds p t → (a n v : ℕ) → shown_value t a n v ≡ shown_value (table_of p) a n v
values_alike p t h a n v = shown_alike t (table_of p) (λ q. covers_alike p t h q 1) h.bytes a n v

pub writes_alike : (p : Patches) (t : Table) → Holds p t → (a n v : ℕ) → merged p.addresses a n v ≡ merged t.covered a n v
writes_alike p t h a n v = merged_alike p.addresses t.covered (all_soft p.addresses h.are.words) h.words (λ q. sym (covers_alike p t h q 1)) a n v

patches_same : (p q : Patches) → q.addresses ≡ p.addresses → KeepsWords p q → ArePatches p → ArePatches q
patches_same p q same keeps are = record {
  upwards = subst Upwards (sym same) are.upwards;
  alike = keeps.alike ∙ are.alike ∙ ap (λ (cs : List ℕ). length cs) (sym same);
  words = subst (All IsSoftAddress) (sym same) are.words;
}

-- a table whose bytes are these remembers these words
holds_bytes : (p q : Patches) (t u : Table) → q.addresses ≡ p.addresses → KeepsWords p q → u.covered ≡ t.covered → Holds p t
    → ((r : ℕ) → meets_some u.covered r 1 ≡ true → get u.originals r ≡ get (laid q.addresses q.originals) r) → Holds q u
holds_bytes p q t u same keeps cover h bytes = record {
  are = are;
  listed = listed;
  words = subst AreSoftAddresses (sym cover) h.words;
  fits = fits;
  exact = λ a is. ap (λ o. unwrap_or o 0) (value_alike u.originals (laid q.addresses q.originals) a 4 (λ r from less. bytes r
      (listed_byte u.covered a r (listed a ∙ is) (meets-here a r from less)))
      ∙ laid_word a q.addresses q.originals are.words are.alike is (fits a is));
  bytes = bytes;
}
  where
    are : ArePatches q
    are = patches_same p q same keeps h.are

    listed : (a : ℕ) → is_listed u.covered a ≡ is_listed q.addresses a
    listed a = ap (λ (cs : List ℕ). is_listed cs a) cover ∙ h.listed a ∙ ap (λ (cs : List ℕ). is_listed cs a) (sym same)

    fits : (a : ℕ) → is_listed q.addresses a ≡ true → original_of a q < 2 ^ 32
    fits a is = keeps.fits a (h.fits a (ap (λ (cs : List ℕ). is_listed cs a) (sym same) ∙ is))

pub holds_written : (b n v : ℕ) (p q : Patches) (t : Table) → q.addresses ≡ p.addresses → KeepsWords p q
    → IsSameTable (written_table b n v (table_of p)) (table_of q) → Holds p t → Holds q (written_table b n v t)
holds_written b n v p q t same keeps taken h =
    holds_bytes p q t (written_table b n v t) same keeps refl h (λ r is. remembers-write t.covered t.originals
    (laid p.addresses p.originals) b n v h.bytes r is
    ∙ taken.bytes r (sym (covers_alike p t h r 1) ∙ is))

-- a write beside every breakpoint leaves the words
pub holds_beside : (b n v : ℕ) (p q : Patches) (t : Table) → q.addresses ≡ p.addresses → KeepsWords p q
    → IsSameTable (written_table b n v (table_of p)) (table_of q) → meets_some p.addresses b n ≡ false → Holds p t → Holds q t
holds_beside b n v p q t same keeps taken none h =
    holds_bytes p q t t same keeps refl h (λ r is.
    let covers : meets_some p.addresses r 1 ≡ true = sym (covers_alike p t h r 1) ∙ is in
    h.bytes r is ∙ sym (get-with_value (laid p.addresses p.originals) b n v r ∙ stays r covers (place_of b n r)) ∙ taken.bytes r covers)
  where
    stays : (r : ℕ) → meets_some p.addresses r 1 ≡ true → Place b n r
        → byte_or b n v r (get (laid p.addresses p.originals) r) ≡ get (laid p.addresses p.originals) r
    stays r covers (below less) = byte_below b n v r _ less
    stays r covers (above more) = byte_above b n v r _ more
    stays r covers (within from less) = absurd (false≢true (sym (byte_apart p.addresses b n r none from less) ∙ covers))
