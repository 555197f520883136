-- Looks, and reads and writes of a hart's registers, keep how many harts there are: so no more of them are made to halt at an ebreak.
use Rattle.std.proofs.Common.{◌≡◌, ◌∙◌, ◌≤◌, ◌<◌, ◌+◌, ◌*◌, ℕ, List, [], ◌∷◌, length, Option, Some, None, IfSome, slice_get, refl, ap, subst, arith}
use Rattle.std.proofs.lemmas.List.{length-set}
use Rattle.std.proofs.lemmas.Option.{slice_get_within}
use Rattle.rv_model.specs.Board.{Board, Hart}
use Rattle.rv_model.specs.Turn.{turn, turn_by}
use Rattle.debug_model.specs.Chip.{Chip}
use Rattle.debug_model.specs.Kept.{DmiSeen}
use Rattle.debug_model.specs.Pacing.{Paced}
use Rattle.debug_model.specs.Rises.{Within}
use Rattle.debug_model.specs.Scan.{WhereTold}
use Rattle.debug_model.specs.Told.{Far, HartHalted, IsHalted, chip_of, site_of}
use Rattle.debug_model.proofs.RiseLemmas.{within_more}
use Rattle.abstract_debugger.specs.Turns.{after_turns}
use Rattle.probe_run.specs.Acts.{Tells}
use Rattle.probe_run.specs.Happens.{IsAsSeen, Leaves, LooksAt}
use Rattle.probe_run.specs.declared.hart.Halted.{Halted}
use Rattle.probe_run.specs.declared.hart.Seen.{Seen}
use Rattle.probe_run.specs.declared.hart.Seen.TheVariants as seen
use Rattle.probe_access.specs.Registers.{RegisterReadAt, RegisterWrittenAt}
use Rattle.probe_access.proofs.PollRises.{within_few}
use Rattle.soft_break.specs.Preparing.{EbreakSet, LookOf}
use Rattle.soft_break.specs.PrepareRises.{prepare_rises}
use Rattle.soft_break.proofs.PrepareSteps.{looked_number}

turn_count : (o : Option Hart) (h : ℕ) (b : Board) → length (turn_by o h b).harts ≡ length b.harts
turn_count None h b = refl
turn_count (Some hart) h b = length-set b.harts h _

turns_count : (hs : List ℕ) (b : Board) → length (after_turns hs b).harts ≡ length b.harts
turns_count [] b = refl
turns_count (h ∷ hs) b = turns_count hs (turn h b) ∙ turn_count (slice_get b.harts h) h b

-- the chip is told behind it too, and has as many harts
pub record SameHarts (c : Chip) (new : Option Far) : Type 0 where
  pub far : Far
  pub is : new ≡ Some far
  pub same : length (site_of far).board.harts ≡ length c.inside.works.site.board.harts

look_same : (h : ℕ) (s : Seen) (c : Chip) (new : Option Far) → Leaves (LooksAt h s) h c new → SameHarts c new
look_same h s c new l =
    let p = l.happened.look.pointed in
    record { far = l.far; is = l.is; same = ap (λ (b : Board). length b.harts) p.board ∙ turns_count p.behind _ ∙ turns_count p.before _ }

read_same : (h number value : ℕ) (c : Chip) (new : Option Far) → RegisterReadAt h number value c new → SameHarts c new
read_same h number value c new r =
    record { far = r.far; is = r.is; same = ap (λ (b : Board). length b.harts) r.passed.board ∙ turns_count r.passed.harts _ }

written_same : (h number value : ℕ) (c : Chip) (new : Option Far) → RegisterWrittenAt h number value c new → SameHarts c new
written_same h number value c new r = record {
  far = r.far;
  is = r.is;
  same = ap (λ (b : Board). length b.harts) r.passed.board ∙ length-set (after_turns r.passed.harts c.inside.works.site.board).harts h _
      ∙ turns_count r.passed.harts _;
}

same_at : (f : Far) (mid new : Option Far) → SameHarts (chip_of f) mid → WhereTold SameHarts mid new → SameHarts (chip_of f) new
same_at f mid new p w =
    let q : SameHarts (chip_of p.far) new = subst (λ x. WhereTold SameHarts x new) p.is w in record { far = q.far; is = q.is; same = q.same ∙ p.same }

same_then : (old mid new : Option Far) → WhereTold SameHarts old mid → WhereTold SameHarts mid new → WhereTold SameHarts old new
same_then None mid new p w = subst (λ x. WhereTold SameHarts x new) p w
same_then (Some f) mid new p w = same_at f mid new p w

looks_same : (h : ℕ) (s : Seen) (old new : Option Far) → WhereTold (Leaves (LooksAt h s) h) old new → WhereTold SameHarts old new
looks_same h s None new l = l
looks_same h s (Some f) new l = look_same h s (chip_of f) new l

reads_same : (h number value : ℕ) (old new : Option Far) → WhereTold (RegisterReadAt h number value) old new → WhereTold SameHarts old new
reads_same h number value None new r = r
reads_same h number value (Some f) new r = read_same h number value (chip_of f) new r

writes_same : (h number value : ℕ) (old new : Option Far) → WhereTold (RegisterWrittenAt h number value) old new → WhereTold SameHarts old new
writes_same h number value None new r = r
writes_same h number value (Some f) new r = written_same h number value (chip_of f) new r

set_same : (h : ℕ) (old new : Tells) → EbreakSet h old new → WhereTold SameHarts old.far new.far
set_same h old new e = same_then old.far e.mid.far new.far (reads_same h _ e.word old.far e.mid.far e.read_at) (writes_same h _ _ e.mid.far new.far
    e.written_at)

pub none_same : (told : Option Far) → WhereTold SameHarts told told
none_same None = refl
none_same (Some f) = record { far = f; is = refl; same = refl }

pub one_same : (h : ℕ) (x : Halted) (old mid looked new : Tells) → WhereTold SameHarts old.far mid.far → LookOf h (seen.Halted x) mid looked
    → EbreakSet x.number looked new → WhereTold SameHarts old.far new.far
one_same h x old mid looked new same look set =
    same_then old.far mid.far new.far same
    (same_then mid.far looked.far new.far (looks_same h (seen.Halted x) mid.far looked.far look.happened) (set_same x.number looked new set))

-- ---- a hart that was seen halted is one of them

there : (h : ℕ) (b : Board) → HartHalted h b → h < length b.harts
there h b e = slice_get_within b.harts h e.hart e.is

below_at : (h n : ℕ) (f : Far) (looked : Option Far) → SameHarts (chip_of f) looked → IsHalted n looked → n ≡ h → h + 1 ≤ length (site_of f).board.harts
below_at h n f looked p halted is =
    let e : HartHalted n (site_of p.far).board = subst (λ x. IsHalted n x) p.is halted in
    let k : n < length (site_of p.far).board.harts = there n (site_of p.far).board e in
    let same : length (site_of p.far).board.harts ≡ length (site_of f).board.harts = p.same in omega (arith, k, same, is)

below_told : (h n : ℕ) (old looked : Option Far) → WhereTold SameHarts old looked → IsHalted n looked → n ≡ h → IfSome old (λ f. h + 1 ≤ length (site_of
    f).board.harts)
below_told h n None looked p halted is = tt
below_told h n (Some f) looked p halted is = below_at h n f looked p halted is

pub one_below : (h : ℕ) (x : Halted) (old mid looked : Tells) → WhereTold SameHarts old.far mid.far → LookOf h (seen.Halted x) mid looked
    → IsHalted x.number looked.far → IfSome old.far (λ f. h + 1 ≤ length (site_of f).board.harts)
one_below h x old mid looked same look halted =
    below_told h x.number old.far looked.far
    (same_then old.far mid.far looked.far same (looks_same h (seen.Halted x) mid.far looked.far look.happened)) halted
    (looked_number h x mid looked look)

pub seen_halted : (s : Seen) (x : Halted) (told : Option Far) → s ≡ seen.Halted x → IsAsSeen told s → IsHalted x.number told
seen_halted s x told is there = subst (λ r. IsAsSeen told r) is there

pub none_below : (told : Option Far) → IfSome told (λ f. 0 ≤ length (site_of f).board.harts)
none_below None = tt
none_below (Some f) = omega arith

-- ---- so many, and a Look more

few_told : (h : ℕ) (told : Option Far) → IfSome told (λ f. h ≤ length (site_of f).board.harts) → IfSome told (λ f. 26 * h + 2 ≤ prepare_rises told)
few_told h None below = tt
few_told h (Some f) below = let b : h ≤ length (site_of f).board.harts = below in omega (arith, b)

paced_few : (n k : ℕ) (told : Option Far) → IfSome told (λ f. n ≤ k) → IfSome told (λ f. Paced (chip_of f).inside → n ≤ k)
paced_few n k None few = tt
paced_few n k (Some f) few = λ paced. few

pub prepare_within : (n h : ℕ) (old new : DmiSeen) → Within n old new → n ≤ 26 * h + 2 → IfSome old.far (λ f. h ≤ length (site_of f).board.harts)
    → Within (prepare_rises old.far) old new
prepare_within n h old new within few below =
    within_few (26 * h + 2) (prepare_rises old.far) old new (within_more n (26 * h + 2) old new within few)
    (paced_few (26 * h + 2) (prepare_rises old.far) old.far (few_told h old.far below))
