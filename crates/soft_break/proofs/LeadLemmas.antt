-- Calls of software breakpoints at a told chip, as steps of a lowered plan.
use Rattle.std.proofs.Common.{◌≡◌, ◌∙◌, ◌<◌, ◌≤◌, ◌+◌, ◌++◌, ℕ, Bool, true, false, ◌&&◌, ◌||◌, List, [], ◌∷◌, Option, Some, None, Ok, Err, Result}
use Rattle.std.specs.Prelude.{⊤}
use Rattle.std.proofs.Common.{inl, inr, refl, sym, ap, subst, arith}
use Rattle.std.proofs.lemmas.Bool.{or_parts}
use Rattle.std.proofs.lemmas.Option.{none-some, same_Some}
use Rattle.std.specs.Prelude.{if◌then◌else◌}
use Rattle.rv_model.specs.declared.size.Size.TheVariants.{B4}
use Rattle.rv_model.specs.declared.size.Size.{Size}
use Rattle.rv_model.specs.Board.{Machine}
use Rattle.std.specs.FinMap.{get}
use Rattle.rv_model.specs.Memory.{Memory, after_store, is_aligned, is_inside, loaded, or_outside, store_answer}
use Rattle.rv_model.specs.Undebugged.{with_bytes}
use Rattle.rv_model.specs.declared.mem_fault.MemFault.{MemFault}
use Rattle.rv_model.specs.declared.mem_fault.MemFault.TheVariants.{Misaligned, Outside}
use Rattle.rv_model.specs.Size.{count_of}
use Rattle.debug_model.specs.Chip.{Chip}
use Rattle.debug_model.specs.declared.point.Point.TheVariants.{Access}
use Rattle.debug_model.specs.Module.{Site}
use Rattle.debug_model.specs.Scan.{WhereTold}
use Rattle.debug_model.specs.SoftCommand.{IsSoftAddress}
use Rattle.debug_model.specs.Told.{Far, site_of}
use Rattle.abstract_debugger.specs.Debugger.{by_load}
use Rattle.abstract_debugger.specs.Lines.{Line}
use Rattle.abstract_debugger.specs.Plan.{Plan, patch_bytes}
use Rattle.abstract_debugger.specs.Plan.Change.{WriteMem}
use Rattle.abstract_debugger.specs.Plan.Plan.{say}
use Rattle.abstract_debugger.specs.Stands.{At, Deals, Origin, Pointed, PointedWith, Target}
use Rattle.abstract_debugger.specs.Turns.{after_turns, turns}
use Rattle.abstract_debugger.specs.Ways.{Way}
use Rattle.abstract_debugger.proofs.DealsLemmas.{deals_at_plan, deals_loaded}
use Rattle.probe_run.specs.Happens.{target_of}
use Rattle.probe_access.specs.Accesses.{BusStoredAt, StoredAt, with_memory}
use Rattle.soft_laws.specs.Lowered.{Table, hidden_bytes, hidden_memory, lower, patched_table}
use Rattle.soft_laws.specs.Shown.{original_at}
use Rattle.soft_laws.specs.SoftBreaks.{ebreak_word, is_listed, meets, meets_some}
use Rattle.soft_laws.specs.SoftDebugger.{covering, lifting, planting}
use Rattle.soft_laws.proofs.ByteLemmas.{Apart, value_alike}
use Rattle.soft_laws.proofs.PatchLemmas.{get-hidden, hidden_uncovered}
use Rattle.soft_laws.proofs.PatchedLemmas.{meets-apart, meets-not, uncovered-apart}
use Rattle.soft_laws.proofs.SoftSteps.{covering_stands, uncovering_stands}
use Rattle.soft_break.specs.Calls.{PlantedAt}
use Rattle.soft_break.specs.Leading.{CoverLeads, LeadsTo, LiftLeads, PlantLeads, told_target}

-- ---- an object that tells

pub told_leads : (R : Chip → Option Far → Type 0) (from to : Plan) (old new : Option Far)
    → ((f : Far) (m : Machine) (sel : ℕ) (way : Way) (o : Origin) (lines : List Line) → Deals m sel way o from lines (target_of (site_of f))
    → R f.live.chip new → At m sel way o to lines (told_target new)) → WhereTold R old new → LeadsTo from to old new
told_leads R from to None new step w m sel way o lines a = absurd (none-some a.target a.is)
told_leads R from to (Some f) new step w m sel way o lines a =
    step f m sel way o lines (subst (λ t. Deals m sel way o from lines t) (sym (same_Some (target_of (site_of f)) a.target a.is)) a.holds) w

pub at_told : (m : Machine) (sel : ℕ) (way : Way) (o : Origin) (p : Plan) (lines : List Line) (far : Far) (new : Option Far) → new ≡ Some far
    → Deals m sel way o p lines (target_of (site_of far)) → At m sel way o p lines (told_target new)
at_told m sel way o p lines far new is d = record { target = target_of (site_of far); is = ap told_target is; holds = d }

-- ---- a store

abbrev answer : Bool → Bool → Result ⊤ MemFault
answer a i = if a then (if i then Ok tt else Err Outside) else Err Misaligned

stored_by : (k n : Memory) (a i : Bool) → answer a i ≡ Ok tt → (if a && i then n else k) ≡ n
stored_by k n true true e = refl
stored_by k n true false e = cc
stored_by k n false i e = cc

stored_bytes : (k : Memory) (a v : ℕ) → store_answer k a B4 ≡ Ok tt → after_store k a B4 v ≡ with_bytes k a 4 v
unfolding store_answer after_store
stored_bytes k a v is = stored_by k (with_bytes k a 4 v) (is_aligned a B4) (is_inside k a B4) is

stored_point : (a v : ℕ) (before behind : List ℕ) (s t : Site) → store_answer (after_turns before s.board).memory a B4 ≡ Ok tt
    → t.board ≡ after_turns behind (with_memory (after_store (after_turns before s.board).memory a B4 v) (after_turns before s.board))
    → t.journal ≡ (s.journal ++ turns before) ++ Access ∷ turns behind → PointedWith Access (WriteMem a patch_bytes v) (target_of s) (target_of t)
stored_point a v before behind s t taken board journal = record {
  before = before;
  behind = behind;
  board = board ∙ ap (λ k. after_turns behind (with_memory k (after_turns before s.board))) (stored_bytes (after_turns before s.board).memory a v taken);
  journal = journal;
}

-- ---- a word uncovered, and covered

abbrev LiftedDeals : Machine → ℕ → Way → Origin → (a : ℕ) → (next : ℕ → Plan) → Table → List Line → (old new : Target) → (original : ℕ) → Type 0
LiftedDeals m sel way o a next t lines old new original =
    (at : PointedWith Access (WriteMem a patch_bytes original) old new) → is_inside (after_turns at.before old.board).memory a B4 ≡ true
    → Deals m sel way o (lower (next original) (patched_table false a original t)) lines new

lifted_deals : (m : Machine) (sel : ℕ) (way : Way) (o : Origin) (a original : ℕ) (next : ℕ → Plan) (t : Table) (lines : List Line) (old new : Target)
    → is_listed t.covered a ≡ true → original_at t a ≡ original → Deals m sel way o (lower (lifting a next) t) lines old
    → LiftedDeals m sel way o a next t lines old new original
lifted_deals m sel way o a original next t lines old new listed is d =
    subst (LiftedDeals m sel way o a next t lines old new) is (λ at held. uncovering_stands m sel way o a next t lines old new listed d at held)

-- a store that was taken lies inside
taken_inside : (k : Memory) (a : ℕ) → store_answer k a B4 ≡ Ok tt → is_inside k a B4 ≡ true
unfolding store_answer
taken_inside k a is = by (is_aligned a B4) (is_inside k a B4) is
  where
    by : (x y : Bool) → answer x y ≡ Ok tt → y ≡ true
    by true true e = refl
    by true false e = cc
    by false y e = cc

pub lift_leads : (a original : ℕ) (old new : Option Far) → WhereTold (StoredAt B4 a original) old new → LiftLeads a original old new
unfolding stored_point
lift_leads a original old new stored next t listed is =
    told_leads (StoredAt B4 a original) _ _ old new (λ f m sel way o lines d s. at_told m sel way o _ lines s.far new s.is
    (lifted_deals m sel way o a original next t lines (target_of (site_of f)) (target_of (site_of s.far)) listed is d
    (stored_point a original s.before s.behind (site_of f) (site_of s.far) s.taken s.access.board s.access.journal)
    (taken_inside (after_turns s.before (site_of f).board).memory a s.taken))) stored

pub bus_lift_leads : (a original : ℕ) (old new : Option Far) → WhereTold (BusStoredAt B4 a original) old new → LiftLeads a original old new
unfolding stored_point
bus_lift_leads a original old new stored next t listed is =
    told_leads (BusStoredAt B4 a original) _ _ old new (λ f m sel way o lines d s. at_told m sel way o _ lines s.far new s.is
    (lifted_deals m sel way o a original next t lines (target_of (site_of f)) (target_of (site_of s.far)) listed is d
    (stored_point a original s.before s.behind (site_of f) (site_of s.far) s.taken s.access.board s.access.journal)
    (taken_inside (after_turns s.before (site_of f).board).memory a s.taken))) stored

pub cover_leads : (a : ℕ) (old new : Option Far) → WhereTold (StoredAt B4 a ebreak_word) old new → CoverLeads a old new
cover_leads a old new stored original next t =
    told_leads (StoredAt B4 a ebreak_word) _ _ old new (λ f m sel way o lines d s. at_told m sel way o _ lines s.far new s.is
    (covering_stands m sel way o a original next t lines (target_of (site_of f)) (target_of (site_of s.far)) d
    (stored_point a ebreak_word s.before s.behind (site_of f) (site_of s.far) s.taken s.access.board s.access.journal))) stored

-- ---- a breakpoint set

pub byte_apart : (cs : List ℕ) (a n q : ℕ) → meets_some cs a n ≡ false → a ≤ q → q < a + n → meets_some cs q 1 ≡ false
byte_apart [] a n q none from less = refl
byte_apart (c ∷ cs) a n q none from less =
    let parts = or_parts (meets c a n) (meets_some cs a n) none in
    ap (λ b. b || meets_some cs q 1) (meets-not c q 1 (closer (meets-apart c a n parts.0))) ∙ byte_apart cs a n q parts.1 from less
  where
    closer : Apart c 4 a n → Apart c 4 q 1
    closer (inl front) = inl (omega (arith, front, from))
    closer (inr behind) = inr (omega (arith, behind, less))

-- an element that meets no covered word is read as it is
pub loaded_apart : (t : Table) (m : Memory) (a : ℕ) (size : Size) → meets_some t.covered a (count_of size) ≡ false
    → loaded (hidden_memory t m) a size ≡ loaded m a size
unfolding loaded
loaded_apart t m a size none =
    ap (λ o. if is_aligned a size then or_outside o else Err Misaligned)
    (value_alike (hidden_bytes t.covered t.originals m.bytes) m.bytes a (count_of size) (λ q from less. get-hidden t.covered t.originals m.bytes q
    ∙ hidden_uncovered t.covered q (get t.originals q) (get m.bytes q) (byte_apart t.covered a (count_of size) q none from less)))

read_deals : (m : Machine) (sel : ℕ) (way : Way) (o : Origin) (a original : ℕ) (next set : Plan) (t : Table) (lines : List Line) (old new : Target)
    → meets_some t.covered a 4 ≡ false → Deals m sel way o (lower (planting a next set) t) lines old → (at : Pointed Access old new)
    → loaded (after_turns at.before old.board).memory a B4 ≡ Ok original
    → Deals m sel way o (lower (covering a original (say (Line.SoftSet a) set)) t) lines new
unfolding lower
read_deals m sel way o a original next set t lines old new none d at is =
    deals_at_plan m sel way o _ _ lines new
    (ap (λ r. lower (by_load r (say (Line.MemoryFault a) next) (λ v. covering a v (say (Line.SoftSet a) set))) t)
    (loaded_apart t (after_turns at.before old.board).memory a B4 none ∙ is))
    (deals_loaded m sel way o (λ b. lower (by_load (loaded (hidden_memory t b.memory) a B4) (say (Line.MemoryFault a) next)
    (λ v. covering a v (say (Line.SoftSet a) set))) t) lines old new d at)

planted_at : (a original : ℕ) (f : Far) (new : Option Far) (m : Machine) (sel : ℕ) (way : Way) (o : Origin) (next set : Plan) (t : Table) (lines : List Line)
    → meets_some t.covered a 4 ≡ false → Deals m sel way o (lower (planting a next set) t) lines (target_of (site_of f))
    → PlantedAt a original f.live.chip new → At m sel way o (lower (say (Line.SoftSet a) set) (patched_table true a original t)) lines (told_target new)
planted_at a original f new m sel way o next set t lines none d p =
    let same : p.mid ≡ p.read.far = same_Some p.mid p.read.far p.read.is in
    let at : Pointed Access (target_of (site_of f)) (target_of (site_of p.mid)) =
    record {
      before = p.read.before;
      behind = p.read.behind;
      board = ap (λ (g : Far). (site_of g).board) same ∙ p.read.access.board;
      journal = ap (λ (g : Far). (site_of g).journal) same ∙ p.read.access.journal;
    } in
    at_told m sel way o _ lines p.wrote.far new p.wrote.is
    (covering_stands m sel way o a original (say (Line.SoftSet a) set) t lines (target_of (site_of p.mid)) (target_of (site_of p.wrote.far))
    (read_deals m sel way o a original next set t lines (target_of (site_of f)) (target_of (site_of p.mid)) none d at p.read.value_is)
    (stored_point a ebreak_word p.wrote.before p.wrote.behind (site_of p.mid) (site_of p.wrote.far) p.wrote.taken p.wrote.access.board
    p.wrote.access.journal))

pub plant_leads : (a original : ℕ) (old new : Option Far) → IsSoftAddress a → WhereTold (PlantedAt a original) old new → PlantLeads a original old new
plant_leads a original old new word planted next set t are free =
    told_leads (PlantedAt a original) _ _ old new (λ f m sel way o lines d p. planted_at a original f new m sel way o next set t lines
    (uncovered-apart t.covered are a word.0 free) d p) planted
