-- A breakpoint that was to be set outside memory, at a told chip: the word was not read. Behind a read no store of the word is refused.
use Rattle.std.proofs.Common.{◌≡◌, ◌∙◌, ◌+◌, ℕ, zero, suc, Bool, true, false, List, Option, Some, None, Result, Ok, Err, is_some}
use Rattle.std.proofs.Common.{refl, sym, ap, subst, if◌then◌else◌}
use Rattle.std.proofs.lemmas.Bool.{false≢true}
use Rattle.std.proofs.lemmas.Option.{same_Some}
use Rattle.std.specs.FinMap.{get}
use Rattle.std.specs.Prelude.{⊤}
use Rattle.rv_model.specs.declared.mem_fault.MemFault.{MemFault}
use Rattle.rv_model.specs.declared.mem_fault.MemFault.TheVariants.{Misaligned, Outside}
use Rattle.rv_model.specs.declared.size.Size.TheVariants.{B4}
use Rattle.rv_model.specs.Board.{Board, Machine}
use Rattle.rv_model.specs.Memory.{Bytes, Memory, is_aligned, loaded, or_outside, store_answer, value_at, with_byte}
use Rattle.debug_model.specs.declared.point.Point.TheVariants.{Access}
use Rattle.debug_model.specs.Scan.{WhereTold}
use Rattle.debug_model.specs.SoftCommand.{IsSoftAddress}
use Rattle.debug_model.specs.Told.{Far, site_of}
use Rattle.abstract_debugger.specs.Debugger.{by_load}
use Rattle.abstract_debugger.specs.Lines.{Line}
use Rattle.abstract_debugger.specs.Plan.{Plan}
use Rattle.abstract_debugger.specs.Plan.Plan.{say, stop}
use Rattle.abstract_debugger.specs.Plan.PlanEnd.{Done}
use Rattle.abstract_debugger.specs.Stands.{At, Deals, Origin, Pointed, Target}
use Rattle.abstract_debugger.specs.Transcript.{start}
use Rattle.abstract_debugger.specs.Turns.{after_turns, turns}
use Rattle.abstract_debugger.specs.Ways.{Way}
use Rattle.abstract_debugger.proofs.DealsLemmas.{deals_at_plan, deals_loaded}
use Rattle.abstract_debugger.proofs.StandsLemmas.{replay-stop, spin-board}
use Rattle.probe_run.specs.Happens.{target_of}
use Rattle.probe_access.specs.declared.fault.AccessFault.{AccessFault}
use Rattle.probe_access.specs.declared.fault.AccessFault.TheVariants as access_fault
use Rattle.probe_access.specs.Accesses.{AccessLeft, BusLoadedAt, BusStoreRefused, IfMemory}
use Rattle.soft_laws.specs.CallLaws.{Stays}
use Rattle.soft_laws.specs.Lowered.{Table, hidden_memory, lower}
use Rattle.soft_laws.specs.SoftBreaks.{meets_some}
use Rattle.soft_laws.specs.SoftDebugger.{covering, planting}
use Rattle.soft_laws.proofs.PatchedLemmas.{uncovered-apart}
use Rattle.soft_laws.proofs.ReadLemmas.{bytes_stay}
use Rattle.soft_break.specs.Calls.{PlantRefused}
use Rattle.soft_break.specs.Leading.{RefusalLeads, told_target}
use Rattle.soft_break.proofs.LeadLemmas.{at_told, loaded_apart, told_leads}

-- ---- what was read can be stored

value_stays : (m n : Bytes) (a count : ℕ) → ((q : ℕ) → is_some (get m q) ≡ true → is_some (get n q) ≡ true)
    → is_some (value_at m a count) ≡ true → is_some (value_at n a count) ≡ true
value_stays m n a zero there is = refl
value_stays m n a (suc count) there is =
    by (get m a) (get n a) (value_at m (a + 1) count) (value_at n (a + 1) count) is (there a) (value_stays m n (a + 1) count there)
  where
    by : (x y v w : Option ℕ) → is_some (with_byte x v) ≡ true → (is_some x ≡ true → is_some y ≡ true) → (is_some v ≡ true → is_some w ≡ true)
        → is_some (with_byte y w) ≡ true
    by None y v w none first rest = absurd (false≢true none)
    by (Some b) y None w none first rest = absurd (false≢true none)
    by (Some b) None (Some v) w some first rest = absurd (false≢true (first refl))
    by (Some b) (Some c) (Some v) None some first rest = absurd (false≢true (rest refl))
    by (Some b) (Some c) (Some v) (Some w) some first rest = refl

value_read : (o : Option ℕ) (v : ℕ) → or_outside o ≡ Ok v → is_some o ≡ true
value_read (Some w) v is = refl
value_read None v is = cc

abbrev answer_by : Bool → Bool → Result ⊤ MemFault
answer_by a i = if a then (if i then Ok tt else Err Outside) else Err Misaligned

taken_by : (a i : Bool) → a ≡ true → i ≡ true → answer_by a i ≡ Ok tt
taken_by true true e f = refl
taken_by true false e f = absurd (false≢true f)
taken_by false i e f = absurd (false≢true e)

abbrev read_by : Bool → Option ℕ → Result ℕ MemFault
read_by a o = if a then or_outside o else Err Misaligned

read_aligned : (a : Bool) (o : Option ℕ) (v : ℕ) → read_by a o ≡ Ok v → a ≡ true
read_aligned true o v is = refl
read_aligned false o v is = cc

read_some : (a : Bool) (o : Option ℕ) (v : ℕ) → read_by a o ≡ Ok v → is_some o ≡ true
read_some true o v is = value_read o v is
read_some false o v is = cc

stored : (m n : Memory) (a v : ℕ) → ((q : ℕ) → is_some (get m.bytes q) ≡ true → is_some (get n.bytes q) ≡ true) → loaded m a B4 ≡ Ok v
    → store_answer n a B4 ≡ Ok tt
unfolding loaded store_answer
stored m n a v there is =
    taken_by (is_aligned a B4) (is_some (value_at n.bytes a 4)) (read_aligned (is_aligned a B4) (value_at m.bytes a 4) v is)
    (value_stays m.bytes n.bytes a 4 there (read_some (is_aligned a B4) (value_at m.bytes a 4) v is))

turns_stay : (harts : List ℕ) (b : Board) → Stays b.memory.bytes (after_turns harts b).memory.bytes
turns_stay harts b =
    subst (λ (c : Board). Stays b.memory.bytes c.memory.bytes) (spin-board harts (start b))
    (subst (λ o. Stays b.memory.bytes o.world.board.memory.bytes) (replay-stop Done harts (start b)) (bytes_stay (stop Done) (start b) (turns harts)))

-- ---- the plan goes on so

refused_deals : (m : Machine) (sel : ℕ) (way : Way) (o : Origin) (a : ℕ) (why : MemFault) (next set : Plan) (t : Table) (lines : List Line) (old new : Target)
    → meets_some t.covered a 4 ≡ false → Deals m sel way o (lower (planting a next set) t) lines old → (at : Pointed Access old new)
    → loaded (after_turns at.before old.board).memory a B4 ≡ Err why → Deals m sel way o (lower (say (Line.MemoryFault a) next) t) lines new
unfolding lower
refused_deals m sel way o a why next set t lines old new none d at is =
    deals_at_plan m sel way o _ _ lines new
    (ap (λ r. lower (by_load r (say (Line.MemoryFault a) next) (λ v. covering a v (say (Line.SoftSet a) set))) t)
    (loaded_apart t (after_turns at.before old.board).memory a B4 none ∙ is))
    (deals_loaded m sel way o (λ b. lower (by_load (loaded (hidden_memory t b.memory) a B4) (say (Line.MemoryFault a) next)
    (λ v. covering a v (say (Line.SoftSet a) set))) t) lines old new d at)

never_refused : {A : Type 0} (a original : ℕ) (f mid : Far) (new : Option Far) → BusLoadedAt B4 a original f.live.chip (Some mid)
    → BusStoreRefused B4 a mid.live.chip new → A
never_refused a original f mid new read refused =
    let first : Board = after_turns read.before (site_of f).board in
    let same : mid ≡ read.far = same_Some mid read.far read.is in
    let between : Stays first.memory.bytes (site_of mid).board.memory.bytes =
    subst (λ (b : Board). Stays first.memory.bytes b.memory.bytes) (sym (ap (λ (g : Far). (site_of g).board) same ∙ read.access.board))
    (turns_stay read.behind first) in
    let behind : Stays (site_of mid).board.memory.bytes (after_turns refused.before (site_of mid).board).memory.bytes =
    turns_stay refused.before (site_of mid).board in
    let taken : store_answer (after_turns refused.before (site_of mid).board).memory a B4 ≡ Ok tt =
    stored first.memory (after_turns refused.before (site_of mid).board).memory a original (λ q is. behind.there q (between.there q is)) read.value_is in
    let wrong : Ok tt ≡ Err refused.why = sym taken ∙ refused.refused in absurd (cc)

refused_at : (a : ℕ) (f : Far) (new : Option Far) (m : Machine) (sel : ℕ) (way : Way) (o : Origin) (next set : Plan) (t : Table) (lines : List Line)
    → meets_some t.covered a 4 ≡ false → Deals m sel way o (lower (planting a next set) t) lines (target_of (site_of f))
    → PlantRefused a f.live.chip new → At m sel way o (lower (say (Line.MemoryFault a) next) t) lines (told_target new)
refused_at a f new m sel way o next set t lines none d (PlantRefused.at_read r) =
    at_told m sel way o _ lines r.far new r.is
    (refused_deals m sel way o a r.why next set t lines (target_of (site_of f)) (target_of (site_of r.far)) none d
    (record { before = r.before; behind = r.behind; board = r.access.board; journal = r.access.journal }) r.refused)
refused_at a f new m sel way o next set t lines none d (PlantRefused.at_write original mid read refused) = never_refused a original f mid new read refused

pub refusal_leads : (a : ℕ) (old new : Option Far) → IsSoftAddress a → WhereTold (PlantRefused a) old new → RefusalLeads a old new
refusal_leads a old new word refused next set t are free =
    told_leads (PlantRefused a) _ _ old new (λ f m sel way o lines d r. refused_at a f new m sel way o next set t lines
    (uncovered-apart t.covered are a word.0 free) d r) refused

pub refused_leads : (a : ℕ) (old new : Option Far) (why : AccessFault) → IsSoftAddress a → AccessLeft (PlantRefused a) a old new why
    → IfMemory (RefusalLeads a old new) why
refused_leads a old new (access_fault.Dmi why) word left = tt
refused_leads a old new (access_fault.Memory at) word left = refusal_leads a old new word left.1
refused_leads a old new (access_fault.Register number) word left = tt
refused_leads a old new access_fault.StillBusy word left = tt
refused_leads a old new (access_fault.Run why) word left = tt
refused_leads a old new (access_fault.Odd shown) word left = tt
