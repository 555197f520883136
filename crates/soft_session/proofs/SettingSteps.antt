-- Software breakpoints set and taken out, as steps of a session's lowered plan.
use Rattle.std.proofs.Common.{◌≡◌, ◌∙◌, ◌+◌, ◌<◌, ◌-◌, ◌^◌, ℕ, zero, suc, Bool, true, false, List, [], ◌∷◌, length, Err, if◌then◌else◌, refl, sym, ap, subst}
use Rattle.std.proofs.Common.{arith}
use Rattle.std.specs.Prelude.{◌==◌}
use Rattle.std.proofs.lemmas.Bool.{eqb-true, false≢true}
use Rattle.abstract_debugger.specs.Debugger.{by_state, look}
use Rattle.abstract_debugger.specs.Lines.{Line}
use Rattle.abstract_debugger.specs.Plan.{Plan}
use Rattle.abstract_debugger.specs.Plan.Change.{EbreakHalts}
use Rattle.abstract_debugger.specs.Plan.Plan.{change, say}
use Rattle.probe_run.specs.declared.hart.Seen.{Seen}
use Rattle.probe_run.specs.declared.hart.Seen.TheVariants as seen
use Rattle.probe_run.specs.Acts.{Tells}
use Rattle.probe_session.specs.Calls.{LookMade}
use Rattle.probe_session.specs.Calls.LookHeard.{selecting}
use Rattle.probe_session.specs.Goes.{Goes}
use Rattle.probe_session.specs.Led.{Leads}
use Rattle.probe_session.specs.Steps.{Step, behind_look}
use Rattle.probe_session.proofs.LedSteps.{goes_lead}
use Rattle.soft_laws.specs.Lowered.{Table, lower, patched_table}
use Rattle.soft_laws.specs.SoftDebugger.{SoftState, clearing, lifting, most_harts, most_planted, planting, prepared, preparing, put_in, setting}
use Rattle.soft_break.specs.declared.preparing.Prepared.{Prepared}
use Rattle.soft_break.specs.declared.preparing.Prepared.TheVariants as prepared_as
use Rattle.soft_break.specs.Preparing.{AllSet, LookOf, PreparedAs, SetBelow}
use Rattle.debug_model.specs.Kept.{DmiSeen, Stands}
use Rattle.debug_model.specs.SoftCommand.{IsSoftAddress}
use Rattle.abstract_debugger.specs.Ways.Way.{Idle}
use Rattle.probe_session.specs.declared.fault.Failure.{Failure}
use Rattle.probe_session.specs.declared.fault.Failure.TheVariants as failure
use Rattle.probe_session.specs.declared.fault.LostCause.TheVariants as lost
use Rattle.probe_session.specs.declared.odd.Odd.TheVariants as odd
use Rattle.probe_session.specs.Links.{LeftBy}
use Rattle.probe_session.proofs.LinkLemmas.{access_left, can_quit}
use Rattle.probe_access.specs.declared.fault.AccessFault.{AccessFault}
use Rattle.probe_access.specs.declared.fault.AccessFault.TheVariants as access_fault
use Rattle.probe_access.specs.Accesses.{IfMemory}
use Rattle.soft_break.specs.declared.fault.SoftFault.{SoftFault}
use Rattle.soft_break.specs.declared.fault.SoftFault.TheVariants as soft_fault
use Rattle.soft_break.specs.Calls.{IfAccess, SoftBehind}
use Rattle.soft_break.specs.Leading.{LiftLeads, PlantLeads, RefusalLeads}
use Rattle.soft_break.specs.Patches.{Patches, original_of, with_patch, without_patch}
use Rattle.soft_laws.specs.SoftBreaks.{has_some, is_listed, without}
use Rattle.soft_session.specs.Tables.{Holds}
use Rattle.soft_session.proofs.LedLemmas.{led_at, led_same, led_then}
use Rattle.soft_session.proofs.TableLemmas.{holds_lifted, holds_planted}
use Rattle.probe_session.specs.Commands.{state_of}
use Rattle.soft_session.specs.declared.session.SoftSession.{SoftSession}
use Rattle.soft_session.specs.Led.{Onto, at_plan, soft_state}
use Rattle.soft_session.specs.Setting.{PlantedLed, PreparedLed, behind_looks, behind_planting, failure_of_soft, is_refusal, is_refused, planted_list}
use Rattle.soft_session.proofs.LowerLemmas.{lower_look_by}

-- ---- the Looks in front of the first one

pub preparing_suc : (k h : ℕ) (next ready : Plan) (t : Table)
    → lower (preparing (suc k) h next ready) t
    ≡ look h (by_state (lower ready t) (lower (say (Line.IsRunning h) next) t) (change (EbreakHalts h true) (lower (preparing k (h + 1) next ready) t)))
unfolding preparing lower
preparing_suc k h next ready t = lower_look_by h ready (say (Line.IsRunning h) next) (change (EbreakHalts h true) (preparing k (h + 1) next ready)) t

preparing_zero : (h : ℕ) (next ready : Plan) (t : Table) → lower (preparing zero h next ready) t ≡ lower ready t
unfolding preparing
preparing_zero h next ready t = refl

look_made : (h : ℕ) (s : Seen) (old new : Tells) → LookOf h s old new → LookMade h old new s
look_made h s old new look = record { heard = selecting look.heard; told = look.happened }

pub below_goes : (next ready : Plan) (t : Table) {old mid : Tells} {n : ℕ} → SetBelow old n mid → (k : ℕ) → n + k ≡ 1024
    → Goes (at_plan (preparing most_harts 0 next ready) t) old [] (at_plan (preparing k n next ready) t) mid
below_goes next ready t SetBelow.none k is =
    let all : 1024 ≡ k = omega (arith, is) in Goes.step Goes.start (Step.same (ap (λ x. lower (preparing x 0 next ready) t) all))
below_goes next ready t (SetBelow.one_more {h} {mid} {looked} {new} x below look set) k is =
    let before : h + suc k ≡ 1024 = omega (arith, is) in
    let more : h + 1 ≡ suc h = omega arith in
    Goes.step (Goes.step (Goes.step (Goes.step (Goes.step (below_goes next ready t below (suc k) before) (Step.same (preparing_suc k h next ready t)))
    (Step.looks (lower ready t) (lower (say (Line.IsRunning h) next) t) (change (EbreakHalts h true) (lower (preparing k (h + 1) next ready) t))
    (look_made h (seen.Halted x) mid looked look)))
    (Step.sets_ebreakm (lower (preparing k (h + 1) next ready) t) (record { heard = set.read; told = set.read_at })
    (record { heard = set.written; told = set.written_at })))
    Step.rests) (Step.same (ap (λ n. lower (preparing k n next ready) t) more))

pub one_look : (next ready : Plan) (t : Table) (h : ℕ) (s : Seen) (old mid new : Tells) → h < most_harts → SetBelow old h mid → LookOf h s mid new
    → (k : ℕ) × Goes (at_plan (preparing most_harts 0 next ready) t) old [] (behind_look s h (lower ready t) (lower (say (Line.IsRunning h) next) t)
    (change (EbreakHalts h true) (lower (preparing k (h + 1) next ready) t))) new
one_look next ready t h s old mid new few below look =
    let less : h < 1024 = few in
    let k : ℕ = 1023 - h in
    let all : h + suc k ≡ 1024 = omega (arith, less) in (
      k,
      Goes.step (Goes.step (below_goes next ready t below (suc k) all) (Step.same (preparing_suc k h next ready t)))
          (Step.looks (lower ready t) (lower (say (Line.IsRunning h) next) t) (change (EbreakHalts h true) (lower (preparing k (h + 1) next ready) t))
          (look_made h s mid new look)),
    )

all_set : (next ready : Plan) (t : Table) (old new : Tells) → AllSet old new → Leads (at_plan (preparing most_harts 0 next ready) t) old []
    (at_plan ready t) new
all_set next ready t old new (AllSet.up_to {h} {mid} few below look) =
    goes_lead (at_plan (preparing most_harts 0 next ready) t) (at_plan ready t) old new []
    (one_look next ready t h seen.Absent old mid new few below look).1
all_set next ready t old new (AllSet.as_many below) =
    goes_lead (at_plan (preparing most_harts 0 next ready) t) (at_plan ready t) old new []
    (Goes.step (below_goes next ready t below 0 (omega arith)) (Step.same (preparing_zero most_harts next ready t)))

pub looks_led : (r : Prepared) (next ready : Plan) (t : Table) (old new : Tells) → PreparedAs old new r
    → Leads (at_plan (preparing most_harts 0 next ready) t) old [] (at_plan (behind_looks r next ready) t) new
looks_led prepared_as.Ready next ready t old new p = all_set next ready t old new p
looks_led (prepared_as.Running h) next ready t old new p =
    goes_lead (at_plan (preparing most_harts 0 next ready) t) (at_plan (say (Line.IsRunning h) next) t) old new []
    (one_look next ready t h (seen.Running p.running) old p.mid new p.below p.set p.look).1

pub some_set : (qs ps : List ℕ) → qs ≡ ps → (length qs == 0) ≡ false → has_some ps ≡ true
some_set qs ps is some = by ps (ap (λ (l : List ℕ). length l == 0) (sym is) ∙ some)
  where
    by : (l : List ℕ) → (length l == 0) ≡ false → has_some l ≡ true
    by [] e = absurd (false≢true (sym e))
    by (a ∷ l) e = refl

pub none_set_yet : (qs ps : List ℕ) → qs ≡ ps → (length qs == 0) ≡ true → ps ≡ []
none_set_yet qs ps is none = by ps (ap (λ (l : List ℕ). length l == 0) (sym is) ∙ none)
  where
    by : (l : List ℕ) → (length l == 0) ≡ true → l ≡ []
    by [] e = refl
    by (a ∷ l) e = absurd (omega (arith, eqb-true (length (a ∷ l)) 0 e))

pub none_looked : (ps : List ℕ) (next ready : Plan) (t : Table) (u : Tells) → has_some ps ≡ true
    → Leads (at_plan (prepared ps next ready) t) u [] (at_plan ready t) u
none_looked [] next ready t u some = absurd (cc)
none_looked (a ∷ ps) next ready t u some = led_same Idle 0 (lower ready t) (lower ready t) u refl

pub first_looked : (ps : List ℕ) (r : Prepared) (next ready : Plan) (t : Table) (old new : Tells) → ps ≡ [] → PreparedAs old new r
    → Leads (at_plan (prepared ps next ready) t) old [] (at_plan (behind_looks r next ready) t) new
first_looked ps r next ready t old new none p =
    subst (λ qs. Leads (at_plan (prepared qs next ready) t) old [] (at_plan (behind_looks r next ready) t) new) (sym none)
    (looks_led r next ready t old new p)

-- ---- one breakpoint more, or none

pub plant_held : (a : ℕ) (p q : Patches) (old new : Tells) → IsSoftAddress a → is_listed p.addresses a ≡ false → q ≡ with_patch a (original_of a q) p
    → original_of a q < 2 ^ 32 → PlantLeads a (original_of a q) old.far new.far → PlantedLed a p q old new true
plant_held a p q old new word free is fits leads next set t holds = record {
  table = patched_table true a (original_of a q) t;
  holds = subst (λ x. Holds x (patched_table true a (original_of a q) t)) (sym is) (holds_planted a (original_of a q) p t word free fits holds);
  leads = led_at Idle 0 (lower (planting a next set) t) (lower (say (Line.SoftSet a) set) (patched_table true a (original_of a q) t)) old new
      (leads next set t holds.words (holds.listed a ∙ free));
}

pub plant_refused : (a : ℕ) (p q : Patches) (old new : Tells) → is_listed p.addresses a ≡ false → q ≡ p → RefusalLeads a old.far new.far
    → PlantedLed a p q old new false
plant_refused a p q old new free is leads next set t holds = record {
  table = t;
  holds = subst (λ x. Holds x t) (sym is) holds;
  leads = led_at Idle 0 (lower (planting a next set) t) (lower (say (Line.MemoryFault a) next) t) old new (leads next set t holds.words
      (holds.listed a ∙ free));
}

-- ---- what a fault leaves of the link

refused : (old new : DmiSeen) (f : Failure) → new ≡ old → Stands old → f ≡ failure.Lost (lost.Odd odd.Refusal) → LeftBy new f
refused old new f same stands is = subst (LeftBy new) (sym is) (can_quit new (subst Stands (sym same) stands))

pub soft_left : (A : Type 0) (old new : DmiSeen) (why : SoftFault) (f : Failure) → SoftBehind {A = A} old new (Err why) → Stands old → f ≡ failure_of_soft why
    → LeftBy new f
soft_left A old new (soft_fault.Access why) f behind stands is = access_left new why f behind is
soft_left A old new soft_fault.Full f behind stands is = refused old new f behind stands is
soft_left A old new soft_fault.Set f behind stands is = refused old new f behind stands is
soft_left A old new soft_fault.NotSet f behind stands is = refused old new f behind stands is

-- ---- one less

pub lift_set : (a : ℕ) (p q : Patches) (next : ℕ → Plan) (t : Table) (old new : Tells) → is_listed p.addresses a ≡ true → q ≡ without_patch a p
    → LiftLeads a (original_of a p) old.far new.far → Holds p t
    → Onto q (λ u. Leads (at_plan (lifting a next) t) old [] (at_plan (next (original_of a p)) u) new)
lift_set a p q next t old new set is leads holds = record {
  table = patched_table false a (original_of a p) t;
  holds = subst (λ x. Holds x (patched_table false a (original_of a p) t)) (sym is) (holds_lifted a (original_of a p) p t set holds);
  leads = led_at Idle 0 (lower (lifting a next) t) (lower (next (original_of a p)) (patched_table false a (original_of a p) t)) old new
      (leads next t (holds.listed a ∙ set) (holds.exact a set));
}

-- ---- a refusal

refused_by : (P : Type 0) (why : AccessFault) → is_refused why ≡ true → IfMemory P why → P
refused_by P (access_fault.Dmi why) is p = absurd (false≢true is)
refused_by P (access_fault.Memory at) is p = p
refused_by P (access_fault.Register number) is p = absurd (false≢true is)
refused_by P access_fault.StillBusy is p = absurd (false≢true is)
refused_by P (access_fault.Run why) is p = absurd (false≢true is)
refused_by P (access_fault.Odd shown) is p = absurd (false≢true is)

pub by_refusal : (P : Type 0) (fault : SoftFault) → is_refusal fault ≡ true → IfAccess (IfMemory P) fault → P
by_refusal P (soft_fault.Access why) is p = refused_by P why is p
by_refusal P soft_fault.Full is p = absurd (false≢true is)
by_refusal P soft_fault.Set is p = absurd (false≢true is)
by_refusal P soft_fault.NotSet is p = absurd (false≢true is)

-- ---- the commands

pub cleared : (a : ℕ) (line : Line) (from to : SoftSession) (old new : Tells) → is_listed from.table.addresses a ≡ true
    → to.table ≡ without_patch a from.table → state_of to.session ≡ state_of from.session → line ≡ Line.SoftClear a
    → LiftLeads a (original_of a from.table) old.far new.far → (next : SoftState → Plan) (t : Table) → Holds from.table t
    → Onto to.table (λ u. Leads (at_plan (clearing a (soft_state from) next) t) old [] (at_plan (say line (next (soft_state to))) u) new)
cleared a line from to old new set is same said leads next t holds =
    let rest : ℕ → Plan = λ original. say (Line.SoftClear a) (next (record { plain = state_of from.session; planted = without a from.table.addresses })) in
    let o : Onto to.table (λ u. Leads (at_plan (lifting a rest) t) old [] (at_plan (rest (original_of a from.table)) u) new) =
    lift_set a from.table to.table rest t old new set is leads holds in
    let state : soft_state to ≡ record { plain = state_of from.session; planted = without a from.table.addresses } =
    (λ i. record { plain = same i; planted = (ap (λ (p : Patches). p.addresses) is) i }) in
    record {
      table = o.table;
      holds = o.holds;
      leads = led_then (at_plan (clearing a (soft_state from) next) t) (at_plan (lifting a rest) t) (at_plan (say line (next (soft_state to))) o.table) old old
          new [] [] (led_same Idle 0 _ (lower (lifting a rest) t) old
          (ap (λ b. lower (if b then lifting a rest else say (Line.SoftNotSet a) (next (soft_state from))) t) set))
          (led_then (at_plan (lifting a rest) t) (at_plan (rest (original_of a from.table)) o.table) (at_plan (say line (next (soft_state to))) o.table) old new
          new [] [] o.leads (led_same Idle 0 (lower (rest (original_of a from.table)) o.table) _ new
          (ap (λ l. lower (say l (next (record { plain = state_of from.session; planted = without a from.table.addresses }))) o.table) (sym said)
          ∙ ap (λ s. lower (say line (next s)) o.table) (sym state))));
    }

pub not_set : (a : ℕ) (line : Line) (from to : SoftSession) (u : Tells) → is_listed from.table.addresses a ≡ false
    → to.table ≡ from.table → state_of to.session ≡ state_of from.session → line ≡ Line.SoftNotSet a → (next : SoftState → Plan)
    (t : Table) → Holds from.table t
    → Onto to.table (λ k. Leads (at_plan (clearing a (soft_state from) next) t) u [] (at_plan (say line (next (soft_state to))) k) u)
not_set a line from to u none is same said next t holds =
    let state : soft_state to ≡ soft_state from = (λ i. record { plain = same i; planted = (ap (λ (p : Patches). p.addresses) is) i }) in
    record {
      table = t;
      holds = subst (λ p. Holds p t) (sym is) holds;
      leads = led_same Idle 0 _ (lower (say line (next (soft_state to))) t) u
          (ap (λ b. lower (if b then lifting a (λ original. say (Line.SoftClear a) (next (record (soft_state from) {
            planted = without a from.table.addresses;
          })))
          else say (Line.SoftNotSet a) (next (soft_state from))) t) none
          ∙ ap (λ l. lower (say l (next (soft_state from))) t) (sym said) ∙ ap (λ s. lower (say line (next s)) t) (sym state));
    }

-- what `setting` is behind its tests
abbrev set_up : ℕ → SoftState → (SoftState → Plan) → Plan
set_up a s next = prepared s.planted (next s) (planting a (next s) (next (record s { planted = put_in a s.planted })))

abbrev full_or : ℕ → SoftState → (SoftState → Plan) → Plan
full_or a s next = if length s.planted == most_planted then say Line.NoFreeSoftBreak (next s) else set_up a s next

abbrev pub planted_line : ℕ → Bool → Line
planted_line a true = Line.SoftSet a
planted_line a false = Line.MemoryFault a

planted_so : (a : ℕ) (held : Bool) (from : SoftSession) (next : SoftState → Plan)
    → behind_planting a held (next (soft_state from)) (next (record (soft_state from) { planted = put_in a from.table.addresses }))
    ≡ say (planted_line a held) (next (record { plain = state_of from.session; planted = planted_list a held from.table.addresses }))
planted_so a true from next = refl
planted_so a false from next = refl

-- one is set there already
pub set_already : (a : ℕ) (from to : SoftSession) (u : Tells) → is_listed from.table.addresses a ≡ true → to.table ≡ from.table
    → state_of to.session ≡ state_of from.session → (next : SoftState → Plan) (t : Table) → Holds from.table t
    → Onto to.table (λ k. Leads (at_plan (setting a (soft_state from) next) t) u [] (at_plan (say (Line.SoftIsSet a) (next (soft_state to))) k) u)
set_already a from to u set is same next t holds =
    let state : soft_state to ≡ soft_state from = (λ i. record { plain = same i; planted = (ap (λ (p : Patches). p.addresses) is) i }) in
    record {
      table = t;
      holds = subst (λ p. Holds p t) (sym is) holds;
      leads = led_same Idle 0 _ (lower (say (Line.SoftIsSet a) (next (soft_state to))) t) u
          (ap (λ b. lower (if b then say (Line.SoftIsSet a) (next (soft_state from)) else full_or a (soft_state from) next) t) set
          ∙ ap (λ s. lower (say (Line.SoftIsSet a) (next s)) t) (sym state));
    }

-- there is no room for one more
pub no_room : (a : ℕ) (from to : SoftSession) (u : Tells) → is_listed from.table.addresses a ≡ false → (length from.table.addresses == most_planted) ≡ true
    → to.table ≡ from.table → state_of to.session ≡ state_of from.session → (next : SoftState → Plan) (t : Table) → Holds from.table t
    → Onto to.table (λ k. Leads (at_plan (setting a (soft_state from) next) t) u [] (at_plan (say Line.NoFreeSoftBreak (next (soft_state to))) k) u)
no_room a from to u free full is same next t holds =
    let state : soft_state to ≡ soft_state from = (λ i. record { plain = same i; planted = (ap (λ (p : Patches). p.addresses) is) i }) in
    record {
      table = t;
      holds = subst (λ p. Holds p t) (sym is) holds;
      leads = led_same Idle 0 _ (lower (say Line.NoFreeSoftBreak (next (soft_state to))) t) u
          (ap (λ b. lower (if b then say (Line.SoftIsSet a) (next (soft_state from)) else full_or a (soft_state from) next) t) free
          ∙ ap (λ b. lower (if b then say Line.NoFreeSoftBreak (next (soft_state from)) else set_up a (soft_state from) next) t) full
          ∙ ap (λ s. lower (say Line.NoFreeSoftBreak (next s)) t) (sym state));
    }

-- up to the Looks, where there is room
pub set_from : (a : ℕ) (from : SoftSession) (u : Tells) (next : SoftState → Plan) (t : Table) → is_listed from.table.addresses a ≡ false
    → (length from.table.addresses == most_planted) ≡ false
    → Leads (at_plan (setting a (soft_state from) next) t) u [] (at_plan (set_up a (soft_state from) next) t) u
set_from a from u next t free room = led_same Idle 0 _ (lower (set_up a (soft_state from) next) t) u
    (ap (λ b. lower (if b then say (Line.SoftIsSet a) (next (soft_state from)) else full_or a (soft_state from) next) t) free
    ∙ ap (λ b. lower (if b then say Line.NoFreeSoftBreak (next (soft_state from)) else set_up a (soft_state from) next) t) room)

-- a hart runs
pub set_running : (a h : ℕ) (from to : SoftSession) (old new : Tells) → is_listed from.table.addresses a ≡ false
    → (length from.table.addresses == most_planted) ≡ false → PreparedLed from.table.addresses old new (prepared_as.Running h) → to.table ≡ from.table
    → state_of to.session ≡ state_of from.session → (next : SoftState → Plan) (t : Table) → Holds from.table t
    → Onto to.table (λ k. Leads (at_plan (setting a (soft_state from) next) t) old [] (at_plan (say (Line.IsRunning h) (next (soft_state to))) k) new)
set_running a h from to old new free room looks is same next t holds =
    let state : soft_state to ≡ soft_state from = (λ i. record { plain = same i; planted = (ap (λ (p : Patches). p.addresses) is) i }) in
    record {
      table = t;
      holds = subst (λ p. Holds p t) (sym is) holds;
      leads = led_then (at_plan (setting a (soft_state from) next) t) (at_plan (say (Line.IsRunning h) (next (soft_state from))) t)
          (at_plan (say (Line.IsRunning h) (next (soft_state to))) t) old new new [] []
          (led_then (at_plan (setting a (soft_state from) next) t) (at_plan (set_up a (soft_state from) next) t)
          (at_plan (say (Line.IsRunning h) (next (soft_state from))) t) old old new [] []
          (set_from a from old next t free room)
          (looks (next (soft_state from)) (planting a (next (soft_state from)) (next (record (soft_state from) { planted = put_in a from.table.addresses })))
          t))
          (led_same Idle 0 _ (lower (say (Line.IsRunning h) (next (soft_state to))) t) new (ap (λ s. lower (say (Line.IsRunning h) (next s)) t) (sym state)));
    }

-- the word was covered, or lies outside memory
pub set_done : (a : ℕ) (held : Bool) (line : Line) (from to : SoftSession) (old mid new : Tells) → is_listed from.table.addresses a ≡ false
    → (length from.table.addresses == most_planted) ≡ false → PreparedLed from.table.addresses old mid prepared_as.Ready
    → PlantedLed a from.table to.table mid new held → to.table.addresses ≡ planted_list a held from.table.addresses
    → state_of to.session ≡ state_of from.session → line ≡ planted_line a held → (next : SoftState → Plan) (t : Table) → Holds from.table t
    → Onto to.table (λ k. Leads (at_plan (setting a (soft_state from) next) t) old [] (at_plan (say line (next (soft_state to))) k) new)
set_done a held line from to old mid new free room looks plants list same said next t holds =
    let set : SoftState = record (soft_state from) { planted = put_in a from.table.addresses } in
    let o : Onto to.table (λ u. Leads (at_plan (planting a (next (soft_state from)) (next set)) t) mid []
    (at_plan (behind_planting a held (next (soft_state from)) (next set)) u) new) =
    plants (next (soft_state from)) (next set) t holds in
    let state : soft_state to ≡ record { plain = state_of from.session; planted = planted_list a held from.table.addresses } =
    (λ i. record { plain = same i; planted = list i }) in
    record {
      table = o.table;
      holds = o.holds;
      leads = led_then (at_plan (setting a (soft_state from) next) t) (at_plan (behind_planting a held (next (soft_state from)) (next set)) o.table)
          (at_plan (say line (next (soft_state to))) o.table) old new new [] []
          (led_then (at_plan (setting a (soft_state from) next) t) (at_plan (planting a (next (soft_state from)) (next set)) t)
          (at_plan (behind_planting a held (next (soft_state from)) (next set)) o.table) old mid new [] []
          (led_then (at_plan (setting a (soft_state from) next) t) (at_plan (set_up a (soft_state from) next) t)
          (at_plan (planting a (next (soft_state from)) (next set)) t) old old mid [] [] (set_from a from old next t free room)
          (looks (next (soft_state from)) (planting a (next (soft_state from)) (next set)) t))
          o.leads)
          (led_same Idle 0 _ (lower (say line (next (soft_state to))) o.table) new
          (ap (λ p. lower p o.table) (planted_so a held from next)
          ∙ ap (λ l. lower (say l (next (record { plain = state_of from.session; planted = planted_list a held from.table.addresses }))) o.table) (sym said)
          ∙ ap (λ s. lower (say line (next s)) o.table) (sym state)));
    }
