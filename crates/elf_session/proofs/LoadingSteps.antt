-- A loading, part by part.
use Rattle.std.proofs.Common.{◌≡◌, ◌≤◌, ◌∙◌, ℕ, Bool, true, false, [], Result, Ok, Err, sym, subst, arith}
use Rattle.debug_model.specs.Kept.{DmiSeen}
use Rattle.abstract_debugger.specs.Debugger.{at_halted}
use Rattle.abstract_debugger.specs.Lines.{is_error}
use Rattle.abstract_debugger.specs.Plan.{Plan}
use Rattle.printed_lines.specs.declared.line.Line.{Line as PrintedLine}
use Rattle.printed_lines.specs.declared.line.Line.TheVariants as printed
use Rattle.printed_lines.specs.Line.{line_of}
use Rattle.probe_run.specs.Acts.{Tells}
use Rattle.probe_session.specs.declared.fault.Failure.{Failure}
use Rattle.probe_session.specs.declared.met.Met.{Met}
use Rattle.probe_session.specs.declared.met.Met.TheVariants as met
use Rattle.probe_session.specs.Goes.{Falls, Went}
use Rattle.probe_session.specs.Links.{Attached, AttachedHalted, Goes}
use Rattle.probe_session.specs.Met.{AttachedMet, SaysError, before_look}
use Rattle.probe_session.specs.Places.{still}
use Rattle.probe_session.specs.Steps.Step.{rests}
use Rattle.probe_session.proofs.WentLemmas.{falls_then, falls_within, went_one, went_then, within}
use Rattle.elf_session.specs.declared.loading.Stored.{Stored}
use Rattle.elf_session.specs.declared.loading.Stored.TheVariants as stored
use Rattle.elf_session.specs.Loaded.{AttachedIf, AttachedLoaded, StoredAs, at_elements, at_loaded, before_entry, before_loading}
use Rattle.elf_session.specs.Loading.{Loading, entering, loading_hart, not_loaded, storing_each}
use Rattle.elf_session.proofs.Entering.{met_then, met_then_falls}

-- what follows the elements
abbrev pub then_entry : Loading → Plan → Plan
then_entry l next = at_halted loading_hart not_loaded (entering loading_hart l.entry l.size next)

abbrev pub elements_first : Loading → Plan → Plan
elements_first l next = storing_each l.elements (then_entry l next)

-- ---- the elements

pub elements_refused : (l : Loading) (at : ℕ) {t u v : Tells} → Went (before_look loading_hart) (λ r. still loading_hart r.body) [] t u
    → StoredAs l u v (stored.UpTo at) → Went (before_loading l) (at_loaded (printed.MemoryFault at)) [] t v
elements_refused l at first w = met_then (elements_first l) first (within (then_entry l) w)

pub elements_fell : (l : Loading) {old_count count new_count : ℕ} {t u v : Tells} {f : Failure}
    → Went (before_look loading_hart) (λ r. still loading_hart r.body) [] t u → old_count ≤ count
    → Falls (at_elements l.elements) [] count new_count u v f → Falls (before_loading l) [] old_count new_count t v f
elements_fell l first le p = met_then_falls (elements_first l) first le (falls_within (then_entry l) p)

-- ---- what comes behind them

to_entry : (l : Loading) (entry size : ℕ) {t u v : Tells} → Went (before_look loading_hart) (λ r. still loading_hart r.body) [] t u
    → StoredAs l u v (stored.All size) → entry ≡ l.entry → Went (before_loading l) (before_entry entry size) [] t v
to_entry l entry size {t} {u} {v} first s is =
    subst (λ n. Went (before_loading l) (before_entry n size) [] t v) (sym is)
    (subst (λ n. Went (before_loading l) (before_entry l.entry n) [] t v) (sym s.0)
    (went_then (met_then (elements_first l) first (within (then_entry l) s.1)) (went_one (λ next. rests))))

pub entry_behind : (l : Loading) (entry size : ℕ) (line : PrintedLine) {t u v w : Tells}
    → Went (before_look loading_hart) (λ r. still loading_hart r.body) [] t u → StoredAs l u v (stored.All size) → entry ≡ l.entry
    → Went (before_entry entry size) (at_loaded line) [] v w → Went (before_loading l) (at_loaded line) [] t w
entry_behind l entry size line first s is w = went_then (to_entry l entry size first s is) w

pub entry_behind_falls : (l : Loading) (entry size : ℕ) {old_count count new_count : ℕ} {t u v w : Tells} {f : Failure}
    → Went (before_look loading_hart) (λ r. still loading_hart r.body) [] t u → StoredAs l u v (stored.All size) → entry ≡ l.entry → old_count ≤ count
    → Falls (before_entry entry size) [] count new_count v w f → Falls (before_loading l) [] old_count new_count t w f
entry_behind_falls l entry size first s is le p = falls_then (to_entry l entry size first s is) le p

-- ---- the link

attached_if : (b : Bool) (s : DmiSeen) → AttachedHalted loading_hart s → AttachedIf b s
attached_if true s a = record { stands = a.stands; ready = a.serving.ready }
attached_if false s a = a

pub attached_error : (line : PrintedLine) (s : DmiSeen) → is_error (line_of line) ≡ true → Attached s → AttachedLoaded line s
attached_error line s error a = subst (λ b. AttachedIf b s) (sym error) a

pub goes_loaded : (n : ℕ) (old mid new : DmiSeen) (r : Result PrintedLine Failure) → n ≡ loading_hart → old.fault_count ≤ mid.fault_count
    → mid.fixed ≡ old.fixed → Goes (λ (_ : PrintedLine). AttachedHalted n) mid new r → Goes AttachedLoaded old new r
goes_loaded n old mid new (Ok line) is later fixed k = record {
  later = omega (arith, later, k.later);
  fixed = k.fixed ∙ fixed;
  behind = attached_if (is_error (line_of line)) new (subst (λ m. AttachedHalted m new) is k.behind);
}
goes_loaded n old mid new (Err f) is later fixed k = record { later = omega (arith, later, k.later); fixed = k.fixed ∙ fixed; behind = k.behind }

-- ---- what a Look answered

pub error_as : {m : Met} {line : PrintedLine} → m ≡ met.Says line → SaysError m → is_error (line_of line) ≡ true
error_as {m} {line} is e = subst SaysError is e

pub says_attached : {m : Met} {line : PrintedLine} (s : DmiSeen) → m ≡ met.Says line → AttachedMet m s → Attached s
says_attached s is a = subst (λ x. AttachedMet x s) is a

pub stored_as : (l : Loading) (old new : Tells) {s r : Stored} → s ≡ r → StoredAs l old new s → StoredAs l old new r
stored_as l old new is s = subst (StoredAs l old new) is s
