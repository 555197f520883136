-- What a hart that begins at a program's entry comes from, and a Look in front of that.
use Rattle.std.proofs.Common.{◌≡◌, ◌≤◌, ℕ, true, false, [], refl, sym, subst, arith, if◌then◌else◌}
use Rattle.rv_model.specs.Registers.{csr_read_only, pc_number}
use Rattle.abstract_debugger.specs.Lines.{Line, is_error}
use Rattle.abstract_debugger.specs.Plan.{Plan}
use Rattle.abstract_debugger.specs.Plan.Change.{WriteReg}
use Rattle.abstract_debugger.specs.Plan.Plan.{change, say}
use Rattle.abstract_debugger.proofs.DealsLemmas.{if_false}
use Rattle.printed_lines.specs.declared.line.Line.{Line as PrintedLine}
use Rattle.printed_lines.specs.declared.line.Line.TheVariants as printed
use Rattle.printed_lines.specs.Line.{line_of}
use Rattle.probe_run.specs.Acts.{Tells}
use Rattle.probe_trig.specs.declared.change.Change.TheVariants.{Forget}
use Rattle.probe_trig.specs.Runs.{ChangesAny}
use Rattle.probe_session.specs.declared.fault.Failure.{Failure}
use Rattle.probe_session.specs.Calls.{Gave, GaveNone, GiveFell, HitsForgotten, IsOfCores, SlotsFell}
use Rattle.probe_session.specs.Goes.{Falls, Fault, Went}
use Rattle.probe_session.specs.Goes.Goes.{step}
use Rattle.probe_session.specs.Met.{Rest, before_look}
use Rattle.probe_session.specs.Places.{Place, at_say, still}
use Rattle.probe_session.specs.Said.{said_by}
use Rattle.probe_session.specs.Steps.Step.{rests, same, writes_none, writes_pc}
use Rattle.probe_session.proofs.WentLemmas.{falls_at, falls_then, falls_within, one, went_one, went_then, within}
use Rattle.elf_session.specs.Loaded.{at_entry, at_loaded, follows}
use Rattle.elf_session.specs.Loading.{loading_hart, not_loaded}

pc_of_cores : IsOfCores pc_number
pc_of_cores c = refl

-- ---- the entry

-- pc may be written
abbrev writing : (hart entry size : ℕ) → Plan → Plan
writing h entry size next =
    if csr_read_only pc_number then say (Line.RegisterRefused pc_number) not_loaded else change (WriteReg h pc_number entry) (say (Line.Loaded size) next)

pc_writable : csr_read_only pc_number ≡ false
unfolding csr_read_only
pc_writable = refl

to_write : (h entry size : ℕ) {t : Tells} → Went (at_entry h entry size) (λ next. still h (writing h entry size next)) [] t t
to_write h entry size = went_one (λ next. same (sym (if_false (csr_read_only pc_number) (say (Line.RegisterRefused pc_number) not_loaded)
    (change (WriteReg h pc_number entry) (say (Line.Loaded size) next)) pc_writable)))

pub entered : (h entry size : ℕ) {t u v : Tells} → Gave h pc_number entry t u → HitsForgotten h u v
    → Went (at_entry h entry size) (at_loaded (printed.Loaded size)) [] t v
entered h entry size gave forgot = went_then (to_write h entry size) (record {
  goes = λ next. step (one (writes_pc (say (Line.RegisterRefused pc_number) not_loaded) (say (Line.Loaded size) next) gave forgot)) rests;
})

pub entry_refused : (h entry size : ℕ) {t u : Tells} → GaveNone h pc_number entry t u
    → Went (at_entry h entry size) (at_loaded (printed.RegisterRefused pc_number)) [] t u
entry_refused h entry size none = went_then (to_write h entry size) (record {
  goes = λ next. step (one (writes_none (say (Line.RegisterRefused pc_number) not_loaded)
      (change (WriteReg h pc_number entry) (say (Line.Loaded size) next)) none pc_of_cores)) rests;
})

pub entry_falls : (h entry size : ℕ) {old_count new_count : ℕ} {t u : Tells} {f : Failure} → GiveFell h pc_number entry old_count new_count t u f
    → Falls (at_entry h entry size) [] old_count new_count t u f
entry_falls h entry size fell =
    falls_then (to_write h entry size) (omega arith)
    (falls_at (λ next. Fault.giving (say (Line.RegisterRefused pc_number) not_loaded) (say (Line.Loaded size) next) fell))

pub forget_falls : (h entry size : ℕ) {old_count count new_count : ℕ} {t u v : Tells} {f : Failure} → Gave h pc_number entry t u → old_count ≤ count
    → SlotsFell (ChangesAny Forget) h count new_count u v f → Falls (at_entry h entry size) [] old_count new_count t v f
forget_falls h entry size gave le fell =
    falls_then (to_write h entry size) (omega arith)
    (falls_at (λ next. Fault.forgetting_behind (say (Line.RegisterRefused pc_number) not_loaded) (say (Line.Loaded size) next) gave le fell))

-- ---- a Look in front of something that a halted hart does

abbrev pub met_first : (Plan → Plan) → Plan → Rest
met_first body next = record { body = body next; next = not_loaded }

abbrev pub before_met : (Plan → Plan) → Plan → Place
before_met body next = before_look loading_hart (met_first body next)

pub met_says : (body : Plan → Plan) (line : PrintedLine) {t u : Tells} → is_error (line_of line) ≡ true
    → Went (before_look loading_hart) (λ r. at_say (said_by line) r.next) [] t u → Went (before_met body) (at_loaded line) [] t u
met_says body line {t} {u} error w =
    subst (λ b. Went (before_met body) (λ next. at_say (said_by line) (follows b next)) [] t u) (sym error) (within (met_first body) w)

pub met_at : (body : ℕ → Plan → Plan) (line : PrintedLine) (x : ℕ) {t u v : Tells} → x ≡ loading_hart
    → Went (before_look loading_hart) (λ r. still loading_hart r.body) [] t u
    → Went (λ next. still x (body x next)) (at_loaded line) [] u v → Went (before_met (body loading_hart)) (at_loaded line) [] t v
met_at body line x {t} {u} {v} is first w =
    went_then (within (met_first (body loading_hart)) first) (subst (λ n. Went (λ next. still n (body n next)) (at_loaded line) [] u v) is w)

pub met_falls : (body : Plan → Plan) {old_count new_count : ℕ} {t u : Tells} {f : Failure}
    → Falls (before_look loading_hart) [] old_count new_count t u f → Falls (before_met body) [] old_count new_count t u f
met_falls body p = falls_within (met_first body) p

pub met_at_falls : (body : ℕ → Plan → Plan) (x : ℕ) {old_count count new_count : ℕ} {t u v : Tells} {f : Failure} → x ≡ loading_hart
    → Went (before_look loading_hart) (λ r. still loading_hart r.body) [] t u → old_count ≤ count
    → Falls (λ next. still x (body x next)) [] count new_count u v f → Falls (before_met (body loading_hart)) [] old_count new_count t v f
met_at_falls body x {old_count} {count} {new_count} {t} {u} {v} {f} is first le p =
    falls_then (within (met_first (body loading_hart)) first) le
    (subst (λ n. Falls (λ next. still n (body n next)) [] count new_count u v f) is p)

pub met_then : (body : Plan → Plan) {to : Plan → Place} {t u v : Tells} → Went (before_look loading_hart) (λ r. still loading_hart r.body) [] t u
    → Went (λ next. still loading_hart (body next)) to [] u v → Went (before_met body) to [] t v
met_then body first w = went_then (within (met_first body) first) w

pub met_then_falls : (body : Plan → Plan) {old_count count new_count : ℕ} {t u v : Tells} {f : Failure}
    → Went (before_look loading_hart) (λ r. still loading_hart r.body) [] t u → old_count ≤ count
    → Falls (λ next. still loading_hart (body next)) [] count new_count u v f → Falls (before_met body) [] old_count new_count t v f
met_then_falls body first le p = falls_then (within (met_first body) first) le p
