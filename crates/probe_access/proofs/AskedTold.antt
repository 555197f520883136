-- What the calls of a run of elements by autoexec leave of a told chip: it is quiet again, behind all elements, or some, or at one that memory refused.
use Rattle.std.proofs.Common.{◌≡◌, ◌++◌, ◌≤◌, ◌<◌, ◌+◌, ℕ, suc, None, Some, false, List, [], ◌∷◌, map, Option, refl, sym, subst}
use Rattle.rv_model.specs.declared.size.Size.{Size}
use Rattle.rv_model.specs.Board.{Hart}
use Rattle.rv_model.specs.Memory.{Memory}
use Rattle.debug_model.specs.Addresses.{abstractauto_address, abstractcs_address}
use Rattle.debug_model.specs.declared.cmderr.Cmderr.{Cmderr}
use Rattle.debug_model.specs.declared.cmderr.Cmderr.TheVariants.{Fine, Busy, Exception}
use Rattle.debug_model.specs.Module.{Site}
use Rattle.debug_model.specs.SystemBus.{BusUnit}
use Rattle.debug_model.specs.Told.{Far, site_of}
use Rattle.probe_run.specs.Acts.{Act, Tells}
use Rattle.probe_run.specs.Acts.Act.{Put}
use Rattle.probe_run.specs.Opening.{clears_cmderr}
use Rattle.probe_access.specs.AskedRuns.{Asked, run_asked}
use Rattle.probe_access.specs.CommandRuns.{clearing, error_shown, poll_act, shows_busy}
use Rattle.probe_access.proofs.Along.{AtSites, SiteActs, Split, did_sites, site_acts-split}
use Rattle.probe_access.proofs.Aside.{Frozen, accessed, passed}
use Rattle.probe_access.proofs.AtOnceTold.{EndSplit, end_split}
use Rattle.probe_access.proofs.AutoEnds.{RunEnd, auto_cleared, auto_off, run_polled}
use Rattle.probe_access.proofs.AutoEnds.RunEnd.{fine, busy, exception}
use Rattle.probe_access.proofs.AutoRuns.{Elements, RunAt, automatic, run_asked_at}
use Rattle.probe_access.proofs.NextTold.{IsProgram, begun}
use Rattle.probe_access.proofs.PerformTold.{held_behind}
use Rattle.probe_access.proofs.ReadyUnit.{Held, Kept}
use Rattle.probe_access.proofs.RegAnswers.{StoodTold}
use Rattle.probe_access.proofs.RegisterTold.{Stood, fine_left}
use Rattle.probe_access.proofs.Steps.{DoneAt}

-- by cmderr as the end showed it
pub data RunLeft (C : ℕ → Hart → Site → Type 0) (Q : ℕ → Memory → Type 0) (word : ℕ) (size : Size) (last h : ℕ) (bus : BusUnit) (w : Hart) (b : ℕ)
    (t : Site) : Type 0 where
  done : (y : Hart) (base : Site) (k : Kept) → error_shown last ≡ 0 → C b y base → IsProgram word size k → Stood h bus y base w k t
      → RunLeft C Q word size last h bus w b t
  early : (i : ℕ) (y : Hart) (base : Site) (k : Kept) → error_shown last ≡ 1 → i < b → C i y base → IsProgram word size k → Stood h bus y base w k t
      → RunLeft C Q word size last h bus w b t
  fault : (i : ℕ) (y : Hart) (base : Site) (k : Kept) (before : List ℕ) → error_shown last ≡ 3 → i < b → C i y base → IsProgram word size k
      → Q i (passed before base).board.memory
      → Stood h bus y (accessed (passed before base).board.memory (passed before base)) w k t → RunLeft C Q word size last h bus w b t

kept_begun : (word : ℕ) (size : Size) (k : Kept) → IsProgram word size k → IsProgram word size (begun k)
kept_begun word size k p = record { first = p.first; second = p.second; third = p.third }

-- the error is cleared, and autoexec still on
pub data RunGone (C : ℕ → Hart → Site → Type 0) (Q : ℕ → Memory → Type 0) (word : ℕ) (size : Size) (last h : ℕ) (bus : BusUnit) (w : Hart) (b : ℕ)
    (t : Site) : Type 0 where
  all_gone : (y : Hart) (base : Site) (k : Kept) → error_shown last ≡ 0 → C b y base → IsProgram word size k → DoneAt (automatic Fine k h bus) h y base t
      → RunGone C Q word size last h bus w b t
  early_gone : (i : ℕ) (y : Hart) (base : Site) (k : Kept) → error_shown last ≡ 1 → i < b → C i y base → IsProgram word size k
      → DoneAt (automatic Fine k h bus) h y base t → RunGone C Q word size last h bus w b t
  fault_gone : (i : ℕ) (y : Hart) (base : Site) (k : Kept) (before : List ℕ) → error_shown last ≡ 3 → i < b → C i y base → IsProgram word size k
      → Q i (passed before base).board.memory
      → DoneAt (automatic Fine k h bus) h y (accessed (passed before base).board.memory (passed before base)) t → RunGone C Q word size last h bus w b t

pub run_gone : (C : ℕ → Hart → Site → Type 0) (P : ℕ → Hart → Memory → Hart → Memory → Type 0) (Q : ℕ → Memory → Type 0) (word : ℕ) (size : Size)
    (most last h : ℕ) (bus : BusUnit) (w : Hart) (b : ℕ) (s u : Site) → Elements C P Q word size most h bus w → RunEnd C Q word size last h bus b s
    → SiteActs (clearing (error_shown last)) s u → RunGone C Q word size last h bus w b u
run_gone C P Q word size most last h bus w b s u es (fine y base k error c p d) clears =
    all_gone y base k error c p (subst (λ v. DoneAt (automatic Fine k h bus) h y base v) (sym (fine_left (error_shown last) s u error clears)) d)
run_gone C P Q word size most last h bus w b s u es (busy i y base k error below c p d) clears =
    early_gone i y base k error below c p
    (auto_cleared Busy k h bus y base w s u (es.held i y base c) (es.frozen i y base c) es.idle (subst (λ m. SiteActs (clearing m) s u) error clears) d)
run_gone C P Q word size most last h bus w b s u es (exception i y base k before error below c p q d) clears =
    let m : Memory = (passed before base).board.memory in
    fault_gone i y base k before error below c p q
    (auto_cleared Exception k h bus y (accessed m (passed before base)) w s u (held_behind h w base before m (es.held i y base c)) (es.frozen i y base c)
    es.idle (subst (λ m. SiteActs (clearing m) s u) error clears) d)

run_left : (C : ℕ → Hart → Site → Type 0) (P : ℕ → Hart → Memory → Hart → Memory → Type 0) (Q : ℕ → Memory → Type 0) (word : ℕ) (size : Size)
    (most last h : ℕ) (bus : BusUnit) (w : Hart) (b : ℕ) (u t : Site) → Elements C P Q word size most h bus w → RunGone C Q word size last h bus w b u
    → SiteActs (Put abstractauto_address 0 ∷ []) u t → RunLeft C Q word size last h bus w b t
run_left C P Q word size most last h bus w b u t es (all_gone y base k error c p d) offs =
    done y base (begun k) error c (kept_begun word size k p) (auto_off k h bus y base w u t (es.held b y base c) (es.frozen b y base c) es.idle offs d)
run_left C P Q word size most last h bus w b u t es (early_gone i y base k error below c p d) offs =
    early i y base (begun k) error below c (kept_begun word size k p)
    (auto_off k h bus y base w u t (es.held i y base c) (es.frozen i y base c) es.idle offs d)
run_left C P Q word size most last h bus w b u t es (fault_gone i y base k before error below c p q d) offs =
    let m : Memory = (passed before base).board.memory in
    fault i y base (begun k) before error below c (kept_begun word size k p) q
    (auto_off k h bus y (accessed m (passed before base)) w u t (held_behind h w base before m (es.held i y base c)) (es.frozen i y base c) es.idle offs d)

-- ---- along a told link

pub record RunTold (C : ℕ → Hart → Site → Type 0) (Q : ℕ → Memory → Type 0) (word : ℕ) (size : Size) (last h : ℕ) (bus : BusUnit) (w : Hart) (b : ℕ)
    (told : Option Far) : Type 0 where
  pub far : Far
  pub is : told ≡ Some far
  pub left : RunLeft C Q word size last h bus w b (site_of far)

pub asked_told : (C : ℕ → Hart → Site → Type 0) (P : ℕ → Hart → Memory → Hart → Memory → Type 0) (Q : ℕ → Memory → Type 0) (word : ℕ) (size : Size)
    (most more last h : ℕ) (bus : BusUnit) (w : Hart) (i : ℕ) (y : Hart) (base : Site) (old new : Tells) → Elements C P Q word size most h bus w
    → i + 1 + more ≤ most → C i y base → (st : StoodTold h bus y base w old.far) → IsProgram word size st.kept → Asked more last old new
    → RunTold C Q word size last h bus w (i + 1 + more) new.far
asked_told C P Q word size most more last h bus w i y base old new es within c st program a =
    let tail : List Act = map poll_act a.ran.words ++ poll_act last ∷ clearing (error_shown last) in
    let at : AtSites (run_asked a.acts ++ tail) st.far a.mid.far = did_sites old (run_asked a.acts ++ tail) a.mid st.far a.ran.did st.is in
    let off : AtSites (Put abstractauto_address 0 ∷ []) at.far new.far = did_sites a.mid (Put abstractauto_address 0 ∷ []) new at.far a.off at.is in
    let cut : Split (run_asked a.acts) tail (site_of st.far) (site_of at.far) =
    site_acts-split (run_asked a.acts) tail (site_of st.far) (site_of at.far) at.acts_are in
    let ends : EndSplit a.ran.words last cut.mid (site_of at.far) = end_split a.ran.words last cut.mid (site_of at.far) cut.rest in
    let asked : RunAt C P Q word size h bus (i + 1 + more) cut.mid =
    run_asked_at more a.acts C P Q word size most h bus w i y base st.kept (site_of st.far) cut.mid es within c program st.stood a.are cut.first in
    record {
      far = off.far;
      is = off.is;
      left = run_left C P Q word size most last h bus w (i + 1 + more) (site_of at.far) (site_of off.far) es
          (run_gone C P Q word size most last h bus w (i + 1 + more) ends.mid (site_of at.far) es
          (run_polled C P Q word size most a.ran.words last h bus w (i + 1 + more) cut.mid ends.mid es within asked ends.polled a.ran.idle) ends.cleared)
          off.acts_are;
    }
