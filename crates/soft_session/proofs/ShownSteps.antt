-- A command that reaches memory, over a told chip: its lowered plan goes alike with one over the chip's own memory, whose values are shown.
use Rattle.std.proofs.Common.{◌≡◌, ◌∙◌, ◌++◌, ◌+◌, ℕ, false, List, [], ◌∷◌, Option, None, Some, append-nil, append_assoc}
use Rattle.std.proofs.Common.{not, refl, sym, ap, subst}
use Rattle.std.proofs.lemmas.Option.{none-some, same_Some}
use Rattle.jt_base.specs.Sink.{GrewByPrefix, grown}
use Rattle.rv_model.specs.declared.size.Size.{Size}
use Rattle.rv_model.specs.Size.{count_of}
use Rattle.debug_model.specs.Told.{Far, IsReady, site_of}
use Rattle.abstract_debugger.specs.Laws.{Quiet}
use Rattle.abstract_debugger.specs.Lines.{Line, text_of, text_of_all}
use Rattle.abstract_debugger.specs.Plan.{Plan}
use Rattle.abstract_debugger.specs.Plan.Plan.{say}
use Rattle.abstract_debugger.specs.Stands.{Target}
use Rattle.probe_run.specs.Acts.{Tells}
use Rattle.probe_run.specs.Happens.{target_of}
use Rattle.probe_session.specs.declared.fault.Failure.{Failure}
use Rattle.probe_session.specs.declared.fault.Failure.TheVariants as failure
use Rattle.probe_session.specs.declared.reach.Reach.{Reach}
use Rattle.probe_session.specs.Goes.{Fault}
use Rattle.probe_session.specs.Led.{DealsAt, Leads, target_at}
use Rattle.probe_session.specs.Places.{Place, idle, wants_call}
use Rattle.probe_session.specs.Reach.{hart_by, place_by, way_by}
use Rattle.probe_session.specs.Steps.{Step}
use Rattle.probe_session.specs.Transcribed.{Still}
use Rattle.probe_session.proofs.LedSteps.{goes_lead}
use Rattle.probe_session.proofs.MemoryLines.{reach_rests}
use Rattle.soft_laws.specs.Lowered.{Table, lower}
use Rattle.soft_laws.specs.Shown.{AreBytes, shown_value}
use Rattle.soft_laws.proofs.AlikePlans.{Alike, deals_alike}
use Rattle.soft_break.specs.Patches.{Patches, table_of}
use Rattle.soft_session.specs.Cuts.{CutShort, QuietAt}
use Rattle.soft_session.specs.Memory.{RestCut, at_rest, shown_values}
use Rattle.soft_session.specs.Tables.{Holds}
use Rattle.soft_session.proofs.CutCommands.{one_more_front, quiet_here, quiet_line}
use Rattle.soft_session.proofs.CutSteps.{cut_then, fault_cut, no_line_said}
use Rattle.soft_session.proofs.LedLemmas.{led_step, led_then}
use Rattle.soft_session.proofs.QuietSteps.{lower_quiet}
use Rattle.soft_session.proofs.TableWrites.{values_alike}
use Rattle.probe_session.proofs.Spoken.{grown_none}

-- ---- plans that go alike

-- the chip's memory holds bytes
pub led_alike : (r : Reach) (p q : Plan) (s : Tells) → IsReady s.far → Alike p q → Leads (place_by r p) s [] (place_by r q) s
led_alike r p q s ready like m o lines d = subst (λ l. DealsAt m o (place_by r q) l s.far) (sym (append-nil lines)) (record {
  target = d.target;
  is = d.is;
  holds = deals_alike m (hart_by r) (way_by r) o p q lines d.target (bytes s.far ready d.is) like d.holds;
})
  where
    bytes : (far : Option Far) → IsReady far → target_at far ≡ Some d.target → AreBytes d.target.board.memory.bytes
    bytes None ready is = absurd (none-some d.target is)
    bytes (Some f) ready is = subst (λ (u : Target). AreBytes u.board.memory.bytes) (same_Some (target_of (site_of f)) d.target is) ready.memory

-- ---- steps behind one another

pub led_quietly : (a b c : Place) (t u v : Tells) (xs : List Line) → Leads a t xs b u → Leads b u [] c v → Leads a t xs c v
led_quietly a b c t u v xs first second = subst (λ l. Leads a t l c v) (append-nil xs) (led_then a b c t u v xs [] first second)

-- nothing more of the hart
pub led_rests : (r : Reach) (p : Plan) (s : Tells) → Leads (place_by r p) s [] (idle p) s
led_rests r p s = goes_lead (place_by r p) (idle p) s s [] ((reach_rests r (λ (k : Unit {0}). p)).goes tt)

-- a line of a plan that was lowered
pub led_says : (r : Reach) (line : Line) (p : Plan) (s : Tells) → wants_call line ≡ false → Leads (place_by r (say line p)) s (line ∷ []) (place_by r p) s
led_says r line p s plain = led_step (place_by r (say line p)) (place_by r p) s s (line ∷ []) (Step.says (ap not plain))

-- ---- values shown

pub shown_alike_values : (p : Patches) (t : Table) → Holds p t → (size : Size) (a : ℕ) (values : List ℕ)
    → shown_values t size a values ≡ shown_values (table_of p) size a values
shown_alike_values p t h size a [] = refl
shown_alike_values p t h size a (v ∷ values) =
    ap (λ x. x ∷ shown_values t size (a + count_of size) values) (values_alike p t h a (count_of size) v)
    ∙ ap (λ (xs : List ℕ). shown_value (table_of p) a (count_of size) v ∷ xs) (shown_alike_values p t h size (a + count_of size) values)

-- ---- where it did not come to its end

-- a call failed with no line said
pub fault_short : (r : Reach) (rest : Plan → Plan) (p : Patches) (to : Plan → Table → Plan) (old_count new_count : ℕ) (old new : Tells) (was : Option (List ℕ))
    (f : Failure) → ((next : Plan) (t : Table) → Holds p t → Leads (at_rest r rest next t) old [] (place_by r (to next t)) old)
    → ((next : Plan) (t : Table) → Fault (place_by r (to next t)) old_count new_count old new f) → RestCut r rest p old new was was f
fault_short r rest p to old_count new_count old new was f leads fault next quiet =
    CutShort.in_call [] (grown_none was) (λ t holds. no_line_said (at_rest r rest next t) old new f
    (cut_then (at_rest r rest next t) (place_by r (to next t)) old old new f (leads next t holds)
    (fault_cut (place_by r (to next t)) old_count new_count old new f (fault next t))))

-- a line could not be written, behind others that were said
pub line_short : (r : Reach) (rest : Plan → Plan) (p : Patches) (said : List Line) (line : Line) (old new : Tells) (was is : Option (List ℕ)) (f : Failure)
    → f ≡ failure.Sink
    → ((next : Plan) (t : Table) → Holds p t → Leads (at_rest r rest next t) old said (place_by r (say line (lower next t))) new)
    → GrewByPrefix (text_of line) (grown (text_of_all said) was) is → RestCut r rest p old new was is f
line_short r rest p said line old new was is f sink leads front next quiet =
    subst (CutShort (at_rest r rest next) p old new was is) (sym sink)
    (CutShort.at_line said (line ∷ []) (one_more_front line said was is front) (λ t holds m o lines d.
    subst (λ l. Still (QuietAt o l) new.far) (append_assoc lines said (line ∷ []))
    (quiet_line m o (way_by r) (hart_by r) line (lower next t) (lines ++ said) new.far (lower_quiet next t quiet) (leads next t holds m o lines d))))

-- one of several lines could not be written, all of which were said at once
pub lines_short : (r : Reach) (rest : Plan → Plan) (p : Patches) (ahead : List Line) (to : Plan → Table → Plan) (old new : Tells) (was is : Option (List ℕ))
    (f : Failure) → f ≡ failure.Sink → ((next : Plan) (t : Table) → Quiet next → Quiet (to next t))
    → ((next : Plan) (t : Table) → Holds p t → Leads (at_rest r rest next t) old ahead (place_by r (to next t)) new)
    → GrewByPrefix (text_of_all ahead) was is → RestCut r rest p old new was is f
lines_short r rest p ahead to old new was is f sink calm leads front next quiet =
    subst (CutShort (at_rest r rest next) p old new was is) (sym sink)
    (CutShort.at_line [] ahead (subst (λ x. GrewByPrefix (text_of_all ahead) x is) (grown_none was) front) (λ t holds m o lines d.
    quiet_here m o (way_by r) (hart_by r) (to next t) (lines ++ ahead) new.far (calm next t quiet) (leads next t holds m o lines d)))
