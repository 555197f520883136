-- `read`: a block of loads, and the lines of its elements as a user sees them.
use Rattle.std.proofs.Common.{◌≡◌, ◌∙◌, ◌++◌, ◌+◌, ◌-◌, ℕ, zero, suc, Bool, true, false, ◌||◌, List, [], ◌∷◌, length, map, Option, refl, sym, ap, subst}
use Rattle.std.proofs.Common.{arith}
use Rattle.std.proofs.lemmas.List.Folds.{list_any-append}
use Rattle.jt_base.specs.Sink.{GrewByPrefix, grown}
use Rattle.rv_model.specs.declared.size.Size.{Size}
use Rattle.rv_model.specs.Memory.{is_aligned}
use Rattle.rv_model.specs.Size.{count_of}
use Rattle.debug_model.specs.declared.command.Path.{Path}
use Rattle.debug_model.specs.Told.{IsReady}
use Rattle.abstract_debugger.specs.Debugger.{reading}
use Rattle.abstract_debugger.specs.Lines.{Line, any_error, is_error, text_of, text_of_all}
use Rattle.abstract_debugger.specs.Plan.{Plan}
use Rattle.abstract_debugger.specs.Plan.Plan.{say}
use Rattle.probe_access.specs.Blocks.{element_at}
use Rattle.probe_access.specs.BusRuns.{cut_to}
use Rattle.probe_run.specs.Acts.{Tells}
use Rattle.probe_session.specs.declared.fault.Failure.{Failure}
use Rattle.probe_session.specs.declared.fault.Failure.TheVariants as failure
use Rattle.probe_session.specs.declared.reach.Reach.{Reach}
use Rattle.probe_session.specs.Answers.{BlockLoadedAs}
use Rattle.probe_session.specs.BlockCalls.{BlockLoadFell}
use Rattle.probe_session.specs.Blocks.{Loads, MayLoad, Says, loading}
use Rattle.probe_session.specs.Goes.{Fault}
use Rattle.probe_session.specs.Led.{Leads}
use Rattle.probe_session.specs.Reach.{hart_by, path_by, place_by, way_by}
use Rattle.probe_session.specs.Showing.{element_lines}
use Rattle.probe_session.specs.Steps.{Step}
use Rattle.probe_session.proofs.BlockDeals.{later_is}
use Rattle.probe_session.proofs.MemoryLines.{aligned_body, first_address, misaligned_body}
use Rattle.probe_session.proofs.Spoken.{grown_lines, grown_none, one_text}
use Rattle.soft_laws.specs.Lowered.{Table, lower}
use Rattle.soft_laws.specs.Shown.{shown_value}
use Rattle.soft_laws.proofs.AlikePlans.{reading_alike, shown_reading}
use Rattle.soft_break.specs.Patches.{Patches, table_of}
use Rattle.soft_session.specs.Led.{at_plan}
use Rattle.soft_session.specs.Memory.{LinesLed, RestCut, at_rest, shown_values, to_read}
use Rattle.soft_session.specs.Tables.{Holds}
use Rattle.soft_session.proofs.LedLemmas.{led_same, led_step, led_then}
use Rattle.soft_session.proofs.LowerLemmas.{lower_say}
use Rattle.soft_session.proofs.ShownSteps.{fault_short, led_alike, led_quietly, led_rests, led_says, line_short, lines_short, shown_alike_values}
use Rattle.soft_session.proofs.QuietSteps.{lower_quiet}
use Rattle.soft_session.proofs.TableWrites.{remembers_each}

-- ---- the elements lead along the plan

loads_shown : (path : Path) (n : ℕ) (size : Size) (a : ℕ) (next : Plan) (t : Table) (values : List ℕ) (left : ℕ) → n ≡ length values + left
    → Loads path size a (shown_reading path n size a next t) values (element_lines size a (shown_values t size a values))
    (shown_reading path left size (element_at size a (length values)) next t)
loads_shown path n size a next t [] left is =
    let e : n ≡ left = omega (arith, is) in
    subst (λ m. Loads path size a (shown_reading path m size a next t) [] [] (shown_reading path left size (element_at size a 0) next t)) (sym e)
    (subst (λ b. Loads path size a (shown_reading path left size a next t) [] [] (shown_reading path left size b next t)) (first_address size a) Loads.nothing)
loads_shown path zero size a next t (v ∷ values) left is = absurd (omega arith)
loads_shown path (suc n) size a next t (v ∷ values) left is =
    subst (λ b. Loads path size a (shown_reading path (suc n) size a next t) (v ∷ values) (element_lines size a (shown_values t size a (v ∷ values)))
    (shown_reading path left size b next t)) (sym (later_is size a (length values)))
    (Loads.further (say (Line.MemoryFault a) (lower next t))
    (λ x. say (Line.Element a size (shown_value t a (count_of size) x)) (shown_reading path n size (a + count_of size) next t))
    (Says.further refl Says.nothing) (loads_shown path n size (a + count_of size) next t values left (omega arith)))

may_load : (path : Path) (n : ℕ) (size : Size) (a : ℕ) (next : Plan) (t : Table) → MayLoad path size a n (shown_reading path n size a next t)
may_load path zero size a next t = MayLoad.nothing
may_load path (suc n) size a next t = MayLoad.further (say (Line.MemoryFault a) (lower next t))
    (λ v. say (Line.Element a size (shown_value t a (count_of size) v)) (shown_reading path n size (a + count_of size) next t))
    (λ v. Line.Element a size (shown_value t a (count_of size) v) ∷ []) (λ v. shown_reading path n size (a + count_of size) next t)
    (λ v. Says.further refl Says.nothing) (λ v. may_load path n size (a + count_of size) next t)

all_loaded : (path : Path) (size : Size) (a count : ℕ) (values : List ℕ) (next : Plan) (t : Table) → length values ≡ count
    → Loads path size a (shown_reading path count size a next t) values (element_lines size a (shown_values t size a values)) (lower next t)
all_loaded path size a count values next t all = loads_shown path count size a next t values 0 (omega (arith, all))

one_refused : (path : Path) (size : Size) (a count : ℕ) (values : List ℕ) (left : ℕ) (next : Plan) (t : Table) → count ≡ length values + suc left
    → Loads path size a (shown_reading path count size a next t) values (element_lines size a (shown_values t size a values))
    (loading path size (element_at size a (length values)) (say (Line.MemoryFault (element_at size a (length values))) (lower next t))
    (λ v. say (Line.Element (element_at size a (length values)) size (shown_value t (element_at size a (length values)) (count_of size) v))
    (shown_reading path left size (element_at size a (length values) + count_of size) next t)))
one_refused path size a count values left next t all = loads_shown path count size a next t values (suc left) all

-- ---- the block

to_elements : (r : Reach) (size : Size) (a count : ℕ) (next : Plan) (p : Patches) (t : Table) (s : Tells) → is_aligned a size ≡ true → IsReady s.far → Holds p t
    → Leads (at_rest r (to_read size a count r) next t) s [] (place_by r (shown_reading (path_by r) count size a next t)) s
to_elements r size a count next p t s is ready holds =
    led_then (at_rest r (to_read size a count r) next t) (place_by r (lower (reading (path_by r) count size a next) t))
    (place_by r (shown_reading (path_by r) count size a next t)) s s s [] []
    (led_same (way_by r) (hart_by r) _ _ s (ap (λ q. lower q t) (aligned_body size a next (reading (path_by r) count size a next) is)))
    (led_alike r _ _ s ready (reading_alike (path_by r) count size a next t (remembers_each p t holds)))

abbrev pub shown_lines : Patches → Size → ℕ → List ℕ → List Line
shown_lines p size a values = element_lines size a (shown_values (table_of p) size a values)

elements_led : (r : Reach) (size : Size) (a count : ℕ) (values : List ℕ) (p : Patches) (old new : Tells) → is_aligned a size ≡ true → IsReady old.far
    → BlockLoadedAs (path_by r) (way_by r) (hart_by r) size a count values old new true → (next : Plan) (t : Table) → Holds p t
    → Leads (at_rest r (to_read size a count r) next t) old (shown_lines p size a values) (place_by r (lower next t)) new
elements_led r size a count values p old new is ready l next t holds =
    subst (λ vs. Leads (at_rest r (to_read size a count r) next t) old (element_lines size a vs) (place_by r (lower next t)) new)
    (shown_alike_values p t holds size a values)
    (led_then (at_rest r (to_read size a count r) next t) (place_by r (shown_reading (path_by r) count size a next t)) (place_by r (lower next t)) old old new
    [] (element_lines size a (shown_values t size a values)) (to_elements r size a count next p t old is ready holds)
    (led_step (place_by r (shown_reading (path_by r) count size a next t)) (place_by r (lower next t)) old new (element_lines size a (shown_values t size a values))
    (Step.loads_block (all_loaded (path_by r) size a count values next t l.0) l.1)))

refused_led : (r : Reach) (size : Size) (a count at : ℕ) (values : List ℕ) (p : Patches) (old new : Tells) → is_aligned a size ≡ true → IsReady old.far
    → at ≡ element_at size a (length values) → BlockLoadedAs (path_by r) (way_by r) (hart_by r) size a count values old new false
    → (next : Plan) (t : Table) → Holds p t
    → Leads (at_rest r (to_read size a count r) next t) old (shown_lines p size a values) (place_by r (say (Line.MemoryFault at) (lower next t))) new
refused_led r size a count at values p old new is ready at_is l next t holds =
    let left : ℕ = count - (length values + 1) in
    let all : count ≡ length values + suc left = omega (arith, l.0) in
    let fault : Plan = say (Line.MemoryFault (element_at size a (length values))) (lower next t) in
    subst (λ x. Leads (at_rest r (to_read size a count r) next t) old (shown_lines p size a values) (place_by r (say (Line.MemoryFault x) (lower next t))) new) (sym at_is)
    (subst (λ vs. Leads (at_rest r (to_read size a count r) next t) old (element_lines size a vs) (place_by r fault) new)
    (shown_alike_values p t holds size a values)
    (led_then (at_rest r (to_read size a count r) next t) (place_by r (shown_reading (path_by r) count size a next t)) (place_by r fault) old old new
    [] (element_lines size a (shown_values t size a values)) (to_elements r size a count next p t old is ready holds)
    (led_step (place_by r (shown_reading (path_by r) count size a next t)) (place_by r fault) old new (element_lines size a (shown_values t size a values))
    (Step.loads_block_none _ (one_refused (path_by r) size a count values left next t all) l.1))))

misaligned_led : (r : Reach) (size : Size) (a count : ℕ) (s : Tells) → is_aligned a size ≡ false → (next : Plan) (t : Table)
    → Leads (at_rest r (to_read size a count r) next t) s [] (place_by r (say (Line.MemoryFault a) (lower next t))) s
misaligned_led r size a count s is next t = led_same (way_by r) (hart_by r) _ _ s
    (ap (λ q. lower q t) (misaligned_body size a next (reading (path_by r) count size a next) is) ∙ lower_say (Line.MemoryFault a) next t)

-- ---- with its lines

no_error : (size : Size) (a : ℕ) (values : List ℕ) → any_error (element_lines size a values) ≡ false
no_error size a [] = refl
no_error size a (v ∷ values) = no_error size (a + count_of size) values

pub elements_lines : (r : Reach) (size : Size) (a count : ℕ) (values : List ℕ) (p : Patches) (old new : Tells) (was is : Option (List ℕ))
    → is_aligned a size ≡ true → IsReady old.far → BlockLoadedAs (path_by r) (way_by r) (hart_by r) size a count values old new true
    → is ≡ grown (text_of_all (shown_lines p size a values)) was → LinesLed r (to_read size a count r) p false old new was is
elements_lines r size a count values p old new was is aligned ready l put = record {
  said = shown_lines p size a values;
  put = put;
  wrong_is = no_error size a (shown_values (table_of p) size a values);
  led = λ next t holds. led_quietly (at_rest r (to_read size a count r) next t) (place_by r (lower next t)) (at_plan next t) old new new
      (shown_lines p size a values) (elements_led r size a count values p old new aligned ready l next t holds) (led_rests r (lower next t) new);
}

-- its last line is that of an element that memory refused
pub with_fault : (r : Reach) (rest : Plan → Plan) (p : Patches) (said : List Line) (at : ℕ) (old new : Tells) (was mid is : Option (List ℕ))
    → any_error said ≡ false → mid ≡ grown (text_of_all said) was → is ≡ grown (text_of (Line.MemoryFault at)) mid
    → ((next : Plan) (t : Table) → Holds p t → Leads (at_rest r rest next t) old said (place_by r (say (Line.MemoryFault at) (lower next t))) new)
    → LinesLed r rest p true old new was is
with_fault r rest p said at old new was mid is none put more leads = record {
  said = said ++ Line.MemoryFault at ∷ [];
  put = grown_lines said (Line.MemoryFault at ∷ []) was mid is put (more ∙ one_text (Line.MemoryFault at) mid);
  wrong_is = list_any-append is_error said (Line.MemoryFault at ∷ []) ∙ ap (λ b. b || true) none;
  led = λ next t holds. led_quietly (at_rest r rest next t) (place_by r (lower next t)) (at_plan next t) old new new (said ++ Line.MemoryFault at ∷ [])
      (led_then (at_rest r rest next t) (place_by r (say (Line.MemoryFault at) (lower next t))) (place_by r (lower next t)) old new new said
      (Line.MemoryFault at ∷ []) (leads next t holds) (led_says r (Line.MemoryFault at) (lower next t) new refl)) (led_rests r (lower next t) new);
}

pub refused_lines : (r : Reach) (size : Size) (a count at : ℕ) (values : List ℕ) (p : Patches) (old new : Tells) (was mid is : Option (List ℕ))
    → is_aligned a size ≡ true → IsReady old.far → at ≡ element_at size a (length values)
    → BlockLoadedAs (path_by r) (way_by r) (hart_by r) size a count values old new false
    → mid ≡ grown (text_of_all (shown_lines p size a values)) was → is ≡ grown (text_of (Line.MemoryFault at)) mid
    → LinesLed r (to_read size a count r) p true old new was is
refused_lines r size a count at values p old new was mid is aligned ready at_is l put more =
    with_fault r (to_read size a count r) p (shown_lines p size a values) at old new was mid is (no_error size a (shown_values (table_of p) size a values))
    put more (refused_led r size a count at values p old new aligned ready at_is l)

pub misaligned_lines : (r : Reach) (size : Size) (a count : ℕ) (p : Patches) (s : Tells) (was is : Option (List ℕ)) → is_aligned a size ≡ false
    → is ≡ grown (text_of (Line.MemoryFault a)) was → LinesLed r (to_read size a count r) p true s s was is
misaligned_lines r size a count p s was is none put =
    with_fault r (to_read size a count r) p [] a s s was was is refl (grown_none was) put (λ next t holds. misaligned_led r size a count s none next t)

-- ---- where it did not come to its end

pub misaligned_cut : (r : Reach) (size : Size) (a count : ℕ) (p : Patches) (s : Tells) (was is : Option (List ℕ)) (f : Failure) → f ≡ failure.Sink
    → is_aligned a size ≡ false → GrewByPrefix (text_of (Line.MemoryFault a)) was is → RestCut r (to_read size a count r) p s s was is f
misaligned_cut r size a count p s was is f sink none front =
    line_short r (to_read size a count r) p [] (Line.MemoryFault a) s s was is f sink (λ next t holds. misaligned_led r size a count s none next t)
    (subst (λ x. GrewByPrefix (text_of (Line.MemoryFault a)) x is) (grown_none was) front)

pub block_cut : (r : Reach) (size : Size) (a count : ℕ) (p : Patches) (old_count new_count : ℕ) (old new : Tells) (was : Option (List ℕ)) (f : Failure)
    → is_aligned a size ≡ true → IsReady old.far → BlockLoadFell (path_by r) (way_by r) (hart_by r) size a count old_count new_count old new f
    → RestCut r (to_read size a count r) p old new was was f
block_cut r size a count p old_count new_count old new was f aligned ready fell =
    fault_short r (to_read size a count r) p (λ next t. shown_reading (path_by r) count size a next t) old_count new_count old new was f
    (λ next t holds. to_elements r size a count next p t old aligned ready holds)
    (λ next t. Fault.loading_block (may_load (path_by r) count size a next t) fell)

pub elements_cut : (r : Reach) (size : Size) (a count : ℕ) (values : List ℕ) (is_whole : Bool) (p : Patches) (old new : Tells) (was is : Option (List ℕ))
    (f : Failure) → f ≡ failure.Sink → is_aligned a size ≡ true → IsReady old.far
    → BlockLoadedAs (path_by r) (way_by r) (hart_by r) size a count values old new is_whole
    → GrewByPrefix (text_of_all (shown_lines p size a values)) was is → RestCut r (to_read size a count r) p old new was is f
elements_cut r size a count values true p old new was is f sink aligned ready l front =
    lines_short r (to_read size a count r) p (shown_lines p size a values) (λ next t. lower next t) old new was is f sink (λ next t q. lower_quiet next t q)
    (λ next t holds. elements_led r size a count values p old new aligned ready l next t holds) front
elements_cut r size a count values false p old new was is f sink aligned ready l front =
    lines_short r (to_read size a count r) p (shown_lines p size a values)
    (λ next t. say (Line.MemoryFault (element_at size a (length values))) (lower next t)) old new was is f sink (λ next t q. lower_quiet next t q)
    (λ next t holds. refused_led r size a count _ values p old new aligned ready refl l next t holds) front

pub refusal_cut : (r : Reach) (size : Size) (a count at : ℕ) (values : List ℕ) (p : Patches) (old new : Tells) (was mid is : Option (List ℕ)) (f : Failure)
    → f ≡ failure.Sink → is_aligned a size ≡ true → IsReady old.far → at ≡ element_at size a (length values)
    → BlockLoadedAs (path_by r) (way_by r) (hart_by r) size a count values old new false → mid ≡ grown (text_of_all (shown_lines p size a values)) was
    → GrewByPrefix (text_of (Line.MemoryFault at)) mid is → RestCut r (to_read size a count r) p old new was is f
refusal_cut r size a count at values p old new was mid is f sink aligned ready at_is l put front =
    line_short r (to_read size a count r) p (shown_lines p size a values) (Line.MemoryFault at) old new was is f sink
    (λ next t holds. refused_led r size a count at values p old new aligned ready at_is l next t holds)
    (subst (λ x. GrewByPrefix (text_of (Line.MemoryFault at)) x is) put front)

-- ---- what was shown of what was loaded

pub shown_put : (p : Patches) (size : Size) (a : ℕ) (slice items held : List ℕ) (c d : Option (List ℕ)) → slice ≡ items
    → map (cut_to size) items ≡ shown_values (table_of p) size a (map (cut_to size) held)
    → d ≡ grown (text_of_all (element_lines size a (map (cut_to size) slice))) c
    → d ≡ grown (text_of_all (shown_lines p size a (map (cut_to size) held))) c
shown_put p size a slice items held c d is hidden put =
    put ∙ ap (λ (xs : List ℕ). grown (text_of_all (element_lines size a (map (cut_to size) xs))) c) is
    ∙ ap (λ (xs : List ℕ). grown (text_of_all (element_lines size a xs)) c) hidden

pub shown_front : (p : Patches) (size : Size) (a : ℕ) (slice items held : List ℕ) (c d : Option (List ℕ)) → slice ≡ items
    → map (cut_to size) items ≡ shown_values (table_of p) size a (map (cut_to size) held)
    → GrewByPrefix (text_of_all (element_lines size a (map (cut_to size) slice))) c d
    → GrewByPrefix (text_of_all (shown_lines p size a (map (cut_to size) held))) c d
shown_front p size a slice items held c d is hidden front =
    subst (λ (xs : List ℕ). GrewByPrefix (text_of_all (element_lines size a xs)) c d) hidden
    (subst (λ (xs : List ℕ). GrewByPrefix (text_of_all (element_lines size a (map (cut_to size) xs))) c d) is front)
