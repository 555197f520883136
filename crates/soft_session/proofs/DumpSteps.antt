-- `dump`: a block of bytes, and the lines of their rows as a user sees them.
use Rattle.std.proofs.Common.{◌≡◌, ◌∙◌, ◌+◌, ◌-◌, ◌++◌, ℕ, suc, Bool, true, false, List, [], ◌∷◌, length, map, Option, refl, sym, ap, subst}
use Rattle.std.proofs.Common.{arith}
use Rattle.std.specs.Prelude.{◌==◌}
use Rattle.jt_base.specs.Sink.{GrewByPrefix, grown}
use Rattle.rv_model.specs.declared.size.Size.TheVariants.{B1}
use Rattle.debug_model.specs.declared.command.Path.{Path}
use Rattle.debug_model.specs.Told.{IsReady}
use Rattle.abstract_debugger.specs.Debugger.{row_bytes, saying_row}
use Rattle.abstract_debugger.specs.Lines.{Line, any_error, text_of, text_of_all}
use Rattle.abstract_debugger.specs.Plan.{Plan}
use Rattle.abstract_debugger.specs.Plan.Plan.{say}
use Rattle.abstract_debugger.specs.Ways.{Way}
use Rattle.probe_access.specs.Blocks.{element_at}
use Rattle.probe_access.specs.BusRuns.{cut_to}
use Rattle.probe_run.specs.Acts.{Tells}
use Rattle.probe_session.specs.declared.fault.Failure.{Failure}
use Rattle.probe_session.specs.declared.fault.Failure.TheVariants as failure
use Rattle.probe_session.specs.declared.reach.Reach.{Reach}
use Rattle.probe_session.specs.Answers.{BlockLoadedAs}
use Rattle.probe_session.specs.BlockCalls.{BlockLoadFell}
use Rattle.probe_session.specs.Blocks.{Loads, MayLoad, loading}
use Rattle.probe_session.specs.Goes.{Fault, Goes}
use Rattle.probe_session.specs.Goes.Goes.{start}
use Rattle.probe_session.specs.Led.{Leads}
use Rattle.probe_session.specs.Places.{place}
use Rattle.probe_session.specs.Reach.{hart_by, path_by, place_by, way_by}
use Rattle.probe_session.specs.Showing.{byte_rows, row_lines, whole_rows}
use Rattle.probe_session.specs.Steps.{Step}
use Rattle.probe_session.proofs.LedSteps.{goes_lead}
use Rattle.probe_session.proofs.WentLemmas.{one}
use Rattle.soft_laws.specs.Lowered.{Table, lower}
use Rattle.soft_laws.proofs.AlikePlans.{dumping_alike, shown_dumping}
use Rattle.soft_break.specs.Patches.{Patches, table_of}
use Rattle.soft_session.specs.Led.{at_plan}
use Rattle.soft_session.specs.Memory.{LinesLed, RestCut, at_rest, shown_values, to_dump}
use Rattle.soft_session.specs.Tables.{Holds}
use Rattle.soft_session.proofs.LedLemmas.{led_step, led_then}
use Rattle.soft_session.proofs.QuietSteps.{lower_quiet}
use Rattle.soft_session.proofs.DumpRows.{Along, along, behind, behind_byte, behind_row, faulted, may_dump}
use Rattle.soft_session.proofs.ReadSteps.{with_fault}
use Rattle.soft_session.proofs.ShownSteps.{fault_short, led_alike, led_quietly, led_rests, line_short, lines_short, shown_alike_values}
use Rattle.soft_session.proofs.TableWrites.{remembers_each}

-- none of the lines is of an error
row_right : (first : ℕ) (row : List ℕ) → any_error (row_lines first row) ≡ false
row_right first [] = refl
row_right first (byte ∷ bytes) = refl

right_more : (first : ℕ) (row : List ℕ) (v : ℕ) (values : List ℕ) (b : Bool) → (length row + 1 == row_bytes) ≡ b
    → ((f : ℕ) (r : List ℕ) → any_error (byte_rows f r values) ≡ false) → any_error (byte_rows first row (v ∷ values)) ≡ false
right_more first row v values true full each = rw full (each (first + row_bytes) [])
right_more first row v values false part each = rw part (each first (row ++ v ∷ []))

no_error : (values : List ℕ) (first : ℕ) (row : List ℕ) → any_error (byte_rows first row values) ≡ false
no_error [] first row = row_right first row
no_error (v ∷ values) first row = right_more first row v values (length row + 1 == row_bytes) refl (λ f r. no_error values f r)

-- ---- the block

-- the bytes that wait in a row are said
row_goes : (way : Way) (h first : ℕ) (row : List ℕ) (p : Plan) {s : Tells}
    → Goes (place way h (saying_row first row p)) s (row_lines first row) (place way h p) s
row_goes way h first [] p = start
row_goes way h first (byte ∷ bytes) p = one (Step.says refl)

at_first : (path : Path) (a : ℕ) (p q : Plan) (values : List ℕ) (lines : List Line) → Loads path B1 (a + 0) p values lines q → Loads path B1 a p values lines q
at_first path a p q values lines l = behind path (a + 0) a p q values lines (omega arith) l

to_bytes : (r : Reach) (a count : ℕ) (next : Plan) (p : Patches) (t : Table) (s : Tells) → IsReady s.far → Holds p t
    → Leads (at_rest r (to_dump a count r) next t) s [] (place_by r (shown_dumping (path_by r) count a [] next t)) s
to_bytes r a count next p t s ready holds = led_alike r _ _ s ready (dumping_alike (path_by r) count a [] next t (remembers_each p t holds))

abbrev pub shown_rows : Patches → ℕ → List ℕ → List Line
shown_rows p a values = byte_rows a [] (shown_values (table_of p) B1 a values)

no_row : (a : ℕ) → a + 0 ≡ a
no_row a = omega arith

bytes_led : (r : Reach) (a count : ℕ) (values : List ℕ) (p : Patches) (old new : Tells) → IsReady old.far
    → BlockLoadedAs (path_by r) (way_by r) (hart_by r) B1 a count values old new true → (next : Plan) (t : Table) → Holds p t
    → Leads (at_rest r (to_dump a count r) next t) old (shown_rows p a values) (place_by r (lower next t)) new
bytes_led r a count values p old new ready l next t holds =
    let x : Along (path_by r) count a [] next t values 0 = along (path_by r) count a [] next t values 0 (omega (arith, l.0)) in
    let row : List Line = row_lines x.begins x.waits in
    let wholes : List Line = whole_rows a [] (behind_row t a [] values) in
    let same : wholes ++ row ≡ shown_rows p a values =
    sym x.lines ∙ ap (λ b. byte_rows a [] (shown_values t B1 b values)) (no_row a)
    ∙ ap (byte_rows a []) (shown_alike_values p t holds B1 a values) in
    subst (λ ls. Leads (at_rest r (to_dump a count r) next t) old ls (place_by r (lower next t)) new) same
    (led_then (at_rest r (to_dump a count r) next t) (place_by r (shown_dumping (path_by r) count a [] next t)) (place_by r (lower next t)) old old new
    [] (wholes ++ row) (to_bytes r a count next p t old ready holds)
    (led_then (place_by r (shown_dumping (path_by r) count a [] next t)) (place_by r (saying_row x.begins x.waits (lower next t))) (place_by r (lower next t))
    old new new wholes row
    (led_step (place_by r (shown_dumping (path_by r) count a [] next t)) (place_by r (saying_row x.begins x.waits (lower next t))) old new wholes
    (Step.loads_block (at_first (path_by r) a _ _ values _ x.loads) l.1))
    (goes_lead (place_by r (saying_row x.begins x.waits (lower next t))) (place_by r (lower next t)) new new row
    (row_goes (way_by r) (hart_by r) x.begins x.waits (lower next t)))))

at_refused : (path : Path) (a count left : ℕ) (values : List ℕ) (next : Plan) (t : Table) (x : Along path count a [] next t values (suc left))
    → x.begins + length x.waits ≡ element_at B1 a (length values)
    → Loads path B1 a (shown_dumping path count a [] next t) values (whole_rows a [] (behind_row t a [] values))
    (loading path B1 (element_at B1 a (length values)) (faulted x.begins x.waits next t) (behind_byte path left x.begins x.waits next t))
at_refused path a count left values next t x here =
    subst (λ y. Loads path B1 a (shown_dumping path count a [] next t) values (whole_rows a [] (behind_row t a [] values))
    (loading path B1 y (faulted x.begins x.waits next t) (behind_byte path left x.begins x.waits next t))) here (at_first path a _ _ values _ x.loads)

refused_led : (r : Reach) (a count at : ℕ) (values : List ℕ) (p : Patches) (old new : Tells) → IsReady old.far → at ≡ a + length values
    → BlockLoadedAs (path_by r) (way_by r) (hart_by r) B1 a count values old new false → (next : Plan) (t : Table) → Holds p t
    → Leads (at_rest r (to_dump a count r) next t) old (shown_rows p a values) (place_by r (say (Line.MemoryFault at) (lower next t))) new
refused_led r a count at values p old new ready at_is l next t holds =
    let left : ℕ = count - (length values + 1) in
    let all : count ≡ length values + suc left = omega (arith, l.0) in
    let x : Along (path_by r) count a [] next t values (suc left) = along (path_by r) count a [] next t values (suc left) all in
    let row : List Line = row_lines x.begins x.waits in
    let wholes : List Line = whole_rows a [] (behind_row t a [] values) in
    let here : x.begins + length x.waits ≡ element_at B1 a (length values) = omega (arith, x.along) in
    let there : x.begins + length x.waits ≡ at = omega (arith, x.along, at_is) in
    let fault : Plan = say (Line.MemoryFault (x.begins + length x.waits)) (lower next t) in
    let same : wholes ++ row ≡ shown_rows p a values =
    sym x.lines ∙ ap (λ b. byte_rows a [] (shown_values t B1 b values)) (no_row a)
    ∙ ap (byte_rows a []) (shown_alike_values p t holds B1 a values) in
    subst (λ y. Leads (at_rest r (to_dump a count r) next t) old (shown_rows p a values) (place_by r (say (Line.MemoryFault y) (lower next t))) new) there
    (subst (λ ls. Leads (at_rest r (to_dump a count r) next t) old ls (place_by r fault) new) same
    (led_then (at_rest r (to_dump a count r) next t) (place_by r (shown_dumping (path_by r) count a [] next t)) (place_by r fault) old old new
    [] (wholes ++ row) (to_bytes r a count next p t old ready holds)
    (led_then (place_by r (shown_dumping (path_by r) count a [] next t)) (place_by r (saying_row x.begins x.waits fault)) (place_by r fault)
    old new new wholes row
    (led_step (place_by r (shown_dumping (path_by r) count a [] next t)) (place_by r (saying_row x.begins x.waits fault)) old new wholes
    (Step.loads_block_none _ (at_refused (path_by r) a count left values next t x here) l.1))
    (goes_lead (place_by r (saying_row x.begins x.waits fault)) (place_by r fault) new new row (row_goes (way_by r) (hart_by r) x.begins x.waits fault)))))

-- ---- with its lines

pub rows_lines : (r : Reach) (a count : ℕ) (values : List ℕ) (p : Patches) (old new : Tells) (was is : Option (List ℕ)) → IsReady old.far
    → BlockLoadedAs (path_by r) (way_by r) (hart_by r) B1 a count values old new true → is ≡ grown (text_of_all (shown_rows p a values)) was
    → LinesLed r (to_dump a count r) p false old new was is
rows_lines r a count values p old new was is ready l put = record {
  said = shown_rows p a values;
  put = put;
  wrong_is = no_error (shown_values (table_of p) B1 a values) a [];
  led = λ next t holds. led_quietly (at_rest r (to_dump a count r) next t) (place_by r (lower next t)) (at_plan next t) old new new
      (shown_rows p a values) (bytes_led r a count values p old new ready l next t holds) (led_rests r (lower next t) new);
}

pub rows_refused : (r : Reach) (a count at : ℕ) (values : List ℕ) (p : Patches) (old new : Tells) (was mid is : Option (List ℕ)) → IsReady old.far
    → at ≡ a + length values → BlockLoadedAs (path_by r) (way_by r) (hart_by r) B1 a count values old new false
    → mid ≡ grown (text_of_all (shown_rows p a values)) was → is ≡ grown (text_of (Line.MemoryFault at)) mid
    → LinesLed r (to_dump a count r) p true old new was is
rows_refused r a count at values p old new was mid is ready at_is l put more =
    with_fault r (to_dump a count r) p (shown_rows p a values) at old new was mid is (no_error (shown_values (table_of p) B1 a values) a [])
    put more (refused_led r a count at values p old new ready at_is l)

-- ---- where it did not come to its end

pub dump_cut : (r : Reach) (a count : ℕ) (p : Patches) (old_count new_count : ℕ) (old new : Tells) (was : Option (List ℕ)) (f : Failure) → IsReady old.far
    → BlockLoadFell (path_by r) (way_by r) (hart_by r) B1 a count old_count new_count old new f → RestCut r (to_dump a count r) p old new was was f
dump_cut r a count p old_count new_count old new was f ready fell =
    fault_short r (to_dump a count r) p (λ next t. shown_dumping (path_by r) count a [] next t) old_count new_count old new was f
    (λ next t holds. to_bytes r a count next p t old ready holds)
    (λ next t. Fault.loading_block (subst (λ b. MayLoad (path_by r) B1 b count (shown_dumping (path_by r) count a [] next t)) (no_row a)
    (may_dump (path_by r) count next t a [])) fell)

pub rows_cut : (r : Reach) (a count : ℕ) (values : List ℕ) (is_whole : Bool) (p : Patches) (old new : Tells) (was is : Option (List ℕ)) (f : Failure)
    → f ≡ failure.Sink → IsReady old.far → BlockLoadedAs (path_by r) (way_by r) (hart_by r) B1 a count values old new is_whole
    → GrewByPrefix (text_of_all (shown_rows p a values)) was is → RestCut r (to_dump a count r) p old new was is f
rows_cut r a count values true p old new was is f sink ready l front =
    lines_short r (to_dump a count r) p (shown_rows p a values) (λ next t. lower next t) old new was is f sink (λ next t q. lower_quiet next t q)
    (λ next t holds. bytes_led r a count values p old new ready l next t holds) front
rows_cut r a count values false p old new was is f sink ready l front =
    lines_short r (to_dump a count r) p (shown_rows p a values) (λ next t. say (Line.MemoryFault (a + length values)) (lower next t)) old new was is f sink
    (λ next t q. lower_quiet next t q) (λ next t holds. refused_led r a count _ values p old new ready refl l next t holds) front

pub rows_refusal_cut : (r : Reach) (a count at : ℕ) (values : List ℕ) (p : Patches) (old new : Tells) (was mid is : Option (List ℕ)) (f : Failure)
    → f ≡ failure.Sink → IsReady old.far → at ≡ a + length values → BlockLoadedAs (path_by r) (way_by r) (hart_by r) B1 a count values old new false
    → mid ≡ grown (text_of_all (shown_rows p a values)) was → GrewByPrefix (text_of (Line.MemoryFault at)) mid is
    → RestCut r (to_dump a count r) p old new was is f
rows_refusal_cut r a count at values p old new was mid is f sink ready at_is l put front =
    line_short r (to_dump a count r) p (shown_rows p a values) (Line.MemoryFault at) old new was is f sink
    (λ next t holds. refused_led r a count at values p old new ready at_is l next t holds)
    (subst (λ x. GrewByPrefix (text_of (Line.MemoryFault at)) x is) put front)

-- ---- what was shown of what was loaded

pub rows_put : (p : Patches) (a : ℕ) (slice items held : List ℕ) (c d : Option (List ℕ)) → slice ≡ items
    → map (cut_to B1) items ≡ shown_values (table_of p) B1 a (map (cut_to B1) held)
    → d ≡ grown (text_of_all (byte_rows a [] (map (cut_to B1) slice))) c → d ≡ grown (text_of_all (shown_rows p a (map (cut_to B1) held))) c
rows_put p a slice items held c d is hidden put =
    put ∙ ap (λ (xs : List ℕ). grown (text_of_all (byte_rows a [] (map (cut_to B1) xs))) c) is
    ∙ ap (λ (xs : List ℕ). grown (text_of_all (byte_rows a [] xs)) c) hidden

pub rows_front : (p : Patches) (a : ℕ) (slice items held : List ℕ) (c d : Option (List ℕ)) → slice ≡ items
    → map (cut_to B1) items ≡ shown_values (table_of p) B1 a (map (cut_to B1) held)
    → GrewByPrefix (text_of_all (byte_rows a [] (map (cut_to B1) slice))) c d
    → GrewByPrefix (text_of_all (shown_rows p a (map (cut_to B1) held))) c d
rows_front p a slice items held c d is hidden front =
    subst (λ (xs : List ℕ). GrewByPrefix (text_of_all (byte_rows a [] xs)) c d) hidden
    (subst (λ (xs : List ℕ). GrewByPrefix (text_of_all (byte_rows a [] (map (cut_to B1) xs))) c d) is front)
