-- `read`: a block of loads, and the lines of its elements behind it.
use Rattle.std.proofs.Common.{◌≡◌, ◌+◌, ◌-◌, ℕ, zero, suc, Bool, true, false, List, [], ◌∷◌, length, Option, refl, sym, subst, arith}
use Rattle.jt_base.specs.Faults.{Rises}
use Rattle.jt_base.specs.Sink.{GrewByPrefix, grown}
use Rattle.rv_model.specs.declared.size.Size.{Size}
use Rattle.rv_model.specs.Memory.{is_aligned}
use Rattle.rv_model.specs.Size.{count_of}
use Rattle.debug_model.specs.declared.command.Path.{Path}
use Rattle.abstract_debugger.specs.Debugger.{reading}
use Rattle.abstract_debugger.specs.Laws.{Quiet}
use Rattle.abstract_debugger.specs.Lines.{Line, any_error, text_of, text_of_all}
use Rattle.abstract_debugger.specs.Plan.{Plan}
use Rattle.abstract_debugger.specs.Plan.Plan.{say}
use Rattle.probe_access.specs.Blocks.{element_at}
use Rattle.probe_run.specs.Acts.{Tells}
use Rattle.probe_session.specs.declared.fault.Failure.{Failure}
use Rattle.probe_session.specs.declared.fault.Failure.TheVariants as failure
use Rattle.probe_session.specs.declared.reach.Reach.{Reach}
use Rattle.probe_session.specs.Answers.{BlockLoadedAs}
use Rattle.probe_session.specs.BlockCalls.{BlockLoadFell}
use Rattle.probe_session.specs.Blocks.{Loads, MayLoad, Says, loading}
use Rattle.probe_session.specs.Goes.{Fault, Fell, Spoke, Went}
use Rattle.probe_session.specs.Places.{idle}
use Rattle.probe_session.specs.Reach.{hart_by, path_by, place_by, way_by}
use Rattle.probe_session.specs.Showing.{at_read, element_lines}
use Rattle.probe_session.specs.Steps.Step.{loads_block, loads_block_none, same}
use Rattle.probe_session.proofs.BlockDeals.{later_is}
use Rattle.probe_session.proofs.MemoryLines.{aligned_body, first_address, misaligned_body, reach_rests}
use Rattle.probe_session.proofs.Spoken.{fell_among, fell_first, fell_line, spoke_first, spoke_lines, spoke_says, spoke_went}
use Rattle.probe_session.proofs.WentLemmas.{falls_at, falls_then, went_one, went_then}

-- ---- a misaligned address

misaligned_at : (r : Reach) (size : Size) (a count : ℕ) {t : Tells} → is_aligned a size ≡ false
    → Went (at_read r size a count) (λ next. place_by r (say (Line.MemoryFault a) next)) [] t t
misaligned_at r size a count is = went_one (λ next. same (misaligned_body size a next (reading (path_by r) count size a next) is))

pub read_misaligned : (r : Reach) (size : Size) (a count : ℕ) {t : Tells} {c d : Option (List ℕ)} → is_aligned a size ≡ false
    → d ≡ grown (text_of (Line.MemoryFault a)) c → Spoke (at_read r size a count) idle true t t c d
read_misaligned r size a count {c = c} is put = spoke_went (spoke_says (way_by r) (hart_by r) (Line.MemoryFault a) (λ next. next) refl
    (spoke_first c (misaligned_at r size a count is)) put) (reach_rests r (λ next. next))

pub misaligned_cut : (r : Reach) (size : Size) (a count old_count new_count : ℕ) {t : Tells} {sink_old sink_new : ℕ} {c d : Option (List ℕ)} {f : Failure}
    → is_aligned a size ≡ false → f ≡ failure.Sink
    → GrewByPrefix (text_of (Line.MemoryFault a)) c d → Rises sink_old sink_new
    → Fell Quiet (at_read r size a count) old_count new_count t t sink_old sink_new c d f
misaligned_cut r size a count old_count new_count {c = c} is sink front rises =
    fell_line (way_by r) (hart_by r) (Line.MemoryFault a) (λ next. next) refl (λ next calm. calm) old_count new_count sink
    (spoke_first c (misaligned_at r size a count is)) front rises

-- ---- the elements lead along the plan

reading_loads : (path : Path) (n : ℕ) (size : Size) (a : ℕ) (next : Plan) (values : List ℕ) (left : ℕ) → n ≡ length values + left
    → Loads path size a (reading path n size a next) values (element_lines size a values) (reading path left size (element_at size a (length values)) next)
unfolding reading
reading_loads path n size a next [] left is =
    let e : n ≡ left = omega (arith, is) in
    subst (λ m. Loads path size a (reading path m size a next) [] [] (reading path left size (element_at size a 0) next)) (sym e)
    (subst (λ b. Loads path size a (reading path left size a next) [] [] (reading path left size b next)) (first_address size a) Loads.nothing)
reading_loads path zero size a next (v ∷ values) left is = absurd (omega arith)
reading_loads path (suc n) size a next (v ∷ values) left is =
    subst (λ b. Loads path size a (reading path (suc n) size a next) (v ∷ values) (element_lines size a (v ∷ values)) (reading path left size b next))
    (sym (later_is size a (length values)))
    (Loads.further (say (Line.MemoryFault a) next) (λ x. say (Line.Element a size x) (reading path n size (a + count_of size) next))
    (Says.further refl Says.nothing) (reading_loads path n size (a + count_of size) next values left (omega arith)))

reading_may : (path : Path) (n : ℕ) (size : Size) (a : ℕ) (next : Plan) → MayLoad path size a n (reading path n size a next)
unfolding reading
reading_may path zero size a next = MayLoad.nothing
reading_may path (suc n) size a next = MayLoad.further (say (Line.MemoryFault a) next)
    (λ v. say (Line.Element a size v) (reading path n size (a + count_of size) next)) (λ v. Line.Element a size v ∷ []) (λ v. reading path n size
    (a + count_of size) next)
    (λ v. Says.further refl Says.nothing) (λ v. reading_may path n size (a + count_of size) next)

no_error : (size : Size) (a : ℕ) (values : List ℕ) → any_error (element_lines size a values) ≡ false
no_error size a [] = refl
no_error size a (v ∷ values) = no_error size (a + count_of size) values

at_elements : (r : Reach) (size : Size) (a count : ℕ) {t : Tells} → is_aligned a size ≡ true
    → Went (at_read r size a count) (λ next. place_by r (reading (path_by r) count size a next)) [] t t
at_elements r size a count is = went_one (λ next. same (aligned_body size a next (reading (path_by r) count size a next) is))

whole_block : (path : Path) (size : Size) (a count : ℕ) (values : List ℕ) (next : Plan) → length values ≡ count
    → Loads path size a (reading path count size a next) values (element_lines size a values) next
unfolding reading
whole_block path size a count values next all = reading_loads path count size a next values 0 (omega (arith, all))

refused_block : (path : Path) (size : Size) (a count : ℕ) (values : List ℕ) (left : ℕ) (next : Plan) → count ≡ length values + suc left
    → Loads path size a (reading path count size a next) values (element_lines size a values)
    (loading path size (element_at size a (length values)) (say (Line.MemoryFault (element_at size a (length values))) next)
    (λ v. say (Line.Element (element_at size a (length values)) size v) (reading path left size (element_at size a (length values) + count_of size) next)))
unfolding reading
refused_block path size a count values left next all = reading_loads path count size a next values (suc left) all

-- ---- the block

pub block_read : (r : Reach) (size : Size) (a count : ℕ) (values : List ℕ) {t u : Tells} → is_aligned a size ≡ true
    → BlockLoadedAs (path_by r) (way_by r) (hart_by r) size a count values t u true
    → Went (at_read r size a count) (λ next. place_by r next) (element_lines size a values) t u
block_read r size a count values is l = went_then (at_elements r size a count is)
    (went_one (λ next. loads_block (whole_block (path_by r) size a count values next l.0) l.1))

pub block_refused : (r : Reach) (size : Size) (a count at : ℕ) (values : List ℕ) {t u : Tells} → is_aligned a size ≡ true
    → at ≡ element_at size a (length values)
    → BlockLoadedAs (path_by r) (way_by r) (hart_by r) size a count values t u false
    → Went (at_read r size a count) (λ next. place_by r (say (Line.MemoryFault at) next)) (element_lines size a values) t u
block_refused r size a count at values {t} {u} is at_is l =
    let left : ℕ = count - (length values + 1) in
    let all : count ≡ length values + suc left = omega (arith, l.0) in
    subst (λ x. Went (at_read r size a count) (λ next. place_by r (say (Line.MemoryFault x) next)) (element_lines size a values) t u) (sym at_is)
    (went_then (at_elements r size a count is)
    (went_one (λ next. loads_block_none _ (refused_block (path_by r) size a count values left next all) l.1)))

pub block_fell : (r : Reach) (size : Size) (a count : ℕ) {old_count new_count : ℕ} {t u : Tells} (sink_old sink_new : ℕ) (c : Option (List ℕ)) {f : Failure}
    → is_aligned a size ≡ true → BlockLoadFell (path_by r) (way_by r) (hart_by r) size a count old_count new_count t u f
    → Fell Quiet (at_read r size a count) old_count new_count t u sink_old sink_new c c f
block_fell r size a count sink_old sink_new c is fell =
    fell_first sink_old sink_new c (falls_then (at_elements r size a count is) (omega arith)
    (falls_at (λ next. Fault.loading_block (reading_may (path_by r) count size a next) fell)))

-- ---- its lines

-- where one of them is cut, whether the block is whole or not
pub lines_cut : (r : Reach) (size : Size) (a count old_count new_count : ℕ) (values : List ℕ) (is_whole : Bool) {t u : Tells} {sink_old sink_new : ℕ}
    {c d : Option (List ℕ)} {f : Failure} → f ≡ failure.Sink → is_aligned a size ≡ true
    → BlockLoadedAs (path_by r) (way_by r) (hart_by r) size a count values t u is_whole
    → GrewByPrefix (text_of_all (element_lines size a values)) c d → Rises sink_old sink_new
    → Fell Quiet (at_read r size a count) old_count new_count t u sink_old sink_new c d f
lines_cut r size a count old_count new_count values true sink is l front rises =
    fell_among (element_lines size a values) (way_by r) (hart_by r) (λ next. next) (λ next calm. calm) old_count new_count sink
    (block_read r size a count values is l) front rises
lines_cut r size a count old_count new_count values false sink is l front rises =
    fell_among (element_lines size a values) (way_by r) (hart_by r) (λ next. say (Line.MemoryFault (element_at size a (length values))) next)
    (λ next calm. calm) old_count new_count sink (block_refused r size a count _ values is refl l) front rises

pub elements_shown : (r : Reach) (size : Size) (a count : ℕ) (values : List ℕ) {t u : Tells} {c d : Option (List ℕ)} → is_aligned a size ≡ true
    → BlockLoadedAs (path_by r) (way_by r) (hart_by r) size a count values t u true
    → d ≡ grown (text_of_all (element_lines size a values)) c → Spoke (at_read r size a count) idle false t u c d
elements_shown r size a count values is l put =
    spoke_went (spoke_lines (element_lines size a values) (no_error size a values) (block_read r size a count values is l) put)
    (reach_rests r (λ next. next))

shown_before : (r : Reach) (size : Size) (a count at : ℕ) (values : List ℕ) {t u : Tells} {c d : Option (List ℕ)} → is_aligned a size ≡ true
    → at ≡ element_at size a (length values) → BlockLoadedAs (path_by r) (way_by r) (hart_by r) size a count values t u false
    → d ≡ grown (text_of_all (element_lines size a values)) c
    → Spoke (at_read r size a count) (λ next. place_by r (say (Line.MemoryFault at) next)) false t u c d
shown_before r size a count at values is at_is l put =
    spoke_lines (element_lines size a values) (no_error size a values) (block_refused r size a count at values is at_is l) put

pub elements_refused : (r : Reach) (size : Size) (a count at : ℕ) (values : List ℕ) {t u : Tells} {c d e : Option (List ℕ)} → is_aligned a size ≡ true
    → at ≡ element_at size a (length values) → BlockLoadedAs (path_by r) (way_by r) (hart_by r) size a count values t u false
    → d ≡ grown (text_of_all (element_lines size a values)) c
    → e ≡ grown (text_of (Line.MemoryFault at)) d → Spoke (at_read r size a count) idle true t u c e
elements_refused r size a count at values is at_is l put more =
    spoke_went (spoke_says (way_by r) (hart_by r) (Line.MemoryFault at) (λ next. next) refl (shown_before r size a count at values is at_is l put) more)
    (reach_rests r (λ next. next))

pub refusal_cut : (r : Reach) (size : Size) (a count at old_count new_count : ℕ) (values : List ℕ) {t u : Tells} {sink_old sink_new : ℕ}
    {c d e : Option (List ℕ)} {f : Failure} → f ≡ failure.Sink → is_aligned a size ≡ true
    → at ≡ element_at size a (length values) → BlockLoadedAs (path_by r) (way_by r) (hart_by r) size a count values t u false
    → d ≡ grown (text_of_all (element_lines size a values)) c → GrewByPrefix (text_of (Line.MemoryFault at)) d e → Rises sink_old sink_new
    → Fell Quiet (at_read r size a count) old_count new_count t u sink_old sink_new c e f
refusal_cut r size a count at old_count new_count values sink is at_is l put front rises =
    fell_line (way_by r) (hart_by r) (Line.MemoryFault at) (λ next. next) refl (λ next calm. calm) old_count new_count sink
    (shown_before r size a count at values is at_is l put) front rises
