use Rattle.debug_model.proofs.RiseLemmas.{within_more as rises_more, within_then as rises_then}
use Rattle.std.proofs.Common.{◌≡◌, ◌≢◌, ◌⊎◌, ◌∙◌, ◌≤◌, ◌+◌, ◌-◌, ◌*◌, ◌++◌, ℕ, List, length, sym, ap, subst, inl, inr, length-append, arith}
use Rattle.rv_model.specs.declared.size.Size.{Size}
use Rattle.probe_run.specs.Told.{told}
use Rattle.probe_access.specs.BusBlockRuns.{BusLoads}
use Rattle.probe_access.specs.Blocks.{element_at}
use Rattle.probe_access.specs.BusStreams.{element_words}
use Rattle.probe_access.proofs.BusBlockCauses.{bus_causes_behind, bus_loads_calls}
use Rattle.probe_access.proofs.BusLoadBehind.{cut_behind, cut_of_more, left_behind, loaded_behind, loads_behind, refused_behind}
use Rattle.probe_access.proofs.BusSpent.{unbroken_behind, unbroken_more, within_more, within_then, words_most}
use Rattle.probe_access.proofs.RegisterCalls.{err_failed}
use Rattle.probe_access.proofs.NeverLemmas.{lost_then}
use Rattle.probe_access.proofs.bus_blocks.load_runs.Goals as goal

pub returns-in_err-load_run-clause-cut : goal.returns-in_err-load_run-clause-cut
returns-in_err-load_run-clause-cut g c =
    err_failed c.from_residual.result c.in_err-load_run.field-0.0 _ c.from_residual.ensures.1
    (cut_of_more c.args.size c.args.address c.first_run-first.result c.args.count c.load_run.new.into.items _ _ c.in_err-load_run.field-0.0
    c.first_run-first.ensures.within c.in_err-load_run.ensures.cut)

pub returns-then-done-first-clause-loads : goal.returns-then-done-first-clause-loads
returns-then-done-first-clause-loads g c =
    BusLoads.ran c.first_run-first.result c.load_run.new.into.items (told (g.D.Dmi.seen c.load_run.new.link)) c.in_ok-load_run.ensures.loads

place : (size : Size) (address done at : ℕ) (values : List ℕ) → at ≡ element_at size address done → done ≡ length values
    → at ≡ element_at size address (length values)
place size address done at values is all = is ∙ ap (element_at size address) all

-- what was appended, in the words of the lists
joined : (xs ys zs ws : List ℕ) → ws ≡ ys → (length xs + length ws ≤ 512 → zs ≡ xs ++ ws) → length xs + length ys ≤ 512 → zs ≡ xs ++ ys
joined xs ys zs ws is f fits =
    f (subst (λ vs. length xs + length vs ≤ 512) (sym is) fits) ∙ ap (λ vs. xs ++ vs) is

pub returns-in-Ok-clause-loaded : goal.returns-in-Ok-clause-loaded
returns-in-Ok-clause-loaded g c =
    let d : c.len-done.result ≡ length c.load_run.new.into.items = c.len-done.ensures.value in
    let m : length c.load_run-2.new.into.items ≤ c.args.count - c.len-done.result = c.in-Ok.ensures.most in
    let k : length c.load_run.new.into.items ≤ c.first_run-first.result = c.in_ok-load_run.ensures.most in
    loaded_behind c.args.size c.args.address c.element-at.result c.load_run.new.into.items c.load_run-2.new.into.items c.append.new.into.items _ _ _
    (place c.args.size c.args.address c.len-done.result c.element-at.result c.load_run.new.into.items c.element-at.ensures c.len-done.ensures.value)
    (joined c.load_run.new.into.items c.load_run-2.new.into.items c.append.new.into.items c.deref.result.now c.deref.ensures.0 c.append.ensures
    (omega (arith, d, m, k, c.first_run-first.ensures.within, c.requires.room)))
    c.in_ok-load_run.ensures.loaded c.in-Ok.ensures.loaded

pub returns-in-Ok-clause-loads : goal.returns-in-Ok-clause-loads
returns-in-Ok-clause-loads g c =
    let d : c.len-done.result ≡ length c.load_run.new.into.items = c.len-done.ensures.value in
    let m : length c.load_run-2.new.into.items ≤ c.args.count - c.len-done.result = c.in-Ok.ensures.most in
    let k : length c.load_run.new.into.items ≤ c.first_run-first.result = c.in_ok-load_run.ensures.most in
    loads_behind c.args.size c.args.address c.element-at.result c.first_run-first.result (c.args.count - c.len-done.result) c.load_run.new.into.items
    c.load_run-2.new.into.items c.append.new.into.items _ (told (g.D.Dmi.seen c.load_run.new.link)) _
    (place c.args.size c.args.address c.len-done.result c.element-at.result c.load_run.new.into.items c.element-at.ensures c.len-done.ensures.value)
    (joined c.load_run.new.into.items c.load_run-2.new.into.items c.append.new.into.items c.deref.result.now c.deref.ensures.0 c.append.ensures
    (omega (arith, d, m, k, c.first_run-first.ensures.within, c.requires.room)))
    c.in_ok-load_run.ensures.loads c.in-Ok.ensures.loads

pub returns-in-Err-clause-refused : goal.returns-in-Err-clause-refused
returns-in-Err-clause-refused g c =
    let k : length c.load_run.new.into.items ≤ c.first_run-first.result = c.in_ok-load_run.ensures.most in
    refused_behind c.args.size c.args.address c.element-at.result c.first_run-first.result c.args.count (c.args.count - c.len-done.result)
    c.load_run.new.into.items c.load_run-2.new.into.items c.append-in-Err.new.into.items _ (told (g.D.Dmi.seen c.load_run.new.link)) _ _ _ c.in-Err.fault
    (place c.args.size c.args.address c.len-done.result c.element-at.result c.load_run.new.into.items c.element-at.ensures c.len-done.ensures.value)
    (ap (λ n. c.args.count - n) c.len-done.ensures.value) (omega (arith, k, c.first_run-first.ensures.within)) c.requires.room
    (joined c.load_run.new.into.items c.load_run-2.new.into.items c.append-in-Err.new.into.items c.deref-in-Err.result.now c.deref-in-Err.ensures.0
    c.append-in-Err.ensures) c.in_ok-load_run.ensures.loads c.in-Err.ensures.left c.in-Err.ensures.refused

pub returns-in-Err-clause-left : goal.returns-in-Err-clause-left
returns-in-Err-clause-left g c =
    let k : length c.load_run.new.into.items ≤ c.first_run-first.result = c.in_ok-load_run.ensures.most in
    left_behind c.args.size c.args.address c.element-at.result c.args.count (c.args.count - c.len-done.result) c.load_run.new.into.items
    c.load_run-2.new.into.items c.append-in-Err.new.into.items _ _ _ c.in-Err.fault
    (place c.args.size c.args.address c.len-done.result c.element-at.result c.load_run.new.into.items c.element-at.ensures c.len-done.ensures.value)
    (ap (λ n. c.args.count - n) c.len-done.ensures.value) (omega (arith, k, c.first_run-first.ensures.within)) c.requires.room
    (joined c.load_run.new.into.items c.load_run-2.new.into.items c.append-in-Err.new.into.items c.deref-in-Err.result.now c.deref-in-Err.ensures.0
    c.append-in-Err.ensures) c.in_ok-load_run.ensures.loaded c.in-Err.ensures.left

pub returns-in-Err-clause-cut : goal.returns-in-Err-clause-cut
returns-in-Err-clause-cut g c =
    let k : length c.load_run.new.into.items ≤ c.first_run-first.result = c.in_ok-load_run.ensures.most in
    cut_behind c.args.size c.args.address c.element-at.result c.args.count (c.args.count - c.len-done.result) c.load_run.new.into.items
    c.load_run-2.new.into.items c.append-in-Err.new.into.items _ _ _ c.in-Err.fault
    (place c.args.size c.args.address c.len-done.result c.element-at.result c.load_run.new.into.items c.element-at.ensures c.len-done.ensures.value)
    (ap (λ n. c.args.count - n) c.len-done.ensures.value) (omega (arith, k, c.first_run-first.ensures.within)) c.requires.room
    (joined c.load_run.new.into.items c.load_run-2.new.into.items c.append-in-Err.new.into.items c.deref-in-Err.result.now c.deref-in-Err.ensures.0
    c.append-in-Err.ensures) c.in_ok-load_run.ensures.loaded c.in-Err.ensures.cut

pub returns-in-Err-clause-causes : goal.returns-in-Err-clause-causes
returns-in-Err-clause-causes g c =
    bus_causes_behind _ _ _
    (bus_loads_calls c.args.size c.args.address (told (g.D.Dmi.seen c.args.link.now)) c.load_run.new.into.items (told (g.D.Dmi.seen c.load_run.new.link))
    (BusLoads.ran c.first_run-first.result c.load_run.new.into.items (told (g.D.Dmi.seen c.load_run.new.link)) c.in_ok-load_run.ensures.loads)) _ _ _
    c.in-Err.fault c.load_run.ensures.keeps.later c.load_run-2.ensures.keeps.later c.in-Err.ensures.causes

pub returns-in_err-load_run-clause-few_failed : goal.returns-in_err-load_run-clause-few_failed
returns-in_err-load_run-clause-few_failed g c =
    err_failed c.from_residual.result c.in_err-load_run.field-0.0 _ c.from_residual.ensures.1
    (unbroken_more (element_words c.args.size * c.first_run-first.result + 9) (3 * c.args.count + 24) (told (g.D.Dmi.seen c.args.link.now))
    (told (g.D.Dmi.seen c.load_run.new.link)) c.in_err-load_run.field-0.0 (omega (arith, c.first_run-first.ensures.few))
    c.in_err-load_run.ensures.few_failed)

pub returns-then-done-first-clause-few : goal.returns-then-done-first-clause-few
returns-then-done-first-clause-few g c =
    within_more (element_words c.args.size * c.first_run-first.result + 9) ((c.args.count + 19) + 2 * length c.load_run.new.into.items) (told (g.D.Dmi.seen
    c.args.link.now))
    (told (g.D.Dmi.seen c.load_run.new.link)) (omega (arith, c.first_run-first.ensures.few)) c.in_ok-load_run.ensures.few

-- the first run was as long as it was to be
both : (size : Size) (count first done kept : ℕ) → ((first ≡ count) ⊎ (count ≤ 2 * first)) → first ≢ count → first ≤ done → done ≤ count → done ≤ kept
    → (element_words size * first + 9) + (element_words size * (count - done) + 9) ≤ (count + 19) + 2 * kept
both size count first done kept (inl is) other least within more = absurd (other is)
both size count first done kept (inr half) other least within more =
    let f : element_words size * first ≤ 2 * first = words_most size first in
    let r : element_words size * (count - done) ≤ 2 * (count - done) = words_most size (count - done) in omega (arith, half, least, within, more, f, r)

both_failed : (size : Size) (count first done : ℕ) → first ≤ done → done ≤ count
    → (element_words size * first + 9) + (element_words size * (count - done) + 9) ≤ 3 * count + 24
both_failed size count first done least within =
    let f : element_words size * first ≤ 2 * first = words_most size first in
    let r : element_words size * (count - done) ≤ 2 * (count - done) = words_most size (count - done) in omega (arith, least, within, f, r)

longer : (xs ys zs : List ℕ) → zs ≡ xs ++ ys → length xs ≤ length zs
longer xs ys zs is =
    let e : length zs ≡ length (xs ++ ys) = ap length is in let k : length (xs ++ ys) ≡ length xs + length ys = length-append xs ys in omega (arith, e, k)

pub returns-in-Ok-clause-few : goal.returns-in-Ok-clause-few
returns-in-Ok-clause-few g c =
    let d : c.len-done.result ≡ length c.load_run.new.into.items = c.len-done.ensures.value in
    let m : length c.load_run-2.new.into.items ≤ c.args.count - c.len-done.result = c.in-Ok.ensures.most in
    let k : length c.load_run.new.into.items ≤ c.first_run-first.result = c.in_ok-load_run.ensures.most in
    let more : length c.load_run.new.into.items ≤ length c.append.new.into.items =
    longer c.load_run.new.into.items c.load_run-2.new.into.items c.append.new.into.items
    (joined c.load_run.new.into.items c.load_run-2.new.into.items c.append.new.into.items c.deref.result.now c.deref.ensures.0 c.append.ensures
    (omega (arith, d, m, k, c.first_run-first.ensures.within, c.requires.room))) in
    within_then (element_words c.args.size * c.first_run-first.result + 9) (element_words c.args.size * (c.args.count - c.len-done.result) + 9)
    ((c.args.count + 19) + 2 * length c.append.new.into.items) (told (g.D.Dmi.seen c.args.link.now)) (told (g.D.Dmi.seen c.load_run.new.link))
    (told (g.D.Dmi.seen c.load_run-2.new.link))
    (both c.args.size c.args.count c.first_run-first.result c.len-done.result (length c.append.new.into.items) c.first_run-first.ensures.half
    c.if-first-count.false
    (omega (arith, c.if-done-first.false)) (omega (arith, d, k, c.first_run-first.ensures.within)) (omega (arith, d, more))) c.in_ok-load_run.ensures.few
    c.in-Ok.ensures.few

pub returns-in-Err-clause-few_failed : goal.returns-in-Err-clause-few_failed
returns-in-Err-clause-few_failed g c =
    let d : c.len-done.result ≡ length c.load_run.new.into.items = c.len-done.ensures.value in
    let k : length c.load_run.new.into.items ≤ c.first_run-first.result = c.in_ok-load_run.ensures.most in
    unbroken_behind (element_words c.args.size * c.first_run-first.result + 9) (element_words c.args.size * (c.args.count - c.len-done.result) + 9)
    (3 * c.args.count + 24)
    (told (g.D.Dmi.seen c.args.link.now)) (told (g.D.Dmi.seen c.load_run.new.link)) (told (g.D.Dmi.seen c.load_run-2.new.link)) c.in-Err.fault
    (both_failed c.args.size c.args.count c.first_run-first.result c.len-done.result (omega (arith, c.if-done-first.false))
    (omega (arith, d, k, c.first_run-first.ensures.within))) c.in_ok-load_run.ensures.few
    c.in-Err.ensures.few_failed

pub returns-in_err-load_run-clause-rises : goal.returns-in_err-load_run-clause-rises
returns-in_err-load_run-clause-rises g c =
    rises_more (2 * c.first_run-first.result + 11) (2 * c.args.count + 22) _ _ c.load_run.ensures.rises (omega (arith, c.first_run-first.ensures.within))

pub returns-then-done-first-clause-rises : goal.returns-then-done-first-clause-rises
returns-then-done-first-clause-rises g c =
    rises_more (2 * c.first_run-first.result + 11) (2 * c.args.count + 22) _ _ c.load_run.ensures.rises (omega (arith, c.first_run-first.ensures.within))

pub returns-in-Ok-clause-rises : goal.returns-in-Ok-clause-rises
returns-in-Ok-clause-rises g c =
    rises_then (2 * c.first_run-first.result + 11) (2 * (c.args.count - c.len-done.result) + 11) (2 * c.args.count + 22) _ (g.D.Dmi.seen c.load_run.new.link)
    _ c.load_run.ensures.rises c.load_run-2.ensures.rises
    c.load_run.ensures.keeps.fixed (omega (arith, c.if-done-first.false, c.first_run-first.ensures.within))

pub returns-in-Err-clause-rises : goal.returns-in-Err-clause-rises
returns-in-Err-clause-rises g c =
    rises_then (2 * c.first_run-first.result + 11) (2 * (c.args.count - c.len-done.result) + 11) (2 * c.args.count + 22) _ (g.D.Dmi.seen c.load_run.new.link)
    _ c.load_run.ensures.rises c.load_run-2.ensures.rises
    c.load_run.ensures.keeps.fixed (omega (arith, c.if-done-first.false, c.first_run-first.ensures.within))

pub returns-in-Err-clause-never : goal.returns-in-Err-clause-never
returns-in-Err-clause-never g c =
    lost_then _ (g.D.Dmi.seen c.args.link.now) (g.D.Dmi.seen c.load_run.new.link) c.in-Err.fault c.load_run.ensures.rises c.in-Err.ensures.never
