-- The courses of whole paths: which of them only let rounds pass, what each says, and where a reset and clocks in Run-Test/Idle lead.
use Rattle.std.proofs.Common.{◌≡◌, ◌≢◌, ◌∙◌, ◌<◌, ◌≤◌, ◌+◌, ◌&&◌, ◌⊎◌, ℕ, zero, suc, List, [], ◌∷◌, ◌++◌, map, length, replicate, sum, Bool, true, false}
use Rattle.std.proofs.Common.{refl, sym, ap, subst, arith, inl, inr, length-append}
use Rattle.std.proofs.lemmas.List.{length-map, length-replicate}
use Rattle.bitbang_stream.specs.Clock.{pulsed}
use Rattle.jt_base.specs.BitList.{bits_of}
use Rattle.debug_model.specs.Chip.{Inside, tick}
use Rattle.debug_model.specs.Port.{Port}
use Rattle.debug_model.specs.Scan.{idle_bytes, path, reset_bytes, ticks, to_idle, to_shift_ir}
use Rattle.debug_model.specs.Tap.{next_state}
use Rattle.debug_model.specs.declared.data_register.DataRegister.{DataRegister}
use Rattle.debug_model.specs.declared.tap_state.TapState.{TapState}
use Rattle.debug_model.specs.declared.tap_state.TapState.TheVariants.{Exit1Ir, RunTestIdle, ShiftIr, TestLogicReset}
use Rattle.probe_scan.specs.Padded.{Shifted, as_asked, is_end, padded, pads, scan_bytes, shifted_bytes}
use Rattle.chain_scan.specs.Chain.{Chain, run_chain, told_by_chain}
use Rattle.chain_scan.specs.ChainPlan.{Plan}
use Rattle.chain_scan.specs.SideTap.{SideTap}
use Rattle.chain_scan.proofs.Clocks.{
  AlongChain,
  Clock,
  bytes_append,
  bytes_of,
  chain_at,
  chain_with,
  clock_silent,
  level_clocks,
  path_clocks,
  run_append,
  shift_clocks,
  shifted_clocks,
  told_append,
}
use Rattle.chain_scan.proofs.DataDone.{path_silent}
use Rattle.chain_scan.proofs.Instruction.{around_code}
use Rattle.chain_scan.proofs.Pads.{SomeShifted, some_padded}
use Rattle.chain_scan.proofs.Quiet.{Quiet, Rounds, first_along, first_run, is_quiet, state_behind}

-- ---- two courses, one behind the other

quiet_append : (xs ys : List Clock) (s : TapState) → Quiet s xs → Quiet (state_behind s xs) ys → Quiet s (xs ++ ys)
quiet_append [] ys s q more = more
quiet_append (x ∷ xs) ys s q more = (q.0, quiet_append xs ys (next_state s x.tms) q.1 more)

-- ---- a scan of the instruction registers

unfoldable pub code_clocks : Plan → ℕ → List Clock
code_clocks plan code = level_clocks (true ∷ true ∷ false ∷ false ∷ []) ++ (shift_clocks (around_code plan code) ++ level_clocks (true ∷ false ∷ []))

pub code_bytes : (plan : Plan) (code : ℕ) → scan_bytes true (sum plan.near) (bits_of 5 code) (sum plan.far) false ≡ bytes_of (code_clocks plan code)
unfolding code_clocks
code_bytes plan code = sym (bytes_append (level_clocks (true ∷ true ∷ false ∷ false ∷ [])) (shift_clocks (around_code plan code)
    ++ level_clocks (true ∷ false ∷ []))
    ∙ ap (λ r. to_shift_ir ++ r) (bytes_append (shift_clocks (around_code plan code)) (level_clocks (true ∷ false ∷ []))
    ∙ ap (λ r. r ++ to_idle) (sym (shifted_clocks (around_code plan code)))))

record ShiftsOut (ss : List Shifted) : Type 0 where
  pub quiet : Quiet ShiftIr (shift_clocks ss)
  pub behind : state_behind ShiftIr (shift_clocks ss) ≡ Exit1Ir

shifts_out : (s : Shifted) (ss : List Shifted) → ShiftsOut (s ∷ ss)
unfolding is_quiet
shifts_out s [] = record { quiet = (refl, tt); behind = refl }
shifts_out s (z ∷ zs) = let more : ShiftsOut (z ∷ zs) = shifts_out z zs in record { quiet = (refl, more.quiet); behind = more.behind }

some_around : (plan : Plan) (code : ℕ) → SomeShifted (around_code plan code)
unfolding bits_of
some_around plan code = some_padded true (sum plan.near) (bits_of 5 code) (sum plan.far) false (omega arith)

code_shifts_out : (plan : Plan) (code : ℕ) → ShiftsOut (around_code plan code)
code_shifts_out plan code =
    let ss : SomeShifted (around_code plan code) = some_around plan code in
    subst ShiftsOut (sym ss.is) (shifts_out ss.first ss.others)

code_tail : (ss : List Shifted) → ShiftsOut ss → Quiet ShiftIr (shift_clocks ss ++ level_clocks (true ∷ false ∷ []))
unfolding is_quiet
code_tail ss out = quiet_append (shift_clocks ss) (level_clocks (true ∷ false ∷ [])) ShiftIr out.quiet
    (subst (λ s. Quiet s (level_clocks (true ∷ false ∷ []))) (sym out.behind) (refl, (refl, tt)))

pub code_quiet : (plan : Plan) (code : ℕ) → Quiet RunTestIdle (code_clocks plan code)
unfolding is_quiet code_clocks
code_quiet plan code = (refl, (refl, (refl, (refl, code_tail (around_code plan code) (code_shifts_out plan code)))))

pub shift_count : (ss : List Shifted) → length (shift_clocks ss) ≡ length ss
shift_count [] = refl
shift_count (s ∷ ss) = ap suc (shift_count ss)

pub padded_count : (level : Bool) (before : ℕ) (bits : List Bool) (after : ℕ) (ask : Bool)
    → length (padded level before bits after ask) ≡ before + (length bits + after)
padded_count level before bits after ask =
    length-append (pads before level) (map (as_asked ask) bits ++ pads after level)
    ∙ ap (λ n. n + length (map (as_asked ask) bits ++ pads after level)) (length-replicate before (record { bit = level; asked = false }))
    ∙ ap (λ n. before + n) (length-append (map (as_asked ask) bits) (pads after level)
    ∙ ap (λ n. n + length (pads after level)) (length-map bits (as_asked ask))
    ∙ ap (λ n. length bits + n) (length-replicate after (record { bit = level; asked = false })))

pub code_count : (plan : Plan) (code : ℕ) → length (code_clocks plan code) ≡ suc (suc (suc (suc (suc (suc (length (around_code plan code)))))))
unfolding code_clocks
code_count plan code =
    let ends : length (shift_clocks (around_code plan code) ++ level_clocks (true ∷ false ∷ [])) ≡ length (shift_clocks (around_code plan code)) + 2 =
    length-append (shift_clocks (around_code plan code)) (level_clocks (true ∷ false ∷ [])) in
    let count : length (shift_clocks (around_code plan code)) ≡ length (around_code plan code) = shift_count (around_code plan code) in
    ap (λ n. suc (suc (suc (suc n)))) (ends ∙ ap (λ n. n + 2) count ∙ (let e : length (around_code plan code) + 2
    ≡ suc (suc (length (around_code plan code))) = omega arith in e))

-- ---- nothing is asked

NoneAsked : List Shifted → Type 0
NoneAsked [] = Unit {0}
NoneAsked (s ∷ ss) = (s.asked ≡ false) × NoneAsked ss

pads_unasked : (count : ℕ) (level : Bool) → NoneAsked (pads count level)
unfolding NoneAsked
pads_unasked zero level = tt
pads_unasked (suc n) level = (refl, pads_unasked n level)

own_unasked : (bits : List Bool) → NoneAsked (map (as_asked false) bits)
unfolding NoneAsked
own_unasked [] = tt
own_unasked (b ∷ bs) = (refl, own_unasked bs)

both_unasked : (xs ys : List Shifted) → NoneAsked xs → NoneAsked ys → NoneAsked (xs ++ ys)
unfolding NoneAsked
both_unasked [] ys a b = b
both_unasked (x ∷ xs) ys a b = (a.0, both_unasked xs ys a.1 b)

shift_silent : (ss : List Shifted) (tck : Bool) (p : Port) (i : Inside) (near far : List SideTap) → NoneAsked ss
    → told_by_chain (chain_with tck p i near far) (shifted_bytes true ss) ≡ []
unfolding told_by_chain NoneAsked
shift_silent [] tck p i near far none = refl
shift_silent (s ∷ ss) true p i near far none =
    ap (λ a. told_by_chain (chain_with true p i near far) (pulsed a (is_end ss && true) s.bit ++ shifted_bytes true ss)) none.0
    ∙ clock_silent (is_end ss && true) s.bit true p i near far (shifted_bytes true ss) ∙ shift_silent ss true _ _ _ _ none.1
shift_silent (s ∷ ss) false p i near far none =
    ap (λ a. told_by_chain (chain_with false p i near far) (pulsed a (is_end ss && true) s.bit ++ shifted_bytes true ss)) none.0
    ∙ clock_silent (is_end ss && true) s.bit false p i near far (shifted_bytes true ss) ∙ shift_silent ss true _ _ _ _ none.1

-- whatever chain it is
any_silent : (bytes : List ℕ) → ((tck : Bool) (p : Port) (i : Inside) (near far : List SideTap) → told_by_chain (chain_with tck p i near far) bytes ≡ [])
    → (c : Chain) → told_by_chain c bytes ≡ []
any_silent bytes each c = each c.chip.tck c.chip.port c.chip.inside c.near c.far

pub path_says_nothing : (levels : List Bool) (c : Chain) → told_by_chain c (path levels) ≡ []
path_says_nothing levels = any_silent (path levels) (path_silent levels)

pub code_says_nothing : (plan : Plan) (code : ℕ) (c : Chain)
    → told_by_chain c (scan_bytes true (sum plan.near) (bits_of 5 code) (sum plan.far) false) ≡ []
code_says_nothing plan code c =
    let ss : List Shifted = around_code plan code in
    let none : NoneAsked ss = both_unasked (pads (sum plan.near) true) (map (as_asked false) (bits_of 5 code) ++ pads (sum plan.far) true)
    (pads_unasked (sum plan.near) true)
    (both_unasked (map (as_asked false) (bits_of 5 code)) (pads (sum plan.far) true) (own_unasked (bits_of 5 code)) (pads_unasked (sum plan.far) true)) in
    told_append to_shift_ir (shifted_bytes true ss ++ to_idle) c
    ∙ ap (λ xs. xs ++ told_by_chain (run_chain c to_shift_ir) (shifted_bytes true ss ++ to_idle))
    (path_says_nothing (true ∷ true ∷ false ∷ false ∷ []) c)
    ∙ told_append (shifted_bytes true ss) to_idle (run_chain c to_shift_ir)
    ∙ ap (λ xs. xs ++ told_by_chain (run_chain (run_chain c to_shift_ir) (shifted_bytes true ss)) to_idle)
    (any_silent (shifted_bytes true ss) (λ tck p i near far. shift_silent ss tck p i near far none) (run_chain c to_shift_ir))
    ∙ path_says_nothing (true ∷ false ∷ []) (run_chain (run_chain c to_shift_ir) (shifted_bytes true ss))
