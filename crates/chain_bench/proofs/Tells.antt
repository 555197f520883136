-- What a wire to a chain on a bench tells: what was sent, that nothing has ended the chain, its limit, and what it keeps of the schedule.
use Rattle.std.proofs.Common.{◌≡◌, ◌∙◌, inr, ℕ, List, [], ◌∷◌, ◌++◌, map, replicate, Bool, true, false, ◌&&◌, cond, IsTrue, Option, Some, None}
use Rattle.std.proofs.Common.{IfSome, option_map, refl, sym, ap, ap₂, subst}
use Rattle.std.proofs.lemmas.List.{append-nil}
use Rattle.debug_model.specs.declared.chip_end.ChipEnd.{ChipEnd}
use Rattle.debug_model.specs.declared.chip_end.ChipEnd.TheVariants.{Quitted, BadByte, AtLimit}
use Rattle.debug_model.specs.declared.sign.Sign.{Sign}
use Rattle.debug_model.specs.declared.sign.Sign.TheVariants.{Pins, Ask, Light, Reset, Quit}
use Rattle.debug_model.specs.declared.tap_state.TapState.TheVariants.{TestLogicReset}
use Rattle.debug_model.specs.Chip.{Chip, Live, Works, at_limit, end_of, rise_end, unless_ended}
use Rattle.debug_model.specs.Loaded.{AsLoaded}
use Rattle.debug_model.specs.Offered.{Timing}
use Rattle.debug_model.specs.Port.{Port}
use Rattle.debug_model.specs.Signs.{sign_of, stays_open}
use Rattle.debug_model.specs.Ties.{no_net, ties_told, timing_told}
use Rattle.debug_model.specs.Told.{IsLive, IsOpen, StaysOpen}
use Rattle.debug_model.specs.Wire.{EndCause, are_open, no_answer}
use Rattle.chain_scan.specs.Bypassed.{IsPlanned, IsPlannedTold, width_of}
use Rattle.chain_scan.specs.Chain.{Chain, chain_signed}
use Rattle.chain_scan.specs.ChainLaws.{Each, StandsAs}
use Rattle.chain_scan.specs.ChainPlan.{Plan}
use Rattle.chain_scan.specs.SideTap.{reset_side}
use Rattle.chain_scan.specs.Told.{ChainFar, ChainLive, ChainReadsFront, ChainReadsSome, ChainSentFront, chain_after, chain_sent, chain_taken_by}
use Rattle.chain_scan.specs.Told.{chip_told, feed_chain}
use Rattle.chip_core.specs.Feeds.{far_of, is_limit, limit_met}
use Rattle.chain_bench.specs.Benched.{Beside, chain_far, chain_on, chain_told, live_with, planned_far, said_in}

-- ---- what was sent

sent_by : (chain : Option ChainLive) (unread bytes : List ℕ)
    → chain_told (option_map (λ l. feed_chain l bytes) chain) (unread ++ said_in chain bytes) ≡ option_map (chain_sent bytes) (chain_told chain unread)
sent_by None unread bytes = refl
sent_by (Some l) unread bytes = refl

pub sent_far : (chain new : Option ChainLive) (unread items bytes : List ℕ) → new ≡ option_map (λ l. feed_chain l bytes) chain
    → items ≡ unread ++ said_in chain bytes → chain_told new items ≡ option_map (chain_sent bytes) (chain_told chain unread)
sent_far chain new unread items bytes is told = ap₂ chain_told is told ∙ sent_by chain unread bytes

front_of : (bytes : List ℕ) (told new : Option ChainFar) → new ≡ option_map (chain_sent bytes) told → ChainSentFront bytes told new
front_of bytes None new is = is
front_of bytes (Some f) new is = (bytes, [], sym (append-nil bytes), is)

pub sent_front : (chain new : Option ChainLive) (unread items bytes : List ℕ) → new ≡ option_map (λ l. feed_chain l bytes) chain
    → items ≡ unread ++ said_in chain bytes → ChainSentFront bytes (chain_told chain unread) (chain_told new items)
sent_front chain new unread items bytes is told =
    front_of bytes (chain_told chain unread) (chain_told new items) (sent_far chain new unread items bytes is told)

-- ---- ends

both : (a b : Bool) → (a && b) ≡ true → (a ≡ true) × (b ≡ true)
both true b is = (refl, is)
both false b is = absurd (let none : ⊥ = cc in none)

first_open : (b : ℕ) (bs : List ℕ) → IsTrue (are_open (b ∷ bs)) → (stays_open (sign_of b) ≡ true) × IsTrue (are_open bs)
unfolding are_open
first_open b bs signs = both (stays_open (sign_of b)) (are_open bs) signs

limit_open : (limit : Bool) → StaysOpen (cond limit (Some AtLimit) None)
limit_open true = tt
limit_open false = tt

rise_open : (was tck : Bool) (w : Works) → StaysOpen (rise_end was tck w)
rise_open false true w = limit_open (at_limit w)
rise_open false false w = tt
rise_open true tck w = tt

sign_open : (b : ℕ) (g : Option Sign) (c : Chip) → stays_open g ≡ true → StaysOpen (end_of b g c)
sign_open b (Some (Pins tck tms tdi)) c opens = rise_open c.tck tck c.inside.works
sign_open b (Some Ask) c opens = tt
sign_open b (Some Light) c opens = tt
sign_open b (Some (Reset trst)) c opens = tt
sign_open b (Some Quit) c opens = absurd (let none : ⊥ = cc in none)
sign_open b None c opens = absurd (let none : ⊥ = cc in none)

taken_open : (ended end : Option ChipEnd) (next : Chain) (l : ChainLive) → StaysOpen l.ended → StaysOpen end
    → StaysOpen (unless_ended ended (chain_taken_by end next l.chain) l).ended
taken_open None None next l here there = tt
taken_open None (Some end) next l here there = there
taken_open (Some ended) end next l here there = here

fed_open : (bytes : List ℕ) (l : ChainLive) → StaysOpen l.ended → IsTrue (are_open bytes) → StaysOpen (feed_chain l bytes).ended
unfolding feed_chain
fed_open [] l here opens = here
fed_open (b ∷ bs) l here opens =
    let signs : _ = first_open b bs opens in
    fed_open bs (chain_after l b)
    (taken_open l.ended (end_of b (sign_of b) l.chain.chip) (chain_signed (sign_of b) l.chain) l here (sign_open b (sign_of b) l.chain.chip signs.0)) signs.1

not_limit : (o : Option ChipEnd) → StaysOpen o → is_limit o ≡ false → o ≡ None
not_limit None opens below = refl
not_limit (Some AtLimit) opens below = absurd (let none : ⊥ = cc in none)
not_limit (Some Quitted) opens below = absurd opens
not_limit (Some (BadByte b)) opens below = absurd opens

some_live : (l : ChainLive) (m : ChainLive) (bytes : List ℕ) → Some m ≡ Some (feed_chain l bytes) → StaysOpen l.ended → IsTrue (are_open bytes)
    → is_limit m.ended ≡ false → m.ended ≡ None
some_live l m bytes is here opens below =
    let same : m ≡ feed_chain l bytes = cc in
    not_limit m.ended (subst (λ (n : ChainLive). StaysOpen n.ended) (sym same) (fed_open bytes l here opens)) below

-- where the limit isn't met behind open signs, nothing has ended the chain
pub stays_live : (bench new : Option Live) (s t : Beside) (unread items bytes : List ℕ)
    → chain_on new t ≡ option_map (λ l. feed_chain l bytes) (chain_on bench s) → IsOpen (chip_told (chain_far bench s unread)) → IsTrue (are_open bytes)
    → limit_met new ≡ false → IsLive (chip_told (chain_far new t items))
stays_live None None s t unread items bytes is here opens below = tt
stays_live None (Some m) s t unread items bytes is here opens below = absurd (let none : ⊥ = cc in none)
stays_live (Some l) None s t unread items bytes is here opens below = tt
stays_live (Some l) (Some m) s t unread items bytes is here opens below = some_live (live_with s l) (live_with t m) bytes is here opens below

is_met : (o : Option ChipEnd) → is_limit o ≡ true → o ≡ Some AtLimit
is_met None met = absurd (let none : ⊥ = cc in none)
is_met (Some Quitted) met = absurd (let none : ⊥ = cc in none)
is_met (Some (BadByte b)) met = absurd (let none : ⊥ = cc in none)
is_met (Some AtLimit) met = refl

pub limit_told : (bench : Option Live) (s : Beside) (items : List ℕ) → limit_met bench ≡ true → EndCause 0 0 (chip_told (chain_far bench s items))
limit_told None s items met = absurd (let none : ⊥ = cc in none)
limit_told (Some l) s items met = inr (is_met l.ended met)

-- ---- what is kept of the schedule

told_timing : (bench : Option Live) (s : Beside) (unread : List ℕ) → timing_told (chip_told (chain_far bench s unread)) ≡ timing_told (far_of bench [])
told_timing None s unread = refl
told_timing (Some l) s unread = refl

pub kept_ties : (bench new : Option Live) (s t : Beside) (unread items : List ℕ) → timing_told (far_of new []) ≡ timing_told (far_of bench [])
    → ties_told (chip_told (chain_far new t items)) ≡ ties_told (chip_told (chain_far bench s unread))
kept_ties bench new s t unread items same =
    ap (λ (x : Option Timing). record { lenders = []; net = no_net; timing = x; began = None })
    (told_timing new t items ∙ same ∙ sym (told_timing bench s unread))

-- ---- as it begins

pub begins : (bench : Option Live) (plan : Plan)
    → chain_far bench (record { near = map reset_side plan.near; far = map reset_side plan.far; tck = false }) [] ≡ planned_far plan bench
begins None plan = refl
begins (Some l) plan = refl

widths_are : (widths : List ℕ) → map width_of (map reset_side widths) ≡ widths
widths_are [] = refl
widths_are (w ∷ ws) = ap (λ xs. w ∷ xs) (widths_are ws)

stand_together : (p : Port) (widths : List ℕ) → p.state ≡ TestLogicReset → p.held ≡ false → Each (StandsAs p) (map reset_side widths)
stand_together p [] state free = tt
stand_together p (w ∷ ws) state free = (record { state = sym state; held = sym free }, stand_together p ws state free)

live_planned : (plan : Plan) (l : Live) → AsLoaded l
    → IsPlanned plan (record { near = map reset_side plan.near; chip = l.chip; far = map reset_side plan.far })
live_planned plan l loaded =
    let state : l.chip.port.state ≡ TestLogicReset = ap (λ (m : Live). m.chip.port.state) loaded.is in
    let free : l.chip.port.held ≡ false = ap (λ (m : Live). m.chip.port.held) loaded.is in
    record {
      near = widths_are plan.near;
      far = widths_are plan.far;
      together = record { near = stand_together l.chip.port plan.near state free; far = stand_together l.chip.port plan.far state free };
    }

pub planned : (bench : Option Live) (plan : Plan) → IfSome bench AsLoaded
    → IsPlannedTold plan (chain_far bench (record { near = map reset_side plan.near; far = map reset_side plan.far; tck = false }) [])
planned None plan loaded = tt
planned (Some l) plan loaded = live_planned plan l loaded

-- ---- what was read

pub nothing_came : (n : ℕ) (into : List ℕ) (told : Option ChainFar) → into ≡ replicate n no_answer → ChainReadsSome into told told
nothing_came n into None filled = refl
nothing_came n into (Some f) filled = (f.unread, record { came = []; missing = n; are = refl; stand = filled }, refl)

pub front_read : (bench : Option Live) (s : Beside) (unread into rest : List ℕ) → unread ≡ into ++ rest
    → ChainReadsFront into (chain_far bench s unread) (chain_far bench s rest)
front_read None s unread into rest is = refl
front_read (Some l) s unread into rest is = (rest, is, refl)
