-- What no byte changes of a chip's schedule and of its limit: the list of rounds, whether the harts have had just the turns that these offered, and the most
-- points.
use Rattle.std.proofs.Common.{◌≡◌, ℕ, zero, suc, ◌+◌, ◌<◌, ◌≤◌, ◌&&◌, Bool, true, false, List, [], ◌∷◌, ◌++◌, length, Option, Some, None, refl, sym, ap}
use Rattle.std.proofs.Common.{◌∙◌, add-one, arith, inl, inr}
use Rattle.std.proofs.lemmas.Bool.{and_parts, cases_lt, le-ltb, lt-ltb}
use Rattle.std.proofs.lemmas.List.{append_cancel_right}
use Rattle.std.proofs.lemmas.Slice.Eq.{bytes_eq-Decides}
use Rattle.std.specs.Bool.{one_answer}
use Rattle.std.specs.Cmp.{unsigned_Decides}
use Rattle.debug_model.specs.declared.chip_end.ChipEnd.{ChipEnd}
use Rattle.debug_model.specs.declared.dmi_op.DmiOp.{DmiOp}
use Rattle.debug_model.specs.declared.event.Event.{Event}
use Rattle.debug_model.specs.declared.event.Event.TheVariants.{Turn, DmiDone, DmiFail, CmdStep, BusDone}
use Rattle.debug_model.specs.declared.sign.Sign.{Sign}
use Rattle.debug_model.specs.declared.sign.Sign.TheVariants.{Pins, Ask, Light, Reset, Quit}
use Rattle.debug_model.specs.Chip.{Chip, Inside, Live, Works, after, after_event, after_events, counted, end_of, feed, lost_by, performed_by, pins, rise}
use Rattle.debug_model.specs.Chip.{signed, taken_by, tick, unless_ended, works_risen}
use Rattle.debug_model.specs.Offered.{HasOfferedTurns, first_rounds, has_offered_turns, moved_on, offered, timing_of}
use Rattle.debug_model.specs.Port.{Port, rise_finds_busy}
use Rattle.debug_model.specs.Schedule.{RoundPlan, at_start, following, moved, round_of}
use Rattle.debug_model.specs.Signs.{sign_of}
use Rattle.debug_model.proofs.Rounds.{busy_rounds, events_rounds}
use Rattle.chip_laws.specs.TurnLaws.{FeedsKeepTiming, TimingTells}
use Rattle.chip_laws.proofs.Events.{Added}
use Rattle.chip_laws.proofs.Turns.{events_added, first_rounds-more, moved_on-more, offered-append, tick_offered, works_offered}

-- ---- places

following_below : (n a : ℕ) → a + 1 < n → following n a ≡ a + 1
following_below n a h = rw (lt-ltb (a + 1) n h) refl

following_last : (n a : ℕ) → n ≤ a + 1 → a < n → following n a ≡ 0
following_last n a h below = rw (le-ltb (a + 1) n h, lt-ltb a n below) refl

following_behind : (n a : ℕ) → n ≤ a → following n a ≡ a
following_behind n a h = rw (le-ltb (a + 1) n (omega arith), le-ltb a n h) refl

-- the place before is known from the place behind
following_apart : (n a b : ℕ) → following n a ≡ following n b → a ≡ b
following_apart n a b e = elim (cases_lt (a + 1) n) [
  | inl a_below ↦ elim (cases_lt (b + 1) n) [
    | inl b_below ↦ omega (arith, e, following_below n a a_below, following_below n b b_below)
    | inr b_over ↦ elim (cases_lt b n) [
      | inl b_last ↦ omega (arith, e, following_below n a a_below, following_last n b b_over b_last)
      | inr b_behind ↦ omega (arith, e, following_below n a a_below, following_behind n b b_behind)
    ]
  ]
  | inr a_over ↦ elim (cases_lt a n) [
    | inl a_last ↦ elim (cases_lt (b + 1) n) [
      | inl b_below ↦ omega (arith, e, following_last n a a_over a_last, following_below n b b_below)
      | inr b_over ↦ elim (cases_lt b n) [
        | inl b_last ↦ omega (arith, a_over, a_last, b_over, b_last)
        | inr b_behind ↦ omega (arith, e, following_last n a a_over a_last, following_behind n b b_behind)
      ]
    ]
    | inr a_behind ↦ elim (cases_lt (b + 1) n) [
      | inl b_below ↦ omega (arith, e, following_behind n a a_behind, following_below n b b_below)
      | inr b_over ↦ elim (cases_lt b n) [
        | inl b_last ↦ omega (arith, e, following_behind n a a_behind, following_last n b b_over b_last)
        | inr b_behind ↦ omega (arith, e, following_behind n a a_behind, following_behind n b b_behind)
      ]
    ]
  ]
]

moved_on-rounds : (k : ℕ) (p : RoundPlan) → (moved_on k p).rounds ≡ p.rounds
unfolding moved_on
moved_on-rounds zero p = refl
moved_on-rounds (suc k) p = moved_on-rounds k (moved p)

at_place : (p : RoundPlan) (q : RoundPlan) → q.rounds ≡ p.rounds → p.place ≡ q.place → p ≡ q
at_place p q rounds place = ap (λ n. record p { place = n }) place ∙ ap (λ (r : List (List Event)). record { rounds = r; place = q.place }) (sym rounds)

-- ---- the truth value

both_parts : (a b : Bool) → a ≡ true → b ≡ true → (a && b) ≡ true
both_parts a b first second = ap (λ x. x && b) first ∙ second

pub timing_decides : TimingTells
timing_decides c =
    let first : RoundPlan = at_start c.inside.plan in
    let k : ℕ = c.inside.works.counts.rounds in (
      λ e. record {
        turns = (bytes_eq-Decides _ _).0 (and_parts _ _ e).1;
        plan = at_place c.inside.plan (moved_on k first) (moved_on-rounds k first) ((unsigned_Decides _ _).0 (and_parts _ _ e).0);
      },
      λ is. both_parts _ _ ((unsigned_Decides _ _).1 (ap (λ (p : RoundPlan). p.place) is.plan)) ((bytes_eq-Decides _ _).1 is.turns),
    )

same_timing : (c d : Chip) → d.inside.plan.rounds ≡ c.inside.plan.rounds → d.inside.works.most_points ≡ c.inside.works.most_points
    → (HasOfferedTurns c → HasOfferedTurns d) → (HasOfferedTurns d → HasOfferedTurns c) → timing_of d ≡ timing_of c
same_timing c d rounds limit there back =
    let same : has_offered_turns d ≡ has_offered_turns c =
    one_answer (has_offered_turns d) (has_offered_turns c) (timing_decides d) (λ e. there ((timing_decides c).0 e), λ is. (timing_decides c).1 (back is)) in
    ap (λ r. record { rounds = r; offered = has_offered_turns d; most_points = d.inside.works.most_points }) rounds
    ∙ ap (λ b. record { rounds = c.inside.plan.rounds; offered = b; most_points = d.inside.works.most_points }) same
    ∙ ap (λ n. record { rounds = c.inside.plan.rounds; offered = has_offered_turns c; most_points = n }) limit

-- ---- the limit

done_limit : (flight : Option DmiOp) (w : Works) → (performed_by flight w).most_points ≡ w.most_points
done_limit None w = refl
done_limit (Some op) w = refl

lost_limit : (flight : Option DmiOp) (w : Works) → (lost_by flight w).most_points ≡ w.most_points
lost_limit None w = refl
lost_limit (Some op) w = refl

event_limit : (e : Event) (w : Works) → (after_event e w).most_points ≡ w.most_points
unfolding after_event
event_limit (Turn h) w = refl
event_limit DmiDone w = done_limit w.dtm.flight w
event_limit DmiFail w = lost_limit w.dtm.flight w
event_limit CmdStep w = refl
event_limit BusDone w = refl

events_limit : (es : List Event) (w : Works) → (after_events es w).most_points ≡ w.most_points
unfolding after_events
events_limit [] w = refl
events_limit (e ∷ es) w = events_limit es (after_event e w) ∙ event_limit e w

-- ---- rounds

tick_back : (tck tck' : Bool) (port port' : Port) (i : Inside) → HasOfferedTurns (record { tck = tck'; port = port'; inside = tick i })
    → HasOfferedTurns (record { tck = tck; port = port; inside = i })
unfolding tick
tick_back tck tck' port port' i is =
    let n : ℕ = length i.works.site.board.harts in
    let k : ℕ = i.works.counts.rounds in
    let s : RoundPlan = at_start i.plan in
    let es : List Event = round_of i.plan in
    let w : Works = counted i.works in
    let added : Added (offered n es) i.works.site (after_events es w).site = events_added n es w refl in
    let rounds : (after_events es w).counts.rounds ≡ suc k = events_rounds es w ∙ add-one k in
    let moved_both : moved i.plan ≡ moved (moved_on k s) = is.plan ∙ ap (λ r. moved_on r s) rounds ∙ moved_on-more k s in
    let places : i.plan.place ≡ (moved_on k s).place =
    following_apart (length i.plan.rounds) i.plan.place (moved_on k s).place
    (ap (λ (p : RoundPlan). p.place) moved_both ∙ ap (λ (r : List (List Event)). following (length r) (moved_on k s).place) (moved_on-rounds k s)) in
    let plan : i.plan ≡ moved_on k s = at_place i.plan (moved_on k s) (moved_on-rounds k s) places in
    let list : first_rounds (suc k) s ≡ first_rounds k s ++ es = first_rounds-more k s ∙ ap (λ p. first_rounds k s ++ round_of p) (sym plan) in
    record {
      turns = append_cancel_right _ _ (offered n es)
          (sym added.turns ∙ is.turns ∙ ap (λ m. offered m (first_rounds (after_events es w).counts.rounds s)) added.harts
          ∙ ap (λ r. offered n (first_rounds r s)) rounds
          ∙ ap (offered n) list ∙ offered-append n (first_rounds k s) es);
      plan = plan;
    }

tick_rounds : (i : Inside) → (tick i).plan.rounds ≡ i.plan.rounds
unfolding tick
tick_rounds i = refl

tick_limit : (i : Inside) → (tick i).works.most_points ≡ i.works.most_points
unfolding tick
tick_limit i = events_limit (round_of i.plan) (counted i.works)

tick_timing : (tck tck' : Bool) (port port' : Port) (i : Inside)
    → timing_of (record { tck = tck'; port = port'; inside = tick i }) ≡ timing_of (record { tck = tck; port = port; inside = i })
unfolding tick
tick_timing tck tck' port port' i =
    same_timing (record { tck = tck; port = port; inside = i }) (record { tck = tck'; port = port'; inside = tick i }) (tick_rounds i) (tick_limit i)
    (tick_offered (at_start i.plan) tck tck' port port' i) (tick_back tck tck' port port' i)

works_timing : (c : Chip) → timing_of (record c { inside = record c.inside { works = works_risen c.port c.inside.works } }) ≡ timing_of c
works_timing c =
    let d : Chip = record c { inside = record c.inside { works = works_risen c.port c.inside.works } } in
    let rounds : d.inside.works.counts.rounds ≡ c.inside.works.counts.rounds = busy_rounds (rise_finds_busy c.port c.inside.works.dtm) c.inside.works.counts in
    let first : RoundPlan = at_start c.inside.plan in
    same_timing c d refl refl (works_offered first c) (λ is. record {
      turns = is.turns ∙ ap (λ r. offered (length c.inside.works.site.board.harts) (first_rounds r first)) rounds;
      plan = is.plan ∙ ap (λ r. moved_on r first) rounds;
    })

rise_timing : (tms tdi : Bool) (c : Chip) → timing_of (rise tms tdi c) ≡ timing_of c
rise_timing tms tdi c =
    let i : Inside = record c.inside { works = works_risen c.port c.inside.works } in
    let ticked : timing_of (rise tms tdi c) ≡ timing_of (record c { inside = i }) = tick_timing c.tck true c.port c.port i in
    ticked ∙ works_timing c

-- ---- bytes

pins_timing : (old new tms tdi : Bool) (c : Chip) → timing_of (pins old new tms tdi c) ≡ timing_of c
pins_timing false true tms tdi c = rise_timing tms tdi c
pins_timing true false tms tdi c = refl
pins_timing false false tms tdi c = refl
pins_timing true true tms tdi c = refl

sign_timing : (s : Option Sign) (c : Chip) → timing_of (signed s c) ≡ timing_of c
sign_timing (Some (Pins tck tms tdi)) c = pins_timing c.tck tck tms tdi c
sign_timing (Some Ask) c = refl
sign_timing (Some Light) c = refl
sign_timing (Some (Reset trst)) c = refl
sign_timing (Some Quit) c = refl
sign_timing None c = refl

taken_timing : (ended end : Option ChipEnd) (next : Chip) (l : Live) → timing_of next ≡ timing_of l.chip
    → timing_of (unless_ended ended (taken_by end next l.chip) l).chip ≡ timing_of l.chip
taken_timing None None next l same = same
taken_timing None (Some end) next l same = refl
taken_timing (Some ended) end next l same = refl

pub feed_timing : FeedsKeepTiming
unfolding feed
feed_timing l [] = refl
feed_timing l (b ∷ bs) =
    feed_timing (after l b) bs ∙ taken_timing l.ended (end_of b (sign_of b) l.chip) (signed (sign_of b) l.chip) l (sign_timing (sign_of b) l.chip)
