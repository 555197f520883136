-- The turns of a chip's harts are those that its schedule offered, behind each byte.
use Rattle.std.proofs.Common.{◌≡◌, ℕ, zero, suc, Bool, true, false, List, [], ◌∷◌, ◌++◌, length, Option, Some, None, refl, subst, sym, ap, ◌∙◌}
use Rattle.std.proofs.Common.{append_assoc, add-one}
use Rattle.std.proofs.lemmas.List.{append-nil}
use Rattle.debug_model.specs.declared.chip_end.ChipEnd.{ChipEnd}
use Rattle.debug_model.specs.declared.event.Event.{Event}
use Rattle.debug_model.specs.declared.sign.Sign.{Sign}
use Rattle.debug_model.specs.declared.sign.Sign.TheVariants.{Pins, Ask, Light, Reset, Quit}
use Rattle.debug_model.specs.Chip.{Chip, Inside, Live, Works, after, after_event, after_events, counted, end_of, feed, pins, rise, signed, taken_by, tick}
use Rattle.debug_model.specs.Chip.{unless_ended, works_risen}
use Rattle.debug_model.specs.Loaded.{AsLoaded, loaded_chip}
use Rattle.debug_model.specs.Module.{Site}
use Rattle.rv_model.specs.declared.version.Version.{Version}
use Rattle.rv_model.specs.Board.{Board}
use Rattle.debug_model.specs.Port.{Port, rise_finds_busy}
use Rattle.debug_model.specs.Scan.{ticks}
use Rattle.debug_model.specs.Schedule.{RoundPlan, at_start, moved, round_of}
use Rattle.debug_model.specs.Signs.{sign_of}
use Rattle.debug_model.specs.Offered.{TurnsOffered, first_rounds, moved_on, offered, offered_by, turns_of}
use Rattle.chip_laws.specs.TurnLaws.{FeedsOfferTurns, LoadedChipsOffer, RoundsOfferTurns}
use Rattle.debug_model.proofs.Rounds.{busy_rounds, events_rounds}
use Rattle.chip_laws.proofs.Events.{Added, event_adds}

-- ---- schedules

pub moved_on-more : (k : ℕ) (p : RoundPlan) → moved_on (suc k) p ≡ moved (moved_on k p)
unfolding moved_on
moved_on-more zero p = refl
moved_on-more (suc k) p = moved_on-more k (moved p)

pub first_rounds-more : (k : ℕ) (p : RoundPlan) → first_rounds (suc k) p ≡ first_rounds k p ++ round_of (moved_on k p)
unfolding first_rounds moved_on
first_rounds-more zero p = append-nil (round_of p)
first_rounds-more (suc k) p =
    ap (λ es. round_of p ++ es) (first_rounds-more k (moved p)) ∙ sym (append_assoc (round_of p) (first_rounds k (moved p)) (round_of (moved_on k (moved p))))

pub offered-append : (n : ℕ) (xs ys : List Event) → offered n (xs ++ ys) ≡ offered n xs ++ offered n ys
unfolding offered
offered-append n [] ys = refl
offered-append n (e ∷ xs) ys = ap (λ zs. offered_by n e ++ zs) (offered-append n xs ys) ∙ sym (append_assoc (offered_by n e) (offered n xs) (offered n ys))

-- ---- events

added_then : (xs ys : List ℕ) (s t u : Site) → Added xs s t → Added ys t u → Added (xs ++ ys) s u
added_then xs ys s t u first second = record {
  turns = second.turns ∙ ap (λ zs. zs ++ ys) first.turns ∙ append_assoc (turns_of s.journal) xs ys;
  harts = second.harts ∙ first.harts;
}

pub events_added : (n : ℕ) (es : List Event) (w : Works) → length w.site.board.harts ≡ n → Added (offered n es) w.site (after_events es w).site
unfolding offered after_events
events_added n [] w here = record { turns = sym (append-nil (turns_of w.site.journal)); harts = refl }
events_added n (e ∷ es) w here =
    let first : Added (offered_by (length w.site.board.harts) e) w.site (after_event e w).site = (event_adds e w).added in
    added_then (offered_by n e) (offered n es) w.site (after_event e w).site (after_events es (after_event e w)).site
    (rw (← here) first)
    (events_added n es (after_event e w) (first.harts ∙ here))

-- ---- edges

-- a round of the schedule, whatever clock and port are
pub tick_offered : (first : RoundPlan) (tck tck' : Bool) (port port' : Port) (i : Inside) → TurnsOffered first (record { tck = tck; port = port; inside = i })
    → TurnsOffered first (record { tck = tck'; port = port'; inside = tick i })
unfolding tick
tick_offered first tck tck' port port' i is =
    let n : ℕ = length i.works.site.board.harts in
    let k : ℕ = i.works.counts.rounds in
    let es : List Event = round_of i.plan in
    let w : Works = counted i.works in
    let added : Added (offered n es) i.works.site (after_events es w).site = events_added n es w refl in
    let rounds : (after_events es w).counts.rounds ≡ suc k = events_rounds es w ∙ add-one k in
    let list : first_rounds k first ++ es ≡ first_rounds (suc k) first = ap (λ p. first_rounds k first ++ round_of p) is.plan
    ∙ sym (first_rounds-more k first) in
    record {
      turns = added.turns ∙ ap (λ xs. xs ++ offered n es) is.turns ∙ sym (offered-append n (first_rounds k first) es)
          ∙ ap (λ xs. offered n xs) list ∙ ap (λ r. offered n (first_rounds r first)) (sym rounds)
          ∙ ap (λ m. offered m (first_rounds (after_events es w).counts.rounds first)) (sym added.harts);
      plan = ap moved is.plan ∙ sym (moved_on-more k first) ∙ ap (λ r. moved_on r first) (sym rounds);
    }

ticks_offered : (first : RoundPlan) (n : ℕ) (tck tck' : Bool) (port port' : Port) (i : Inside)
    → TurnsOffered first (record { tck = tck; port = port; inside = i })
    → TurnsOffered first (record { tck = tck'; port = port'; inside = ticks n i })
unfolding ticks
ticks_offered first zero tck tck' port port' i is = record { turns = is.turns; plan = is.plan }
ticks_offered first (suc n) tck tck' port port' i is = ticks_offered first n tck tck' port port' (tick i) (tick_offered first tck tck port port i is)

pub works_offered : (first : RoundPlan) (c : Chip) → TurnsOffered first c
    → TurnsOffered first (record c { inside = record c.inside { works = works_risen c.port c.inside.works } })
works_offered first c is =
    let rounds : (works_risen c.port c.inside.works).counts.rounds ≡ c.inside.works.counts.rounds =
    busy_rounds (rise_finds_busy c.port c.inside.works.dtm) c.inside.works.counts in
    record {
      turns = is.turns ∙ ap (λ r. offered (length c.inside.works.site.board.harts) (first_rounds r first)) (sym rounds);
      plan = is.plan ∙ ap (λ r. moved_on r first) (sym rounds);
    }

rise_offered : (first : RoundPlan) (tms tdi : Bool) (c : Chip) → TurnsOffered first c → TurnsOffered first (rise tms tdi c)
rise_offered first tms tdi c is = tick_offered first c.tck true c.port _ (record c.inside { works = works_risen c.port c.inside.works })
    (works_offered first c is)

pins_offered : (first : RoundPlan) (old new tms tdi : Bool) (c : Chip) → TurnsOffered first c → TurnsOffered first (pins old new tms tdi c)
pins_offered first false true tms tdi c is = rise_offered first tms tdi c is
pins_offered first true false tms tdi c is = record { turns = is.turns; plan = is.plan }
pins_offered first false false tms tdi c is = is
pins_offered first true true tms tdi c is = is

-- ---- bytes

sign_offered : (first : RoundPlan) (s : Option Sign) (c : Chip) → TurnsOffered first c → TurnsOffered first (signed s c)
sign_offered first (Some (Pins tck tms tdi)) c is = pins_offered first c.tck tck tms tdi c is
sign_offered first (Some Ask) c is = is
sign_offered first (Some Light) c is = is
sign_offered first (Some (Reset trst)) c is = record { turns = is.turns; plan = is.plan }
sign_offered first (Some Quit) c is = is
sign_offered first None c is = is

taken_offered : (first : RoundPlan) (ended end : Option ChipEnd) (next : Chip) (l : Live) → TurnsOffered first l.chip → TurnsOffered first next
    → TurnsOffered first (unless_ended ended (taken_by end next l.chip) l).chip
taken_offered first None None next l here there = there
taken_offered first None (Some end) next l here there = here
taken_offered first (Some ended) end next l here there = here

pub feed_offered : (first : RoundPlan) (bytes : List ℕ) (l : Live) → TurnsOffered first l.chip → TurnsOffered first (feed l bytes).chip
unfolding feed
feed_offered first [] l is = is
feed_offered first (b ∷ bs) l is =
    feed_offered first bs (after l b)
    (taken_offered first l.ended (end_of b (sign_of b) l.chip) (signed (sign_of b) l.chip) l is (sign_offered first (sign_of b) l.chip is))

pub feeds_offer : FeedsOfferTurns
feeds_offer first l bytes is = feed_offered first bytes l is

-- ---- a loaded chip

pub board_offers : (v : Version) (board : Board) (plan : RoundPlan) (most_points : ℕ) → TurnsOffered plan (loaded_chip v board plan most_points)
unfolding turns_of offered first_rounds moved_on
board_offers v board plan most_points = record { turns = refl; plan = refl }

plan_offers : (l : Live) → AsLoaded l → TurnsOffered l.chip.inside.plan l.chip
plan_offers l a = subst (λ (m : Live). TurnsOffered m.chip.inside.plan m.chip) (sym a.is) (board_offers _ _ _ _)

pub at_its_start : (l : Live) → AsLoaded l → at_start l.chip.inside.plan ≡ l.chip.inside.plan
at_its_start l a = subst (λ (m : Live). at_start m.chip.inside.plan ≡ m.chip.inside.plan) (sym a.is)
    (ap (λ place. record a.plan { place = place }) (sym a.first))

pub fresh_offers : LoadedChipsOffer
fresh_offers l a = rw (at_its_start l a) (plan_offers l a)

-- ---- rounds alone

pub rounds_offer : RoundsOfferTurns
rounds_offer l rises c a passed =
    subst (λ (i : Inside). TurnsOffered l.chip.inside.plan (record { tck = c.tck; port = c.port; inside = i })) (sym passed)
    (ticks_offered l.chip.inside.plan rises l.chip.tck c.tck l.chip.port c.port l.chip.inside (plan_offers l a))
