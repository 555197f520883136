-- How long a session on the chip of a bench lasts, over plain variables: the rounds by the session's budget, and the points by those and by what the script takes.
use Rattle.std.proofs.Common.{◌≡◌, ◌∙◌, ℕ, ◌+◌, ◌*◌, ◌^◌, ◌≤◌, false, List, [], length, Option, Some, None, IfSome, option_map}
use Rattle.std.proofs.Common.{refl, sym, ap, subst, arith}
use Rattle.std.specs.Prelude.{All}
use Rattle.std.proofs.lemmas.Bool.{false≢true}
use Rattle.std.proofs.lemmas.Option.{none-some, same_Some}
use Rattle.abstract_debugger.specs.Debugger.{commands, first_state}
use Rattle.budget_laws.specs.ScriptPoints.{script_points}
use Rattle.budget_laws.proofs.CommandPoints.{scripts_take_few_points}
use Rattle.bench_links.proofs.FreshChips.{length_harts}
use Rattle.budget_laws.proofs.SumLemmas.{below_limit, both_parts, fewer_rounds}
use Rattle.budget_laws.proofs.TurnLemmas.{rounds_offer_few_turns}
use Rattle.chip_core.specs.Feeds.{counts_of, far_of, is_limit, journal_of, limit_met}
use Rattle.chip_core.specs.Limits.{EndsAtLimit, MeetsLimitRightly}
use Rattle.chip_laws.proofs.Pace.{loaded_paced}
use Rattle.debug_model.specs.declared.chip_end.ChipEnd.{ChipEnd}
use Rattle.debug_model.specs.declared.chip_end.ChipEnd.TheVariants.{Quitted, BadByte, AtLimit}
use Rattle.debug_model.specs.declared.command.Command.{Command}
use Rattle.debug_model.specs.Chip.{Chip, Live, Works, at_limit}
use Rattle.debug_model.specs.Command.{IsWithinRanges}
use Rattle.debug_model.specs.Loaded.{AsLoaded}
use Rattle.debug_model.specs.declared.point.Point.{Point}
use Rattle.debug_model.specs.Offered.{Timing, TurnsOffered, turns_of}
use Rattle.debug_model.specs.Pacing.{harts_in}
use Rattle.debug_model.specs.Rises.{PacedWithin, rate, rises_in}
use Rattle.debug_model.specs.Ties.{timing_told}
use Rattle.debug_model.specs.Told.{Far, chip_of, read_out}
use Rattle.debug_model.specs.Wire.{SentFront, sent}
use Rattle.jtag_run.specs.Bounds.{IsEven, IsFair, StaysWhereFair, most_points, most_rounds}
use Rattle.jtag_run.specs.Sessions.{IsLoadedBench, at_bench}
use Rattle.jtag_run.proofs.ChainEnds.{is_loaded}
use Rattle.probe_session.specs.declared.ended.Ended.{Ended as End}
use Rattle.probe_session.specs.Budget.{script_rises}
use Rattle.probe_session.specs.Transcribed.{WrittenBy}
use Rattle.jtag_run.proofs.SessionPoints.{not_astray, script_within}
use Rattle.wire_session.specs.Budget.{WithinBudget}
use Rattle.wire_session.specs.Closing.{Closes, quit}
use Rattle.wire_session.specs.Closing.Closes.{behind_fault, quitted, unquitted}
use Rattle.wire_session.specs.Seen.{SinkSeen, WireSeen}
use Rattle.wire_session.specs.WireSession.{WireSession}
use Rattle.wire_session.proofs.StreamEnds.{front_chip, sent_chip}

-- ---- the chip behind it

-- the bench that a wire to it tells
told_bench : (bench : Option Live) (unread : List ℕ) (f : Far) → far_of bench unread ≡ Some f → (l : Live) × (bench ≡ Some l) × (l.chip ≡ chip_of f)
told_bench None unread f is = absurd (none-some f is)
told_bench (Some l) unread f is = (l, refl, ap chip_of (same_Some _ f is))

-- the chip of the bench is that which the session left: the end of its stream changes nothing else
left_chip : (bench : Option Live) (unread : List ℕ) (n : ℕ) (mid : WireSeen) (f : Far) (e closed : End) → mid.far ≡ Some f
    → Closes mid (at_bench bench unread n) e closed → (l : Live) × (bench ≡ Some l) × (l.chip ≡ chip_of f)
left_chip bench unread n mid f e closed is (behind_fault sends same kept) = told_bench bench unread f (ap (λ (w : WireSeen). w.far) kept ∙ is)
left_chip bench unread n mid f e closed is (quitted sends same done) =
    let there : (l : Live) × (bench ≡ Some l) × (l.chip ≡ chip_of (sent quit f)) =
    told_bench bench unread (sent quit f) (done.far ∙ ap (option_map (sent quit)) is) in
    (there.0, there.1, there.2 ∙ sent_chip f)
left_chip bench unread n mid f e closed is (unquitted why sends same done) =
    let front = subst (λ m. SentFront quit m (far_of bench unread)) is done.far in
    let there : (l : Live) × (bench ≡ Some l) × (l.chip ≡ chip_of (sent front.0 f)) = told_bench bench unread (sent front.0 f) front.3 in
    (there.0, there.1, there.2 ∙ front_chip f front.0 front.1 front.2)

-- ---- rounds

rounds_at : (slack n : ℕ) (c : Chip) (bench : Option Live) (unread : List ℕ) → PacedWithin (Some slack) n c (far_of bench unread)
    → (counts_of bench).rounds ≤ rises_in c.inside + n * rate slack
rounds_at slack n c None unread p = absurd (none-some _ p.is)
rounds_at slack n c (Some l) unread p =
    subst (λ (f : Far). rises_in (chip_of f).inside ≤ rises_in c.inside + n * rate slack) (sym (same_Some _ _ p.is)) p.most

fresh_rounds : (first : Live) → AsLoaded first → rises_in first.chip.inside ≡ 0
fresh_rounds first a = ap (λ (l : Live). rises_in l.chip.inside) a.is

few_rounds : (slack : ℕ) (script : List Command) (first : Live) (bench : Option Live) (unread : List ℕ) → AsLoaded first
    → WithinBudget (Some slack) script (Some (read_out first)) (far_of bench unread) → IsFair first
    → (counts_of bench).rounds ≤ most_rounds slack script
few_rounds slack script first bench unread a w fair =
    let most : (counts_of bench).rounds ≤ rises_in first.chip.inside + most_rounds slack script =
    rounds_at slack (script_rises script) first.chip bench unread (w.told (loaded_paced first a fair)) in
    let none : rises_in first.chip.inside ≡ 0 = fresh_rounds first a in
    omega (arith, most, none)

-- ---- points

fresh_harts : (first : Live) → AsLoaded first → 1 ≤ harts_in first.chip.inside
fresh_harts first a =
    let is : harts_in first.chip.inside ≡ a.harts = ap (λ (l : Live). harts_in l.chip.inside) a.is ∙ length_harts a.version a.harts a.halted in
    omega (arith, is, a.right.some)

-- by the rounds, at most so many in each of which there are so many turns
few_turns : (first last : Far) → TurnsOffered first.live.chip.inside.plan (chip_of last) → IsEven first.live
    → length (turns_of (chip_of last).inside.works.site.journal) ≤ rises_in (chip_of last).inside * harts_in first.live.chip.inside
few_turns first last t even =
    let is : length (turns_of (chip_of last).inside.works.site.journal) ≡ _ = ap length t.turns in
    let few = rounds_offer_few_turns (harts_in first.live.chip.inside) (harts_in (chip_of last).inside) (rises_in (chip_of last).inside)
    first.live.chip.inside.plan even in
    omega (arith, is, few)

few_points : (slack : ℕ) (script : List Command) (was is : Option (List ℕ)) (first last : Far) (e : End) → All IsWithinRanges script
    → WrittenBy (commands script first_state) was is first last e → TurnsOffered first.live.chip.inside.plan (chip_of last) → IsEven first.live
    → rises_in (chip_of last).inside ≤ most_rounds slack script
    → length (chip_of last).inside.works.site.journal ≤ most_points slack (harts_in first.live.chip.inside) script
few_points slack script was is first last e within w t even rounds =
    both_parts (script_rises script) (rate slack) (harts_in first.live.chip.inside) (rises_in (chip_of last).inside)
    (length (turns_of (chip_of last).inside.works.site.journal)) (script_points script) (length (chip_of last).inside.works.site.journal) rounds
    (few_turns first last t even) (script_within script within)
    (scripts_take_few_points first.live.chip.inside.works.site.board script (chip_of last).inside.works.site.journal
    (not_astray (commands script first_state) was is first last e w))

-- ---- the limit

never_met : (ended : Option ChipEnd) (w : Works) → EndsAtLimit ended w → at_limit w ≡ false → is_limit ended ≡ false
never_met None w rightly below = refl
never_met (Some Quitted) w rightly below = refl
never_met (Some (BadByte b)) w rightly below = refl
never_met (Some AtLimit) w rightly below = absurd (false≢true (sym below ∙ rightly refl))

limit_kept : (bench : Option Live) (unread : List ℕ) (l first : Live) → bench ≡ Some l
    → timing_told (far_of bench unread) ≡ timing_told (Some (read_out first)) → l.chip.inside.works.most_points ≡ first.chip.inside.works.most_points
limit_kept bench unread l first is same =
    ap (λ (t : Timing). t.most_points) (same_Some _ _ (subst (λ b. timing_told (far_of b unread) ≡ timing_told (Some (read_out first))) is same))

unmet_at : (slack : ℕ) (script : List Command) (first : Live) (bench : Option Live) (unread : List ℕ) (l : Live) → AsLoaded first → bench ≡ Some l
    → timing_told (far_of bench unread) ≡ timing_told (Some (read_out first)) → MeetsLimitRightly bench
    → (counts_of bench).rounds ≤ most_rounds slack script → length (journal_of bench) ≤ most_points slack (harts_in first.chip.inside) script
    → most_points slack (harts_in first.chip.inside) script ≤ first.chip.inside.works.most_points → limit_met bench ≡ false
unmet_at slack script first bench unread l a is same rightly rounds points fits =
    let there : l.chip.inside.works.most_points ≡ first.chip.inside.works.most_points = limit_kept bench unread l first is same in
    let right : first.chip.inside.works.most_points ≤ 2 ^ 62 =
    let own : first.chip.inside.works.most_points ≡ a.most_points = ap (λ (m : Live). m.chip.inside.works.most_points) a.is in omega (arith, own, a.limit.most) in
    let spent : 1 ≤ script_rises script = omega arith in
    let below : at_limit l.chip.inside.works ≡ false =
    below_limit l.chip.inside.works first.chip.inside.works.most_points there
    (let here : length (journal_of bench) ≡ length l.chip.inside.works.site.journal = ap (λ b. length (journal_of b)) is in omega (arith, here, points, fits))
    (fewer_rounds (script_rises script) (rate slack) (harts_in first.chip.inside) l.chip.inside.works.counts.rounds first.chip.inside.works.most_points
    (fresh_harts first a) spent (subst (λ b. (counts_of b).rounds ≤ most_rounds slack script) is rounds) fits right) in
    ap limit_met is ∙ never_met l.ended l.chip.inside.works (subst MeetsLimitRightly is rightly) below

-- ---- a session

stays : (slack n m : ℕ) (script : List Command) (first : Live) (bench : Option Live) (unread : List ℕ) (was is : SinkSeen) (closed : End) → AsLoaded first
    → All IsWithinRanges script → WireSession script (at_bench (Some first) [] n) (at_bench bench unread m) was is closed
    → WithinBudget (Some slack) script (Some (read_out first)) (far_of bench unread)
    → timing_told (far_of bench unread) ≡ timing_told (Some (read_out first)) → MeetsLimitRightly bench → StaysWhereFair slack script first bench
stays slack n m script first bench unread was is closed a within s w same rightly =
    let last : Far = s.headline.far in
    let there : (l : Live) × (bench ≡ Some l) × (l.chip ≡ chip_of last) =
    left_chip bench unread m s.mid last s.end closed s.headline.is s.closes in
    let rounds : IsFair first → (counts_of bench).rounds ≤ most_rounds slack script = few_rounds slack script first bench unread a w in
    let journal : journal_of bench ≡ (chip_of last).inside.works.site.journal = ap journal_of there.1
    ∙ ap (λ (c : Chip). c.inside.works.site.journal) there.2 in
    let counted : (counts_of bench).rounds ≡ rises_in (chip_of last).inside = ap (λ b. (counts_of b).rounds) there.1
    ∙ ap (λ (c : Chip). rises_in c.inside) there.2 in
    let points : IsFair first → IsEven first → length (journal_of bench) ≤ most_points slack (harts_in first.chip.inside) script = λ fair even.
    subst (λ (j : List Point). length j ≤ most_points slack (harts_in first.chip.inside) script) (sym journal)
    (few_points slack script was.printed is.printed (read_out first) last s.end within s.headline.holds.written s.headline.holds.turns even
    (subst (λ (k : ℕ). k ≤ most_rounds slack script) counted (rounds fair))) in
    record {
      rounds = rounds;
      within = λ fair even. record {
        rounds = rounds fair;
        points = points fair even;
        unmet = unmet_at slack script first bench unread there.0 a there.1 same rightly (rounds fair) (points fair even);
      };
    }

pub stays_on_bench : (slack n m : ℕ) (script : List Command) (old bench : Option Live) (unread : List ℕ) (was is : SinkSeen) (closed : End)
    → IsLoadedBench old → All IsWithinRanges script → WireSession script (at_bench old [] n) (at_bench bench unread m) was is closed
    → WithinBudget (Some slack) script (far_of old []) (far_of bench unread)
    → timing_told (far_of bench unread) ≡ timing_told (far_of old []) → MeetsLimitRightly bench → IfSome old (λ first. StaysWhereFair slack script first bench)
stays_on_bench slack n m script None bench unread was is closed loaded within s w same rightly = tt
stays_on_bench slack n m script (Some first) bench unread was is closed loaded within s w same rightly =
    stays slack n m script first bench unread was is closed (is_loaded (Some first) loaded) within s w same rightly

-- ---- a chip to which nothing was sent

stays_fresh : (slack : ℕ) (script : List Command) (first : Live) → AsLoaded first → StaysWhereFair slack script first (Some first)
stays_fresh slack script first a =
    let rounds : first.chip.inside.works.counts.rounds ≡ 0 = fresh_rounds first a in
    let points : length first.chip.inside.works.site.journal ≡ 0 = ap (λ (l : Live). length l.chip.inside.works.site.journal) a.is in
    record {
      rounds = λ fair. omega (arith, rounds);
      within = λ fair even. record {
        rounds = omega (arith, rounds);
        points = omega (arith, points);
        unmet = λ fits. ap (λ (l : Live). is_limit l.ended) a.is;
      };
    }

pub stays_as_loaded : (slack : ℕ) (script : List Command) (old : Option Live) → IsLoadedBench old → IfSome old (λ first. StaysWhereFair slack script first old)
stays_as_loaded slack script None loaded = tt
stays_as_loaded slack script (Some first) loaded = stays_fresh slack script first (is_loaded (Some first) loaded)
