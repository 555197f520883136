-- A session over a net that tells its chip, whose run need not fail, goes along its plan to an end.
use Rattle.std.proofs.Common.{◌≡◌, ◌∙◌, ◌≤◌, ◌<◌, ◌-◌, ◌^◌, ℕ, true, List, Option, Some, IfSome, refl, sym, ap, subst, inl, inr, option_map, arith}
use Rattle.std.proofs.lemmas.Bool.{false≢true}
use Rattle.std.proofs.lemmas.Option.{none-some}
use Rattle.abstract_debugger.specs.Plan.{Plan}
use Rattle.debug_model.specs.Pacing.{Paced}
use Rattle.debug_model.specs.Scan.{Coming, ScanCause}
use Rattle.debug_model.specs.Told.{Far, MetLimit, chip_of}
use Rattle.debug_model.specs.Wire.{EndCause, SendCause, SentFront, sent}
use Rattle.debug_model.specs.declared.wire.WireFault.{WireFault}
use Rattle.debug_model.specs.declared.wire.WireFault.TheVariants.{SendFailed, RecvFailed, Ended, BadAnswer}
use Rattle.jt_base.specs.Faults.{Rises}
use Rattle.jtag_net.specs.Wired.{summed}
use Rattle.jtag_run.proofs.BenchSuccesses.{IsWhole, lost_before, never_loses}
use Rattle.jtag_run.specs.Outside.{NetSeen}
use Rattle.jtag_run.specs.Sequel.{Sequel, sequel_plan}
use Rattle.jtag_run.specs.Sessions.{OnNetBy, wired}
use Rattle.jtag_run.specs.Succeeds.{StaysQuiet}
use Rattle.probe_run.specs.declared.fault.ConnectFault.{ConnectFault}
use Rattle.probe_session.specs.Causes.{EndCaused}
use Rattle.probe_session.specs.Never.{EndsInTime}
use Rattle.probe_session.specs.Transcribed.{Still, WrittenBy}
use Rattle.probe_session.specs.declared.ended.Ended.{Ended as End}
use Rattle.probe_session.specs.declared.ended.Ended.TheVariants as ends
use Rattle.wire_session.specs.Closing.{Closes, quit, sends_quit, unclosed}
use Rattle.wire_session.specs.Closing.Closes.{behind_fault, quitted, unquitted}
use Rattle.wire_session.specs.Headline.{HeadlineBy}
use Rattle.wire_session.specs.Seen.{SinkSeen, WireSeen}

-- ---- a wire that tells its chip tells it behind the end of the stream

left_told : (mid new : WireSeen) (f : Far) (e closed : End) → mid.far ≡ Some f → Closes mid new e closed → (g : Far) × (new.far ≡ Some g)
left_told mid new f e closed is (behind_fault sends same kept) = (f, ap (λ (w : WireSeen). w.far) kept ∙ is)
left_told mid new f e closed is (quitted sends same done) = (sent quit f, done.far ∙ ap (option_map (sent quit)) is)
left_told mid new f e closed is (unquitted why sends same done) =
    let front = subst (λ m. SentFront quit m new.far) is done.far in
    (sent front.0 f, front.3)

-- ---- a wire that counted nothing more has not failed

still_there : (old new : ℕ) → new ≤ old → old < 2 ^ 64 - 1 → Rises old new → ⊥
still_there old new same room rises = let h : old < new = rises room in omega (arith, h, same)

no_end : (told : Option Far) (old new : ℕ) → new ≤ old → old < 2 ^ 64 - 1 → (MetLimit told → ⊥) → EndCause old new told → ⊥
no_end told old new same room below (inl rises) = still_there old new same room rises
no_end told old new same room below (inr met) = below met

no_scan : (f : Far) (old new : ℕ) (coming : Option Coming) (why : WireFault) → new ≤ old → old < 2 ^ 64 - 1 → (MetLimit (Some f) → ⊥)
    → ScanCause old new (Some f) coming why → ⊥
no_scan f old new coming SendFailed same room below cause = still_there old new same room cause
no_scan f old new coming RecvFailed same room below cause = still_there old new same room cause
no_scan f old new coming Ended same room below cause = no_end (Some f) old new same room below cause
no_scan f old new coming (BadAnswer b) same room below cause = none-some f (sym cause.0)

no_send : (told : Option Far) (old new : ℕ) (why : WireFault) → new ≤ old → old < 2 ^ 64 - 1 → (MetLimit told → ⊥) → SendCause old new told why → ⊥
no_send told old new SendFailed same room below cause = still_there old new same room cause
no_send told old new RecvFailed same room below cause = cause
no_send told old new Ended same room below cause = no_end told old new same room below cause
no_send told old new (BadAnswer b) same room below cause = cause

no_wire : (old : ℕ) (mid new : WireSeen) (last : Far) (e : End) (why : WireFault) → mid.far ≡ Some last → EndCaused old mid.faults mid.far e
    → old ≤ mid.faults → new.faults ≤ old → old < 2 ^ 64 - 1 → (MetLimit new.far → ⊥) → Closes mid new e (ends.Wire why) → ⊥
no_wire old mid new last e why is caused later same room below (behind_fault sends closed kept) =
    let count : new.faults ≡ mid.faults = ap (λ (w : WireSeen). w.faults) kept in
    let c = subst (λ x. EndCaused old mid.faults mid.far x) (sym closed) caused in
    no_scan last old mid.faults c.coming why (omega (arith, count, same)) room
    (λ met. below (subst MetLimit (sym (ap (λ (w : WireSeen). w.far) kept ∙ is)) met))
    (subst (λ far. ScanCause old mid.faults far c.coming why) is c.cause)
no_wire old mid new last e why is caused later same room below (quitted sends closed done) =
    false≢true (subst (λ x. sends_quit x ≡ true) (sym closed) sends)
no_wire old mid new last e why is caused later same room below (unquitted w sends closed done) =
    no_send new.far mid.faults new.faults w (omega (arith, later, same)) (let more : mid.faults ≤ new.faults = done.later in omega (arith, more, same, room)) below
    done.cause

never_refused : (wire : WireFault) (e : End) (fault : ConnectFault) → ends.Target fault ≡ unclosed wire e → ⊥
never_refused wire ends.Clean fault same = cc
never_refused wire ends.WithErrors fault same = cc
never_refused wire (ends.Target first) fault same = cc
never_refused wire (ends.Wire first) fault same = cc
never_refused wire (ends.Lost cause) fault same = cc
never_refused wire ends.Sink fault same = cc

no_target : (p : Plan) (was is : Option (List ℕ)) (first last : Far) (mid new : WireSeen) (e : End) (fault : ConnectFault) → WrittenBy p was is first last e
    → Closes mid new e (ends.Target fault) → ⊥
no_target p was is first last mid new e fault w (behind_fault sends closed kept) = subst (λ x. WrittenBy p was is first last x) (sym closed) w
no_target p was is first last mid new e fault w (quitted sends closed done) = subst (λ x. WrittenBy p was is first last x) (sym closed) w
no_target p was is first last mid new e fault w (unquitted wire sends closed done) = never_refused wire e fault closed

-- ---- by the end

is_whole : (p : Plan) (was is : Option (List ℕ)) (old : ℕ) (first last : Far) (mid new : WireSeen) (e closed : End) → mid.far ≡ Some last
    → EndCaused old mid.faults mid.far e → WrittenBy p was is first last e → Closes mid new e closed → old ≤ mid.faults → new.faults ≤ old
    → old < 2 ^ 64 - 1 → (MetLimit new.far → ⊥) → Paced (chip_of first).inside → EndsInTime (Some first) closed → (closed ≡ ends.Sink → ⊥) → IsWhole closed
is_whole p was is old first last mid new e ends.Clean told caused w c later same room below paced in_time put = tt
is_whole p was is old first last mid new e ends.WithErrors told caused w c later same room below paced in_time put = tt
is_whole p was is old first last mid new e (ends.Target fault) told caused w c later same room below paced in_time put =
    absurd (no_target p was is first last mid new e fault w c)
is_whole p was is old first last mid new e (ends.Wire why) told caused w c later same room below paced in_time put =
    absurd (no_wire old mid new last e why told caused later same room below c)
is_whole p was is old first last mid new e (ends.Lost why) told caused w c later same room below paced in_time put =
    absurd (never_loses p was is first last why paced in_time (subst (λ x. WrittenBy p was is first last x) (lost_before mid new e why c) w))
is_whole p was is old first last mid new e ends.Sink told caused w c later same room below paced in_time put = absurd (put refl)

pub over_net : (sequel : Sequel) (first : Far) (net_was net_is : NetSeen) (was is : SinkSeen) (closed : End) → OnNetBy sequel net_was net_is was is closed
    → net_was.state.chip ≡ Some first → Paced (chip_of first).inside → StaysQuiet net_was net_is → (closed ≡ ends.Sink → ⊥) → IsWhole closed
over_net sequel first net_was net_is was is closed s told paced q put =
    let h : Still (λ last. HeadlineBy (sequel_plan sequel) was.printed is.printed first last s.session.end) s.session.mid.far =
    subst (λ t. IfSome t (λ f. Still (λ last. HeadlineBy (sequel_plan sequel) was.printed is.printed f last s.session.end) s.session.mid.far)) told
    s.session.headline in
    let there : (g : Far) × (net_is.state.chip ≡ Some g) =
    left_told s.session.mid (wired s.bad_answers net_is) h.far s.session.end closed h.is s.session.closes in
    let none : s.bad_answers ≡ 0 = subst (λ t. IfSome t (λ _. s.bad_answers ≡ 0)) there.1 s.judged in
    let same : summed s.bad_answers net_is.faults net_is.ends ≤ summed 0 net_was.faults net_was.ends =
    subst (λ n. summed n net_is.faults net_is.ends ≤ summed 0 net_was.faults net_was.ends) (sym none) q.counts in
    is_whole (sequel_plan sequel) was.printed is.printed (summed 0 net_was.faults net_was.ends) first h.far s.session.mid (wired s.bad_answers net_is)
    s.session.end closed h.is s.session.cause h.holds.written s.session.closes s.session.later same q.room q.below paced
    (subst (λ t. EndsInTime t closed) told s.in_time) put
