-- How a session ends over a wire that ends at a bench: no register is refused, and none of the bench's own fails before the limit.
use Rattle.std.proofs.Common.{◌≡◌, ◌∙◌, ◌<◌, ◌≤◌, ℕ, Bool, true, false, List, [], Option, Some, None, IfSome, sym, ap, subst, inl, inr, arith}
use Rattle.std.proofs.lemmas.Bool.{false≢true}
use Rattle.std.proofs.lemmas.Option.{none-some}
use Rattle.abstract_debugger.specs.Plan.{Plan}
use Rattle.chip_core.specs.Feeds.{far_of, is_limit, limit_met}
use Rattle.debug_model.specs.declared.command.Command.{Command}
use Rattle.debug_model.specs.declared.wire.WireFault.{WireFault}
use Rattle.debug_model.specs.declared.wire.WireFault.TheVariants.{SendFailed, RecvFailed, Ended, BadAnswer}
use Rattle.debug_model.specs.Chip.{Live}
use Rattle.debug_model.specs.Scan.{Coming, ScanCause}
use Rattle.debug_model.specs.Told.{Far, MetLimit, read_out}
use Rattle.debug_model.specs.Wire.{EndCause, SendCause}
use Rattle.jt_base.specs.Faults.{Rises}
use Rattle.jtag_run.specs.Sequel.{Sequel, UpTo, sequel_plan}
use Rattle.jtag_run.specs.Sequel.Sequel.{of_script}
use Rattle.jtag_run.specs.Sessions.{IsBenchEnd, OnBench, OnBenchBy, at_bench}
use Rattle.probe_session.specs.declared.ended.Ended.{Ended as End}
use Rattle.probe_session.specs.declared.ended.Ended.TheVariants as ends
use Rattle.probe_session.specs.Causes.{EndCaused}
use Rattle.probe_session.specs.Never.{EndsInTime}
use Rattle.probe_session.specs.Transcribed.{WrittenBy}
use Rattle.wire_session.specs.Closing.{Closes, sends_quit, unclosed}
use Rattle.wire_session.specs.Closing.Closes.{behind_fault, quitted, unquitted}
use Rattle.wire_session.specs.Seen.{SinkSeen, WireSeen}
use Rattle.wire_session.specs.WireSession.{WireSession, WireSessionBy, WireUpTo}

-- ---- a wire whose count of faults stays at 0

no_rise : (old new : ℕ) → old ≤ 0 → new ≤ 0 → Rises old new → ⊥
no_rise old new first last rises = let h : old < new = rises (omega (arith, first)) in omega (arith, h, last)

limit_ends : (told : Option Far) (old new : ℕ) → old ≤ 0 → new ≤ 0 → EndCause old new told → MetLimit told
limit_ends told old new first last (inl rises) = absurd (no_rise old new first last rises)
limit_ends told old new first last (inr met) = met

pub limit_failed : (f : Far) (n : ℕ) (coming : Option Coming) (why : WireFault) → n ≤ 0 → ScanCause 0 n (Some f) coming why → MetLimit (Some f)
limit_failed f n coming SendFailed none cause = absurd (no_rise 0 n (omega arith) none cause)
limit_failed f n coming RecvFailed none cause = absurd (no_rise 0 n (omega arith) none cause)
limit_failed f n coming Ended none cause = limit_ends (Some f) 0 n (omega arith) none cause
limit_failed f n coming (BadAnswer b) none cause = absurd (none-some f (sym cause.0))

pub limit_unsent : (told : Option Far) (n : ℕ) (why : WireFault) → n ≤ 0 → SendCause n 0 told why → MetLimit told
limit_unsent told n SendFailed none cause = absurd (no_rise n 0 none (omega arith) cause)
limit_unsent told n RecvFailed none cause = absurd cause
limit_unsent told n Ended none cause = limit_ends told n 0 none (omega arith) cause
limit_unsent told n (BadAnswer b) none cause = absurd cause

pub met_at : (bench : Option Live) (unread : List ℕ) → MetLimit (far_of bench unread) → limit_met bench ≡ true
met_at None unread met = absurd met
met_at (Some l) unread met = ap is_limit met

-- ---- by the end

-- a fault of the wire, behind which nothing more was sent
fault_end : (bench : Option Live) (f : Far) (n : ℕ) (e : End) → sends_quit e ≡ false → n ≤ 0 → EndCaused 0 n (Some f) e
    → (MetLimit (Some f) → limit_met bench ≡ true) → IsBenchEnd e (limit_met bench)
fault_end bench f n ends.Clean sends none cause met = tt
fault_end bench f n ends.WithErrors sends none cause met = tt
fault_end bench f n (ends.Target fault) sends none cause met = absurd (false≢true (sym sends))
fault_end bench f n (ends.Wire why) sends none cause met = met (limit_failed f n cause.coming why none cause.cause)
fault_end bench f n (ends.Lost why) sends none cause met = tt
fault_end bench f n ends.Sink sends none cause met = tt

quit_end : (limit : Bool) (p : Plan) (was is : Option (List ℕ)) (first last : Far) (e : End) → sends_quit e ≡ true
    → WrittenBy p was is first last e → IsBenchEnd e limit
quit_end limit p was is first last ends.Clean sends w = tt
quit_end limit p was is first last ends.WithErrors sends w = tt
quit_end limit p was is first last (ends.Target fault) sends w = absurd w
quit_end limit p was is first last (ends.Wire why) sends w = absurd (false≢true sends)
quit_end limit p was is first last (ends.Lost why) sends w = tt
quit_end limit p was is first last ends.Sink sends w = tt

unclosed_end : (limit : Bool) (why : WireFault) (e : End) → limit ≡ true → IsBenchEnd (unclosed why e) limit
unclosed_end limit why ends.Clean met = met
unclosed_end limit why ends.WithErrors met = met
unclosed_end limit why (ends.Target fault) met = met
unclosed_end limit why (ends.Wire first) met = met
unclosed_end limit why (ends.Lost cause) met = met
unclosed_end limit why ends.Sink met = tt

possible_end : (bench : Option Live) (unread : List ℕ) (p : Plan) (was is : Option (List ℕ)) (first last : Far) (mid : WireSeen) (e closed : End)
    → mid.far ≡ Some last → EndCaused 0 mid.faults mid.far e
    → WrittenBy p was is first last e → Closes mid (at_bench bench unread 0) e closed → IsBenchEnd closed (limit_met bench)
possible_end bench unread p was is first last mid e closed told cause w (behind_fault sends same kept) =
    subst (λ x. IsBenchEnd x (limit_met bench)) (sym same)
    (fault_end bench last mid.faults e sends (let none : 0 ≡ mid.faults = ap (λ (s : WireSeen). s.faults) kept in omega (arith, none))
    (subst (λ far. EndCaused 0 mid.faults far e) told cause)
    (λ met. met_at bench unread (subst MetLimit (sym (ap (λ (s : WireSeen). s.far) kept ∙ told)) met)))
possible_end bench unread p was is first last mid e closed told cause w (quitted sends same done) =
    subst (λ x. IsBenchEnd x (limit_met bench)) (sym same) (quit_end (limit_met bench) p was is first last e sends w)
possible_end bench unread p was is first last mid e closed told cause w (unquitted why sends same done) =
    subst (λ x. IsBenchEnd x (limit_met bench)) (sym same)
    (unclosed_end (limit_met bench) why e (met_at bench unread (limit_unsent (far_of bench unread) mid.faults why done.later done.cause)))

pub on_bench_by : (old bench : Option Live) (unread : List ℕ) (sequel : Sequel) (was is : SinkSeen) (closed : End)
    → WireSessionBy (sequel_plan sequel) (at_bench old [] 0) (at_bench bench unread 0) was is closed
    → UpTo sequel (at_bench old [] 0) (at_bench bench unread 0) was is closed → EndsInTime (far_of old []) closed
    → IfSome old (λ first. OnBenchBy first sequel was is bench (limit_met bench) closed)
on_bench_by None bench unread sequel was is closed s u in_time = tt
on_bench_by (Some first) bench unread sequel was is closed s u in_time = record {
  unread = unread;
  session = s;
  possible = possible_end bench unread (sequel_plan sequel) was.printed is.printed (read_out first) s.headline.far s.mid s.end closed s.headline.is s.cause
      s.headline.holds.written s.closes;
  up_to = u;
  in_time = in_time;
}

pub on_bench : (old bench : Option Live) (unread : List ℕ) (script : List Command) (was is : SinkSeen) (closed : End)
    → WireSession script (at_bench old [] 0) (at_bench bench unread 0) was is closed
    → WireUpTo script (at_bench old [] 0) (at_bench bench unread 0) was is closed → EndsInTime (far_of old []) closed
    → IfSome old (λ first. OnBench first script was is bench (limit_met bench) closed)
on_bench old bench unread script was is closed s u in_time = on_bench_by old bench unread (of_script script) was is closed s u in_time
