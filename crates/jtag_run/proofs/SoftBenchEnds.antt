-- How a session with software breakpoints ends over a wire that ends at a bench: none of the bench's own fails before the limit.
use Rattle.std.proofs.Common.{◌≡◌, ◌∙◌, ◌≤◌, ℕ, Bool, true, List, [], Option, Some, None, IfSome, sym, ap, subst, arith}
use Rattle.std.proofs.lemmas.Bool.{false≢true}
use Rattle.chip_core.specs.Feeds.{far_of, limit_met}
use Rattle.debug_model.specs.Chip.{Live}
use Rattle.debug_model.specs.Told.{Far, MetLimit}
use Rattle.debug_model.specs.declared.soft_command.SoftCommand.{SoftCommand}
use Rattle.debug_model.specs.declared.wire.WireFault.{WireFault}
use Rattle.jtag_run.proofs.BenchEnds.{limit_failed, limit_unsent, met_at}
use Rattle.jtag_run.specs.Sessions.{at_bench}
use Rattle.jtag_run.specs.SoftEnds.{IsSoftBenchEnd, OnSoftBench}
use Rattle.probe_session.specs.Causes.{EndCaused}
use Rattle.probe_session.specs.declared.ended.Ended.{Ended as End}
use Rattle.probe_session.specs.declared.ended.Ended.TheVariants as ends
use Rattle.soft_session.specs.Wire.{SoftWireSession}
use Rattle.wire_session.specs.Closing.{Closes, sends_quit, unclosed}
use Rattle.wire_session.specs.Closing.Closes.{behind_fault, quitted, unquitted}
use Rattle.wire_session.specs.Seen.{SinkSeen, WireSeen}

-- a fault of the wire, behind which nothing more was sent
fault_end : (bench : Option Live) (f : Far) (n : ℕ) (e : End) → n ≤ 0 → EndCaused 0 n (Some f) e
    → (MetLimit (Some f) → limit_met bench ≡ true) → IsSoftBenchEnd e (limit_met bench)
fault_end bench f n ends.Clean none cause met = tt
fault_end bench f n ends.WithErrors none cause met = tt
fault_end bench f n (ends.Target fault) none cause met = tt
fault_end bench f n (ends.Wire why) none cause met = met (limit_failed f n cause.coming why none cause.cause)
fault_end bench f n (ends.Lost why) none cause met = tt
fault_end bench f n ends.Sink none cause met = tt

quit_end : (limit : Bool) (e : End) → sends_quit e ≡ true → IsSoftBenchEnd e limit
quit_end limit ends.Clean sends = tt
quit_end limit ends.WithErrors sends = tt
quit_end limit (ends.Target fault) sends = tt
quit_end limit (ends.Wire why) sends = absurd (false≢true sends)
quit_end limit (ends.Lost why) sends = tt
quit_end limit ends.Sink sends = tt

unclosed_end : (limit : Bool) (why : WireFault) (e : End) → limit ≡ true → IsSoftBenchEnd (unclosed why e) limit
unclosed_end limit why ends.Clean met = met
unclosed_end limit why ends.WithErrors met = met
unclosed_end limit why (ends.Target fault) met = met
unclosed_end limit why (ends.Wire first) met = met
unclosed_end limit why (ends.Lost cause) met = met
unclosed_end limit why ends.Sink met = tt

possible_end : (bench : Option Live) (unread : List ℕ) (last : Far) (mid : WireSeen) (e closed : End) → mid.far ≡ Some last
    → EndCaused 0 mid.faults mid.far e → Closes mid (at_bench bench unread 0) e closed → IsSoftBenchEnd closed (limit_met bench)
possible_end bench unread last mid e closed told cause (behind_fault sends same kept) =
    subst (λ x. IsSoftBenchEnd x (limit_met bench)) (sym same)
    (fault_end bench last mid.faults e (let none : 0 ≡ mid.faults = ap (λ (s : WireSeen). s.faults) kept in omega (arith, none))
    (subst (λ far. EndCaused 0 mid.faults far e) told cause)
    (λ met. met_at bench unread (subst MetLimit (sym (ap (λ (s : WireSeen). s.far) kept ∙ told)) met)))
possible_end bench unread last mid e closed told cause (quitted sends same done) =
    subst (λ x. IsSoftBenchEnd x (limit_met bench)) (sym same) (quit_end (limit_met bench) e sends)
possible_end bench unread last mid e closed told cause (unquitted why sends same done) =
    subst (λ x. IsSoftBenchEnd x (limit_met bench)) (sym same)
    (unclosed_end (limit_met bench) why e (met_at bench unread (limit_unsent (far_of bench unread) mid.faults why done.later done.cause)))

pub on_soft_bench : (old bench : Option Live) (unread : List ℕ) (script : List SoftCommand) (was is : SinkSeen) (closed : End)
    → SoftWireSession script (at_bench old [] 0) (at_bench bench unread 0) was is closed
    → IfSome old (λ first. OnSoftBench first script was is bench (limit_met bench) closed)
on_soft_bench None bench unread script was is closed s = tt
on_soft_bench (Some first) bench unread script was is closed s = record {
  unread = unread;
  session = s;
  possible = possible_end bench unread s.transcribed.far s.mid s.end closed s.transcribed.is s.cause s.closes;
}
