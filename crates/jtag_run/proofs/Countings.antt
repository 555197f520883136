-- A session into a sink that counts, and its summary, over plain variables.
use Rattle.std.proofs.Common.{◌≡◌, ◌∙◌, ◌<◌, ℕ, List, [], Option, Some, None, IfSome, ap, arith}
use Rattle.std.proofs.lemmas.Option.{same_Some}
use Rattle.chain_scan.specs.ChainPlan.{Plan}
use Rattle.chip_core.specs.Feeds.{limit_met}
use Rattle.command_line.specs.declared.job.Way.{Way}
use Rattle.command_line.specs.declared.job.Way.TheVariants.{Straight, Looped, Chained}
use Rattle.debug_model.specs.declared.command.Command.{Command}
use Rattle.debug_model.specs.Chip.{Live}
use Rattle.debug_model.specs.Told.{Far, read_out}
use Rattle.abstract_debugger.specs.Lines.{Line, text_of_all}
use Rattle.jt_base.specs.Sink.{grown}
use Rattle.jtag_run.specs.Opening.{Joined}
use Rattle.jtag_run.specs.Outside.{NetSeen}
use Rattle.jtag_run.specs.Ends.{AreCounted, Counted, CountedBehind, TakesAll, taken_seen}
use Rattle.jtag_run.specs.Sessions.{OnBench, OnLoop}
use Rattle.jtag_run.specs.Sessions.Carried.{chained, over_net, straight}
use Rattle.line_counts.specs.Counts.{errors_in, lines_in}
use Rattle.line_counts.specs.Laws.{ErrorsAreCounted, LinesAreCounted}
use Rattle.probe_session.specs.declared.ended.Ended.{Ended as End}
use Rattle.probe_session.specs.declared.ended.Ended.TheVariants as ends
use Rattle.probe_session.specs.declared.fault.LostCause.TheVariants as lost
use Rattle.probe_session.specs.Causes.{SinkCaused}
use Rattle.probe_session.specs.Transcribed.{WrittenAs, shown}

-- ---- counts of the transcript

are_counted : LinesAreCounted → ErrorsAreCounted → (lines : List Line) (taken : List ℕ) → Some taken ≡ grown (text_of_all lines) (Some [])
    → AreCounted lines taken
are_counted by_line by_error lines taken put =
    let same : taken ≡ text_of_all lines = same_Some taken (text_of_all lines) put in
    record { lines_are = ap lines_in same ∙ by_line lines; errors_are = ap errors_in same ∙ by_error lines }

counted_behind : LinesAreCounted → ErrorsAreCounted → (script : List Command) (taken : List ℕ) (first last : Far) (e : End)
    → WrittenAs script (Some []) (Some taken) first last e
    → CountedBehind e (shown script first last).world.lines taken
counted_behind by_line by_error script taken first last ends.Clean w = are_counted by_line by_error (shown script first last).world.lines taken w.written
counted_behind by_line by_error script taken first last ends.WithErrors w = are_counted by_line by_error (shown script first last).world.lines taken w.written
counted_behind by_line by_error script taken first last (ends.Target fault) w = tt
counted_behind by_line by_error script taken first last (ends.Wire why) w = tt
counted_behind by_line by_error script taken first last (ends.Lost lost.DmiFailed) w = tt
counted_behind by_line by_error script taken first last (ends.Lost lost.StillBusy) w = tt
counted_behind by_line by_error script taken first last (ends.Lost (lost.NoHalt looks)) w =
    are_counted by_line by_error (shown script first last).world.lines taken w.written
counted_behind by_line by_error script taken first last (ends.Lost (lost.NoAck looks)) w =
    are_counted by_line by_error (shown script first last).world.lines taken w.written
counted_behind by_line by_error script taken first last (ends.Lost (lost.Odd odd)) w = tt
counted_behind by_line by_error script taken first last ends.Sink w = tt

-- ---- a sink that never fails

takes_all : (closed : End) → SinkCaused 0 0 closed → TakesAll closed
takes_all ends.Clean caused = tt
takes_all ends.WithErrors caused = tt
takes_all (ends.Target fault) caused = tt
takes_all (ends.Wire why) caused = tt
takes_all (ends.Lost why) caused = tt
takes_all ends.Sink caused = let h : 0 < 0 = caused (omega arith) in absurd (omega (arith, h))

-- ---- by the way of the stream

pub counted_straight : LinesAreCounted → ErrorsAreCounted
    → (way : Way) (old bench : Option Live) (script : List Command) (net_was net_is : NetSeen) (taken : List ℕ) (closed : End) → way ≡ Straight
    → net_is ≡ net_was
    → SinkCaused 0 0 closed → IfSome old (λ first. OnBench first script (taken_seen []) (taken_seen taken) bench (limit_met bench) closed)
    → IfSome old (λ first. Counted way first script net_was net_is taken bench closed)
counted_straight by_line by_error way None bench script net_was net_is taken closed direct same caused ran = tt
counted_straight by_line by_error way (Some first) bench script net_was net_is taken closed direct same caused ran = record {
  carried = straight direct same ran;
  counted = counted_behind by_line by_error script taken (read_out first) ran.session.headline.far ran.session.end ran.session.headline.holds.written;
  all = takes_all closed caused;
}

pub counted_chained : LinesAreCounted → ErrorsAreCounted
    → (way : Way) (plan : Plan) (old bench : Option Live) (script : List Command) (net_was net_is : NetSeen) (taken : List ℕ) (closed : End)
    → way ≡ Chained plan
    → net_is ≡ net_was
    → SinkCaused 0 0 closed → IfSome old (λ first. OnBench first script (taken_seen []) (taken_seen taken) bench (limit_met bench) closed)
    → IfSome old (λ first. Counted way first script net_was net_is taken bench closed)
counted_chained by_line by_error way plan None bench script net_was net_is taken closed in_chain same caused ran = tt
counted_chained by_line by_error way plan (Some first) bench script net_was net_is taken closed in_chain same caused ran = record {
  carried = chained plan in_chain same ran;
  counted = counted_behind by_line by_error script taken (read_out first) ran.session.headline.far ran.session.end ran.session.headline.holds.written;
  all = takes_all closed caused;
}

pub counted_looped : LinesAreCounted → ErrorsAreCounted
    → (way : Way) (old bench : Option Live) (script : List Command) (net_was mid net_is : NetSeen) (taken : List ℕ) (closed : End) → way ≡ Looped
    → Joined net_was mid
    → SinkCaused 0 0 closed → IfSome old (λ first. OnLoop first script mid net_is (taken_seen []) (taken_seen taken) bench closed)
    → IfSome old (λ first. Counted way first script net_was net_is taken bench closed)
counted_looped by_line by_error way None bench script net_was mid net_is taken closed loops joins caused ran = tt
counted_looped by_line by_error way (Some first) bench script net_was mid net_is taken closed loops joins caused ran = record {
  carried = over_net mid loops joins ran;
  counted = counted_behind by_line by_error script taken (read_out first) ran.session.headline.far ran.session.end ran.session.headline.holds.written;
  all = takes_all closed caused;
}
