use Rattle.jtag_run.specs.Recording.RanSniff.{refused, sniffed}
use Rattle.jtag_run.proofs.recording.run_sniff.Goals as goal

pub returns-in-Err : goal.returns-in-Err
returns-in-Err g c = record { ended = refused c.in-Err.refusal c.in-Err.ensures.cause c.refuse.ensures.refused }

pub returns : goal.returns
returns g c = record {
  ended = sniffed c.in-Ok.recording.stream.items c.in-Ok.recording.answers.items c.in-Ok.ensures.stream c.in-Ok.ensures.answers c.in-Ok.ensures.asked
      (record {
        end = c.show-end.result;
        between = record { printed = g.K.Sink.contents c.show-end.new.out; faults = g.K.Sink.fault_count c.show-end.new.out };
        shows = c.show-end.ensures.shows;
        told = c.tell.ensures.told;
      });
}
