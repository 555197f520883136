use Rattle.jtag_run.proofs.Recordings.{shows_lines, shows_waves}
use Rattle.jtag_run.proofs.recording.show.Goals as goal

pub returns-then-waves : goal.returns-then-waves
returns-then-waves g c = record {
  shows =
      shows_waves _ _ _ _ _ _ c.if-waves.true (rw (c.deref.ensures.value, c.deref-then-waves.ensures.value) at c.draw_waves.ensures);
}

pub returns-else-waves : goal.returns-else-waves
returns-else-waves g c = record {
  shows =
      shows_lines _ _ _ _ _ _ c.if-waves.false (rw (c.deref-else-waves.ensures.value, c.deref-else-waves-2.ensures.value) at c.sniff.ensures);
}
