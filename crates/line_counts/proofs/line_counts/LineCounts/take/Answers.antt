use Rattle.line_counts.proofs.CountLemmas.{AreCountsOf-more, AreCountsOf-error, AreCountsOf-line}
use Rattle.line_counts.proofs.line_counts.LineCounts.take.Goals as goal
use Rattle.line_counts.proofs.line_counts.LineCounts.take.Goals.{then-byte-eq10, in-Error, in_default, else-byte-eq10}

pub invariant_of-self : goal.invariant_of-self
invariant_of-self c =
    let was = c.self.inside in
    elim c.if-byte-eq10.branch [
      | then-byte-eq10 w ↦ elim w.match-self.branch [
        | in-Error v ↦ rw (
          c.and-self-inside.ensures,
          w.self-inside-is,
          v.self-inside-is,
          w.saturating_add-self-inside.ensures,
          v.saturating_add-self-inside-in-Error.ensures,
          w.if-byte-eq10.true,
        )
            (AreCountsOf-error was.lines was.errors was.place was.taken.bytes c.self.invariant v.in-Error.is)
        | in_default v ↦ rw (c.and-self-inside.ensures, w.self-inside-is, v.self-inside-is, w.saturating_add-self-inside.ensures, w.if-byte-eq10.true)
            (AreCountsOf-line was.lines was.errors was.place was.taken.bytes c.self.invariant v.in_default.not-Error)
      ]
      | else-byte-eq10 w ↦ rw (c.and-self-inside.ensures, w.self-inside-is)
          (AreCountsOf-more was.lines was.errors was.place w.then-self-inside.result was.taken.bytes c.args.byte c.self.invariant w.if-byte-eq10.false
          w.then-self-inside.ensures)
    ]
