use Rattle.std.proofs.Common.{◌≡◌, ◌≤◌, ◌+◌, ◌-◌, ◌*◌, ◌++◌, length, drop}
use Rattle.probe_access.specs.ReadRuns.{is_wide, own_words, values_read}
use Rattle.probe_access.proofs.load_runs.hand_out.Given as goal

abbrev pub invariant-elements : goal.invariant-elements
invariant-elements l = record {
  what : l.into.items ++ values_read (is_wide l.fn.size) l.fn.looks (l.fn.taken - l._element) (drop l.at l.fn.words)
      ≡ l.fn.into.items ++ values_read (is_wide l.fn.size) l.fn.looks l.fn.taken (drop 2 l.fn.words);
  count : length l.into.items ≡ length l.fn.into.items + l._element;
  enough : l.at + (l.fn.taken - l._element) * (l.fn.looks + own_words (is_wide l.fn.size)) ≤ length l.fn.words;
}
