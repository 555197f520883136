use Rattle.std.proofs.Common.{◌≡◌, ◌*◌, ◌≤◌, ◌-◌, ◌++◌, length}
use Rattle.std.specs.List.{list_any}
use Rattle.elf_load.specs.Fields.{load_segments}
use Rattle.elf_load.specs.Elf.{is_bad_segment}
use Rattle.elf_load.proofs.table.segments.Given as goal

-- the headers behind are still to be looked at
abbrev pub invariant-loop : goal.invariant-loop
invariant-loop l = record {
  whole : length l.rest ≡ 56 * (l.count - l.counter);
  few : length l.segments.items ≤ l.counter;
  taken : l.segments.items ++ load_segments (l.count - l.counter) l.rest ≡ load_segments l.count l.fn.table;
  fine : list_any (is_bad_segment l.file_size) (load_segments l.count l.fn.table)
      ≡ list_any (is_bad_segment l.file_size) (load_segments (l.count - l.counter) l.rest);
}
