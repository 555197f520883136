use Rattle.std.proofs.Common.{◌≡◌, ◌≤◌, ◌+◌, ◌++◌}
use Rattle.arrayvec.specs.ArrayVec.{array_vec_len}
use Rattle.abstract_debugger.specs.Lines.{places_from, spelled_places}
use Rattle.abstract_debugger.specs.SlotUses.{hits_in}
use Rattle.printed_lines.proofs.HitLemmas.{rest_from}
use Rattle.printed_lines.proofs.halted.push_hits.Given as goal

abbrev pub invariant-loop-slot : goal.invariant-loop-slot
invariant-loop-slot l =
    (l.text.items ++ rest_from l.before l.slot (hits_in l.hits) ≡ l.fn.text.items ++ spelled_places (places_from 0 (hits_in l.hits)))
    × (array_vec_len l.text ≤ array_vec_len l.fn.text + (l.slot + l.slot))
