use Rattle.soft_break.proofs.table.SoftTable.+hide_bytes.Given as goal

abbrev pub decreases-hide_bytes : goal.decreases-hide_bytes
decreases-hide_bytes l = l.count
