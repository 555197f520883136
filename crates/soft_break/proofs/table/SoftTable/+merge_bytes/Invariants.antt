use Rattle.soft_break.proofs.table.SoftTable.+merge_bytes.Given as goal

abbrev pub decreases-merge_bytes : goal.decreases-merge_bytes
decreases-merge_bytes l = l.count
