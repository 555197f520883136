use Rattle.dbg_module.proofs.HaltsumLemmas.{halted_shown}
use Rattle.dbg_module.proofs.haltsum.haltsum.Goals as goal

pub returns-then-selected-lt-GROUP_SIZE : goal.returns-then-selected-lt-GROUP_SIZE
returns-then-selected-lt-GROUP_SIZE c = halted_shown c.args.selected c.args.harts.now _ _ c.if-selected-lt-GROUP_SIZE.true c.requires c.halted_bits.ensures
    c.value.ensures
