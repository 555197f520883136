-- How long a session on the chip of a bench lasts that is in a chain, over plain variables.
use Rattle.std.proofs.Common.{◌≡◌, ◌∙◌, List, [], ℕ, Option, Some, IfSome, sym, ap, subst}
use Rattle.std.specs.Prelude.{All}
use Rattle.chain_bench.specs.Benched.{Beside, chain_far, planned_far}
use Rattle.chain_scan.specs.ChainPlan.{Plan}
use Rattle.chain_scan.specs.ChainSeen.{chain_slack}
use Rattle.chain_scan.specs.Told.{ChainFar, chip_told}
use Rattle.chip_core.specs.Feeds.{far_of}
use Rattle.chip_core.specs.Limits.{MeetsLimitRightly}
use Rattle.debug_model.specs.declared.command.Command.{Command}
use Rattle.debug_model.specs.Chip.{Live}
use Rattle.debug_model.specs.Command.{IsWithinRanges}
use Rattle.debug_model.specs.Ties.{timing_told}
use Rattle.jtag_run.specs.Bounds.{StaysWhereFair}
use Rattle.jtag_run.specs.Sessions.{IsLoadedBench}
use Rattle.jtag_run.proofs.BenchBounds.{stays_on_bench}
use Rattle.jtag_run.proofs.ChainEnds.{at_chain, chain_as_bench, chip_first, chip_on}
use Rattle.probe_session.specs.declared.ended.Ended.{Ended as End}
use Rattle.wire_session.specs.Budget.{WithinBudget}
use Rattle.wire_session.specs.Seen.{SinkSeen}
use Rattle.wire_session.specs.WireSession.{WireSession}

pub stays_on_chain : (plan : Plan) (old bench : Option Live) (told : Option ChainFar) (s : Beside) (unread : List ℕ) (script : List Command)
    (was is : SinkSeen) (closed : End) → told ≡ planned_far plan old → IsLoadedBench old → All IsWithinRanges script
    → WireSession script (at_chain told 0) (at_chain (chain_far bench s unread) 0) was is closed
    → WithinBudget (Some chain_slack) script (chip_told told) (chip_told (chain_far bench s unread))
    → timing_told (chip_told (chain_far bench s unread)) ≡ timing_told (chip_told told) → MeetsLimitRightly bench
    → IfSome old (λ first. StaysWhereFair chain_slack script first bench)
stays_on_chain plan old bench told s unread script was is closed first loaded within went rises timing rightly =
    let before : chip_told told ≡ far_of old [] = ap chip_told first ∙ chip_first plan old in
    let behind : chip_told (chain_far bench s unread) ≡ far_of bench unread = chip_on bench s unread in
    stays_on_bench chain_slack 0 0 script old bench unread was is closed loaded within
    (chain_as_bench plan old bench told s unread script was is closed first went)
    (subst (λ far. WithinBudget (Some chain_slack) script far (far_of bench unread)) before
    (subst (λ far. WithinBudget (Some chain_slack) script (chip_told told) far) behind rises))
    (sym (ap timing_told behind) ∙ timing ∙ ap timing_told before) rightly
