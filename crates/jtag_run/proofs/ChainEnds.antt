-- A session on the chip of a bench that is in a chain, over plain variables.
use Rattle.std.proofs.Common.{◌≡◌, ◌∙◌, List, [], ℕ, false, Option, Some, None, IfSome, refl, sym, ap, subst}
use Rattle.chain_bench.specs.Benched.{Beside, chain_far, planned_far, tck_of}
use Rattle.chain_scan.specs.ChainPlan.{Plan}
use Rattle.chain_scan.specs.Told.{ChainFar, chip_told}
use Rattle.chip_core.specs.Feeds.{far_of, limit_met, nothing_coming}
use Rattle.debug_model.specs.declared.command.Command.{Command}
use Rattle.debug_model.specs.Chip.{Live}
use Rattle.debug_model.specs.Loaded.{AsLoaded}
use Rattle.debug_model.specs.Told.{IsAsLoaded, IsRead}
use Rattle.jtag_run.specs.Sessions.{IsLoadedBench, OnBench, at_bench}
use Rattle.jtag_run.proofs.BenchEnds.{on_bench}
use Rattle.probe_session.specs.Never.{EndsInTime}
use Rattle.probe_session.specs.declared.ended.Ended.{Ended as End}
use Rattle.wire_session.specs.Seen.{SinkSeen, WireSeen}
use Rattle.wire_session.specs.WireSession.{WireSession, WireUpTo}

-- TCK is 0 behind a load
pub is_low : (bench : Option Live) → IsLoadedBench bench → tck_of bench ≡ false
is_low bench b = ap tck_of b.is ∙ ap (λ (l : Live). l.chip.tck) b.as_loaded.is

pub is_loaded : (bench : Option Live) → IsLoadedBench bench → IfSome bench AsLoaded
is_loaded bench b = subst (λ (o : Option Live). IfSome o AsLoaded) (sym b.is) b.as_loaded

-- ---- the chip of the chain is the bench's

pub chip_on : (bench : Option Live) (s : Beside) (unread : List ℕ) → chip_told (chain_far bench s unread) ≡ far_of bench unread
chip_on None s unread = refl
chip_on (Some l) s unread = refl

pub chip_first : (plan : Plan) (bench : Option Live) → chip_told (planned_far plan bench) ≡ far_of bench []
chip_first plan None = refl
chip_first plan (Some l) = refl

loaded_far : (bench : Option Live) → IfSome bench AsLoaded → IsAsLoaded (far_of bench [])
loaded_far None loaded = tt
loaded_far (Some l) loaded = loaded

read_far : (bench : Option Live) → IsRead (far_of bench [])
read_far None = tt
read_far (Some l) = refl

pub chain_loaded : (plan : Plan) (bench : Option Live) (told : Option ChainFar) → IsLoadedBench bench → told ≡ planned_far plan bench
    → IsAsLoaded (chip_told told)
chain_loaded plan bench told fresh is =
    subst IsAsLoaded (sym (ap chip_told is ∙ chip_first plan bench)) (loaded_far bench (is_loaded bench fresh))

pub chain_read : (plan : Plan) (bench : Option Live) (told : Option ChainFar) → told ≡ planned_far plan bench → IsRead (chip_told told)
chain_read plan bench told is = subst IsRead (sym (ap chip_told is ∙ chip_first plan bench)) (read_far bench)

-- a wire to the chain, seen as one to the bench
abbrev pub at_chain : Option ChainFar → ℕ → WireSeen
at_chain told faults = record { far = chip_told told; coming = nothing_coming; faults = faults }

-- what holds of a wire to the chain before and behind a session holds of one to the bench
as_bench : (P : WireSeen → WireSeen → Type 0) (plan : Plan) (old bench : Option Live) (told : Option ChainFar) (s : Beside) (unread : List ℕ)
    → told ≡ planned_far plan old → P (at_chain told 0) (at_chain (chain_far bench s unread) 0) → P (at_bench old [] 0) (at_bench bench unread 0)
as_bench P plan old bench told s unread first went =
    subst (λ far. P far (at_bench bench unread 0))
    (λ i. record { far = (ap chip_told first ∙ chip_first plan old) i; coming = nothing_coming; faults = 0 })
    (subst (λ far. P (at_chain told 0) far) (λ i. record { far = chip_on bench s unread i; coming = nothing_coming; faults = 0 }) went)

-- a session over a wire to the chain is one over a wire to the bench
pub chain_as_bench : (plan : Plan) (old bench : Option Live) (told : Option ChainFar) (s : Beside) (unread : List ℕ) (script : List Command)
    (was is : SinkSeen) (closed : End) → told ≡ planned_far plan old
    → WireSession script (at_chain told 0) (at_chain (chain_far bench s unread) 0) was is closed
    → WireSession script (at_bench old [] 0) (at_bench bench unread 0) was is closed
chain_as_bench plan old bench told s unread script was is closed first went =
    as_bench (λ before behind. WireSession script before behind was is closed) plan old bench told s unread first went

pub on_chain : (plan : Plan) (old bench : Option Live) (told : Option ChainFar) (s : Beside) (unread : List ℕ) (script : List Command) (was is : SinkSeen)
    (closed : End) → told ≡ planned_far plan old
    → WireSession script (at_chain told 0) (at_chain (chain_far bench s unread) 0) was is closed
    → WireUpTo script (at_chain told 0) (at_chain (chain_far bench s unread) 0) was is closed → EndsInTime (chip_told told) closed
    → IfSome old (λ first. OnBench first script was is bench (limit_met bench) closed)
on_chain plan old bench told s unread script was is closed first went up_to in_time =
    on_bench old bench unread script was is closed (chain_as_bench plan old bench told s unread script was is closed first went)
    (as_bench (λ before behind. WireUpTo script before behind was is closed) plan old bench told s unread first up_to)
    (subst (λ far. EndsInTime far closed) (ap chip_told first ∙ chip_first plan old) in_time)
