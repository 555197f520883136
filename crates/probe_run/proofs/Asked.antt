-- A wait behind a request is one stretch of calls.
use Rattle.std.proofs.Common.{◌≡◌, ℕ, Bool, subst}
use Rattle.abstract_debugger.specs.Debugger.{sees_ack}
use Rattle.probe_run.specs.declared.control.Request.{Request}
use Rattle.probe_run.specs.declared.wait.Wanted.{Wanted}
use Rattle.probe_run.specs.declared.wait.Waited.{Waited}
use Rattle.probe_run.specs.declared.wait.Waited.TheVariants.{Shown, Unshown}
use Rattle.probe_run.specs.Acts.{Tells}
use Rattle.probe_run.specs.Looks.{Met, Missed, seen_in, test_of}
use Rattle.probe_run.specs.Outcomes.{AskedAs, asks}

-- by how the wait ended
pub asked_shown : (request : Request) (h : ℕ) (what : Wanted) (old new : Tells) (w : Waited) → w ≡ Shown → AskedAs request h what old new w
    → Met (test_of what) (asks request h) old new
asked_shown request h what old new w is a = subst (λ x. AskedAs request h what old new x) is a

pub asked_unshown : (request : Request) (h : ℕ) (what : Wanted) (old new : Tells) (w : Waited) (acknowledged : Bool) → w ≡ Unshown acknowledged
    → AskedAs request h what old new w
    → (last : ℕ) × Missed (test_of what) last (asks request h) old new × (acknowledged ≡ sees_ack (seen_in last))
asked_unshown request h what old new w acknowledged is a = subst (λ x. AskedAs request h what old new x) is a
