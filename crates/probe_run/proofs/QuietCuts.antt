-- Several operations in one call, each of which notes nothing and leaves no command and no access under way: what a fault in their course leaves are turns.
use Rattle.std.proofs.Common.{◌≡◌, ◌++◌, List, [], ◌∷◌, map, subst}
use Rattle.chip_laws.proofs.SeveralOperations.{OperationsAt}
use Rattle.debug_model.specs.declared.dmi_op.DmiOp.{DmiOp}
use Rattle.debug_model.specs.Course.{Operation}
use Rattle.debug_model.specs.Dmi.{SiteCut}
use Rattle.debug_model.specs.Many.{op_of}
use Rattle.debug_model.specs.Module.{DebugModule, Site}
use Rattle.abstract_debugger.specs.Stands.{WentOn}
use Rattle.probe_run.specs.Happens.{target_of}
use Rattle.probe_run.proofs.Fresh.{Fresh, QuietUnit, Turns, cut_went, went, went_on}
use Rattle.probe_run.proofs.Looking.{turns_went}

pub data Quietly : List DmiOp → DebugModule → Type 0 where
  done : (u : DebugModule) → QuietUnit u → Quietly [] u
  goes : (op : DmiOp) (ops : List DmiOp) (u v : DebugModule) → QuietUnit u → Turns op u v [] → Quietly ops v → Quietly (op ∷ ops) u

quiet_at : (ops : List DmiOp) (u : DebugModule) → Quietly ops u → QuietUnit u
quiet_at ops u (done w q) = q
quiet_at ops u (goes op more w v q leads rest) = q

pub stopped_went : (before : List Operation) (op : DmiOp) (left ops : List DmiOp) (u : DebugModule) (s m t : Site) → Quietly ops u → Fresh u s
    → map op_of before ++ op ∷ left ≡ ops → OperationsAt before s m → SiteCut op m t
    → WentOn (target_of s) (target_of t)
stopped_went [] op left ops u s m t (done w q) f e at cut = absurd (let no : ⊥ = cc in no)
stopped_went [] op left ops u s m t (goes first more w v q leads rest) f e at cut =
    let is : first ≡ op = cc in
    cut_went op w v s t q (quiet_at more v rest) (subst (λ x. Turns x w v []) is leads) f (subst (λ x. SiteCut op x t) at cut)
stopped_went (o ∷ os) op left ops u s m t (done w q) f e at cut = absurd (let no : ⊥ = cc in no)
stopped_went (o ∷ os) op left ops u s m t (goes first more w v q leads rest) f e at cut =
    let is : first ≡ o.op = cc in
    let tail : map op_of os ++ op ∷ left ≡ more = cc in
    let one = went o.op o.result w v [] s at.0 q (quiet_at more v rest) (subst (λ x. Turns x w v []) is leads) f at.1 in
    turns_went (target_of s) (target_of at.0) (target_of t) (went_on o.op o.result v s at.0 one)
    (stopped_went os op left more v at.0 m t rest one.fresh tail at.2 cut)
