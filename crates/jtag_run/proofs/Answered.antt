-- What holds of the fault that a call answers.
use Rattle.std.proofs.Common.{◌≡◌, Result, Ok, Err, IfErr, OnErr, sym, subst}
use Rattle.std.specs.Prelude.{IsErrAnd}

pub if_err : {T E : Type 0} (P : E → Type 0) (fault : E) (result : Result T E) → IsErrAnd result (λ e. e ≡ fault) → P fault → IfErr result P
if_err P fault (Ok x) is holds = tt
if_err P fault (Err e) is holds = subst P (sym is) holds

pub wrote_by : {T E : Type 0} (P : Type 0) (result : Result T E) → P → OnErr result P
wrote_by P (Ok x) holds = tt
wrote_by P (Err e) holds = holds
