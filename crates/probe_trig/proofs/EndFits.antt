-- Where in the ending of a step each of its parts stands.
use Rattle.std.proofs.Common.{◌≡◌, ◌++◌, ℕ, Bool, List, [], ◌∷◌, refl, ap, append-nil}
use Rattle.probe_run.specs.Acts.{Tells}
use Rattle.probe_trig.specs.declared.register.TriggerRegister.TheVariants.{Dcsr}
use Rattle.probe_trig.specs.Runs.{ChangesAny}
use Rattle.probe_trig.specs.Single.{OneGot}
use Rattle.probe_trig.specs.Stepping.{Ends, EndsAny, ending, shows_step}
use Rattle.probe_trig.specs.Transfers.{Did, Made, Transfer}
use Rattle.probe_trig.specs.Transfers.Transfer.{Got}
use Rattle.probe_trig.proofs.Fitting.{changes_any, four_changed}
use Rattle.probe_trig.proofs.TransferLemmas.{Fits, made_then}

ends_any : (executed : Bool) (w : ℕ) (rest ts : List Transfer) → executed ≡ shows_step w → ChangesAny (ending executed) rest → ts ≡ Got Dcsr w ∷ rest
    → EndsAny ts
ends_any executed w rest ts is changes e = (executed, record { word = w; executed_is = is; rest = rest; changes = changes; is = e })

pub ends_word : Fits (OneGot Dcsr) EndsAny []
ends_word ts (w, is) =
    let rest : List Transfer = four_changed (ending (shows_step w)) 0 0 0 0 0 in (
      rest,
      ends_any (shows_step w) w rest (ts ++ rest) refl (changes_any (ending (shows_step w)) 0 0 0 0 0 rest refl)
          (ap (λ (zs : List Transfer). zs ++ rest) is),
    )

pub ends_changes : (executed : Bool) (w : ℕ) → executed ≡ shows_step w → Fits (ChangesAny (ending executed)) EndsAny (Got Dcsr w ∷ [])
ends_changes executed w is ts changes = (
  [],
  ends_any executed w ts (Got Dcsr w ∷ (ts ++ [])) is changes
      (ap (λ (zs : List Transfer). Got Dcsr w ∷ zs) (append-nil ts)),
)

pub ends_did : (executed : Bool) (w h : ℕ) (old mid new : Tells) → executed ≡ shows_step w → Made h old (Got Dcsr w ∷ []) mid
    → Did (ChangesAny (ending executed)) h mid new → Did (Ends executed) h old new
ends_did executed w h old mid new is m d = record {
  transfers = Got Dcsr w ∷ d.transfers;
  whole = record { word = w; executed_is = is; rest = d.transfers; changes = d.whole; is = refl };
  made = made_then h (Got Dcsr w ∷ []) d.transfers old mid new m d.made;
}
