-- A net that tells no chip tells none behind a call of a wire over it.
use Rattle.std.proofs.Common.{◌≡◌, ℕ, List, Option, Some, None, option_map, is_none, refl, subst, sym, IsTrue, IfSome, true≢false}
use Rattle.std.proofs.Common.{Result, Ok, Err}
use Rattle.std.specs.Prelude.{IfErr, OnErr, OnOk}
use Rattle.debug_model.specs.declared.wire.WireFault.{WireFault}
use Rattle.debug_model.specs.Told.{Far, IsOpen, IsRead}
use Rattle.debug_model.specs.Wire.{ReadsFront, ReadsSome, RecvCause, SendCause, SentFront, sent}

none_is : (told : Option Far) → IsTrue (is_none told) → told ≡ None
none_is None untold = refl
none_is (Some f) untold = absurd (true≢false (sym untold))

pub none_from : (told : Option Far) → told ≡ None → IsTrue (is_none told)
none_from told is = subst (λ (o : Option Far). IsTrue (is_none o)) (sym is) refl

pub untold_open : (told : Option Far) → IsTrue (is_none told) → IsOpen told
untold_open None untold = tt
untold_open (Some f) untold = absurd (true≢false (sym untold))

pub untold_read : (told : Option Far) → IsTrue (is_none told) → IsRead told
untold_read None untold = tt
untold_read (Some f) untold = absurd (true≢false (sym untold))

pub untold_waiting : (P : Far → Type 0) (told : Option Far) → IsTrue (is_none told) → IfSome told P
untold_waiting P None untold = tt
untold_waiting P (Some f) untold = absurd (true≢false (sym untold))

-- behind a call

pub sent_untold : {T : Type 0} (r : Result T WireFault) (bytes : List ℕ) (old new : Option Far) → IsTrue (is_none old)
    → OnOk r (new ≡ option_map (sent bytes) old) → OnErr r (SentFront bytes old new) → IsTrue (is_none new)
sent_untold (Ok x) bytes None new untold ok err = none_from new ok
sent_untold (Err why) bytes None new untold ok err = none_from new err
sent_untold r bytes (Some f) new untold ok err = absurd (true≢false (sym untold))

pub read_untold : {T : Type 0} (r : Result T WireFault) (into : List ℕ) (old new : Option Far) → IsTrue (is_none old)
    → OnOk r (ReadsFront into old new) → OnErr r (ReadsSome into old new) → IsTrue (is_none new)
read_untold (Ok x) into None new untold ok err = none_from new ok
read_untold (Err why) into None new untold ok err = none_from new err
read_untold r into (Some f) new untold ok err = absurd (true≢false (sym untold))

pub send_cause : {T : Type 0} (r : Result T WireFault) (a b : ℕ) (told : Option Far) → IsTrue (is_none told) → IfErr r (SendCause a b told)
    → IfErr r (SendCause a b None)
send_cause r a b told untold cause = subst (λ (o : Option Far). IfErr r (SendCause a b o)) (none_is told untold) cause

pub recv_cause : {T : Type 0} (r : Result T WireFault) (a b : ℕ) (told : Option Far) → IsTrue (is_none told) → IfErr r (RecvCause a b told)
    → IfErr r (RecvCause a b None)
recv_cause r a b told untold cause = subst (λ (o : Option Far). IfErr r (RecvCause a b o)) (none_is told untold) cause
