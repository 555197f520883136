-- What a reading of several steps gives.
use Rattle.std.proofs.Common.{◌≡◌, ◌∙◌, Bool, true, false, cond, Option, Some, None, Result, Ok, Err, refl, sym, ap, subst}
use Rattle.std.specs.Borrow.{Bor}
use Rattle.std.specs.Prelude.{IsErrAnd, is_some}
use Rattle.command_line.specs.Job.{Fails, Gives, Text}
use Rattle.command_line.specs.WrittenJob.{text_of}
use Rattle.command_line.specs.Numbers.{◌>>=◌}
use Rattle.command_line.specs.declared.fault.WordsFault.{WordsFault}
use Rattle.command_line.specs.declared.fault.WordsFault.TheVariants.{Refused, NoMemory}

err_gives : {Y Z : Type 0} (e : WordsFault) (said : Option Y) (f : Y → Option Z) → Fails e said → Fails e (said >>= f)
err_gives Refused said f none = ap (λ o. o >>= f) none
err_gives NoMemory said f none = tt

-- the whole fails as its first step does
pub gives_err : {X Y Z : Type 0} (w : X → Z) (r : Result X WordsFault) (e : WordsFault) (said : Option Y) (f : Y → Option Z)
    → Fails e said → IsErrAnd r (λ y. y ≡ e) → Gives w r (said >>= f)
gives_err w (Ok x) e said f h is = absurd is
gives_err w (Err y) e said f h is = subst (λ (z : WordsFault). Fails z (said >>= f)) (sym is) (err_gives e said f h)

-- want of memory may stand for anything
pub gives_memory : {X Y : Type 0} (w : X → Y) (r : Result X WordsFault) (said : Option Y) → IsErrAnd r (λ y. y ≡ NoMemory) → Gives w r said
gives_memory w (Ok x) said is = absurd is
gives_memory w (Err y) said is = subst (λ (z : WordsFault). Fails z said) (sym is) tt

-- a refusal
pub gives_refused : {X Y : Type 0} (w : X → Y) (r : Result X WordsFault) (said : Option Y) → IsErrAnd r (λ y. y ≡ Refused) → said ≡ None → Gives w r said
gives_refused w (Ok x) said is none = absurd is
gives_refused w (Err y) said is none = subst (λ (z : WordsFault). Fails z said) (sym is) none

-- after a first step the rest decides
pub gives_then : {X Y Z : Type 0} (w : X → Z) (r : Result X WordsFault) (said : Option Y) (x : Y) (f : Y → Option Z)
    → said ≡ Some x → Gives w r (f x) → Gives w r (said >>= f)
gives_then w r said x f is rest = subst (λ (o : Option _). Gives w r (o >>= f)) (sym is) rest

pub gives_at : {X Y : Type 0} (w : X → Y) (r : Result X WordsFault) (said other : Option Y) → said ≡ other → Gives w r said → Gives w r other
gives_at w r said other is h = subst (Gives w r) is h

-- what is read only where something holds
pub gives_where : {X Y : Type 0} (w : X → Y) (r : Result X WordsFault) (holds : Bool) (said : Option Y) → holds ≡ true → Gives w r said
    → Gives w r (cond holds said None)
gives_where w r holds said is h = subst (λ (b : Bool). Gives w r (cond b said None)) (sym is) h

pub gives_unless : {X Y : Type 0} (w : X → Y) (r : Result X WordsFault) (holds : Bool) (said : Option Y) → holds ≡ false → Gives w r said
    → Gives w r (cond holds None said)
gives_unless w r holds said is h = subst (λ (b : Bool). Gives w r (cond b None said)) (sym is) h

-- ---- options that were looked for

is_some_text : (o : Option (Bor Text)) → is_some (text_of o) ≡ is_some o
is_some_text None = refl
is_some_text (Some text) = refl

-- an option that was looked for was given, or was not
pub looked_for : (o : Option (Bor Text)) (said : Option Text) (b c : Bool) → text_of o ≡ said → b ≡ is_some o → b ≡ c → is_some said ≡ c
looked_for o said b c is answered was = sym (ap is_some is) ∙ is_some_text o ∙ sym answered ∙ was

-- what is read only where something holds, or does not

pub if_so : {A : Type 0} (holds : Bool) (said : Option A) → holds ≡ true → cond holds said None ≡ said
if_so holds said so = ap (λ (b : Bool). cond b said None) so

pub unless_so : {A : Type 0} (holds : Bool) (said : Option A) → holds ≡ false → cond holds said None ≡ None
unless_so holds said so = ap (λ (b : Bool). cond b said None) so

pub if_given : {A : Type 0} (given : Bool) (said : Option A) → given ≡ true → cond given None said ≡ None
if_given given said so = ap (λ (b : Bool). cond b None said) so

pub unless_given : {A : Type 0} (given : Bool) (said : Option A) → given ≡ false → cond given None said ≡ said
unless_given given said so = ap (λ (b : Bool). cond b None said) so
