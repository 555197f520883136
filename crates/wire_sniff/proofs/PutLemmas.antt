-- Pieces that a sink takes one after another, and where one of them fails.
use Rattle.std.proofs.Common.{◌≡◌, ◌∙◌, ℕ, List, [], ◌∷◌, ◌++◌, Option, Some, None, ap, subst, refl, append_assoc, append-nil, sym, Result, Ok, Err, OnOk}
use Rattle.std.proofs.Common.{OnErr}
use Rattle.jt_base.specs.Sink.{grown, GrewByPrefix}
use Rattle.debug_model.specs.Signs.{sign_of}
use Rattle.wire_sniff.specs.Sniffed.{SniffedLine, Sniffer, sign_lines}
use Rattle.wire_sniff.specs.SniffedText.{text_of, text_of_all}

pub grown_twice : (xs ys : List ℕ) (held between new : Option (List ℕ)) → between ≡ grown xs held → new ≡ grown ys between → new ≡ grown (xs ++ ys) held
grown_twice xs ys held between new first second = second ∙ ap (grown ys) first ∙ joined held where
  joined : (was : Option (List ℕ)) → grown ys (grown xs was) ≡ grown (xs ++ ys) was
  joined None = refl
  joined (Some bytes) = ap Some (append_assoc bytes xs ys)

pub first_failed : (xs ys : List ℕ) (held new : Option (List ℕ)) → GrewByPrefix xs held new → GrewByPrefix (xs ++ ys) held new
first_failed xs ys None new g = g
first_failed xs ys (Some bytes) new g = record {
  front = g.front;
  back = g.back ++ ys;
  cut = ap (λ part. part ++ ys) g.cut ∙ append_assoc g.front g.back ys;
  is = g.is;
}

failed_behind : (xs ys : List ℕ) (held new : Option (List ℕ)) → GrewByPrefix ys (grown xs held) new → GrewByPrefix (xs ++ ys) held new
failed_behind xs ys None new g = g
failed_behind xs ys (Some bytes) new g = record {
  front = xs ++ g.front;
  back = g.back;
  cut = ap (λ part. xs ++ part) g.cut ∙ sym (append_assoc xs g.front g.back);
  is = g.is ∙ ap Some (append_assoc bytes xs g.front);
}

pub second_failed : (xs ys : List ℕ) (held between new : Option (List ℕ)) → between ≡ grown xs held → GrewByPrefix ys between new
    → GrewByPrefix (xs ++ ys) held new
second_failed xs ys held between new is g = failed_behind xs ys held new (subst (λ was. GrewByPrefix ys was new) is g)

pub grown_none : (held : Option (List ℕ)) → held ≡ grown [] held
grown_none None = refl
grown_none (Some bytes) = ap Some (sym (append-nil bytes))

-- ---- the text of lines

pub text-none : text_of_all [] ≡ []
unfolding text_of_all
text-none = refl

pub text-more : (line : SniffedLine) (lines : List SniffedLine) → text_of_all (line ∷ lines) ≡ text_of line ++ text_of_all lines
unfolding text_of_all
text-more line lines = refl

pub text-one : (line : SniffedLine) → text_of_all (line ∷ []) ≡ text_of line
unfolding text_of_all
text-one line = append-nil (text_of line)

pub text-append : (xs ys : List SniffedLine) → text_of_all (xs ++ ys) ≡ text_of_all xs ++ text_of_all ys
unfolding text_of_all
text-append [] ys = refl
text-append (x ∷ xs) ys = ap (λ rest. text_of x ++ rest) (text-append xs ys) ∙ sym (append_assoc (text_of x) (text_of_all xs) (text_of_all ys))

-- ---- by what a call answered

pub ok_maps : {T E : Type 0} (r : Result T E) (P Q : Type 0) → (P → Q) → OnOk r P → OnOk r Q
ok_maps (Ok x) P Q f p = f p
ok_maps (Err e) P Q f p = tt

pub err_maps : {T E : Type 0} (r : Result T E) (P Q : Type 0) → (P → Q) → OnErr r P → OnErr r Q
err_maps (Ok x) P Q f p = tt
err_maps (Err e) P Q f p = f p

pub err_anyway : {T E : Type 0} (r : Result T E) (P : Type 0) → P → OnErr r P
err_anyway (Ok x) P p = tt
err_anyway (Err e) P p = p

-- a byte that is no sign shows nothing
pub shows_nothing : (byte : ℕ) (s : Sniffer) (held : Option (List ℕ)) → sign_of byte ≡ None → held ≡ grown (text_of_all (sign_lines (sign_of byte) s)) held
shows_nothing byte s held none = rw (ap (λ sign. text_of_all (sign_lines sign s)) none ∙ text-none) (grown_none held)
