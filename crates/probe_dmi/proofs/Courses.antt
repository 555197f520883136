-- Paths laid end to end, and what was performed on one of whole operations.
use Rattle.std.proofs.Common.{◌≡◌, ◌∙◌, ℕ, List, [], ◌∷◌, ◌++◌, map, refl, sym, ap, subst, append_assoc, append-nil}
use Rattle.std.proofs.lemmas.List.{map-append}
use Rattle.debug_model.specs.declared.dmi_op.DmiOp.{DmiOp}
use Rattle.debug_model.specs.Chip.{Inside, tick}
use Rattle.debug_model.specs.Course.{Course, Happening, Operation, each_once, in_round, in_update, performed}
use Rattle.debug_model.specs.Course.Course.{nothing, round, captured, updated}
use Rattle.debug_model.specs.Course.Happening.{Launched, Performed}
use Rattle.debug_model.specs.Many.{op_of}
use Rattle.debug_model.specs.Scan.{dtm_of, update}

pub course_append : (i j k : Inside) (hs ks : List Happening) → Course i hs j → Course j ks k → Course i (hs ++ ks) k
course_append i j k hs ks c nothing = subst (λ xs. Course i xs j) (sym (append-nil hs)) c
course_append i j k hs ks c (round before m d) =
    subst (λ xs. Course i xs (tick m)) (append_assoc hs before (in_round m)) (round (hs ++ before) m (course_append i j m hs before c d))
course_append i j k hs ks c (captured r before m d) = captured r (hs ++ before) m (course_append i j m hs before c d)
course_append i j k hs ks c (updated r bits before m d) =
    subst (λ xs. Course i xs (update r bits m)) (append_assoc hs before (in_update r bits (dtm_of m)))
    (updated r bits (hs ++ before) m (course_append i j m hs before c d))

each_once-append : (xs ys : List Operation) → each_once (xs ++ ys) ≡ each_once xs ++ each_once ys
each_once-append [] ys = refl
each_once-append (x ∷ xs) ys = ap (λ hs. Launched x.op ∷ Performed x.op x.result ∷ hs) (each_once-append xs ys)

pub performed-each : (os : List Operation) (hs : List Happening) → performed (each_once os ++ hs) ≡ os ++ performed hs
performed-each [] hs = refl
performed-each (o ∷ os) hs = ap (λ xs. o ∷ xs) (performed-each os hs)

-- all of them, and nothing else
pub performed-all : (os : List Operation) → performed (each_once os) ≡ os
performed-all [] = refl
performed-all (o ∷ os) = ap (λ xs. o ∷ xs) (performed-all os)

abbrev pub with_result : DmiOp → ℕ → Operation
with_result op result = record { op = op; result = result }

-- one more behind those that were done
pub one_more : (i base n : Inside) (done : List Operation) (op : DmiOp) (result : ℕ) → Course i (each_once done) base
    → Course base (Launched op ∷ Performed op result ∷ []) n → Course i (each_once (done ++ with_result op result ∷ [])) n
one_more i base n done op result c d = subst (λ hs. Course i hs n) (sym (each_once-append done (with_result op result ∷ [])))
    (course_append i base n (each_once done) (Launched op ∷ Performed op result ∷ []) c d)

pub one_more_asked : (done : List Operation) (op : DmiOp) (result : ℕ) (left ops : List DmiOp) → map op_of done ++ op ∷ left ≡ ops
    → map op_of (done ++ with_result op result ∷ []) ++ left ≡ ops
one_more_asked done op result left ops asked =
    ap (λ xs. xs ++ left) (map-append op_of done (with_result op result ∷ [])) ∙ append_assoc (map op_of done) (op ∷ []) left ∙ asked
