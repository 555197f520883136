-- Paths of several operations: deeds before each of them, and deeds behind the last; and where several were cut.
use Rattle.std.proofs.Common.{◌≡◌, ◌∙◌, ℕ, List, [], ◌∷◌, ◌++◌, map, refl, sym, ap, subst, append-nil}
use Rattle.std.proofs.lemmas.List.{map-append}
use Rattle.debug_model.specs.declared.dmi_op.DmiOp.{DmiOp}
use Rattle.debug_model.specs.Course.{DeedsAlone, Happening, OneOperation, Operation, SitePath, performed}
use Rattle.debug_model.specs.Course.SitePath.{nowhere, did, did_operation}
use Rattle.debug_model.specs.Deeds.{Deed, after_deed, ran}
use Rattle.debug_model.specs.Dmi.{AtMostOnce, SiteCut}
use Rattle.debug_model.specs.Dmi.AtMostOnce.{not_sent, in_flight, performed_once, lost_once}
use Rattle.debug_model.specs.Dmi.SiteCut.{unperformed, was_performed}
use Rattle.debug_model.specs.Many.{NextAtMostOnce, op_of}
use Rattle.debug_model.specs.Module.{Site, operated, operation_result}
use Rattle.chip_laws.proofs.PathLemmas.{ran-append}

-- these operations, one after another, each with deeds around it
abbrev pub OperationsAt : List Operation → Site → Site → Type 0
OperationsAt [] s t = t ≡ s
OperationsAt (o ∷ os) s t = (m : Site) × OneOperation o.op o.result s m × OperationsAt os m t

operations_snoc : (os : List Operation) (o : Operation) (s m t : Site) → OperationsAt os s m → OneOperation o.op o.result m t → OperationsAt (os ++ o ∷ []) s t
operations_snoc [] o s m t e one = (t, subst (λ x. OneOperation o.op o.result x t) e one, refl)
operations_snoc (p ∷ os) o s m t r one = (r.0, r.1, operations_snoc os o r.0 m t r.2 one)

-- ---- the end of a path

data PathEnds (os : List Operation) (s t : Site) : Type 0 where
  only_deeds : os ≡ [] → DeedsAlone s t → PathEnds os s t
  ends_in : (front : List Operation) (last : Operation) → os ≡ front ++ last ∷ [] → (m : Site) → OperationsAt front s m → OneOperation last.op last.result m t
      → PathEnds os s t

deed_more : (op : DmiOp) (result : ℕ) (d : Deed) (s t : Site) → OneOperation op result s t → OneOperation op result s (after_deed d t)
unfolding ran
deed_more op result d s t one = record {
  before = one.before;
  behind = one.behind ++ d ∷ [];
  is = ap (λ v. after_deed d v) one.is ∙ sym (ran-append one.behind (d ∷ []) (operated op (ran one.before s)));
  result_is = one.result_is;
}

ends_did : (os : List Operation) (d : Deed) (s t : Site) → PathEnds os s t → PathEnds os s (after_deed d t)
unfolding ran
ends_did os d s t (only_deeds none e) = only_deeds none
    (record { deeds = e.deeds ++ d ∷ []; is = ap (λ v. after_deed d v) e.is ∙ sym (ran-append e.deeds (d ∷ []) s) })
ends_did os d s t (ends_in front last e m at one) = ends_in front last e m at (deed_more last.op last.result d m t one)

ends_operation : (os : List Operation) (op : DmiOp) (s t : Site) → PathEnds os s t
    → PathEnds (os ++ record { op = op; result = operation_result op t } ∷ []) s (operated op t)
unfolding ran
ends_operation os op s t (only_deeds none e) =
    let o : Operation = record { op = op; result = operation_result op t } in
    ends_in [] o (ap (λ xs. xs ++ o ∷ []) none) s refl
    (record { before = e.deeds; behind = []; is = ap (operated op) e.is; result_is = ap (operation_result op) e.is })
ends_operation os op s t (ends_in front last e m at one) =
    ends_in os (record { op = op; result = operation_result op t }) refl t
    (subst (λ xs. OperationsAt xs s t) (sym e) (operations_snoc front last s m t at one)) (record { before = []; behind = []; is = refl; result_is = refl })

path_ends : (s t : Site) (os : List Operation) → SitePath s os t → PathEnds os s t
unfolding ran
path_ends s t os nowhere = only_deeds refl (record { deeds = []; is = refl })
path_ends s t os (did d before u p) = ends_did before d s u (path_ends s u before p)
path_ends s t os (did_operation op before u p) = ends_operation before op s u (path_ends s u before p)

-- a path of some operations is each of them between deeds
operations_ended : (o : Operation) (os : List Operation) (s t : Site) → PathEnds (o ∷ os) s t → OperationsAt (o ∷ os) s t
operations_ended o os s t (only_deeds none d) = absurd (let no : ⊥ = cc in no)
operations_ended o os s t (ends_in front last e m at one) = subst (λ xs. OperationsAt xs s t) (sym e) (operations_snoc front last s m t at one)

pub operations_between_deeds : (o : Operation) (os : List Operation) (s t : Site) → SitePath s (o ∷ os) t → OperationsAt (o ∷ os) s t
operations_between_deeds o os s t p = operations_ended o os s t (path_ends s t (o ∷ os) p)

-- ---- where several were cut

-- these were performed, and then the next at most once
pub record StoppedAt (ops : List DmiOp) (s t : Site) : Type 0 where
  pub done : List Operation
  pub op : DmiOp
  pub left : List DmiOp
  pub asked : map op_of done ++ op ∷ left ≡ ops
  pub mid : Site
  pub before : OperationsAt done s mid
  pub cut : SiteCut op mid t

record SameEnds (xs ys : List Operation) (x y : Operation) : Type 0 where
  front : xs ≡ ys
  last : x ≡ y

same_ends : (xs ys : List Operation) (x y : Operation) → xs ++ x ∷ [] ≡ ys ++ y ∷ [] → SameEnds xs ys x y
same_ends [] [] x y e = record { front = refl; last = cc }
same_ends [] (b ∷ []) x y e = absurd (let no : ⊥ = cc in no)
same_ends [] (b ∷ c ∷ ys) x y e = absurd (let no : ⊥ = cc in no)
same_ends (a ∷ []) [] x y e = absurd (let no : ⊥ = cc in no)
same_ends (a ∷ c ∷ xs) [] x y e = absurd (let no : ⊥ = cc in no)
same_ends (a ∷ xs) (b ∷ ys) x y e =
    let tails : xs ++ x ∷ [] ≡ ys ++ y ∷ [] = cc in
    let heads : a ≡ b = cc in
    let s = same_ends xs ys x y tails in
    let fronts : xs ≡ ys = s.front in
    record { front = cc; last = s.last }

-- the next was not performed
unfinished : (ops : List DmiOp) (done : List Operation) (op : DmiOp) (left : List DmiOp) (s t : Site) → map op_of done ++ op ∷ left ≡ ops → PathEnds done s t
    → StoppedAt ops s t
unfolding ran
unfinished ops done op left s t asked (only_deeds none d) =
    record { done = done; op = op; left = left; asked = asked; mid = s; before = subst (λ xs. OperationsAt xs s s) (sym none) refl; cut = unperformed d }
unfinished ops done op left s t asked (ends_in front last e m at one) =
    record {
      done = done;
      op = op;
      left = left;
      asked = asked;
      mid = t;
      before =
          subst (λ xs. OperationsAt xs s t) (sym e) (operations_snoc front last s m t at one);
      cut = unperformed (record { deeds = []; is = refl });
    }

-- it was
finished : (ops : List DmiOp) (done : List Operation) (o : Operation) (left : List DmiOp) (s t : Site) → map op_of done ++ o.op ∷ left ≡ ops
    → PathEnds (done ++ o ∷ []) s t → StoppedAt ops s t
finished ops [] o left s t asked (only_deeds none d) = absurd (let no : ⊥ = cc in no)
finished ops (p ∷ done) o left s t asked (only_deeds none d) = absurd (let no : ⊥ = cc in no)
finished ops done o left s t asked (ends_in front last e m at one) =
    let ends = same_ends done front o last e in
    record {
      done = done;
      op = o.op;
      left = left;
      asked = asked;
      mid = m;
      before = subst (λ xs. OperationsAt xs s m) (sym ends.front) at;
      cut = was_performed o.result (subst (λ (x : Operation). OneOperation x.op x.result m t) (sym ends.last) one);
    }

-- all were, and the last result did not come
all_finished : (op : DmiOp) (ops : List DmiOp) (done : List Operation) (s t : Site) → map op_of done ≡ op ∷ ops → PathEnds done s t → StoppedAt (op ∷ ops) s t
all_finished op ops done s t asked (only_deeds none d) = absurd (let no : ⊥ = cc in no)
all_finished op ops done s t asked (ends_in front last e m at one) = record {
  done = front;
  op = last.op;
  left = [];
  asked = sym (map-append op_of front (last ∷ [])) ∙ ap (map op_of) (sym e) ∙ asked;
  mid = m;
  before = at;
  cut = was_performed last.result one;
}

none_more : (done : List Operation) (s t : Site) → SitePath s (done ++ []) t → PathEnds done s t
none_more done s t p = path_ends s t done (subst (λ os. SitePath s os t) (append-nil done) p)

next_stopped : (ops : List DmiOp) (done : List Operation) (next : DmiOp) (left : List DmiOp) (happened : List Happening) (s t : Site)
    → map op_of done ++ next ∷ left ≡ ops → AtMostOnce next happened → SitePath s (done ++ performed happened) t
    → StoppedAt ops s t
next_stopped ops done next left happened s t asked not_sent p = unfinished ops done next left s t asked (none_more done s t p)
next_stopped ops done next left happened s t asked in_flight p = unfinished ops done next left s t asked (none_more done s t p)
next_stopped ops done next left happened s t asked (performed_once result) p =
    finished ops done (record { op = next; result = result }) left s t asked (path_ends s t (done ++ record { op = next; result = result } ∷ []) p)
next_stopped ops done next left happened s t asked lost_once p = unfinished ops done next left s t asked (none_more done s t p)

pub stopped_at : (op : DmiOp) (ops : List DmiOp) (done : List Operation) (left : List DmiOp) (happened : List Happening) (s t : Site)
    → map op_of done ++ left ≡ op ∷ ops → NextAtMostOnce left happened → SitePath s (done ++ performed happened) t
    → StoppedAt (op ∷ ops) s t
stopped_at op ops done [] happened s t asked once p =
    all_finished op ops done s t (sym (append-nil (map op_of done)) ∙ asked) (none_more done s t (subst (λ hs. SitePath s (done ++ performed hs) t) once p))
stopped_at op ops done (next ∷ left) happened s t asked once p = next_stopped (op ∷ ops) done next left happened s t asked once p
