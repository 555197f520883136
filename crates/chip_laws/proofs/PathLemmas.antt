-- Paths of a chip as what stands behind its transport sees them, and paths of one operation or none.
use Rattle.std.proofs.Common.{◌≡◌, ◌∙◌, List, [], ◌∷◌, ◌++◌, Option, Some, None, refl, sym, ap, subst, append_assoc, append-nil}
use Rattle.std.proofs.Common.{Bool, slice_index_or, drop}
use Rattle.jt_base.specs.BitList.{number_of}
use Rattle.debug_model.specs.declared.data_register.DataRegister.{DataRegister}
use Rattle.debug_model.specs.declared.data_register.DataRegister.TheVariants as register
use Rattle.debug_model.specs.declared.sticky.Sticky.{Sticky}
use Rattle.debug_model.specs.declared.sticky.Sticky.TheVariants.{Clear, Failed, Busy}
use Rattle.debug_model.specs.Transport.{Dtm, operation_of}
use Rattle.debug_model.specs.TransportWords.{dmi_of}
use Rattle.debug_model.specs.declared.dmi_op.DmiOp.{DmiOp}
use Rattle.debug_model.specs.declared.event.Event.{Event}
use Rattle.debug_model.specs.declared.event.Event.TheVariants.{Turn, DmiDone, DmiFail, CmdStep, BusDone}
use Rattle.debug_model.specs.Course.{Course, DeedsAlone, Happening, OneOperation, Operation, SitePath, in_event, in_events, in_round, in_update}
use Rattle.debug_model.specs.Course.{launches_by, loses, performed, performed_in, performs}
use Rattle.debug_model.specs.Course.Course.{nothing, round, captured, updated}
use Rattle.debug_model.specs.Course.SitePath.{nowhere, did, did_operation}
use Rattle.debug_model.specs.Deeds.{Deed, after_deed, ran}
use Rattle.debug_model.specs.Deeds.Deed.{Turned, CommandStepped, BusStepped}
use Rattle.debug_model.specs.Module.{Site, operated, operation_result}
use Rattle.debug_model.specs.Chip.{Inside, Works, after_event, after_events, counted, performed_by, lost_by, tick}
use Rattle.debug_model.specs.Scan.{dtm_of}
use Rattle.debug_model.specs.Schedule.{round_of}

-- ---- happenings

performed-append : (xs ys : List Happening) → performed (xs ++ ys) ≡ performed xs ++ performed ys
performed-append [] ys = refl
performed-append (x ∷ xs) ys =
    ap (λ rest. performed_in x ++ rest) (performed-append xs ys) ∙ sym (append_assoc (performed_in x) (performed xs) (performed ys))

-- ---- one event, some events, one round

by_flight : (s : Site) (os : List Operation) (w : Works) (flight : Option DmiOp) → SitePath s os w.site
    → SitePath s (os ++ performed (performs flight w.site)) (performed_by flight w).site
by_flight s os w (Some op) p = did_operation op os w.site p
by_flight s os w None p = subst (λ xs. SitePath s xs w.site) (sym (append-nil os)) p

by_loss : (s : Site) (os : List Operation) (w : Works) (flight : Option DmiOp) → SitePath s os w.site
    → SitePath s (os ++ performed (loses flight)) (lost_by flight w).site
by_loss s os w (Some op) p = subst (λ xs. SitePath s xs w.site) (sym (append-nil os)) p
by_loss s os w None p = subst (λ xs. SitePath s xs w.site) (sym (append-nil os)) p

event_path : (s : Site) (os : List Operation) (e : Event) (w : Works) → SitePath s os w.site
    → SitePath s (os ++ performed (in_event e w)) (after_event e w).site
unfolding after_event after_deed
event_path s os (Turn h) w p = subst (λ xs. SitePath s xs (after_event (Turn h) w).site) (sym (append-nil os)) (did (Turned h) os w.site p)
event_path s os DmiDone w p = by_flight s os w w.dtm.flight p
event_path s os DmiFail w p = by_loss s os w w.dtm.flight p
event_path s os CmdStep w p = subst (λ xs. SitePath s xs (after_event CmdStep w).site) (sym (append-nil os)) (did CommandStepped os w.site p)
event_path s os BusDone w p = subst (λ xs. SitePath s xs (after_event BusDone w).site) (sym (append-nil os)) (did BusStepped os w.site p)

events_path : (s : Site) (os : List Operation) (es : List Event) (w : Works) → SitePath s os w.site
    → SitePath s (os ++ performed (in_events es w)) (after_events es w).site
unfolding after_events in_events
events_path s os [] w p = subst (λ xs. SitePath s xs w.site) (sym (append-nil os)) p
events_path s os (e ∷ es) w p =
    subst (λ xs. SitePath s xs (after_events es (after_event e w)).site)
    (append_assoc os (performed (in_event e w)) (performed (in_events es (after_event e w)))
    ∙ ap (λ xs. os ++ xs) (sym (performed-append (in_event e w) (in_events es (after_event e w)))))
    (events_path s (os ++ performed (in_event e w)) es (after_event e w) (event_path s os e w p))

-- ---- the whole path

joined : (s t : Site) (hs ks : List Happening) → SitePath s (performed hs ++ performed ks) t → SitePath s (performed (hs ++ ks)) t
joined s t hs ks p = subst (λ xs. SitePath s xs t) (sym (performed-append hs ks)) p

none_performed : (i : Inside) (j : Inside) (hs ks : List Happening) → performed ks ≡ [] → SitePath i.works.site (performed hs) j.works.site
    → SitePath i.works.site (performed (hs ++ ks)) j.works.site
none_performed i j hs ks none p =
    joined i.works.site j.works.site hs ks (subst (λ xs. SitePath i.works.site xs j.works.site)
    (sym (append-nil (performed hs)) ∙ ap (λ xs. performed hs ++ xs) (sym none)) p)

launches_perform_nothing : (s : Sticky) (op : Option DmiOp) → performed (launches_by s op) ≡ []
launches_perform_nothing Clear (Some op) = refl
launches_perform_nothing Clear None = refl
launches_perform_nothing Failed op = refl
launches_perform_nothing Busy op = refl

updates_perform_nothing : (r : DataRegister) (bits : List Bool) (d : Dtm) → performed (in_update r bits d) ≡ []
updates_perform_nothing register.Dmi bits d = launches_perform_nothing d.sticky (operation_of (dmi_of (number_of bits)))
updates_perform_nothing register.Dtmcs bits d = refl
updates_perform_nothing register.Idcode bits d = refl
updates_perform_nothing register.Bypass bits d = refl

pub site_path : (i j : Inside) (hs : List Happening) → Course i hs j → SitePath i.works.site (performed hs) j.works.site
unfolding tick
site_path i j hs nothing = nowhere
site_path i j hs (round before k c) =
    joined i.works.site (tick k).works.site before (in_round k)
    (events_path i.works.site (performed before) (round_of k.plan) (counted k.works) (site_path i k before c))
site_path i j hs (captured r before k c) = site_path i k before c
site_path i j hs (updated r bits before k c) =
    none_performed i k before (in_update r bits (dtm_of k)) (updates_perform_nothing r bits (dtm_of k)) (site_path i k before c)

-- ---- no operation, and one

pub ran-append : (ds es : List Deed) (s : Site) → ran (ds ++ es) s ≡ ran es (ran ds s)
unfolding ran
ran-append [] es s = refl
ran-append (d ∷ ds) es s = ran-append ds es (after_deed d s)

-- a list that ends in something is not empty
snoc_some : {A B : Type 0} (xs : List A) (x : A) → xs ++ x ∷ [] ≡ [] → B
snoc_some [] x e = absurd (let none : ⊥ = cc in none)
snoc_some (y ∷ xs) x e = absurd (let none : ⊥ = cc in none)

no_operation : (s t : Site) (os : List Operation) → SitePath s os t → os ≡ [] → DeedsAlone s t
unfolding ran
no_operation s t os nowhere none = record { deeds = []; is = refl }
no_operation s t os (did d before u p) none =
    let earlier : DeedsAlone s u = no_operation s u before p none in
    record { deeds = earlier.deeds ++ d ∷ []; is = ap (λ v. after_deed d v) earlier.is ∙ sym (ran-append earlier.deeds (d ∷ []) s) }
no_operation s t os (did_operation op before u p) none = snoc_some before (record { op = op; result = operation_result op u }) none

pub no_operation_is_deeds : (s t : Site) → SitePath s [] t → DeedsAlone s t
no_operation_is_deeds s t p = no_operation s t [] p refl

-- a list of one thing that ends in something ends in it
record SnocOne {A : Type 0} (xs : List A) (x y : A) : Type 0 where
  none : xs ≡ []
  same : x ≡ y

snoc_one : {A : Type 0} (xs : List A) (x y : A) → xs ++ x ∷ [] ≡ y ∷ [] → SnocOne xs x y
snoc_one [] x y is = record { none = refl; same = ap (λ zs. slice_index_or zs 0 x) is }
snoc_one (z ∷ xs) x y is = snoc_some xs x (ap (λ zs. drop 1 zs) is)

one_operation : (s t : Site) (os : List Operation) (o : Operation) → SitePath s os t → os ≡ o ∷ [] → OneOperation o.op o.result s t
unfolding ran
one_operation s t os o nowhere e = absurd (let none : ⊥ = cc in none)
one_operation s t os o (did d before u p) is =
    let earlier : OneOperation o.op o.result s u = one_operation s u before o p is in
    record {
      before = earlier.before;
      behind = earlier.behind ++ d ∷ [];
      is = ap (λ v. after_deed d v) earlier.is ∙ sym (ran-append earlier.behind (d ∷ []) (operated o.op (ran earlier.before s)));
      result_is = earlier.result_is;
    }
one_operation s t os o (did_operation op before u p) is =
    let split : SnocOne before (record { op = op; result = operation_result op u }) o =
    snoc_one before (record { op = op; result = operation_result op u }) o is in
    let earlier : DeedsAlone s u = no_operation s u before p split.none in
    subst (λ (x : Operation). OneOperation x.op x.result s (operated op u)) split.same
    (record { before = earlier.deeds; behind = []; is = ap (λ v. operated op v) earlier.is; result_is = ap (λ v. operation_result op v) earlier.is })

pub one_operation_between_deeds : (s t : Site) (o : Operation) → SitePath s (o ∷ []) t → OneOperation o.op o.result s t
one_operation_between_deeds s t o p = one_operation s t (o ∷ []) o p refl
