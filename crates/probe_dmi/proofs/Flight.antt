-- What becomes of an operation in flight: rounds perform or lose it once, and leave a transport with nothing in flight as it is.
use Rattle.std.proofs.Common.{◌≡◌, ◌∙◌, ℕ, zero, suc, List, [], ◌∷◌, ◌++◌, true, false, Option, Some, None, unwrap_or, refl, sym, ap, subst, append_assoc}
use Rattle.std.proofs.Common.{append-nil}
use Rattle.debug_model.specs.declared.dmi_op.DmiOp.{DmiOp}
use Rattle.debug_model.specs.declared.data_register.DataRegister.{DataRegister}
use Rattle.debug_model.specs.declared.data_register.DataRegister.TheVariants.{Idcode, Dtmcs, Dmi, Bypass}
use Rattle.debug_model.specs.declared.event.Event.{Event}
use Rattle.debug_model.specs.declared.event.Event.TheVariants.{Turn, DmiDone, DmiFail, CmdStep, BusDone}
use Rattle.debug_model.specs.declared.sticky.Sticky.TheVariants as sticky
use Rattle.debug_model.specs.Chip.{Inside, Works, after_event, after_events, counted, lost_by, performed_by, tick}
use Rattle.debug_model.specs.Course.{Course, Happening, in_event, in_events, in_round, loses, performs}
use Rattle.debug_model.specs.Course.Course.{round, captured}
use Rattle.debug_model.specs.Course.Happening.{Launched, Performed, Lost}
use Rattle.debug_model.specs.Module.{operation_result}
use Rattle.debug_model.specs.Scan.{capture, dtm_of, ticks}
use Rattle.debug_model.specs.Schedule.{round_of}
use Rattle.debug_model.specs.Transport.{Dtm, captured_dtm, dropped_by, finished_by}
use Rattle.chip_laws.proofs.StickyRounds.{tick_sticky}

-- ---- nothing in flight

-- nothing happens, and the transport stays as it is
pub record Quiet (happened : List Happening) (old new : Dtm) : Type 0 where
  pub none : happened ≡ []
  pub same : new ≡ old

done_quiet : (f : Option DmiOp) (w : Works) → f ≡ None → Quiet (performs f w.site) w.dtm (performed_by f w).dtm
done_quiet None w e = record { none = refl; same = refl }
done_quiet (Some op) w e = absurd (let no : ⊥ = cc in no)

lost_quiet : (f : Option DmiOp) (w : Works) → f ≡ None → Quiet (loses f) w.dtm (lost_by f w).dtm
lost_quiet None w e = record { none = refl; same = refl }
lost_quiet (Some op) w e = absurd (let no : ⊥ = cc in no)

pub event_quiet : (e : Event) (w : Works) → w.dtm.flight ≡ None → Quiet (in_event e w) w.dtm (after_event e w).dtm
unfolding after_event
event_quiet (Turn h) w none = record { none = refl; same = refl }
event_quiet DmiDone w none = done_quiet w.dtm.flight w none
event_quiet DmiFail w none = lost_quiet w.dtm.flight w none
event_quiet CmdStep w none = record { none = refl; same = refl }
event_quiet BusDone w none = record { none = refl; same = refl }

pub events_quiet : (es : List Event) (w : Works) → w.dtm.flight ≡ None → Quiet (in_events es w) w.dtm (after_events es w).dtm
unfolding in_events after_events
events_quiet [] w none = record { none = refl; same = refl }
events_quiet (e ∷ es) w none =
    let first = event_quiet e w none in
    let rest = events_quiet es (after_event e w) (ap (λ (d : Dtm). d.flight) first.same ∙ none) in
    record { none = ap (λ xs. xs ++ in_events es (after_event e w)) first.none ∙ rest.none; same = rest.same ∙ first.same }

pub tick_quiet : (j : Inside) → (dtm_of j).flight ≡ None → Quiet (in_round j) (dtm_of j) (dtm_of (tick j))
unfolding tick
tick_quiet j none = events_quiet (round_of j.plan) (counted j.works) none

-- ---- an operation was taken by the transport: it is in flight, or was performed, or was lost

pub data Phase (op : DmiOp) (happened : List Happening) (d : Dtm) : Type 0 where
  flying : happened ≡ Launched op ∷ [] → d.flight ≡ Some op → Phase op happened d
  landed : (result : ℕ) → happened ≡ Launched op ∷ Performed op result ∷ [] → d.flight ≡ None → d.failed ≡ false → d.value ≡ result → Phase op happened d
  missed : happened ≡ Launched op ∷ Lost op ∷ [] → d.flight ≡ None → d.failed ≡ true → Phase op happened d

-- nothing more happened, and the transport is the same
still : (op : DmiOp) (hs ks : List Happening) (d e : Dtm) → ks ≡ [] → e ≡ d → Phase op hs d → Phase op (hs ++ ks) e
still op hs ks d e none same p = subst (λ xs. Phase op xs e) (sym (append-nil hs) ∙ ap (λ xs. hs ++ xs) (sym none)) (subst (Phase op hs) (sym same) p)

-- the same to the operation
pub alike : (op : DmiOp) (hs : List Happening) (d e : Dtm) → e.flight ≡ d.flight → e.failed ≡ d.failed → e.value ≡ d.value → Phase op hs d → Phase op hs e
alike op hs d e f g v (flying h i) = flying h (f ∙ i)
alike op hs d e f g v (landed result h n k w) = landed result h (f ∙ n) (g ∙ k) (v ∙ w)
alike op hs d e f g v (missed h n k) = missed h (f ∙ n) (g ∙ k)

record Finished (result : ℕ) (d : Dtm) : Type 0 where
  flight : d.flight ≡ None
  failed : d.failed ≡ false
  value : d.value ≡ result

finished_some : (f : Option DmiOp) (op : DmiOp) (result : ℕ) (d : Dtm) → f ≡ Some op → Finished result (finished_by f result d)
finished_some (Some o) op result d e = record { flight = refl; failed = refl; value = refl }
finished_some None op result d e = absurd (let no : ⊥ = cc in no)

record Dropped (d : Dtm) : Type 0 where
  flight : d.flight ≡ None
  failed : d.failed ≡ true

dropped_some : (f : Option DmiOp) (op : DmiOp) (d : Dtm) → f ≡ Some op → Dropped (dropped_by f d)
dropped_some (Some o) op d e = record { flight = refl; failed = refl }
dropped_some None op d e = absurd (let no : ⊥ = cc in no)

same_op : (o op : DmiOp) → Some o ≡ Some op → o ≡ op
same_op o op e = ap (λ f. unwrap_or f op) e

done_phase : (op : DmiOp) (hs : List Happening) (w : Works) (f : Option DmiOp) → hs ≡ Launched op ∷ [] → w.dtm.flight ≡ Some op → f ≡ Some op
    → Phase op (hs ++ performs f w.site) (performed_by f w).dtm
done_phase op hs w None h g e = absurd (let no : ⊥ = cc in no)
done_phase op hs w (Some o) h g e =
    let result = operation_result o w.site in
    let d = finished_some w.dtm.flight op result w.dtm g in
    landed result (ap (λ xs. xs ++ Performed o result ∷ []) h ∙ ap (λ x. Launched op ∷ Performed x result ∷ []) (same_op o op e)) d.flight d.failed d.value

lost_phase : (op : DmiOp) (hs : List Happening) (w : Works) (f : Option DmiOp) → hs ≡ Launched op ∷ [] → w.dtm.flight ≡ Some op → f ≡ Some op
    → Phase op (hs ++ loses f) (lost_by f w).dtm
lost_phase op hs w None h g e = absurd (let no : ⊥ = cc in no)
lost_phase op hs w (Some o) h g e =
    let d = dropped_some w.dtm.flight op w.dtm g in
    missed (ap (λ xs. xs ++ Lost o ∷ []) h ∙ ap (λ x. Launched op ∷ Lost x ∷ []) (same_op o op e)) d.flight d.failed

flight_event : (op : DmiOp) (hs : List Happening) (e : Event) (w : Works) → hs ≡ Launched op ∷ [] → w.dtm.flight ≡ Some op
    → Phase op (hs ++ in_event e w) (after_event e w).dtm
unfolding after_event
flight_event op hs (Turn h) w is f = still op hs [] w.dtm w.dtm refl refl (flying is f)
flight_event op hs DmiDone w is f = done_phase op hs w w.dtm.flight is f f
flight_event op hs DmiFail w is f = lost_phase op hs w w.dtm.flight is f f
flight_event op hs CmdStep w is f = still op hs [] w.dtm w.dtm refl refl (flying is f)
flight_event op hs BusDone w is f = still op hs [] w.dtm w.dtm refl refl (flying is f)

quiet_event : (op : DmiOp) (hs : List Happening) (e : Event) (w : Works) → w.dtm.flight ≡ None → Phase op hs w.dtm
    → Phase op (hs ++ in_event e w) (after_event e w).dtm
quiet_event op hs e w none p = let q = event_quiet e w none in still op hs (in_event e w) w.dtm (after_event e w).dtm q.none q.same p

phase_event : (op : DmiOp) (hs : List Happening) (e : Event) (w : Works) → Phase op hs w.dtm → Phase op (hs ++ in_event e w) (after_event e w).dtm
phase_event op hs e w (flying h f) = flight_event op hs e w h f
phase_event op hs e w (landed result h n k v) = quiet_event op hs e w n (landed result h n k v)
phase_event op hs e w (missed h n k) = quiet_event op hs e w n (missed h n k)

phase_events : (op : DmiOp) (hs : List Happening) (es : List Event) (w : Works) → Phase op hs w.dtm → Phase op (hs ++ in_events es w) (after_events es w).dtm
unfolding in_events after_events
phase_events op hs [] w p = subst (λ xs. Phase op xs w.dtm) (sym (append-nil hs)) p
phase_events op hs (e ∷ es) w p =
    subst (λ xs. Phase op xs (after_events es (after_event e w)).dtm) (append_assoc hs (in_event e w) (in_events es (after_event e w)))
    (phase_events op (hs ++ in_event e w) es (after_event e w) (phase_event op hs e w p))

-- ---- the sticky status is no matter of rounds

pub ticks_sticky : (n : ℕ) (j : Inside) → (dtm_of (ticks n j)).sticky ≡ (dtm_of j).sticky
unfolding ticks
ticks_sticky zero j = refl
ticks_sticky (suc n) j = ticks_sticky n (tick j) ∙ tick_sticky j

-- ---- along a path: an operation that was taken

pub record Waiting (op : DmiOp) (i j : Inside) : Type 0 where
  pub happened : List Happening
  pub path : Course i happened j
  pub phase : Phase op happened (dtm_of j)

phase_tick : (op : DmiOp) (hs : List Happening) (j : Inside) → Phase op hs (dtm_of j) → Phase op (hs ++ in_round j) (dtm_of (tick j))
unfolding tick
phase_tick op hs j p = phase_events op hs (round_of j.plan) (counted j.works) p

wait_tick : (op : DmiOp) (i j : Inside) → Waiting op i j → Waiting op i (tick j)
wait_tick op i j w = record { happened = w.happened ++ in_round j; path = round w.happened j w.path; phase = phase_tick op w.happened j w.phase }

pub wait_ticks : (n : ℕ) (op : DmiOp) (i j : Inside) → Waiting op i j → Waiting op i (ticks n j)
unfolding ticks
wait_ticks zero op i j w = w
wait_ticks (suc n) op i j w = wait_ticks n op i (tick j) (wait_tick op i j w)

captured_phase : (op : DmiOp) (hs : List Happening) (r : DataRegister) (d : Dtm) → Phase op hs d → Phase op hs (captured_dtm r d)
captured_phase op hs Dmi d p = alike op hs d (captured_dtm Dmi d) refl refl refl p
captured_phase op hs Dtmcs d p = p
captured_phase op hs Idcode d p = p
captured_phase op hs Bypass d p = p

pub wait_capture : (r : DataRegister) (op : DmiOp) (i j : Inside) → Waiting op i j → Waiting op i (capture r j)
wait_capture r op i j w = record { happened = w.happened; path = captured r w.happened j w.path; phase = captured_phase op w.happened r (dtm_of j) w.phase }

-- ---- along a path: nothing in flight, and this is the last result

pub record Settled (happened : List Happening) (value : ℕ) (i j : Inside) : Type 0 where
  pub path : Course i happened j
  pub flight : (dtm_of j).flight ≡ None
  pub failed : (dtm_of j).failed ≡ false
  pub clear : (dtm_of j).sticky ≡ sticky.Clear
  pub value_is : (dtm_of j).value ≡ value

settle_tick : (hs : List Happening) (v : ℕ) (i j : Inside) → Settled hs v i j → Settled hs v i (tick j)
settle_tick hs v i j s =
    let q = tick_quiet j s.flight in
    record {
      path = subst (λ xs. Course i xs (tick j)) (ap (λ xs. hs ++ xs) q.none ∙ append-nil hs) (round hs j s.path);
      flight = ap (λ (d : Dtm). d.flight) q.same ∙ s.flight;
      failed = ap (λ (d : Dtm). d.failed) q.same ∙ s.failed;
      clear = ap (λ (d : Dtm). d.sticky) q.same ∙ s.clear;
      value_is = ap (λ (d : Dtm). d.value) q.same ∙ s.value_is;
    }

pub settle_ticks : (n : ℕ) (hs : List Happening) (v : ℕ) (i j : Inside) → Settled hs v i j → Settled hs v i (ticks n j)
unfolding ticks
settle_ticks zero hs v i j s = s
settle_ticks (suc n) hs v i j s = settle_ticks n hs v i (tick j) (settle_tick hs v i j s)
