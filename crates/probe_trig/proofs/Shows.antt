-- What the words of a slot show of it: whether it is free, has a hit, and what it is used for.
use Rattle.std.proofs.Common.{◌≡◌, ◌∙◌, ◌==◌, ℕ, Bool, true, false, refl, sym, ap, if◌then◌else◌}
use Rattle.std.proofs.lemmas.Bool.{eqb-true, false≢true}
use Rattle.rv_model.specs.declared.slot.Comparison.{Comparison}
use Rattle.rv_model.specs.declared.slot.Comparison.TheVariants.{AtLeast, Below, Equal}
use Rattle.rv_model.specs.declared.slot.Slot.{Slot}
use Rattle.rv_model.specs.declared.slot.Icount.{Icount}
use Rattle.rv_model.specs.declared.slot.Mcontrol6.{Mcontrol6}
use Rattle.rv_model.specs.declared.slot.Trigger.{Trigger}
use Rattle.rv_model.specs.declared.slot.Trigger.TheVariants as kind
use Rattle.rv_model.specs.declared.version.Version.{Version}
use Rattle.rv_model.specs.declared.version.Version.TheVariants.{V013, V10}
use Rattle.rv_model.specs.Fields.{field}
use Rattle.rv_model.specs.TriggerWords.{CountFits, address_of, address_type, disabled_word, icount_of, tdata1_of, trigger_of, trigger_of_type, version_shown}
use Rattle.rv_model.proofs.DebugWordLemmas.{shown_back, trigger_read_back}
use Rattle.abstract_debugger.specs.Slots.{address_use, is_free, trigger_has_hit, trigger_use, use_by, use_of}
use Rattle.abstract_debugger.specs.Slots.Use.{Armed, Other, Unused}
use Rattle.abstract_debugger.specs.Trace.What.{Count}
use Rattle.probe_trig.specs.SlotRegisters.{or_other, shows_free, shows_hit, trigger_shown, use_shown}

pub free_disabled : (v : Version) (w : ℕ) → shows_free w ≡ true → trigger_of v w ≡ kind.Disabled
unfolding trigger_of
free_disabled V013 w free = ap (λ n. trigger_of_type V013 n w) (eqb-true (field 60 4 w) 15 free)
free_disabled V10 w free = ap (λ n. trigger_of_type V10 n w) (eqb-true (field 60 4 w) 15 free)

pub disabled_free : shows_free disabled_word ≡ true
disabled_free = refl

disabled_shown : (v : Version) → shows_free (tdata1_of v kind.Disabled) ≡ true
unfolding tdata1_of
disabled_shown v = refl

free_by : (v : Version) (b : Bool) (t : Trigger) → shows_free (tdata1_of v t) ≡ b → CountFits t → b ≡ is_free t
free_by v true t e fits = sym (ap is_free (sym (trigger_read_back v t fits) ∙ free_disabled v (tdata1_of v t) e))
free_by v false (kind.Mcontrol6 t) e fits = refl
free_by v false (kind.Icount t) e fits = refl
free_by v false kind.Disabled e fits = absurd (false≢true (sym e ∙ disabled_shown v))

pub shows_as_free : (v : Version) (w : ℕ) (t : Trigger) → CountFits t → w ≡ tdata1_of v t → shows_free w ≡ is_free t
shows_as_free v w t fits e = ap shows_free e ∙ free_by v (shows_free (tdata1_of v t)) t refl fits

pub shows_as_trigger : (v : Version) (w : ℕ) (t : Trigger) → CountFits t → w ≡ tdata1_of v t → trigger_shown w ≡ t
shows_as_trigger v w t fits e = ap trigger_shown e ∙ shown_back v t fits

pub shows_as_hit : (v : Version) (w : ℕ) (t : Trigger) → CountFits t → w ≡ tdata1_of v t → shows_hit w ≡ trigger_has_hit t
shows_as_hit v w t fits e = ap trigger_has_hit (shows_as_trigger v w t fits e)

-- ---- the release of an address trigger

address_by : (is_address is_icount : Bool) (a : Trigger) (i : Icount) (t : Mcontrol6)
    → (if is_address then a else (if is_icount then kind.Icount i else kind.Disabled)) ≡ kind.Mcontrol6 t → is_address ≡ true
address_by true is_icount a i t e = refl
address_by false true a i t e = cc
address_by false false a i t e = cc

has_type : (v : Version) (w : ℕ) (t : Mcontrol6) → trigger_of v w ≡ kind.Mcontrol6 t → (field 60 4 w == address_type v) ≡ true
unfolding trigger_of
has_type v w t e =
    address_by (field 60 4 w == address_type v) (field 60 4 w == 3) (kind.Mcontrol6 (address_of v w)) (icount_of w) t e

version_by : (v : Version) (n : ℕ) → (n == address_type v) ≡ true → (if n == address_type V013 then V013 else V10) ≡ v
version_by V013 n e = ap (λ b. if b then V013 else V10) e
version_by V10 n e = ap (λ k. if k == 2 then V013 else V10) (eqb-true n 6 e)

pub address_shown : (v : Version) (t : Mcontrol6) → version_shown (tdata1_of v (kind.Mcontrol6 t)) ≡ v
address_shown v t =
    let w : ℕ = tdata1_of v (kind.Mcontrol6 t) in
    version_by v (field 60 4 w) (has_type v w t (trigger_read_back v (kind.Mcontrol6 t) tt))

-- ---- its use

-- which word stood in it does not matter: it is shown as the one that was read
by_fields : (m execute load store : Bool) (w u v : ℕ) → or_other w (use_by m execute load store u v) ≡ use_by m execute load store w v
by_fields true true true true w u v = refl
by_fields true true true false w u v = refl
by_fields true true false true w u v = refl
by_fields true true false false w u v = refl
by_fields true false true true w u v = refl
by_fields true false true false w u v = refl
by_fields true false false true w u v = refl
by_fields true false false false w u v = refl
by_fields false true true true w u v = refl
by_fields false true true false w u v = refl
by_fields false true false true w u v = refl
by_fields false true false false w u v = refl
by_fields false false true true w u v = refl
by_fields false false true false w u v = refl
by_fields false false false true w u v = refl
by_fields false false false false w u v = refl

by_comparison : (c : Comparison) (t : Mcontrol6) (w u v : ℕ) → or_other w (address_use c t u v) ≡ address_use c t w v
by_comparison Equal t w u v = by_fields t.m t.execute t.load t.store w u v
by_comparison AtLeast t w u v = refl
by_comparison Below t w u v = refl

by_count : (m : Bool) (n w u : ℕ) → or_other w (if m then Armed (Count n) else Other u) ≡ (if m then Armed (Count n) else Other w)
by_count true n w u = refl
by_count false n w u = refl

named : (v u : Version) (t : Trigger) (a : ℕ) → (if is_free t then Unused else or_other (tdata1_of v t) (trigger_use u t a)) ≡ trigger_use v t a
named v u (kind.Mcontrol6 t) a = by_comparison t.comparison t (tdata1_of v (kind.Mcontrol6 t)) (tdata1_of u (kind.Mcontrol6 t)) a
named v u (kind.Icount t) a = by_count t.m t.count (tdata1_of v (kind.Icount t)) (tdata1_of u (kind.Icount t))
named v u kind.Disabled a = refl

pub shows_as_use : (v : Version) (w a : ℕ) (s : Slot) → CountFits s.trigger → w ≡ tdata1_of v s.trigger → a ≡ s.tdata2 → use_shown w a ≡ use_of v s
shows_as_use v w a s fits word address =
    let t : Trigger = s.trigger in
    let n : ℕ = tdata1_of v t in
    let u : Version = version_shown n in
    ap (λ k. use_shown k a) word ∙ ap (use_shown n) address
    ∙ ap (λ b. if b then Unused else or_other n (trigger_use u (trigger_shown n) s.tdata2)) (shows_as_free v n t fits refl)
    ∙ ap (λ k. if is_free t then Unused else or_other n (trigger_use u k s.tdata2)) (shown_back v t fits)
    ∙ named v u t s.tdata2
