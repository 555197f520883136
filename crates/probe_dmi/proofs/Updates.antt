-- Updates of dmi, dtmcs and IDCODE that do nothing to an operation: a nop, dmireset, and a register that is only read.
use Rattle.std.proofs.Common.{◌≡◌, ◌∙◌, List, [], Bool, None, refl, sym, ap, subst}
use Rattle.debug_model.specs.declared.data_register.DataRegister.{DataRegister}
use Rattle.debug_model.specs.declared.data_register.DataRegister.TheVariants.{Idcode, Dtmcs, Dmi}
use Rattle.debug_model.specs.declared.sticky.Sticky.{Sticky}
use Rattle.debug_model.specs.declared.sticky.Sticky.TheVariants.{Clear, Failed, Busy}
use Rattle.debug_model.specs.Course.{in_update, launches_by}
use Rattle.debug_model.specs.Transport.{Dtm, cleared_by, controlled, launched, updated_dtm}
use Rattle.debug_model.specs.Asked.{idcode_bits, nop, reset_bits}
use Rattle.probe_dmi.proofs.WholeScans.{asks_nothing, asks_reset}
use Rattle.probe_dmi.specs.Registers.{dmi_bits}

pub record Keeps (r : DataRegister) (bits : List Bool) (d : Dtm) : Type 0 where
  pub none : in_update r bits d ≡ []
  pub same : updated_dtm r bits d ≡ d

pub record Spares (r : DataRegister) (bits : List Bool) (d : Dtm) : Type 0 where
  pub none : in_update r bits d ≡ []
  pub flight : (updated_dtm r bits d).flight ≡ d.flight
  pub failed : (updated_dtm r bits d).failed ≡ d.failed
  pub value : (updated_dtm r bits d).value ≡ d.value

pub spares : (r : DataRegister) (bits : List Bool) (d : Dtm) → Keeps r bits d → Spares r bits d
spares r bits d k = record {
  none = k.none;
  flight = ap (λ (e : Dtm). e.flight) k.same;
  failed = ap (λ (e : Dtm). e.failed) k.same;
  value =
      ap (λ (e : Dtm). e.value) k.same;
}

launches_none : (s : Sticky) → launches_by s None ≡ []
launches_none Clear = refl
launches_none Failed = refl
launches_none Busy = refl

launched_none : (s : Sticky) (d : Dtm) → launched s None d ≡ d
launched_none Clear d = refl
launched_none Failed d = refl
launched_none Busy d = refl

pub nop_keeps : (d : Dtm) → Keeps Dmi (dmi_bits nop) d
unfolding updated_dtm
nop_keeps d = record {
  none = ap (launches_by d.sticky) asks_nothing ∙ launches_none d.sticky;
  same = ap (λ o. launched d.sticky o d) asks_nothing
      ∙ launched_none d.sticky d;
}

cleared_clear : (s : Sticky) (d : Dtm) → s ≡ Clear → cleared_by s d ≡ d
cleared_clear Clear d e = refl
cleared_clear Failed d e = absurd (let no : ⊥ = cc in no)
cleared_clear Busy d e = absurd (let no : ⊥ = cc in no)

pub reset_is : (d : Dtm) → updated_dtm Dtmcs reset_bits d ≡ cleared_by d.sticky d
unfolding updated_dtm
reset_is d = ap (λ r. controlled r d) asks_reset

pub reset_keeps : (d : Dtm) → d.sticky ≡ Clear → Keeps Dtmcs reset_bits d
reset_keeps d clear = record { none = refl; same = reset_is d ∙ cleared_clear d.sticky d clear }

pub idcode_keeps : (d : Dtm) → Keeps Idcode idcode_bits d
unfolding updated_dtm
idcode_keeps d = record { none = refl; same = refl }

pub record ClearedBusy (d e : Dtm) : Type 0 where
  pub flight : e.flight ≡ d.flight
  pub failed : e.failed ≡ d.failed
  pub value : e.value ≡ d.value
  pub clear : e.sticky ≡ Clear

cleared_busy : (s : Sticky) (d : Dtm) → s ≡ Busy → ClearedBusy d (cleared_by s d)
cleared_busy Busy d e = record { flight = refl; failed = refl; value = refl; clear = refl }
cleared_busy Clear d e = absurd (let no : ⊥ = cc in no)
cleared_busy Failed d e = absurd (let no : ⊥ = cc in no)

pub reset_busy : (d : Dtm) → d.sticky ≡ Busy → ClearedBusy d (updated_dtm Dtmcs reset_bits d)
reset_busy d busy = subst (ClearedBusy d) (sym (reset_is d)) (cleared_busy d.sticky d busy)

pub reset_spares : (d : Dtm) → d.sticky ≡ Busy → Spares Dtmcs reset_bits d
reset_spares d busy = let k = reset_busy d busy in record { none = refl; flight = k.flight; failed = k.failed; value = k.value }
