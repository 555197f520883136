-- A call that only reads a register of the transport, on a told chip: no operation is put in flight, and the register is as it is known.
use Rattle.std.proofs.Common.{◌≡◌, ◌∙◌, ℕ, List, [], Bool, Option, Some, None, IfSome, sym, ap, subst}
use Rattle.chip_laws.proofs.PathLemmas.{site_path, no_operation_is_deeds}
use Rattle.debug_model.specs.declared.data_register.DataRegister.{DataRegister}
use Rattle.debug_model.specs.declared.data_register.DataRegister.TheVariants.{Idcode, Dtmcs}
use Rattle.debug_model.specs.Chip.{Chip, Inside}
use Rattle.debug_model.specs.Dmi.{NoneOperated}
use Rattle.debug_model.specs.Scan.{WhereTold, dr_inside, dtm_of, ticks}
use Rattle.debug_model.specs.Told.{DtmClean, Far, IsClean, chip_of, site_of}
use Rattle.debug_model.specs.Tap.{idcode}
use Rattle.debug_model.specs.Transport.{dtmcs_seen, fresh_dtm}
use Rattle.debug_model.specs.TransportWords.{dtmcs_of, dtmcs_word}
use Rattle.jt_base.specs.BitList.{number_of}
use Rattle.debug_model.specs.Asked.{abits_behind, idcode_bits, reset_bits}
use Rattle.probe_dmi.specs.Registers.{CutFrom, IsWidth, WordScanned}
use Rattle.probe_dmi.proofs.Flight.{Settled, ticks_sticky}
use Rattle.probe_dmi.proofs.Stages.{Harmless, settle_part, settle_scan}
use Rattle.probe_dmi.proofs.WholeScans.{dtmcs_read, idcode_read}
use Rattle.probe_dmi.proofs.Told.{at_passed, clean_at, settled_first}

none_of : (f : Far) (new : Option Far) (far : Far) (v : ℕ) → new ≡ Some far → Settled [] v (chip_of f).inside (chip_of far).inside
    → NoneOperated (chip_of f) new
none_of f new far v is s = record {
  far = far;
  is = is;
  path = s.path;
  site =
      no_operation_is_deeds (site_of f) (site_of far) (site_path (chip_of f).inside (chip_of far).inside [] s.path);
}

pub record ReadAt (c : Chip) (new : Option Far) : Type 0 where
  pub none : NoneOperated c new
  pub clean : IsClean new

read_settled : (f : Far) (new : Option Far) (far : Far) (v : ℕ) → new ≡ Some far → Settled [] v (chip_of f).inside (chip_of far).inside → ReadAt (chip_of f) new
read_settled f new far v is s = record {
  none = none_of f new far v is s;
  clean =
      clean_at new far is (record { none_in_flight = s.flight; clear = s.clear; not_failed = s.failed });
}

read_at : (r : DataRegister) (bits : List Bool) (value : ℕ) (h : Harmless r bits) (f : Far) (new : Option Far) → DtmClean (dtm_of (chip_of f).inside)
    → WordScanned r bits value (chip_of f) new → ReadAt (chip_of f) new
read_at r bits value h f new clean d =
    let x = d.scanned in
    let i = (chip_of f).inside in
    let v = (dtm_of i).value in
    read_settled f new x.far v x.is
    (at_passed (λ (n : Inside). Settled [] v i n) x.far (dr_inside x.before x.between x.behind bits r i) x.passed
    (settle_scan r bits h x.before x.between x.behind [] v i i (settled_first (chip_of f) clean)))

pub read_then : (r : DataRegister) (bits : List Bool) (value : ℕ) (h : Harmless r bits) (old new : Option Far) → IsClean old
    → WhereTold (WordScanned r bits value) old new → WhereTold ReadAt old new
read_then r bits value h None new clean d = d
read_then r bits value h (Some f) new clean d = read_at r bits value h f new clean d

pub read_none : (old new : Option Far) → WhereTold ReadAt old new → WhereTold NoneOperated old new
read_none None new d = d
read_none (Some f) new d = d.none

pub read_clean : (old new : Option Far) → WhereTold ReadAt old new → IsClean new
read_clean None new d = rw d tt
read_clean (Some f) new d = d.clean

pub none_cut : (r : DataRegister) (bits : List Bool) (h : Harmless r bits) (old new : Option Far) → IsClean old → WhereTold (CutFrom r bits) old new
    → WhereTold NoneOperated old new
none_cut r bits h None new clean d = d
none_cut r bits h (Some f) new clean d =
    let i = (chip_of f).inside in
    none_of f new d.far (dtm_of i).value d.is (settle_part r bits h [] (dtm_of i).value i i (chip_of d.far).inside (settled_first (chip_of f) clean) d.part)

pub idcode_value : (value : ℕ) (old new : Option Far) → WhereTold (WordScanned Idcode idcode_bits value) old new → IfSome old (λ (_ : Far). value ≡ idcode)
idcode_value value None new d = tt
idcode_value value (Some f) new d = d.value_is ∙ ap number_of d.scanned.out_is ∙ idcode_read (ticks d.scanned.before (chip_of f).inside)

pub dtmcs_value : (value : ℕ) (old new : Option Far) → IsClean old → WhereTold (WordScanned Dtmcs reset_bits value) old new
    → IfSome old (λ (_ : Far). value ≡ dtmcs_word (dtmcs_seen fresh_dtm))
dtmcs_value value None new clean d = tt
dtmcs_value value (Some f) new clean d = d.value_is ∙ ap number_of d.scanned.out_is
    ∙ dtmcs_read (ticks d.scanned.before (chip_of f).inside) (ticks_sticky d.scanned.before (chip_of f).inside ∙ clean.clear)

-- a told chip's addresses have 7 bits
pub abits_told : (value abits n : ℕ) (old new : Option Far) → IsClean old → n ≡ abits_behind (dtmcs_of value).abits abits
    → WhereTold (WordScanned Dtmcs reset_bits value) old new → IsWidth n new
abits_told value abits n None new clean e d = subst (IsWidth n) (sym d) tt
abits_told value abits n (Some f) None clean e d = tt
abits_told value abits n (Some f) (Some g) clean e d =
    let v : value ≡ dtmcs_word (dtmcs_seen fresh_dtm) = dtmcs_value value (Some f) (Some g) clean d in
    e ∙ ap (λ w. abits_behind (dtmcs_of w).abits abits) v
