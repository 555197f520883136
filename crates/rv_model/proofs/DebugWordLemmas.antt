-- dcsr's and the trigger registers' words: the fields of a sum of fields, and the worked examples, computed.
use Rattle.std.proofs.Common.{◌≡◌, ℕ, ◌+◌, ◌*◌, ◌^◌, ◌<◌, Bool, true, false, cond, eqb, refl, ap, ◌∙◌, arith}
use Rattle.std.proofs.lemmas.Bool.{eq-eqb, ne_eqb}
use Rattle.rv_model.specs.declared.dcsr.Dcsr.{Dcsr}
use Rattle.rv_model.specs.declared.slot.Comparison.{Comparison}
use Rattle.rv_model.specs.declared.slot.Comparison.TheVariants.{Equal, AtLeast, Below}
use Rattle.rv_model.specs.declared.slot.Icount.{Icount}
use Rattle.rv_model.specs.declared.slot.Mcontrol6.{Mcontrol6}
use Rattle.rv_model.specs.declared.slot.Trigger.{Trigger}
use Rattle.rv_model.specs.declared.slot.Trigger.TheVariants as kind
use Rattle.rv_model.specs.declared.version.Version.{Version}
use Rattle.rv_model.specs.declared.version.Version.TheVariants.{V013, V10}
use Rattle.rv_model.specs.Codes.{comparison_of-comparison_number}
use Rattle.rv_model.specs.Dcsr.{dcsr_fixed, dcsr_word, dcsr_of_word}
use Rattle.rv_model.specs.Fields.{field, bit, bit_value}
use Rattle.rv_model.specs.TriggerWords.{
  CountFits,
  address_fixed,
  address_of,
  address_type,
  address_word,
  comparison_number,
  comparison_of,
  icount_fixed,
  count_limit,
  hit_place,
  icount_word,
  icount_of,
  trigger_of_type,
  tdata1_of,
  tinfo_value,
  trigger_of,
  trigger_csr_value,
  trigger_csr_written,
  version_offered,
  version_shown,
}
use Rattle.rv_model.specs.DebugWordExamples.{DcsrExamples, DcsrReadBack, TriggersDecoded, TriggersKept, TriggerReadBack, TriggerRegisters}
use Rattle.rv_model.specs.DebugWordExamples.{ReleasesShown}

-- ---- one bit

abbrev number_of : Bool → ℕ
number_of b = cond b 1 0

value_of_bit : (place : ℕ) (b : Bool) → bit_value place b ≡ number_of b * 2 ^ place
value_of_bit place true = omega arith
value_of_bit place false = omega arith

one_or_none : (b : Bool) → number_of b < 2
one_or_none true = omega arith
one_or_none false = omega arith

bit_is : (place w : ℕ) (b : Bool) → field place 1 w ≡ number_of b → bit place w ≡ b
bit_is place w true is = eq-eqb (field place 1 w) 1 is
bit_is place w false is = ne_eqb (field place 1 w) 1 (λ one. omega arith)

-- ---- dcsr

pub record DcsrFields (w e s c p : ℕ) : Type 0 where
  pub ebreakm : field 15 1 w ≡ e
  pub stepie : field 11 1 w ≡ s
  pub cause : field 6 3 w ≡ c
  pub step : field 2 1 w ≡ p

dcsr_fields : (w e s c p : ℕ) → w ≡ dcsr_fixed + e * 2 ^ 15 + s * 2 ^ 11 + c * 2 ^ 6 + p * 2 ^ 2 → e < 2 → s < 2 → c < 8 → p < 2 → DcsrFields w e s c p
dcsr_fields w e s c p is he hs hc hp = record { ebreakm = omega arith; stepie = omega arith; cause = omega arith; step = omega arith }

dcsr_from : (w : ℕ) (d : Dcsr) → bit 15 w ≡ d.ebreakm → bit 11 w ≡ d.stepie → field 6 3 w ≡ d.cause → bit 2 w ≡ d.step → dcsr_of_word w ≡ d
unfolding dcsr_of_word
dcsr_from w d e s c p = rw (e, s, c, p) refl

pub dcsr_read_back : DcsrReadBack
unfolding dcsr_word
dcsr_read_back d fits =
    let e = value_of_bit 15 d.ebreakm in
    let s = value_of_bit 11 d.stepie in
    let p = value_of_bit 2 d.step in
    let fields : DcsrFields (dcsr_word d) (number_of d.ebreakm) (number_of d.stepie) d.cause (number_of d.step) =
    dcsr_fields _ _ _ _ _ (omega arith) (one_or_none d.ebreakm) (one_or_none d.stepie) fits (one_or_none d.step) in
    dcsr_from (dcsr_word d) d (bit_is 15 _ d.ebreakm fields.ebreakm) (bit_is 11 _ d.stepie fields.stepie) fields.cause (bit_is 2 _ d.step fields.step)

pub dcsr_examples : DcsrExamples
unfolding dcsr_word dcsr_of_word
dcsr_examples = record { halted_by_reset = refl; running = refl; stopped_by_trigger = refl; all_zeros_written = refl; all_ones_written = refl }

-- ---- tdata1

pub record IcountFields (w h n m p : ℕ) : Type 0 where
  pub type_is : field 60 4 w ≡ 3
  pub hit : field 24 1 w ≡ h
  pub count : field 10 14 w ≡ n
  pub m_is : field 9 1 w ≡ m
  pub pending : field 8 1 w ≡ p

icount_fields : (w h n m p : ℕ) → w ≡ icount_fixed + h * 2 ^ 24 + n * 2 ^ 10 + m * 2 ^ 9 + p * 2 ^ 8 → h < 2 → n < count_limit → m < 2 → p < 2
    → IcountFields w h n m p
icount_fields w h n m p is hh hn hm hp = record { type_is = omega arith; hit = omega arith; count = omega arith; m_is = omega arith; pending = omega arith }

icount_from : (w : ℕ) (t : Icount) → bit 24 w ≡ t.hit → field 10 14 w ≡ t.count → bit 9 w ≡ t.m → bit 8 w ≡ t.pending → icount_of w ≡ t
icount_from w t h n m p = rw (h, n, m, p) refl

-- a type that is not that of an address trigger
icount_type : (v : Version) (w : ℕ) → trigger_of_type v 3 w ≡ kind.Icount (icount_of w)
icount_type V013 w = refl
icount_type V10 w = refl

icount_back : (v : Version) (t : Icount) → t.count < count_limit → trigger_of v (icount_word t) ≡ kind.Icount t
unfolding trigger_of
icount_back v t fits =
    let h = value_of_bit 24 t.hit in
    let m = value_of_bit 9 t.m in
    let p = value_of_bit 8 t.pending in
    let w : ℕ = icount_word t in
    let fields : IcountFields w (number_of t.hit) t.count (number_of t.m) (number_of t.pending) =
    icount_fields w _ _ _ _ (omega arith) (one_or_none t.hit) fits (one_or_none t.m) (one_or_none t.pending) in
    ap (λ k. trigger_of_type v k w) fields.type_is
    ∙ icount_type v w
    ∙ ap kind.Icount (icount_from w t (bit_is 24 w t.hit fields.hit) fields.count (bit_is 9 w t.m fields.m_is) (bit_is 8 w t.pending fields.pending))

pub record AddressFields (type place w h c m e s l : ℕ) : Type 0 where
  pub type_is : field 60 4 w ≡ type
  pub hit : field place 1 w ≡ h
  pub comparison : field 7 4 w ≡ c
  pub m_is : field 6 1 w ≡ m
  pub execute : field 2 1 w ≡ e
  pub store : field 1 1 w ≡ s
  pub load : field 0 1 w ≡ l

address_fields : (v : Version) (w h c m e s l : ℕ)
    → w ≡ address_fixed v + h * 2 ^ hit_place v + c * 2 ^ 7 + m * 2 ^ 6 + e * 2 ^ 2 + s * 2 ^ 1 + l * 2 ^ 0
    → h < 2 → c < 16 → m < 2 → e < 2 → s < 2 → l < 2 → AddressFields (address_type v) (hit_place v) w h c m e s l
address_fields V013 w h c m e s l is hh hc hm he hs hl = record {
  type_is = omega arith;
  hit = omega arith;
  comparison = omega arith;
  m_is = omega arith;
  execute = omega arith;
  store = omega arith;
  load = omega arith;
}
address_fields V10 w h c m e s l is hh hc hm he hs hl = record {
  type_is = omega arith;
  hit = omega arith;
  comparison = omega arith;
  m_is = omega arith;
  execute = omega arith;
  store = omega arith;
  load = omega arith;
}

comparison_below : (c : Comparison) → comparison_number c < 16
comparison_below Equal = omega arith
comparison_below AtLeast = omega arith
comparison_below Below = omega arith

address_from : (v : Version) (w : ℕ) (t : Mcontrol6) → bit (hit_place v) w ≡ t.hit → comparison_of (field 7 4 w) ≡ t.comparison → bit 6 w ≡ t.m
    → bit 2 w ≡ t.execute → bit 1 w ≡ t.store → bit 0 w ≡ t.load
    → address_of v w ≡ t
address_from v w t h c m e s l = rw (h, c, m, e, s, l) refl

-- a word that is the sum of these fields
address_sum : (v : Version) (t : Mcontrol6) → address_word v t
    ≡ address_fixed v + number_of t.hit * 2 ^ hit_place v + comparison_number t.comparison * 2 ^ 7 + number_of t.m * 2 ^ 6
    + number_of t.execute * 2 ^ 2 + number_of t.store * 2 ^ 1 + number_of t.load * 2 ^ 0
address_sum V013 t =
    let h = value_of_bit 20 t.hit in
    let m = value_of_bit 6 t.m in
    let e = value_of_bit 2 t.execute in
    let s = value_of_bit 1 t.store in
    let l = value_of_bit 0 t.load in
    omega arith
address_sum V10 t =
    let h = value_of_bit 22 t.hit in
    let m = value_of_bit 6 t.m in
    let e = value_of_bit 2 t.execute in
    let s = value_of_bit 1 t.store in
    let l = value_of_bit 0 t.load in
    omega arith

fields_of : (v : Version) (t : Mcontrol6) → AddressFields (address_type v) (hit_place v) (address_word v t) (number_of t.hit) (comparison_number t.comparison)
    (number_of t.m) (number_of t.execute) (number_of t.store) (number_of t.load)
fields_of v t =
    address_fields v (address_word v t) _ _ _ _ _ _ (address_sum v t) (one_or_none t.hit) (comparison_below t.comparison) (one_or_none t.m)
    (one_or_none t.execute) (one_or_none t.store) (one_or_none t.load)

own_type : (v : Version) (w : ℕ) → trigger_of_type v (address_type v) w ≡ kind.Mcontrol6 (address_of v w)
own_type V013 w = refl
own_type V10 w = refl

address_back : (v : Version) (t : Mcontrol6) → trigger_of v (address_word v t) ≡ kind.Mcontrol6 t
unfolding trigger_of
address_back v t =
    let w : ℕ = address_word v t in
    let fields = fields_of v t in
    ap (λ k. trigger_of_type v k w) fields.type_is
    ∙ own_type v w
    ∙ ap kind.Mcontrol6 (address_from v w t
    (bit_is (hit_place v) w t.hit fields.hit) (ap comparison_of fields.comparison ∙ comparison_of-comparison_number t.comparison)
    (bit_is 6 w t.m fields.m_is) (bit_is 2 w t.execute fields.execute) (bit_is 1 w t.store fields.store) (bit_is 0 w t.load fields.load))

disabled_back : (v : Version) → trigger_of v (tdata1_of v kind.Disabled) ≡ kind.Disabled
unfolding tdata1_of trigger_of
disabled_back V013 = refl
disabled_back V10 = refl

pub trigger_read_back : TriggerReadBack
unfolding tdata1_of
trigger_read_back v (kind.Mcontrol6 t) fits = address_back v t
trigger_read_back v (kind.Icount t) fits = icount_back v t fits
trigger_read_back v kind.Disabled fits = disabled_back v

-- ---- the release, by what is read

by_type : (n : ℕ) (v : Version) → n ≡ address_type v → cond (eqb n (address_type V013)) V013 V10 ≡ v
by_type n V013 e = ap (λ k. cond (eqb k 2) V013 V10) e
by_type n V10 e = ap (λ k. cond (eqb k 2) V013 V10) e

-- both releases read a word that is no address trigger alike
pub shown_back : (v : Version) (t : Trigger) → CountFits t → trigger_of (version_shown (tdata1_of v t)) (tdata1_of v t) ≡ t
unfolding tdata1_of
shown_back v (kind.Mcontrol6 t) fits =
    ap (λ u. trigger_of u (address_word v t)) (by_type (field 60 4 (address_word v t)) v (fields_of v t).type_is) ∙ address_back v t
shown_back v (kind.Icount t) fits = icount_back (version_shown (icount_word t)) t fits
shown_back v kind.Disabled fits = disabled_back V10

offered_back : (v : Version) → version_offered (tinfo_value v) ≡ v
offered_back V013 = refl
offered_back V10 = refl

pub releases_shown : ReleasesShown
releases_shown v = record { offered = offered_back v; shown = λ t fits. shown_back v t fits }

pub triggers_decoded : TriggersDecoded
unfolding trigger_of
triggers_decoded = record { execution = refl; loads = refl; stores = refl; accesses = refl; one = refl; most = refl; free = refl; execution_V013 = refl; loads_V013 = refl; stores_V013 = refl; accesses_V013 = refl; most_V013 = refl; free_V013 = refl }

pub triggers_kept : TriggersKept
unfolding tdata1_of trigger_of
triggers_kept = record {
  type_0 = refl;
  type_2 = refl;
  type_15 = refl;
  disabled = refl;
  mcontrol6_zeros = refl;
  mcontrol6_ones = refl;
  mcontrol6_at_least = refl;
  mcontrol6_below = refl;
  mcontrol6_masked = refl;
  icount_zeros = refl;
  icount_ones = refl;
  type_0_V013 = refl;
  type_6_V013 = refl;
  type_15_V013 = refl;
  mcontrol_zeros = refl;
  mcontrol_ones = refl;
  mcontrol_hit0 = refl;
  mcontrol_at_least = refl;
  mcontrol_below = refl;
  icount_ones_V013 = refl;
}

pub trigger_registers : TriggerRegisters
unfolding tdata1_of trigger_of trigger_csr_value trigger_csr_written
trigger_registers = record { tselect = refl; tdata1 = refl; tdata2 = refl; tinfo = refl; tinfo_V013 = refl; tdata3 = refl; selects = refl; ignores = refl; arms = refl; arms_V013 = refl }
