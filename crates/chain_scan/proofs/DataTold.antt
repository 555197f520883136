-- What a scan of a data register, and clocks in Run-Test/Idle, did to a told chain that took all their bytes.
use Rattle.std.proofs.Common.{◌≡◌, ◌≢◌, ◌∙◌, ◌<◌, ◌≤◌, ◌+◌, ℕ, zero, suc, List, [], ◌∷◌, ◌++◌, map, length, Bool, true, false, is_some}
use Rattle.std.proofs.Common.{Option, Some, None, option_map, IfSome, IsTrue, refl, sym, ap, subst, arith, inl, inr}
use Rattle.jt_base.specs.BitLaws.{length-bits_of}
use Rattle.debug_model.specs.Chip.{Chip, Inside, answer_byte}
use Rattle.debug_model.specs.Port.{data_register_of}
use Rattle.debug_model.specs.Scan.{Fits, Scanned, StayedIdle, WhereTold, capture, dr_inside, dr_out}
use Rattle.debug_model.specs.Scan.{dr_stays, dtm_of, far_at, idle_bytes, idle_port, ticks, update}
use Rattle.debug_model.specs.Told.{Far, IsFree, IsIdle, IsLive, IsOpen, IsRead}
use Rattle.debug_model.specs.Transport.{Dtm, captured_bits, width_of}
use Rattle.debug_model.specs.declared.data_register.DataRegister.{DataRegister}
use Rattle.debug_model.specs.declared.data_register.DataRegister.TheVariants.{Idcode, Dtmcs, Dmi, Bypass}
use Rattle.debug_model.specs.declared.tap_state.TapState.TheVariants.{RunTestIdle}
use Rattle.probe_scan.specs.Padded.{padded, scan_bytes}
use Rattle.probe_scan.specs.Remembered.{Holds}
use Rattle.probe_scan.proofs.Ends as chip_ends
use Rattle.probe_scan.proofs.Paths.{chip_at, idle_chip}
use Rattle.probe_scan.proofs.Scans.{all_answers, far_living, far_of, length-answers, open_of_live, same_bits}
use Rattle.chain_scan.specs.Bypassed.{AllBypass, HoldsCode, IsPlanned, IsPlannedTold, Remembers}
use Rattle.chain_scan.specs.Chain.{Chain, run_chain, told_by_chain}
use Rattle.chain_scan.specs.ChainPlan.{IsPlan, Plan}
use Rattle.chain_scan.specs.ChainSeen.{chain_slack}
use Rattle.chain_scan.specs.Told.{ChainFar, ChainReadsFront, chain_sent, chip_far, chip_told}
use Rattle.chain_scan.proofs.ChainEnds.{living}
use Rattle.chain_scan.proofs.Clocks.{chain_at}
use Rattle.chain_scan.proofs.Courses.{padded_count, path_says_nothing}
use Rattle.chain_scan.proofs.DataDone.{DataDone, clocks_between, data_done}
use Rattle.chain_scan.proofs.DataScan.{comes_out_same, stays_same}
use Rattle.chain_scan.proofs.Done.{ChainSentAll, chain_in, chain_living, chain_sent_all}
use Rattle.chain_scan.proofs.Kept.{Passes, path_passes}
use Rattle.chain_scan.proofs.Resets.{Idled, idle_avoids, idle_run}

-- ---- what is remembered

pub bypassed_of : (m : Option ℕ) (told : Option ChainFar) → is_some m ≡ true → Remembers m told → IfSome told (λ f. AllBypass f.live.chain)
bypassed_of None told some r = absurd (let no : ⊥ = cc in no)
bypassed_of (Some code) None some r = tt
bypassed_of (Some code) (Some f) some r = r.others

captured_length : (r : DataRegister) (d : Dtm) → length (captured_bits r d) ≡ width_of r
unfolding captured_bits
captured_length Idcode d = length-bits_of _ _
captured_length Dtmcs d = length-bits_of _ _
captured_length Dmi d = length-bits_of _ _
captured_length Bypass d = length-bits_of _ _

-- what comes out of the chip's register
abbrev pub captured_in : Chip → List Bool
captured_in c = captured_bits c.port.selected (dtm_of (ticks 2 c.inside))

pub fits_captured : (bits : List Bool) (c : Chip) → length bits ≡ width_of c.port.selected → length bits ≡ length (captured_in c)
fits_captured bits c fits = fits ∙ sym (captured_length c.port.selected (dtm_of (ticks 2 c.inside)))

-- ---- what a wire that took the bytes of a scan tells

abbrev pub data_bytes : Plan → List Bool → List ℕ
data_bytes plan bits = scan_bytes false (length plan.near) bits (length plan.far) true

-- the inside behind the scan
abbrev pub data_inside : Plan → List Bool → Chip → Inside
data_inside plan bits c = dr_inside 2 (clocks_between plan bits) 1 bits c.port.selected c.inside

pub record DataAsked (plan : Plan) (bits : List Bool) (f : ChainFar) (between : Option ChainFar) : Type 0 where
  pub chain : Chain
  pub is : between ≡ Some (chain_living chain (map answer_byte (captured_in f.live.chain.chip)))
  pub chip : chain.chip ≡ idle_chip f.live.chain.chip.port.selected bits (data_inside plan bits f.live.chain.chip)
  pub others : AllBypass chain

data_asked : (plan : Plan) (bits : List Bool) (f : ChainFar) (between : Option ChainFar) → 0 < length bits
    → length bits ≡ width_of f.live.chain.chip.port.selected
    → IsPlanned plan f.live.chain → AllBypass f.live.chain → ChainSentAll (data_bytes plan bits) f between → f.live.chain.chip.port.held ≡ false
    → f.live.chain.chip.port.state ≡ RunTestIdle → DataAsked plan bits f between
unfolding ticks
data_asked plan bits f between some fits plans others all free idle =
    let c : Chain = f.live.chain in
    let same : length bits ≡ length (captured_in c.chip) = fits_captured bits c.chip fits in
    let at = chain_in RunTestIdle c free idle in
    let done : DataDone plan bits c.chip.port.selected c.chip.inside (run_chain c (data_bytes plan bits)) (told_by_chain c (data_bytes plan bits)) =
    subst (λ e. DataDone plan bits c.chip.port.selected c.chip.inside (run_chain e (data_bytes plan bits)) (told_by_chain e (data_bytes plan bits))) (sym at)
    (data_done plan bits c.chip.tck c.chip.port.selected c.chip.port.shift c.chip.port.tdo c.chip.inside c.near c.far
    (subst Passes at (record { together = plans.together; others = others })) (subst (IsPlanned plan) at plans) some same) in
    let left : dr_stays bits c.chip.port.selected (ticks 2 c.chip.inside) ≡ bits = stays_same (captured_in c.chip) bits same in
    record {
      chain = run_chain c (data_bytes plan bits);
      is = all.is ∙ ap (λ u. Some (chain_living (run_chain c (data_bytes plan bits)) u)) done.told;
      chip = done.chip ∙ ap (λ xs. idle_chip c.chip.port.selected bits
          (ticks 1 (update c.chip.port.selected xs (ticks (clocks_between plan bits) (capture c.chip.port.selected (ticks 2 c.chip.inside))))))
          (sym left);
      others = done.others;
    }

pub record DataBetween (plan : Plan) (bits : List Bool) (old between : Option ChainFar) : Type 0 where
  pub is : between ≡ option_map (chain_sent (data_bytes plan bits)) old
  pub ready : IsOpen (chip_told between)
  pub asked : IfSome old (λ f. DataAsked plan bits f between)

asked_by : (plan : Plan) (bits : List Bool) (old between : Option ChainFar) → 0 < length bits → Fits bits (chip_told old) → IsPlannedTold plan old
    → IfSome old (λ f. AllBypass f.live.chain)
    → between ≡ option_map (chain_sent (data_bytes plan bits)) old → IsLive (chip_told between) → IsRead (chip_told old) → IsFree (chip_told old)
    → IsIdle (chip_told old) → IfSome old (λ f. DataAsked plan bits f between)
asked_by plan bits None between some fits plans others is live read free idle = tt
asked_by plan bits (Some f) between some fits plans others is live read free idle =
    data_asked plan bits f between some fits plans others (chain_sent_all (data_bytes plan bits) f between is live read) free idle

pub data_between : (plan : Plan) (bits : List Bool) (m : Option ℕ) (old between : Option ChainFar) → 0 < length bits → Fits bits (chip_told old)
    → IsPlannedTold plan old → is_some m ≡ true → Remembers m old
    → between ≡ option_map (chain_sent (data_bytes plan bits)) old → IsLive (chip_told between) → IsRead (chip_told old) → IsFree (chip_told old)
    → IsIdle (chip_told old) → DataBetween plan bits old between
data_between plan bits m old between some fits plans known remembers is live read free idle = record {
  is = is;
  ready = open_of_live (chip_told between) live;
  asked = asked_by plan bits old between some fits plans (bypassed_of m old known remembers) is live read free idle;
}

-- so many answers wait
length-captured : (bits : List Bool) (c : Chip) → length bits ≡ width_of c.port.selected → length (map answer_byte (captured_in c)) ≡ length bits
length-captured bits c fits = length-answers (captured_in c) ∙ sym (fits_captured bits c fits)

pub data_waits : (plan : Plan) (bits : List Bool) (n : ℕ) (old between : Option ChainFar) → n ≤ length bits → Fits bits (chip_told old)
    → DataBetween plan bits old between → IfSome between (λ g. n ≤ length g.unread)
data_waits plan bits n None between few fits b = subst (λ t. IfSome t (λ g. n ≤ length g.unread)) (sym b.is) tt
data_waits plan bits n (Some f) between few fits b = subst (λ t. IfSome t (λ g. n ≤ length g.unread)) (sym b.asked.is)
    (subst (λ k. n ≤ k) (sym (length-captured bits f.live.chain.chip fits)) few)

-- ---- a scan was done

pub record DataTold (bits out : List Bool) (old new : Option ChainFar) : Type 0 where
  pub scanned : WhereTold (Scanned (Some chain_slack) bits out) (chip_told old) (chip_told new)
  pub live : IsLive (chip_told new)
  pub read : IsRead (chip_told new)
  pub free : IsFree (chip_told new)
  pub idle : IsIdle (chip_told new)
  pub holds : (code : ℕ) → IfSome old (HoldsCode code) → IfSome new (HoldsCode code)

holds_on : (code : ℕ) (f : ChainFar) (d : Chain) (bits : List Bool) (i : Inside) → HoldsCode code f
    → d.chip ≡ idle_chip f.live.chain.chip.port.selected bits i → AllBypass d → HoldsCode code (chain_living d [])
holds_on code f d bits i held is others = record {
  chip = record { live = refl; selected = ap (λ (c : Chip). c.port.selected) is ∙ held.chip.selected; tdo = ap (λ (c : Chip). c.port.tdo) is };
  others = others;
}

data_at : (plan : Plan) (bits out : List Bool) (f : ChainFar) (new : Option ChainFar) (d : Chain) → length bits ≡ width_of f.live.chain.chip.port.selected
    → length plan.near + length plan.far ≤ 7 → new ≡ Some (chain_living d [])
    → d.chip ≡ idle_chip f.live.chain.chip.port.selected bits (data_inside plan bits f.live.chain.chip) → AllBypass d
    → out ≡ captured_in f.live.chain.chip → DataTold bits out (Some f) new
data_at plan bits out f new d fits few is chip others out_is =
    let c : Chip = f.live.chain.chip in
    let same : length bits ≡ length (captured_in c) = fits_captured bits c fits in
    let count : length (padded false (length plan.near) bits (length plan.far) true) ≡ length plan.near + (length bits + length plan.far) =
    padded_count false (length plan.near) bits (length plan.far) true in
    let told : chip_told new ≡ Some (far_living (idle_chip c.port.selected bits (data_inside plan bits c)) []) =
    ap chip_told is ∙ ap Some (far_of _ _ _ _ (ap chip_ends.living chip) refl) in
    let left : bits ≡ dr_stays bits c.port.selected (ticks 2 c.inside) = sym (stays_same (captured_in c) bits same) in
    record {
      scanned = record {
        before = 2;
        between = clocks_between plan bits;
        behind = 1;
        shifts = omega (arith, count);
        out_is = out_is ∙ sym (comes_out_same (captured_in c) bits same);
        is = told ∙ ap (λ xs. Some (far_at true (idle_port c.port.selected xs) (data_inside plan bits c))) left;
        least = omega (arith, count);
        most = omega (arith, count, few);
      };
      live = subst IsLive (sym told) refl;
      read = subst IsRead (sym told) refl;
      free = subst IsFree (sym told) refl;
      idle = subst IsIdle (sym told) refl;
      holds = λ code held. subst (λ t. IfSome t (HoldsCode code)) (sym is) (holds_on code f d bits _ held chip others);
    }

data_got : (plan : Plan) (bits out : List Bool) (answers : List ℕ) (f : ChainFar) (between new : Option ChainFar)
    → length bits ≡ width_of f.live.chain.chip.port.selected
    → length plan.near + length plan.far ≤ 7 → DataAsked plan bits f between → ChainReadsFront answers between new → length answers ≡ length bits
    → answers ≡ map answer_byte out → DataTold bits out (Some f) new
data_got plan bits out answers f between new fits few a read full spelled =
    let got : ChainReadsFront answers (Some (chain_living a.chain (map answer_byte (captured_in f.live.chain.chip)))) new =
    subst (λ t. ChainReadsFront answers t new) a.is read in
    let all = all_answers (map answer_byte (captured_in f.live.chain.chip)) answers got.0 got.1
    (full ∙ sym (length-captured bits f.live.chain.chip fits)) in
    data_at plan bits out f new a.chain fits few (got.2 ∙ ap (λ u. Some (chain_living a.chain u)) all.1) a.chip a.others
    (same_bits out (captured_in f.live.chain.chip) (sym spelled ∙ all.0))

pub data_told : (plan : Plan) (bits out : List Bool) (answers : List ℕ) (old between new : Option ChainFar) → Fits bits (chip_told old)
    → length plan.near + length plan.far ≤ 7
    → DataBetween plan bits old between → ChainReadsFront answers between new → length answers ≡ length bits → answers ≡ map answer_byte out
    → DataTold bits out old new
data_told plan bits out answers None between new fits few b read full spelled =
    let none : new ≡ None = subst (λ t. ChainReadsFront answers t new) b.is read in
    let told : chip_told new ≡ None = ap chip_told none in
    record {
      scanned = told;
      live = subst IsLive (sym told) tt;
      read = subst IsRead (sym told) tt;
      free = subst IsFree (sym told) tt;
      idle = subst IsIdle (sym told) tt;
      holds = λ code held. subst (λ t. IfSome t (HoldsCode code)) (sym none) tt;
    }
data_told plan bits out answers (Some f) between new fits few b read full spelled =
    data_got plan bits out answers f between new fits few b.asked read full spelled

-- what was remembered still holds
pub still_remembers : (m k : Option ℕ) (old new : Option ChainFar) → ((code : ℕ) → IfSome old (HoldsCode code) → IfSome new (HoldsCode code)) → k ≡ m
    → Remembers m old → Remembers k new
still_remembers m k old new each is was = subst (λ n. Remembers n new) (sym is) (by m was)
  where
    by : (n : Option ℕ) → Remembers n old → Remembers n new
    by None was = tt
    by (Some code) was = each code was
