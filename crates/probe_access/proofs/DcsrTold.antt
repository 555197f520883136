-- dcsr is read by its lower word in one call: the end without an error says that the word is its.
use Rattle.std.proofs.Common.{◌≡◌, ◌≢◌, ◌<◌, ◌^◌, ◌++◌, ℕ, List, ◌∷◌, map, false, Option, Some, None, refl, sym, subst, arith}
use Rattle.rv_model.specs.Board.{Hart}
use Rattle.rv_model.specs.DebugRegisters.{dcsr_number, debug_value}
use Rattle.debug_model.specs.Dmi.{value_of}
use Rattle.debug_model.specs.Module.{Site}
use Rattle.debug_model.specs.SystemBus.{BusUnit}
use Rattle.debug_model.specs.Told.{Far, site_of}
use Rattle.probe_run.specs.Acts.{Act, Tells}
use Rattle.probe_access.specs.CommandRuns.{EndedBehind, clearing, error_shown, poll_act, shows_busy}
use Rattle.probe_access.specs.DcsrRuns.{DcsrRead, DcsrTooEarly, dcsr_acts}
use Rattle.probe_access.proofs.Along.{AtSites, SiteActs, Split, did_sites, did_untold, site_acts-split}
use Rattle.probe_access.proofs.AtOnceTold.{EndSplit, FineEnd, Touched, asked_first, end_split, lower, stood_polled}
use Rattle.probe_access.proofs.Errors.{Calm, ErredEnd, erred_cleared, erred_polled, stood_calm}
use Rattle.probe_access.proofs.ReadyUnit.{Kept}
use Rattle.probe_access.proofs.RegAnswers.{ReadTold, StoodTold, apart_told}
use Rattle.probe_access.proofs.RegisterTold.{Rests, Stood, fine_left}
use Rattle.probe_access.proofs.StopTold.{lower_alone}
use Rattle.probe_access.proofs.TransferLemmas.{words_behind}

-- ---- the command and the word

pub dcsr_touched : (word h : ℕ) (bus : BusUnit) (y : Hart) (base : Site) (w : Hart) (k : Kept) (s t : Site) → Stood h bus y base w k s
    → SiteActs (dcsr_acts word) s t → Touched dcsr_number word lower h bus y base w k t
dcsr_touched word h bus y base w k s t st p =
    subst (λ u. Touched dcsr_number word lower h bus y base w k u) (sym p.2.2)
    (lower_alone dcsr_number word h bus y base w k p.0 p.2.0 (stood_calm h bus y base w k s st)
    (asked_first dcsr_number h bus y base w k s p.0 (record { small = omega arith; other = refl }) st p.1) p.2.1)

-- ---- the end

pub data DcsrEnd (word last h : ℕ) (bus : BusUnit) (y : Hart) (base : Site) (w : Hart) (t : Site) : Type 0 where
  right : (v : ℕ) → debug_value y dcsr_number ≡ Some v → word ≡ value_of (lower v) → error_shown last ≡ 0 → Rests h bus y base w t
      → DcsrEnd word last h bus y base w t
  wrong : error_shown last ≢ 0 → Rests h bus y base w t → DcsrEnd word last h bus y base w t

dcsr_ended : (word last h : ℕ) (bus : BusUnit) (y : Hart) (base : Site) (w : Hart) (k : Kept) (words : List ℕ) (s t : Site) → Calm h bus y base w
    → Touched dcsr_number word lower h bus y base w k s → EndSplit words last s t → shows_busy last ≡ false → DcsrEnd word last h bus y base w t
dcsr_ended word last h bus y base w k words s t c (Touched.right v held word_is st) e not_busy =
    let l : Kept = words_behind false dcsr_number v k in
    let f : FineEnd last h bus y base w l e.mid = stood_polled words last h bus y base w l s e.mid st e.polled in
    DcsrEnd.right v held word_is f.error_is
    (record { kept = l; stood = subst (λ z. Stood h bus y base w l z) (sym (fine_left (error_shown last) e.mid t f.error_is e.cleared)) f.stood })
dcsr_ended word last h bus y base w k words s t c (Touched.wrong err) e not_busy =
    let f : ErredEnd last h bus y base e.mid = erred_polled words last h bus y base w s e.mid c err e.polled not_busy in
    DcsrEnd.wrong f.error (erred_cleared last h bus y base w e.mid t c f e.cleared)

dcsr_ends : (word last h : ℕ) (bus : BusUnit) (y : Hart) (base : Site) (w : Hart) (k : Kept) (words : List ℕ) (s t : Site) → Stood h bus y base w k s
    → SiteActs (dcsr_acts word ++ (map poll_act words ++ poll_act last ∷ clearing (error_shown last))) s t → shows_busy last ≡ false
    → DcsrEnd word last h bus y base w t
dcsr_ends word last h bus y base w k words s t st p not_busy =
    let tail : List Act = map poll_act words ++ poll_act last ∷ clearing (error_shown last) in
    let cut : Split (dcsr_acts word) tail s t = site_acts-split (dcsr_acts word) tail s t p in
    dcsr_ended word last h bus y base w k words cut.mid t (stood_calm h bus y base w k s st) (dcsr_touched word h bus y base w k s cut.mid st cut.first)
    (end_split words last cut.mid t cut.rest) not_busy

-- ---- a told link along it

record DcsrTold (word last h : ℕ) (bus : BusUnit) (y : Hart) (base : Site) (w : Hart) (told : Option Far) : Type 0 where
  far : Far
  is : told ≡ Some far
  end : DcsrEnd word last h bus y base w (site_of far)

dcsr_told : (word last h : ℕ) (bus : BusUnit) (y : Hart) (base : Site) (w : Hart) (old new : Tells) → StoodTold h bus y base w old.far
    → EndedBehind (dcsr_acts word) last old new → DcsrTold word last h bus y base w new.far
dcsr_told word last h bus y base w old new st e =
    let at : AtSites _ st.far new.far = did_sites old _ new st.far e.did st.is in
    record {
      far = at.far;
      is = at.is;
      end = dcsr_ends word last h bus y base w st.kept e.words (site_of st.far) (site_of at.far) st.stood at.acts_are e.idle;
    }

-- what it holds, in 32 bits
pub record DcsrHeld (word h : ℕ) (bus : BusUnit) (y : Hart) (base : Site) (w : Hart) (told : Option Far) : Type 0 where
  pub held : ℕ
  pub held_is : debug_value y dcsr_number ≡ Some held
  pub word_is : held < 2 ^ 32 → word ≡ held
  pub then : StoodTold h bus y base w told

held_by : (word last h : ℕ) (bus : BusUnit) (y : Hart) (base : Site) (w : Hart) (told : Option Far) (f : Far) → told ≡ Some f
    → DcsrEnd word last h bus y base w (site_of f) → error_shown last ≡ 0 → DcsrHeld word h bus y base w told
held_by word last h bus y base w told f is (DcsrEnd.right v held word_is fine r) none = record {
  held = v;
  held_is = held;
  word_is = λ small. omega (arith, word_is, small);
  then = record { far = f; is = is; kept = r.kept; stood = r.stood };
}
held_by word last h bus y base w told f is (DcsrEnd.wrong error r) none = absurd (error none)

early_by : (word last h : ℕ) (bus : BusUnit) (y : Hart) (base : Site) (w : Hart) (told : Option Far) (f : Far) → told ≡ Some f
    → DcsrEnd word last h bus y base w (site_of f) → error_shown last ≢ 0 → StoodTold h bus y base w told
early_by word last h bus y base w told f is (DcsrEnd.right v held word_is fine r) some = absurd (some fine)
early_by word last h bus y base w told f is (DcsrEnd.wrong error r) some = record { far = f; is = is; kept = r.kept; stood = r.stood }

pub dcsr_early_told : (h : ℕ) (bus : BusUnit) (y : Hart) (base : Site) (w : Hart) (old new : Tells) → StoodTold h bus y base w old.far
    → DcsrTooEarly old new → StoodTold h bus y base w new.far
dcsr_early_told h bus y base w old new st r =
    let t : DcsrTold r.word r.last h bus y base w new.far = dcsr_told r.word r.last h bus y base w old new st r.ended in
    early_by r.word r.last h bus y base w new.far t.far t.is t.end r.some

pub dcsr_read_told : (word h : ℕ) (bus : BusUnit) (y : Hart) (base : Site) (w : Hart) (old new : Tells) → StoodTold h bus y base w old.far
    → DcsrRead word old new → DcsrHeld word h bus y base w new.far
dcsr_read_told word h bus y base w old new st (DcsrRead.at_once r) =
    let t : DcsrTold word r.last h bus y base w new.far = dcsr_told word r.last h bus y base w old new st r.ended in
    held_by word r.last h bus y base w new.far t.far t.is t.end r.error_is
dcsr_read_told word h bus y base w old new st (DcsrRead.late mid first r) =
    let a : ReadTold dcsr_number word h bus y base w new.far =
    apart_told dcsr_number word h bus y base w mid new (record { small = omega arith; other = refl }) (dcsr_early_told h bus y base w old mid st first) r in
    record { held = a.held; held_is = a.held_is; word_is = λ small. a.value_is (omega (arith, small)); then = a.then }

-- ---- a link that tells nothing

pub dcsr_untold : (word : ℕ) (old new : Tells) → DcsrRead word old new → old.far ≡ None → new.far ≡ None
dcsr_untold word old new (DcsrRead.at_once r) is = did_untold old _ new r.ended.did is
dcsr_untold word old new (DcsrRead.late mid first r) is =
    did_untold r.mid _ new r.words.did (did_untold mid _ r.mid r.ran.ran.did (did_untold old _ mid first.ended.did is))
