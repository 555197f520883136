-- What scans were asked for, where that is told: the calls of an operation so far, and of several.
use Rattle.std.proofs.Common.{◌≡◌, ◌∙◌, ◌+◌, ◌<◌, ◌≤◌, ℕ, List, [], ◌∷◌, ◌++◌, length, drop, Bool, true, false, Option, Some, None, refl, sym}
use Rattle.std.proofs.Common.{ap, subst, arith}
use Rattle.std.proofs.lemmas.List.{append_assoc}
use Rattle.debug_model.specs.declared.asked.Asked.{Asked}
use Rattle.debug_model.specs.declared.asked.Asked.TheVariants.{Select, Shift}
use Rattle.debug_model.specs.declared.dmi_op.DmiOp.{DmiOp}
use Rattle.debug_model.specs.declared.dmi_scan.DmiScan.{DmiScan}
use Rattle.debug_model.specs.Asked.{Asks, AsksDtmcs, BehindReset, Carried, CarriedOut, StreamedOut, Streams}
use Rattle.debug_model.specs.Asked.{abits_behind, and_asked, bits_of_dmi, carrying, clearing, clearing_again, first_scan, idles, next_scan, nop}
use Rattle.debug_model.specs.Asked.BehindReset.{reset, stood}
use Rattle.debug_model.specs.Asked.Carried.{busy, selected, took}
use Rattle.debug_model.specs.Asked.Streams.{chosen, ignored, went}
use Rattle.debug_model.specs.Port.{dmi_code}
use Rattle.debug_model.specs.Scan.{idle_most}
use Rattle.debug_model.specs.TransportWords.{dtmcs_of}
use Rattle.probe_dmi.specs.declared.state.State.{State}
use Rattle.probe_dmi.specs.declared.state.State.TheVariants.{New, Idle, Dead}
use Rattle.probe_dmi.specs.Operations.{asking, reset_first}

-- ---- one call after another

pub asked_then : (front more : List Asked) (old mid new : Option (List Asked)) → mid ≡ and_asked front old → new ≡ and_asked more mid
    → new ≡ and_asked (front ++ more) old
asked_then front more None mid new a b = b ∙ ap (and_asked more) a
asked_then front more (Some acts) mid new a b = b ∙ ap (and_asked more) a ∙ ap Some (append_assoc acts front more)

asked_on : (front acts more : List Asked) (old mid new : Option (List Asked)) → mid ≡ and_asked (front ++ acts) old → new ≡ and_asked more mid
    → new ≡ and_asked (front ++ (acts ++ more)) old
asked_on front acts more old mid new a b = asked_then (front ++ acts) more old mid new a b ∙ ap (λ xs. and_asked xs old) (append_assoc front acts more)

-- ---- a reset where there is one

pub still_idle : (s : State) (more : List Asked) (old new : Option (List Asked)) → s ≡ Idle → new ≡ and_asked (reset_first s ++ more) old
    → new ≡ and_asked more old
still_idle s more old new is e = e ∙ ap (λ t. and_asked (reset_first t ++ more) old) is

behind_reset : (P : List Asked → Type 0) (s : State) (acts : List Asked) → P acts → BehindReset P (reset_first s ++ acts)
behind_reset P New acts p = reset acts p
behind_reset P Idle acts p = stood acts p
behind_reset P Dead acts p = reset acts p

-- ---- dtmcs

pub asks_width : (s : State) (word abits abits' : ℕ) (old new : Option (List Asked)) → abits' ≡ abits_behind (dtmcs_of word).abits abits
    → new ≡ and_asked (reset_first s ++ clearing) old → AsksDtmcs word (asking abits old) (asking abits' new)
asks_width s word abits abits' None new w e = ap (asking abits') e
asks_width s word abits abits' (Some was) new w e = record {
  acts = reset_first s ++ clearing;
  cleared = behind_reset (λ xs. xs ≡ clearing) s clearing refl;
  is = ap (asking abits') e ∙ ap (λ n. asking n (Some (was ++ (reset_first s ++ clearing)))) w;
}

-- ---- one operation

pub record CarriedSoFar (s : State) (abits : ℕ) (op : DmiOp) (n : ℕ) (taken : Bool) (old new : Option (List Asked)) : Type 0 where
  pub acts : List Asked
  pub carried : Carried abits op n taken acts
  pub is : new ≡ and_asked (reset_first s ++ acts) old

abbrev pub Exchanged : ℕ → ℕ → DmiScan → Option (List Asked) → Option (List Asked) → Type 0
Exchanged clocks abits sent mid new = new ≡ and_asked (idles clocks ++ Shift (bits_of_dmi abits sent) ∷ []) mid

exchanged_as : (clocks abits : ℕ) (sent word : DmiScan) (mid new : Option (List Asked)) → sent ≡ word → Exchanged clocks abits sent mid new
    → Exchanged clocks abits word mid new
exchanged_as clocks abits sent word mid new e x = subst (λ w. Exchanged clocks abits w mid new) e x

pub carried_begun : (s : State) (abits : ℕ) (op : DmiOp) (old new : Option (List Asked)) → new ≡ and_asked (reset_first s ++ Select dmi_code ∷ []) old
    → CarriedSoFar s abits op 0 false old new
carried_begun s abits op old new e = record { acts = Select dmi_code ∷ []; carried = selected; is = e }

pub carried_took : (s : State) (abits : ℕ) (op : DmiOp) (n : ℕ) (taken : Bool) (sent : DmiScan) (old mid new : Option (List Asked)) → sent ≡ next_scan op taken
    → taken ≡ false
    → CarriedSoFar s abits op n taken old mid → Exchanged 0 abits sent mid new → CarriedSoFar s abits op n true old new
carried_took s abits op n taken sent old mid new e f x shifted = record {
  acts = x.acts ++ (Shift (bits_of_dmi abits (carrying op)) ∷ []);
  carried = took n x.acts (subst (λ t. Carried abits op n t x.acts) f x.carried);
  is = asked_on (reset_first s) x.acts (Shift (bits_of_dmi abits (carrying op)) ∷ []) old mid new x.is
      (exchanged_as 0 abits sent (carrying op) mid new (e ∙ ap (next_scan op) f) shifted);
}

pub carried_busy : (s t : State) (abits : ℕ) (op : DmiOp) (n : ℕ) (taken : Bool) (sent : DmiScan) (old mid last new : Option (List Asked))
    → sent ≡ next_scan op taken → t ≡ Idle
    → CarriedSoFar s abits op n taken old mid → Exchanged 0 abits sent mid last → new ≡ and_asked (reset_first t ++ clearing_again) last
    → CarriedSoFar s abits op (n + 1) taken old new
carried_busy s t abits op n taken sent old mid last new e idle x shifted cleared = record {
  acts = x.acts ++ (Shift (bits_of_dmi abits (next_scan op taken)) ∷ clearing_again);
  carried = busy n taken x.acts x.carried;
  is = asked_on (reset_first s) x.acts (Shift (bits_of_dmi abits (next_scan op taken)) ∷ clearing_again) old mid new x.is
      (asked_then (Shift (bits_of_dmi abits (next_scan op taken)) ∷ []) clearing_again mid last new
      (exchanged_as 0 abits sent (next_scan op taken) mid last e shifted) (still_idle t clearing_again last new idle cleared));
}

pub carried_out : (s : State) (abits : ℕ) (op : DmiOp) (n : ℕ) (taken : Bool) (sent : DmiScan) (old mid new : Option (List Asked)) → sent ≡ next_scan op taken
    → taken ≡ true
    → CarriedSoFar s abits op n taken old mid → Exchanged 0 abits sent mid new → Asks (CarriedOut op) (asking abits old) (asking abits new)
carried_out s abits op n taken sent None mid new e t x shifted = ap (asking abits) (shifted ∙ ap (and_asked (Shift (bits_of_dmi abits sent) ∷ [])) x.is)
carried_out s abits op n taken sent (Some was) mid new e t x shifted = record {
  acts = (reset_first s ++ x.acts) ++ (Shift (bits_of_dmi abits nop) ∷ []);
  fits = record {
    busy_answers = n;
    before = reset_first s ++ x.acts;
    carried = behind_reset (Carried abits op n true) s x.acts (subst (λ b. Carried abits op n b x.acts) t x.carried);
    is = refl;
  };
  is = ap (asking abits) (asked_then (reset_first s ++ x.acts) (Shift (bits_of_dmi abits nop) ∷ []) (Some was) mid new x.is
      (exchanged_as 0 abits sent nop mid new (e ∙ ap (next_scan op) t) shifted));
}

-- ---- several

pub record StreamsSoFar (s : State) (abits : ℕ) (ops rest : List DmiOp) (old new : Option (List Asked)) : Type 0 where
  pub acts : List Asked
  pub streams : Streams abits ops rest acts
  pub is : new ≡ and_asked (reset_first s ++ acts) old

pub streams_begun : (s : State) (abits : ℕ) (ops : List DmiOp) (old new : Option (List Asked)) → new ≡ and_asked (reset_first s ++ Select dmi_code ∷ []) old
    → StreamsSoFar s abits ops ops old new
streams_begun s abits ops old new e = record { acts = Select dmi_code ∷ []; streams = chosen; is = e }

pub streams_ignored : (s t : State) (abits : ℕ) (ops rest : List DmiOp) (clocks : ℕ) (sent : DmiScan) (old mid last new : Option (List Asked))
    → clocks ≤ idle_most → sent ≡ first_scan rest → t ≡ Idle
    → StreamsSoFar s abits ops rest old mid → Exchanged clocks abits sent mid last → new ≡ and_asked (reset_first t ++ clearing_again) last
    → StreamsSoFar s abits ops rest old new
streams_ignored s t abits ops rest clocks sent old mid last new few e idle x shifted cleared =
    let word = bits_of_dmi abits (first_scan rest) in
    let more = idles clocks ++ (Shift word ∷ clearing_again) in
    record {
      acts = x.acts ++ more;
      streams = ignored rest x.acts clocks few x.streams;
      is = asked_on (reset_first s) x.acts more old mid new x.is
          (asked_then (idles clocks ++ Shift word ∷ []) clearing_again mid last new (exchanged_as clocks abits sent (first_scan rest) mid last e shifted)
          (still_idle t clearing_again last new idle cleared)
          ∙ ap (λ xs. and_asked xs mid) (append_assoc (idles clocks) (Shift word ∷ []) clearing_again));
    }

pub streams_went : (s : State) (abits : ℕ) (ops rest after : List DmiOp) (clocks : ℕ) (sent : DmiScan) (old mid new : Option (List Asked)) → 1 ≤ length rest
    → after ≡ drop 1 rest → clocks ≤ idle_most
    → sent ≡ first_scan rest → StreamsSoFar s abits ops rest old mid → Exchanged clocks abits sent mid new → StreamsSoFar s abits ops after old new
streams_went s abits ops [] after clocks sent old mid new some behind few e x shifted = absurd (omega (arith, some))
streams_went s abits ops (op ∷ rest) after clocks sent old mid new some behind few e x shifted =
    subst (λ xs. StreamsSoFar s abits ops xs old new) (sym behind) (record {
      acts = x.acts ++ (idles clocks ++ (Shift (bits_of_dmi abits (carrying op)) ∷ []));
      streams = went op rest x.acts clocks few x.streams;
      is = asked_on (reset_first s) x.acts (idles clocks ++ (Shift (bits_of_dmi abits (carrying op)) ∷ [])) old mid new x.is
          (exchanged_as clocks abits sent (carrying op) mid new e shifted);
    })

pub streams_out : (s : State) (abits : ℕ) (ops rest : List DmiOp) (clocks : ℕ) (sent : DmiScan) (old mid new : Option (List Asked)) → length rest < 1
    → clocks ≤ idle_most → sent ≡ first_scan rest
    → StreamsSoFar s abits ops rest old mid → Exchanged clocks abits sent mid new → Asks (StreamedOut ops) (asking abits old) (asking abits new)
streams_out s abits ops (op ∷ rest) clocks sent old mid new none few e x shifted = absurd (omega (arith, none))
streams_out s abits ops [] clocks sent None mid new none few e x shifted =
    ap (asking abits) (shifted ∙ ap (and_asked (idles clocks ++ Shift (bits_of_dmi abits sent) ∷ [])) x.is)
streams_out s abits ops [] clocks sent (Some was) mid new none few e x shifted =
    let last = idles clocks ++ (Shift (bits_of_dmi abits nop) ∷ []) in
    record {
      acts = (reset_first s ++ x.acts) ++ last;
      fits = record {
        clocks = clocks;
        few = few;
        before = reset_first s ++ x.acts;
        streams = behind_reset (Streams abits ops []) s x.acts x.streams;
        is =
            refl;
      };
      is = ap (asking abits) (asked_then (reset_first s ++ x.acts) last (Some was) mid new x.is (exchanged_as clocks abits sent nop mid new e shifted));
    }
