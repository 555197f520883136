-- The clauses of the calls that write registers, where the chip is told.
use Rattle.probe_run.specs.Told.{Serving}
use Rattle.std.proofs.Common.{◌≡◌, ◌∙◌, ◌<◌, ◌^◌, ℕ, List, true, Option, Some, None, is_some, slice_get, refl, sym, ap, subst, inl, inr}
use Rattle.std.proofs.lemmas.Bool.{cases_eq}
use Rattle.std.proofs.lemmas.Option.{same_Some, slice_get_within}
use Rattle.rv_model.specs.Board.{Board, Hart}
use Rattle.rv_model.specs.DebugLaws.{WriteKeeps}
use Rattle.rv_model.specs.DebugRegisters.{debug_written}
use Rattle.rv_model.proofs.DebugLemmas.{writes_keep}
use Rattle.rv_model.proofs.MapLemmas.{slice_get-set_other, slice_get-set_same}
use Rattle.debug_model.specs.Dmi.{DmiComing}
use Rattle.debug_model.specs.Module.{Site}
use Rattle.debug_model.specs.Scan.{WhereTold}
use Rattle.debug_model.specs.Told.{Far, HartHalted, HartReady, IsHalted, IsReady, Selects, SiteReady, site_of}
use Rattle.probe_access.specs.declared.fault.AccessFault.{AccessFault}
use Rattle.probe_access.specs.declared.fault.AccessFault.TheVariants as access_fault
use Rattle.probe_run.specs.Acts.{Tells, tells}
use Rattle.probe_run.specs.Sites.{put_hart}
use Rattle.probe_access.specs.RegisterRuns.{RegisterWritten, WriteFailed}
use Rattle.probe_access.specs.Registers.{RegisterWrittenAt}
use Rattle.probe_access.proofs.AccessEnd.{ready_before, written_untold}
use Rattle.probe_access.proofs.Along.{did_untold}
use Rattle.probe_access.proofs.Aside.{passed}
use Rattle.probe_access.proofs.ReadyTurns.{BoardReady}
use Rattle.probe_access.proofs.ReadyUnit.{unit_of}
use Rattle.probe_access.proofs.RegAnswers.{StoodTold, WrittenTold, stood_passed_but, stood_selects, stood_unit, write_denied, write_not_odd, written_told}
use Rattle.probe_access.proofs.RegClauses.{RegErr, first_told, reg_denied, told_serving, untold_serving}
use Rattle.probe_access.proofs.Turns.{hart_aside, stays_passed}
use Rattle.probe_access.proofs.WrittenReady.{written_ready}

-- ---- a board with one ready hart in the place of another

pub put_ready : (h : ℕ) (x y : Hart) (b : Board) → slice_get b.harts h ≡ Some x → HartReady h y → BoardReady b → BoardReady (put_hart h y b)
put_ready h x y b here ready r = record {
  harts = λ j z is. elim (cases_eq j h) [
    | inl same ↦
        subst (λ (u : Hart). HartReady j u)
        (same_Some y z (sym (ap (slice_get (put_hart h y b).harts) same ∙ slice_get-set_same b.harts h y (slice_get_within b.harts h x here)) ∙ is))
        (subst (λ n. HartReady n y) (sym same) ready)
    | inr other ↦ r.harts j z (sym (slice_get-set_other b.harts h j y other) ∙ is)
  ];
  memory = r.memory;
}

pub set_serving : (h : ℕ) (f : Far) (ready : SiteReady (site_of f)) (halted : HartHalted h (site_of f).board) (y : Hart) (told : Option Far) → HartReady h y
    → is_some y.debug.halted ≡ true
    → (st : StoodTold h (site_of f).unit.bus y (site_of f) halted.hart told) → Serving h told
set_serving h f ready halted y told fits still st =
    let s : Site = site_of f in
    let harts : List ℕ = st.stood.at.harts in
    let here : slice_get (passed harts s).board.harts h ≡ Some halted.hart = stays_passed h harts s halted.hart st.stood.held.here st.stood.held.frozen in
    let b : BoardReady (site_of st.far).board =
    subst (λ (c : Board). BoardReady c) (sym (ap (λ (u : Site). u.board) st.stood.at.is))
    (put_ready h halted.hart y (passed harts s).board here fits (ready_before harts s ready)) in
    told_serving h st.far
    (record { unit = stood_unit h s y halted.hart s st.kept (site_of st.far) ready.unit st.stood; harts = b.harts; memory = b.memory })
    (stood_selects h s.unit.bus y s halted.hart st.kept (site_of st.far) st.stood)
    (record {
      hart = y;
      is =
          ap (λ (u : Site). slice_get u.board.harts h) st.stood.at.is
          ∙ hart_aside (unit_of st.kept h s.unit.bus) h y (passed st.stood.at.harts s) halted.hart
          (stays_passed h st.stood.at.harts s halted.hart st.stood.held.here st.stood.held.frozen);
      halted = still;
    }) told st.is

pub still_halted : (x : Hart) (number v : ℕ) → is_some x.debug.halted ≡ true → is_some (debug_written x number v).debug.halted ≡ true
still_halted x number v is = let k : WriteKeeps x (debug_written x number v) = writes_keep x number v in ap is_some k.requests.halted ∙ is

-- ---- a register that is written

pub record SetOk (h number value : ℕ) (old new : Option Far) : Type 0 where
  pub set_to : WhereTold (RegisterWrittenAt h number value) old new
  pub serving : Serving h new

pub set_ok : (h number value : ℕ) (far : Option Far) (coming : Option DmiComing) (new : Tells) → number < 2 ^ 16 → value < 2 ^ 64 → IsReady far → Selects h far
    → IsHalted h far → RegisterWritten number value (tells far coming) new
    → SetOk h number value far new.far
set_ok h number value None coming new small fits ready selects halted r =
    let end : new.far ≡ None = written_untold number value (tells None coming) new r refl in record { set_to = end; serving = untold_serving h new.far end }
set_ok h number value (Some f) coming new small fits ready selects halted r =
    let st : StoodTold h (site_of f).unit.bus halted.hart (site_of f) halted.hart (Some f) = first_told h f ready halted selects in
    let t : WrittenTold number value h (site_of f).unit.bus halted.hart (site_of f) halted.hart st.kept new.far =
    written_told number value h (site_of f).unit.bus halted.hart (site_of f) halted.hart (tells (Some f) coming) new small st r in
    record {
      set_to = record {
        far = t.then.far;
        is = t.then.is;
        hart = halted.hart;
        here = halted.is;
        there = t.there;
        writable = t.writable;
        passed = stood_passed_but h (site_of f) (debug_written halted.hart number value) halted.hart t.then.kept (site_of t.then.far) t.then.stood;
      };
      serving = set_serving h f ready halted (debug_written halted.hart number value) new.far
          (written_ready h halted.hart number value (ready.harts h halted.hart halted.is) fits) (still_halted halted.hart number value halted.halted) t.then;
    }

pub set_err : (h number value : ℕ) (far : Option Far) (coming : Option DmiComing) (old_count new_count : ℕ) (new : Tells) (e : AccessFault) → number < 2 ^ 16
    → IsReady far → Selects h far → IsHalted h far
    → WriteFailed number value old_count new_count (tells far coming) new e → RegErr true h number far new.far e
set_err h number value far coming old_count new_count new (access_fault.Dmi why) small ready selects halted f = record { left = tt; serving = tt }
set_err h number value far coming old_count new_count new (access_fault.Memory address) small ready selects halted f = absurd f
set_err h number value None coming old_count new_count new (access_fault.Register asked) small ready selects halted f =
    let end : new.far ≡ None = did_untold (tells None coming) _ new f.ran.ran.did refl in record { left = end; serving = untold_serving h new.far end }
set_err h number value (Some c) coming old_count new_count new (access_fault.Register asked) small ready selects halted f =
    reg_denied true h number asked c new ready halted
    (write_denied number value h (site_of c).unit.bus halted.hart (site_of c) halted.hart (tells (Some c) coming) new small
    (first_told h c ready halted selects) f.ran)
set_err h number value far coming old_count new_count new access_fault.StillBusy small ready selects halted f = record { left = tt; serving = tt }
set_err h number value far coming old_count new_count new (access_fault.Run why) small ready selects halted f = absurd f
set_err h number value None coming old_count new_count new (access_fault.Odd shown) small ready selects halted f = record { left = refl; serving = tt }
set_err h number value (Some c) coming old_count new_count new (access_fault.Odd shown) small ready selects halted f =
    absurd (write_not_odd number value shown h (site_of c).unit.bus halted.hart (site_of c) halted.hart (tells (Some c) coming) new small
    (first_told h c ready halted selects) f)
