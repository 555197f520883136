-- Whatever ended a session over a chip as it was loaded: what it wrote is the transcript, or a front of it.
use Rattle.std.proofs.Common.{◌≡◌, ◌∙◌, ◌++◌, ℕ, Bool, true, false, List, [], ◌∷◌, Option, Some, None, IfSome, refl, sym, ap, subst, append-nil, if◌then◌else◌}
use Rattle.std.proofs.lemmas.Option.{none-some}
use Rattle.jt_base.specs.Sink.{grown}
use Rattle.rv_model.specs.Board.{Machine, machine_of}
use Rattle.debug_model.specs.declared.dmi.DmiFault.{DmiFault}
use Rattle.debug_model.specs.declared.dmi.DmiFault.TheVariants as dmi_fault
use Rattle.debug_model.specs.declared.point.Point.TheVariants.{Look}
use Rattle.debug_model.specs.Loaded.{AsLoaded}
use Rattle.debug_model.specs.Told.{Far, IsAsLoaded, site_of}
use Rattle.abstract_debugger.specs.Lines.{Line, text_of_all}
use Rattle.abstract_debugger.specs.Plan.{Plan}
use Rattle.abstract_debugger.specs.Plan.Plan.{say}
use Rattle.abstract_debugger.specs.Stands.{Deals, IsTranscribed, Origin, Stands}
use Rattle.abstract_debugger.specs.Transcript.{End}
use Rattle.abstract_debugger.proofs.DealsLemmas.{deals_put}
use Rattle.abstract_debugger.proofs.StandsLemmas.{quiet_board}
use Rattle.probe_run.specs.declared.fault.ConnectFault.{ConnectFault}
use Rattle.probe_run.specs.declared.fault.ConnectFault.TheVariants as connect
use Rattle.probe_run.specs.Acts.{Tells}
use Rattle.probe_run.specs.Happens.{target_of}
use Rattle.probe_run.specs.Opening.{IsDmiFault, LosesLoaded, OpensLoaded, UnopenedChip, opening_why}
use Rattle.probe_session.specs.declared.ended.Ended.{Ended}
use Rattle.probe_session.specs.declared.ended.Ended.TheVariants as ended
use Rattle.probe_session.specs.declared.fault.Failure.{Failure}
use Rattle.probe_session.specs.declared.fault.Failure.TheVariants as failure
use Rattle.probe_session.specs.declared.fault.LostCause.TheVariants as lost
use Rattle.probe_session.specs.Failures.{failure_of_dmi}
use Rattle.probe_session.specs.Goes.{Anyhow, Fell, Spoke}
use Rattle.probe_session.specs.Led.{DealsAt}
use Rattle.probe_session.specs.Places.{place, spot}
use Rattle.probe_session.specs.Scripts.{BrokeOff, EndedBy, RanInto, Unfit, Unopened, at_plan, at_stop}
use Rattle.probe_session.specs.Transcribed.{IsCutTranscript, IsFrontOf, IsTranscript, OnTheWay, Still, TranscribedBy, WrittenBy, origin_of}
use Rattle.probe_session.proofs.BrokeOff.{LeftAs, OnWay, still_as}
use Rattle.probe_session.proofs.Faults.{fault_left}
use Rattle.probe_session.proofs.LedSteps.{goes_lead}
use Rattle.probe_session.proofs.OnTheWay.{cut_way, on_way}
use Rattle.probe_session.proofs.Transcribing.{begun_deals, found_far, front_written, line_written, lines_written, opened_deals, ran_transcribed}

abbrev ended_by : Failure → Ended
ended_by (failure.Wire why) = ended.Wire why
ended_by (failure.Lost why) = ended.Lost why
ended_by failure.Sink = ended.Sink

-- ---- at the script's end

at_end : (p : Plan) (wrong : Bool) (mid new : Tells) (was is : Option (List ℕ)) (old : Option Far) → IsAsLoaded old → OpensLoaded old mid.far
    → Spoke (at_plan p) at_stop wrong mid new was is
    → IfSome old (λ first. Still (IsTranscript p (if wrong then End.WithErrors else End.Clean) was is first) new.far)
at_end p wrong mid new was is None loaded opened s = tt
at_end p wrong mid new was is (Some first) loaded opened s =
    let m : Machine = machine_of (site_of first).board in
    let d : DealsAt m (origin_of p first) (at_stop tt) s.said new.far =
    goes_lead (at_plan p tt) (at_stop tt) mid new s.said (s.went.goes tt) m (origin_of p first) []
    (opened_deals p first mid.far loaded (opened loaded)) in
    ran_transcribed p wrong first was is new.far s.said d s.wrong_is s.put

-- ---- in the middle

front_of : (p : Plan) (first last : Far) (said : List Line) (was is : Option (List ℕ))
    → OnTheWay (origin_of p first) said (site_of last).journal → is ≡ grown (text_of_all said) was → IsFrontOf p was is first last
front_of p first last said was is way put = record { on_the_way = way.not_astray; written = front_written said _ was is way.front put }

transcript_of : (p : Plan) (first last : Far) (said : List Line) (e : End) (was is : Option (List ℕ))
    → IsTranscribed (origin_of p first) e said (target_of (site_of last)) → is ≡ grown (text_of_all said) was
    → IsTranscript p e was is first last
transcript_of p first last said e was is t put = record {
  end_is = t.end_is;
  written = put
      ∙ ap (λ (l : List Line). grown (text_of_all l) was) (sym t.lines_are);
  board_is = t.board_is;
}

left_written : (f : Failure) (p : Plan) (first last : Far) (said : List Line) (was is : Option (List ℕ))
    → LeftAs (origin_of p first) said f last → is ≡ grown (text_of_all said) was → WrittenBy p was is first last (ended_by f)
left_written (failure.Wire why) p first last said was is left put = front_of p first last said was is left put
left_written (failure.Lost lost.DmiFailed) p first last said was is left put = front_of p first last said was is left put
left_written (failure.Lost lost.StillBusy) p first last said was is left put = front_of p first last said was is left put
left_written (failure.Lost (lost.NoHalt looks)) p first last said was is left put = transcript_of p first last said (End.NoHalt looks) was is left put
left_written (failure.Lost (lost.NoAck looks)) p first last said was is left put = transcript_of p first last said (End.NoAck looks) was is left put
left_written (failure.Lost (lost.Odd odd)) p first last said was is left put = left
left_written failure.Sink p first last said was is left put = absurd left

fell_by : (f : Failure) (p : Plan) (first : Far) (old_count new_count : ℕ) (mid new : Tells) (sink_old sink_new : ℕ) (was is : Option (List ℕ))
    → Fell Anyhow (at_plan p) old_count new_count mid new sink_old sink_new was is f
    → DealsAt (machine_of (site_of first).board) (origin_of p first) (at_plan p tt) [] mid.far
    → Still (λ last. WrittenBy p was is first last (ended_by f)) new.far
fell_by f p first old_count new_count mid new sink_old sink_new was is (Fell.in_call said falls put) d =
    let m : Machine = machine_of (site_of first).board in
    let at : DealsAt m (origin_of p first) (falls.at tt) said falls.mid.far =
    goes_lead (at_plan p tt) (falls.at tt) mid falls.mid said (falls.went.goes tt) m (origin_of p first) [] d in
    still_as new.far (λ last left. left_written f p first last said was is left put)
    (fault_left (falls.at tt) falls.count new_count falls.mid new f (falls.fault tt) m (origin_of p first) said at)
fell_by f p first old_count new_count mid new sink_old sink_new was is (Fell.at_line said line heard way h next may quiet went front rises) d =
    let m : Machine = machine_of (site_of first).board in
    let o : Origin = origin_of p first in
    let at : DealsAt m o (spot heard way h (say line (next tt))) said new.far =
    goes_lead (at_plan p tt) (spot heard way h (say line (next tt))) mid new said (went.goes tt) m o [] d in
    found_far (λ t. Deals m h way o (say line (next tt)) said t) (λ last. IsCutTranscript p was is first last) new.far at.target at.is at.holds (λ last e.
    let s : Stands o (next tt) (said ++ line ∷ []) (target_of (site_of last)) = (deals_put m h way o line (next tt) said (target_of (site_of last)) e).stands in
    let w : OnTheWay o (said ++ line ∷ []) (site_of last).journal = on_way o (next tt) (said ++ line ∷ []) (target_of (site_of last))
    (site_of last).journal s refl in
    record {
      front = record { on_the_way = w.not_astray; written = line_written said _ line was is w.front front };
      board_is = quiet_board o (next tt) (said ++ line ∷ []) (target_of (site_of last)) (quiet tt tt) s;
    })
fell_by f p first old_count new_count mid new sink_old sink_new was is (Fell.among_lines said ahead way h next quiet went front rises) d =
    let m : Machine = machine_of (site_of first).board in
    let o : Origin = origin_of p first in
    let at : DealsAt m o (place way h (next tt)) (said ++ ahead) new.far =
    goes_lead (at_plan p tt) (place way h (next tt)) mid new (said ++ ahead) (went.goes tt) m o [] d in
    found_far (λ t. Deals m h way o (next tt) (said ++ ahead) t) (λ last. IsCutTranscript p was is first last) new.far at.target at.is at.holds (λ last e.
    let w : OnTheWay o (said ++ ahead) (site_of last).journal = on_way o (next tt) (said ++ ahead) (target_of (site_of last))
    (site_of last).journal e.stands refl in
    record {
      front = record { on_the_way = w.not_astray; written = lines_written said _ ahead was is w.front front };
      board_is = quiet_board o (next tt) (said ++ ahead) (target_of (site_of last)) (quiet tt tt) e.stands;
    })

ran_into : (f : Failure) (p : Plan) (old_count new_count : ℕ) (old new : Tells) (sink_old sink_new : ℕ) (was is : Option (List ℕ))
    → RanInto p old_count new_count old new sink_old sink_new was is f
    → (far : Option Far) → far ≡ old.far → IsAsLoaded far → IfSome far (λ first. Still (λ last. WrittenBy p was is first last (ended_by f)) new.far)
ran_into f p old_count new_count old new sink_old sink_new was is r None e loaded = tt
ran_into f p old_count new_count old new sink_old sink_new was is r (Some first) e loaded =
    let told : OpensLoaded (Some first) r.mid.far = subst (λ x. OpensLoaded x r.mid.far) (sym e) r.told in
    fell_by f p first r.count new_count r.mid new sink_old sink_new was is r.fell (opened_deals p first r.mid.far loaded (told loaded))

-- ---- at the opening

nothing : (was is : Option (List ℕ)) → is ≡ was → is ≡ grown [] was
nothing None is e = e
nothing (Some bytes) is e = e ∙ ap (λ (x : List ℕ). Some x) (sym (append-nil bytes))

cut_opening : (p : Plan) (first : Far) (new : Option Far) → AsLoaded first.live → UnopenedChip first new
    → Still (OnWay (origin_of p first) []) new
cut_opening p first new a u = record {
  far = u.far;
  is = u.is;
  holds = cut_way (origin_of p first) (Look 0) _ [] (target_of (site_of first)) (target_of (site_of u.far)) tt
      (begun_deals p first a).stands u.happened;
}

dmi_ended : (why : DmiFault) (p : Plan) (first last : Far) (was is : Option (List ℕ)) → IsFrontOf p was is first last
    → WrittenBy p was is first last (ended_by (failure_of_dmi why))
dmi_ended (dmi_fault.Wire why) p first last was is f = f
dmi_ended dmi_fault.Failed p first last was is f = f
dmi_ended dmi_fault.StillBusy p first last was is f = f

unopened_by : (why : DmiFault) (p : Plan) (old_count new_count : ℕ) (old new : Tells) (was is : Option (List ℕ))
    → Unopened old_count new_count old new was is (connect.Dmi why) → (far : Option Far) → far ≡ old.far → IsAsLoaded far
    → IfSome far (λ first. Still (λ last. WrittenBy p was is first last (ended_by (failure_of_dmi why))) new.far)
unopened_by why p old_count new_count old new was is u None e loaded = tt
unopened_by why p old_count new_count old new was is u (Some first) e loaded =
    let told : LosesLoaded (Some first) new.far (connect.Dmi why) = subst (λ x. LosesLoaded x new.far (connect.Dmi why)) (sym e) u.told in
    still_as new.far (λ last way. dmi_ended why p first last was is (front_of p first last [] was is way (nothing was is u.written)))
    (cut_opening p first new.far loaded (told loaded).1)

broke : (f : Failure) (p : Plan) (old_count new_count : ℕ) (old new : Tells) (sink_old sink_new : ℕ) (was is : Option (List ℕ))
    → BrokeOff p old_count new_count old new sink_old sink_new was is f → IsAsLoaded old.far
    → TranscribedBy p was is old.far new.far (ended_by f)
broke f p old_count new_count old new sink_old sink_new was is (BrokeOff.in_opening why u e) loaded =
    subst (λ g. TranscribedBy p was is old.far new.far (ended_by g)) (sym e)
    (unopened_by why p old_count new_count old new was is u old.far refl loaded)
broke f p old_count new_count old new sink_old sink_new was is (BrokeOff.in_plan r) loaded =
    ran_into f p old_count new_count old new sink_old sink_new was is r old.far refl loaded

no_register : (fault : ConnectFault) → IsDmiFault fault → opening_why fault ≡ None → ⊥
no_register (connect.Dtm word) dmi register = dmi
no_register (connect.Module word control) dmi register = dmi
no_register (connect.Abstract word) dmi register = dmi
no_register (connect.Bus word) dmi register = dmi
no_register (connect.Dmi why) dmi register = none-some why (sym register)

unfit : (fault : ConnectFault) (p : Plan) (old_count new_count : ℕ) (old new : Tells) (was is : Option (List ℕ))
    → Unfit old_count new_count old new was is fault → (far : Option Far) → far ≡ old.far → IsAsLoaded far
    → IfSome far (λ first. Still (λ last. WrittenBy p was is first last (ended.Target fault)) new.far)
unfit fault p old_count new_count old new was is u None e loaded = tt
unfit fault p old_count new_count old new was is u (Some first) e loaded =
    let told : LosesLoaded (Some first) new.far fault = subst (λ x. LosesLoaded x new.far fault) (sym e) u.unopened.told in
    absurd (no_register fault (told loaded).0 u.register)

-- ---- whatever it was

pub ended_transcribed : (e : Ended) (p : Plan) (old_count new_count : ℕ) (old new : Tells) (sink_old sink_new : ℕ) (was is : Option (List ℕ))
    → EndedBy p old_count new_count old new sink_old sink_new was is e → IsAsLoaded old.far
    → TranscribedBy p was is old.far new.far e
ended_transcribed ended.Clean p old_count new_count old new sink_old sink_new was is r loaded =
    at_end p false r.mid new was is old.far loaded r.told r.spoke
ended_transcribed ended.WithErrors p old_count new_count old new sink_old sink_new was is r loaded =
    at_end p true r.mid new was is old.far loaded r.told r.spoke
ended_transcribed (ended.Target fault) p old_count new_count old new sink_old sink_new was is r loaded =
    unfit fault p old_count new_count old new was is r old.far refl loaded
ended_transcribed (ended.Wire why) p old_count new_count old new sink_old sink_new was is r loaded =
    broke (failure.Wire why) p old_count new_count old new sink_old sink_new was is r loaded
ended_transcribed (ended.Lost why) p old_count new_count old new sink_old sink_new was is r loaded =
    broke (failure.Lost why) p old_count new_count old new sink_old sink_new was is r loaded
ended_transcribed ended.Sink p old_count new_count old new sink_old sink_new was is r loaded =
    ran_into failure.Sink p old_count new_count old new sink_old sink_new was is r old.far refl loaded
