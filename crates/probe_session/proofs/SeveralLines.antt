-- Commands of several lines: lines behind other lines.
use Rattle.std.proofs.Common.{◌≡◌, ◌≤◌, ◌++◌, ℕ, Bool, List, [], Option, refl, sym, subst, append_assoc}
use Rattle.jt_base.proofs.FaultLemmas.{rises_from}
use Rattle.jt_base.specs.Sink.{GrewByPrefix, grown}
use Rattle.abstract_debugger.specs.Lines.{Line, text_of_all}
use Rattle.probe_run.specs.Acts.{Tells}
use Rattle.probe_session.specs.declared.fault.Failure.{Failure}
use Rattle.probe_session.specs.Goes.{Fell, Spoke, Went}
use Rattle.probe_session.specs.Goes.Fell.{among_lines, at_line, in_call}
use Rattle.probe_session.specs.Places.{Place}
use Rattle.probe_session.proofs.Spoken.{front_at, grown_lines}
use Rattle.probe_session.proofs.WentLemmas.{falls_then, went_then}

went_behind : {K : Type 0} {a b : K → Place} {t u : Tells} (xs ys zs : List Line) → Went a b (xs ++ (ys ++ zs)) t u → Went a b ((xs ++ ys) ++ zs) t u
went_behind {K} {a} {b} {t} {u} xs ys zs w = subst (λ l. Went a b l t u) (sym (append_assoc xs ys zs)) w

front_of : (text : List ℕ) (c d e : Option (List ℕ)) → d ≡ c → GrewByPrefix text d e → GrewByPrefix text c e
front_of text c d e is g = subst (λ x. GrewByPrefix text x e) is g

-- what fell behind lines that were written
pub spoke_fell : {K : Type 0} {T : K → Type 0} {a b : K → Place} {wrong : Bool} {old_count count new_count : ℕ} {t u v : Tells}
    {sink_old sink_count sink_new : ℕ} {c d e : Option (List ℕ)} {f : Failure} → Spoke a b wrong t u c d
    → old_count ≤ count → sink_old ≤ sink_count → sink_count ≤ sink_new → Fell T b count new_count u v sink_count sink_new d e f
    → Fell T a old_count new_count t v sink_old sink_new c e f
spoke_fell {c = c} {d = d} {e = e} s le later more (in_call said p put) =
    in_call (s.said ++ said) (falls_then s.went le p) (grown_lines s.said said c d e s.put put)
spoke_fell {sink_old = sink_old} {sink_count = sink_count} {sink_new = sink_new} {c = c} {d = d} {e = e} s le later more
    (at_line said line heard way h p may quiet w front rises) =
    at_line (s.said ++ said) line heard way h p may quiet (went_then s.went w)
    (front_at line (grown (text_of_all (s.said ++ said)) c) (grown (text_of_all said) d) e
    (grown_lines s.said said c d (grown (text_of_all said) d) s.put refl) front)
    (rises_from sink_old sink_count sink_new later more rises)
spoke_fell {sink_old = sink_old} {sink_count = sink_count} {sink_new = sink_new} {c = c} {d = d} {e = e} s le later more
    (among_lines said ahead way h p quiet w front rises) =
    among_lines (s.said ++ said) ahead way h p quiet (went_behind s.said said ahead (went_then s.went w))
    (front_of (text_of_all ahead) (grown (text_of_all (s.said ++ said)) c) (grown (text_of_all said) d) e
    (grown_lines s.said said c d (grown (text_of_all said) d) s.put refl) front)
    (rises_from sink_old sink_count sink_new later more rises)

pub went_fell : {K : Type 0} {T : K → Type 0} {a b : K → Place} {old_count count new_count : ℕ} {t u v : Tells} {sink_old sink_new : ℕ} {c d : Option (List ℕ)}
    {f : Failure} → Went a b [] t u → old_count ≤ count
    → Fell T b count new_count u v sink_old sink_new c d f → Fell T a old_count new_count t v sink_old sink_new c d f
went_fell w le (in_call said p put) = in_call said (falls_then w le p) put
went_fell w le (at_line said line heard way h p may quiet x front rises) = at_line said line heard way h p may quiet (went_then w x) front rises
went_fell w le (among_lines said ahead way h p quiet x front rises) = among_lines said ahead way h p quiet (went_then w x) front rises
