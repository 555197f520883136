use Rattle.debug_model.proofs.RiseLemmas.{within_none, within_then, within_more}
use Rattle.std.proofs.Common.{◌≡◌, ◌∙◌, ◌-◌, ◌+◌, ◌++◌, ℕ, List, length, refl, ap, subst, length-append, arith, ◌*◌}
use Rattle.rv_model.specs.declared.size.Size.{Size}
use Rattle.probe_run.specs.Acts.{Tells}
use Rattle.probe_run.specs.Told.{told}
use Rattle.probe_access.specs.BusStreams.{MoreRead}
use Rattle.probe_access.proofs.BusStreamCalls.{broke_more, more_then, none_more}
use Rattle.probe_access.proofs.RegisterCalls.{fault_failed}
use Rattle.probe_access.proofs.bus_streams.read_elements.Goals as goal

no_more_yet : (size : Size) (number : ℕ) (was : List ℕ) (old : Tells) → MoreRead size (number - number) was was old old
no_more_yet size number was old = subst (λ k. MoreRead size k was was old old) (let e : 0 ≡ number - number = omega arith in e) (none_more size was old)

more_long : (size : Size) (n : ℕ) (xs ys : List ℕ) (old new : Tells) → MoreRead size n xs ys old new → length ys ≡ length xs + n
more_long size n xs ys old new m =
    let j : length ys ≡ length (xs ++ m.values) = ap length m.joins in
    let e : length (xs ++ m.values) ≡ length xs + length m.values = length-append xs m.values in
    let k : length m.values ≡ n = m.count in
    omega (arith, j, e, k)

pub calls-init : goal.calls-init
calls-init g c = record {
  few = omega arith;
  read = no_more_yet c.args.size c.args.number c.args.into.now.items (told (g.D.Dmi.seen c.args.link.now));
  room = c.requires.room;
  stands = c.requires.stands;
  later = omega arith;
  fixed = refl;
  rises = within_none (2 * (c.args.number - c.args.number)) (g.D.Dmi.seen c.args.link.now) (g.D.Dmi.seen c.args.link.now) refl;
}

pub returns-in_err-read_call-clause-broke : goal.returns-in_err-read_call-clause-broke
returns-in_err-read_call-clause-broke g c =
    fault_failed c.from_residual.result c.in_err-read_call.field-0.0 _ c.from_residual.ensures.1
    (broke_more c.args.size (c.args.number - c.calls.left) c.next_call-now.result c.args.number _ _ _ c.args.into.now.items c.calls.into.items
    (told (g.D.Dmi.seen c.args.link.now)) (told (g.D.Dmi.seen c.calls.link)) _ c.in_err-read_call.field-0.0
    (omega (arith, c.next_call-now.ensures.within, c.calls.invariant.few)) c.calls.invariant.read c.calls.invariant.later c.read_call.ensures.keeps.later
    c.in_err-read_call.ensures.broke)

pub calls-preserved : goal.calls-preserved
calls-preserved g c =
    let long = more_long c.args.size c.next_call-now.result c.calls.into.items c.read_call.new.into.items (told (g.D.Dmi.seen c.calls.link))
    (told (g.D.Dmi.seen c.read_call.new.link)) c.in_ok-read_call.ensures.read in
    record {
      few = omega (arith, c.calls.invariant.few);
      read = more_then c.args.size (c.args.number - c.calls.left) c.next_call-now.result (c.args.number - (c.calls.left - c.next_call-now.result))
          c.args.into.now.items c.calls.into.items c.read_call.new.into.items (told (g.D.Dmi.seen c.args.link.now)) (told (g.D.Dmi.seen c.calls.link))
          (told (g.D.Dmi.seen c.read_call.new.link)) (omega (arith, c.next_call-now.ensures.within, c.calls.invariant.few)) c.calls.invariant.read
          c.in_ok-read_call.ensures.read;
      room = omega (arith, long, c.calls.invariant.room, c.next_call-now.ensures.within);
      stands = c.in_ok-read_call.ensures.keeps.behind;
      later = omega (arith, c.calls.invariant.later, c.read_call.ensures.keeps.later);
      fixed = c.read_call.ensures.keeps.fixed ∙ c.calls.invariant.fixed;
      rises = within_then (2 * (c.args.number - c.calls.left)) (2 * c.next_call-now.result) (2 * (c.args.number - (c.calls.left - c.next_call-now.result))) _
          (g.D.Dmi.seen c.calls.link) _ c.calls.invariant.rises c.read_call.ensures.rises
          c.calls.invariant.fixed (omega (arith, c.next_call-now.ensures.within, c.calls.invariant.few));
    }

pub returns-in_err-read_call-clause-rises : goal.returns-in_err-read_call-clause-rises
returns-in_err-read_call-clause-rises g c =
    within_then (2 * (c.args.number - c.calls.left)) (2 * c.next_call-now.result) (2 * c.args.number) _ (g.D.Dmi.seen c.calls.link) _ c.calls.invariant.rises
    c.read_call.ensures.rises
    c.calls.invariant.fixed (omega (arith, c.next_call-now.ensures.within, c.calls.invariant.few))

pub returns-clause-rises : goal.returns-clause-rises
returns-clause-rises g c =
    within_more (2 * (c.args.number - c.calls.left)) (2 * c.args.number) _ _ c.calls.invariant.rises (omega arith)
