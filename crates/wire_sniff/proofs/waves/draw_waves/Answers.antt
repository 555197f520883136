use Rattle.std.proofs.Common.{◌≡◌, ap, sym, ◌∙◌, refl, subst}
use Rattle.jt_base.specs.Sink.{GrewByPrefix, grown}
use Rattle.std.proofs.Common.{◌++◌}
use Rattle.wire_sniff.specs.Waves.{header, wave_of}
use Rattle.wire_sniff.specs.Ends.{refusal_of}
use Rattle.wire_sniff.specs.Ends.EndedBy.{refused, said, unsaid}
use Rattle.wire_sniff.proofs.waves.draw_waves.Goals as goal

pub returns-in-Some : goal.returns-in-Some
returns-in-Some g c = refused c.in-Some.end (ap (λ signs. refusal_of signs c.args.answers.now) (sym c.counted-signs.ensures) ∙ sym c.in-Some.ensures) refl refl

pub returns-in-Ok : goal.returns-in-Ok
returns-in-Ok g c =
    let taken = c.counted-signs.ensures in
    said (ap (λ signs. refusal_of signs c.args.answers.now) (sym taken) ∙ sym c.in_default.ensures)
    (subst (λ signs. g.K.Sink.contents c.draw_whole.new.out ≡ grown (header ++ wave_of signs c.args.answers.now) (g.K.Sink.contents c.args.out.now)) taken
    c.in-Ok.ensures.put)
    c.in-Ok.ensures.count

pub returns-in-Err-Failed : goal.returns-in-Err-Failed
returns-in-Err-Failed g c =
    let taken = c.counted-signs.ensures in
    unsaid (ap (λ signs. refusal_of signs c.args.answers.now) (sym taken) ∙ sym c.in_default.ensures)
    (subst (λ signs. GrewByPrefix (header ++ wave_of signs c.args.answers.now) (g.K.Sink.contents c.args.out.now) (g.K.Sink.contents c.draw_whole.new.out))
    taken c.in-Err-Failed.ensures.front)
    c.in-Err-Failed.ensures.cause.cause
