use Rattle.wire_sniff.proofs.PutLemmas.{err_anyway, err_maps, first_failed, grown_twice, ok_maps, second_failed}
use Rattle.wire_sniff.specs.Waves.{header, wave_of}
use Rattle.wire_sniff.proofs.waves.draw_whole.Goals as goal

pub returns-in_err-put-clause-front : goal.returns-in_err-put-clause-front
returns-in_err-put-clause-front g c =
    err_anyway c.from_residual.result _
    (first_failed header (wave_of c.args.signs.now c.args.answers.now) (g.K.Sink.contents c.args.out.now) (g.K.Sink.contents c.put.new.self)
    c.in_err-put.ensures.front)

pub returns-clause-put : goal.returns-clause-put
returns-clause-put g c =
    ok_maps c.draw_all.result _ _
    (λ done. grown_twice header (wave_of c.args.signs.now c.args.answers.now) (g.K.Sink.contents c.args.out.now) (g.K.Sink.contents c.put.new.self)
    (g.K.Sink.contents c.draw_all.new.out)
    c.in_ok-put.ensures.put done) c.draw_all.ensures.put

pub returns-clause-front : goal.returns-clause-front
returns-clause-front g c =
    err_maps c.draw_all.result _ _
    (λ failed. second_failed header (wave_of c.args.signs.now c.args.answers.now) (g.K.Sink.contents c.args.out.now) (g.K.Sink.contents c.put.new.self)
    (g.K.Sink.contents c.draw_all.new.out)
    c.in_ok-put.ensures.put failed) c.draw_all.ensures.front
