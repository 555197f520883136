use Rattle.std.proofs.Common.{ap, sym, ◌∙◌, ◌≡◌, ◌++◌, Some}
use Rattle.jt_base.specs.Sink.{GrewByPrefix}
use Rattle.wire_sniff.proofs.PutLemmas.{err_anyway, err_maps, first_failed, grown_twice, ok_maps, second_failed}
use Rattle.wire_sniff.proofs.WaveLemmas.{sign_wave-parts}
use Rattle.wire_sniff.specs.State.{change_of}
use Rattle.std.specs.List.{flat_map}
use Rattle.wire_sniff.specs.Sniffed.{sign_lines}
use Rattle.wire_sniff.specs.Waves.{line_change, moment_after, sign_wave}
use Rattle.wire_sniff.proofs.waves.draw_sign.Goals as goal

pub returns-in_err-put-clause-front : goal.returns-in_err-put-clause-front
returns-in_err-put-clause-front g c = λ m is.
    let behind = change_of c.shows-shown.result in
    let whole : sign_wave c.args.time (Some c.args.sign) m ≡ c.deref.result.now ++ behind =
    sign_wave-parts c.args.time (Some c.args.sign) m
    ∙ ap (λ text. text ++ flat_map line_change (sign_lines (Some c.args.sign) m.sniffer))
    (sym (c.deref.ensures.0 ∙ c.levels_at.ensures c.args.answers.now (moment_after (Some c.args.sign) m) (c.take.ensures.state m is)))
    ∙ ap (λ text. c.deref.result.now ++ text) (c.shows-shown.ensures c.args.answers.now m is) in
    let failed : GrewByPrefix (sign_wave c.args.time (Some c.args.sign) m) (g.K.Sink.contents c.args.out.now) (g.K.Sink.contents c.put.new.self) =
    rw whole (first_failed c.deref.result.now behind (g.K.Sink.contents c.args.out.now) (g.K.Sink.contents c.put.new.self) c.in_err-put.ensures.front) in
    err_anyway c.from_residual.result _ failed

pub returns-clause-put : goal.returns-clause-put
returns-clause-put g c = λ m is.
    let behind = change_of c.shows-shown.result in
    let whole : sign_wave c.args.time (Some c.args.sign) m ≡ c.deref.result.now ++ behind =
    sign_wave-parts c.args.time (Some c.args.sign) m
    ∙ ap (λ text. text ++ flat_map line_change (sign_lines (Some c.args.sign) m.sniffer))
    (sym (c.deref.ensures.0 ∙ c.levels_at.ensures c.args.answers.now (moment_after (Some c.args.sign) m) (c.take.ensures.state m is)))
    ∙ ap (λ text. c.deref.result.now ++ text) (c.shows-shown.ensures c.args.answers.now m is) in
    rw whole (ok_maps c.put_change.result _ _ (λ done. grown_twice _ _ _ _ _ c.in_ok-put.ensures.put done) c.put_change.ensures.put)

pub returns-clause-front : goal.returns-clause-front
returns-clause-front g c = λ m is.
    let behind = change_of c.shows-shown.result in
    let whole : sign_wave c.args.time (Some c.args.sign) m ≡ c.deref.result.now ++ behind =
    sign_wave-parts c.args.time (Some c.args.sign) m
    ∙ ap (λ text. text ++ flat_map line_change (sign_lines (Some c.args.sign) m.sniffer))
    (sym (c.deref.ensures.0 ∙ c.levels_at.ensures c.args.answers.now (moment_after (Some c.args.sign) m) (c.take.ensures.state m is)))
    ∙ ap (λ text. c.deref.result.now ++ text) (c.shows-shown.ensures c.args.answers.now m is) in
    rw whole (err_maps c.put_change.result _ _ (λ failed. second_failed _ _ _ _ _ c.in_ok-put.ensures.put failed) c.put_change.ensures.front)
