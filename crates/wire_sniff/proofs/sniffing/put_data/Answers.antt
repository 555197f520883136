use Rattle.std.proofs.Common.{ap, sym, ◌∙◌, ◌≡◌, ◌++◌}
use Rattle.jt_base.specs.Sink.{GrewByPrefix}
use Rattle.wire_sniff.proofs.PutLemmas.{err_anyway, err_maps, first_failed, grown_twice, ok_maps, second_failed, text-more}
use Rattle.wire_sniff.specs.Sniffed.{data_lines, selected_lines}
use Rattle.wire_sniff.specs.Sniffed.SniffedLine.{Data}
use Rattle.wire_sniff.specs.SniffedText.{text_of, text_of_all}
use Rattle.wire_sniff.specs.State.{lines_shown}
use Rattle.wire_sniff.proofs.sniffing.put_data.Goals as goal

pub returns-in_err-put-clause-front : goal.returns-in_err-put-clause-front
returns-in_err-put-clause-front g c = λ answers s is.
    let more = selected_lines s.code s.given s.taken in
    let first : text_of (Data s.code s.given s.taken) ≡ c.deref.result.now =
    sym (c.deref.ensures.0 ∙ c.data_line.ensures s.given s.taken is.scan ∙ ap (λ code. text_of (Data code s.given s.taken)) is.code) in
    let whole : text_of_all (data_lines s.code s.given s.taken) ≡ c.deref.result.now ++ text_of_all more =
    text-more (Data s.code s.given s.taken) more ∙ ap (λ text. text ++ text_of_all more) first in
    let failed : GrewByPrefix (text_of_all (data_lines s.code s.given s.taken)) (g.K.Sink.contents c.args.out.now) (g.K.Sink.contents c.put.new.self) =
    rw whole (first_failed c.deref.result.now (text_of_all more) (g.K.Sink.contents c.args.out.now) (g.K.Sink.contents c.put.new.self)
    c.in_err-put.ensures.front) in
    err_anyway c.from_residual.result _ failed

pub returns-clause-put : goal.returns-clause-put
returns-clause-put g c = λ answers s is.
    let more = lines_shown c.shown_by.result in
    let first : text_of (Data s.code s.given s.taken) ≡ c.deref.result.now =
    sym (c.deref.ensures.0 ∙ c.data_line.ensures s.given s.taken is.scan ∙ ap (λ code. text_of (Data code s.given s.taken)) is.code) in
    let whole : text_of_all (data_lines s.code s.given s.taken) ≡ c.deref.result.now ++ text_of_all more =
    text-more (Data s.code s.given s.taken) (selected_lines s.code s.given s.taken)
    ∙ ap (λ text. text ++ text_of_all (selected_lines s.code s.given s.taken)) first
    ∙ ap (λ lines. c.deref.result.now ++ text_of_all lines) (sym (c.shown_by.ensures answers s is)) in
    rw whole (ok_maps c.put_shown.result _ _ (λ done. grown_twice _ _ _ _ _ c.in_ok-put.ensures.put done) c.put_shown.ensures.put)

pub returns-clause-front : goal.returns-clause-front
returns-clause-front g c = λ answers s is.
    let more = lines_shown c.shown_by.result in
    let first : text_of (Data s.code s.given s.taken) ≡ c.deref.result.now =
    sym (c.deref.ensures.0 ∙ c.data_line.ensures s.given s.taken is.scan ∙ ap (λ code. text_of (Data code s.given s.taken)) is.code) in
    let whole : text_of_all (data_lines s.code s.given s.taken) ≡ c.deref.result.now ++ text_of_all more =
    text-more (Data s.code s.given s.taken) (selected_lines s.code s.given s.taken)
    ∙ ap (λ text. text ++ text_of_all (selected_lines s.code s.given s.taken)) first
    ∙ ap (λ lines. c.deref.result.now ++ text_of_all lines) (sym (c.shown_by.ensures answers s is)) in
    rw whole (err_maps c.put_shown.result _ _ (λ failed. second_failed _ _ _ _ _ c.in_ok-put.ensures.put failed) c.put_shown.ensures.front)
