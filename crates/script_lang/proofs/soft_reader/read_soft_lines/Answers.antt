use Rattle.std.proofs.Common.{◌==◌, [], ◌∷◌, length, map, subst, sym, ap, ◌∙◌, Ok, Some, None, inl, inr, arith, rules, tests}
use Rattle.std.proofs.lemmas.List.{map-append, length-map, length-append}
use Rattle.std.proofs.lemmas.Iterator.Splits.{YieldsList-from_slice_split}
use Rattle.std.proofs.lemmas.Iterator.Consumers.{YieldsList-so_far, YieldsList-turn, YieldsList-end}
use Rattle.debug_model.specs.ScriptText.{line_feed}
use Rattle.debug_model.specs.ScriptLines.{AreReadIn, line_read_after_in}
use Rattle.debug_model.specs.SoftGrammar.{soft_command_read}
use Rattle.script_lang.proofs.LineLemmas.{room_for, line_read-alone}
use Rattle.script_lang.proofs.ReaderLemmas.{AreReadAs-push_none, AreReadAs-push_some, HasFirstFault-at, at_ok}
use Rattle.script_lang.proofs.soft_reader.read_soft_lines.Goals as goal

pub push-requires-clause-few : goal.push-requires-clause-few
push-requires-clause-few c =
    let e = ap (λ cs. line_read_after_in soft_command_read (length cs) c.in-Some.line.now) (sym c.commands.ensures.list) ∙ sym c.read_soft_line.ensures.reading ∙ c.in-Ok.is
    ∙ ap Ok c.in-Some-reading.is in
    room_for soft_command_read (length c.loop-line.script) c.in-Some.line.now c.in-Some-reading.command e

pub loop-line-preserved : goal.loop-line-preserved
loop-line-preserved c =
    let e = sym c.read_soft_line.ensures.reading ∙ c.in-Ok.is ∙ ap Ok c.in_default.is in
    let alone = line_read-alone soft_command_read _ c.in-Some.line.now None e in
    let pushed = AreReadAs-push_none (map (λ x. x.now) c.loop-line.yielded) c.loop-line.script c.in-Some.line.now c.loop-line.invariant.read alone in
    record {
      read = subst (λ ls. AreReadIn soft_command_read ls c.loop-line.script) (sym (map-append (λ x. x.now) c.loop-line.yielded (c.in-Some.line ∷ []))) pushed;
      few = c.loop-line.invariant.few;
      place = omega (arith, length-append c.loop-line.yielded (c.in-Some.line ∷ []), c.loop-line.invariant.place);
    }

pub loop-line-preserved-else-is_err : goal.loop-line-preserved-else-is_err
loop-line-preserved-else-is_err c =
    let e = ap (λ cs. line_read_after_in soft_command_read (length cs) c.in-Some.line.now) (sym c.commands.ensures.list) ∙ sym c.read_soft_line.ensures.reading ∙ c.in-Ok.is
    ∙ ap Ok c.in-Some-reading.is in
    let room = room_for soft_command_read (length c.loop-line.script) c.in-Some.line.now c.in-Some-reading.command e in
    let alone = line_read-alone soft_command_read _ c.in-Some.line.now (Some c.in-Some-reading.command) e in
    let grown = at_ok c.push.result (sym c.is_err.ensures.value ∙ c.if-is_err.false) c.push.ensures.ok in
    let pushed = AreReadAs-push_some (map (λ x. x.now) c.loop-line.yielded) c.loop-line.script c.in-Some.line.now c.in-Some-reading.command
    c.loop-line.invariant.read alone in
    record {
      read = subst (λ ls. AreReadIn soft_command_read ls c.push.new.self) (sym (map-append (λ x. x.now) c.loop-line.yielded (c.in-Some.line ∷ []))) (rw grown pushed);
      few = omega (arith, ap length grown, length-append c.loop-line.script (c.in-Some-reading.command ∷ []), room);
      place = omega (arith, length-append c.loop-line.yielded (c.in-Some.line ∷ []), c.loop-line.invariant.place);
    }

pub returns-in-Err-clause-refused : goal.returns-in-Err-clause-refused
returns-in-Err-clause-refused c =
    let turn = YieldsList-turn (YieldsList-from_slice_split _ (λ b. b == line_feed) c.args.text.now (cc) (cc) (cc) (λ x b q k. search (rules, tests)))
    c.loop-line.yielded _ c.loop-line.yielded_by _ _ c.in-Some.line c.in-Some.is c.next.ensures.steps in
    let front = YieldsList-so_far (YieldsList-from_slice_split _ (λ b. b == line_feed) c.args.text.now (cc) (cc) (cc) (λ x b q k. search (rules, tests)))
    c.loop-line.yielded _ c.loop-line.yielded_by in
    let e = ap (λ cs. line_read_after_in soft_command_read (length cs) c.in-Some.line.now) (sym c.commands.ensures.list) ∙ sym c.read_soft_line.ensures.reading ∙ c.in-Err.is in
    inl (inr (HasFirstFault-at c.args.text.now (length c.loop-line.yielded) (map (λ x. x.now) c.loop-line.yielded) c.in-Some.line.now c.loop-line.script _
    c.in-Err.fault c.requires front (simp length-map) turn.0 turn.1 c.loop-line.invariant.read c.loop-line.invariant.few
    (omega (arith, c.loop-line.invariant.place)) e))

pub returns-clause-read : goal.returns-clause-read
returns-clause-read c =
    let all = YieldsList-end (YieldsList-from_slice_split _ (λ b. b == line_feed) c.args.text.now (cc) (cc) (cc) (λ x b q k. search (rules, tests)))
    c.loop-line.yielded _ c.loop-line.yielded_by _ _ c.in-None.is c.next.ensures.steps in
    record {
      short = c.requires;
      few = c.loop-line.invariant.few;
      lines = subst (λ ls. AreReadIn soft_command_read ls c.loop-line.script) all.0 c.loop-line.invariant.read;
    }
