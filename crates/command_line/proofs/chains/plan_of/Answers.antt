use Rattle.std.proofs.Common.{◌≡◌, ◌∙◌, ◌∷◌, true, false, arith, sym, ap, length, lit<, map}
use Rattle.std.proofs.lemmas.Iterator.Consumers.{YieldsList-end, YieldsList-so_far, YieldsList-turn}
use Rattle.std.proofs.lemmas.Iterator.Splits.{YieldsList-from_str_split}
use Rattle.std.proofs.lemmas.List.Elements.{All-cons}
use Rattle.chain_scan.specs.ChainPlan.{IsWidth}
use Rattle.command_line.specs.Chains.{is_chip, items_of, plan_of}
use Rattle.command_line.proofs.ChainLists.{at_bad, at_full, ended, made, met, on_with, one_far, one_near, refused_at, unmet}
use Rattle.command_line.proofs.chains.plan_of.Goals.{else-eq-via-then-eq+else-not-is_behind, else-eq-via-else-eq}
use Rattle.command_line.proofs.chains.plan_of.Goals as goal

pub loop-item-preserved-then-not-is_behind : goal.loop-item-preserved-then-not-is_behind
loop-item-preserved-then-not-is_behind c = record {
  can = tt;
  ends = tt;
  goes = on_with c.loop-item.yielded c.in-Some.item c.loop-item.is_behind true c.loop-item.near.items c.loop-item.far.items c.loop-item.near.items
      c.loop-item.far.items c.loop-item.invariant.goes
      (λ rest. met c.loop-item.is_behind c.loop-item.near.items c.loop-item.far.items c.in-Some.item.now rest c.if-not-is_behind.true
      (sym c.eq.ensures ∙ c.if-eq.true));
  few = c.loop-item.invariant.few;
  near_widths = c.loop-item.invariant.near_widths;
  far_widths = c.loop-item.invariant.far_widths;
}

pub returns-in_err-width : goal.returns-in_err-width
unfolding plan_of
returns-in_err-width c =
    let turn = YieldsList-turn (YieldsList-from_str_split 44 c.args.list.now (lit< tt) (cc) (cc) (cc))
    c.loop-item.yielded _ c.loop-item.yielded_by _ _ c.in-Some.item c.in-Some.is c.next.ensures.steps in
    let front = YieldsList-so_far (YieldsList-from_str_split 44 c.args.list.now (lit< tt) (cc) (cc) (cc)) c.loop-item.yielded _ c.loop-item.yielded_by in
    let other : c.loop-item.is_behind ≡ false → is_chip c.in-Some.item.now ≡ false = elim c.else-eq.branch [
      | else-eq-via-then-eq+else-not-is_behind w ↦ λ e. cc
      | else-eq-via-else-eq w ↦ λ _. sym c.eq.ensures ∙ w.if-eq.false
    ] in
    c.from_residual.ensures
    ∙ sym (refused_at (items_of c.args.list.now) (map (λ x. x.now) c.loop-item.yielded) c.in-Some.item.now (length c.loop-item.yielded)
    c.loop-item.is_behind c.loop-item.near.items c.loop-item.far.items c.loop-item.invariant.goes front turn.0 turn.1
    (λ rest. at_bad c.loop-item.is_behind c.loop-item.near.items c.loop-item.far.items c.in-Some.item.now rest other
    (sym c.width_of.ensures.width ∙ c.in_err-width.was)))

pub returns-then-len-eq-SIDES_MOST : goal.returns-then-len-eq-SIDES_MOST
unfolding plan_of
returns-then-len-eq-SIDES_MOST c =
    let turn = YieldsList-turn (YieldsList-from_str_split 44 c.args.list.now (lit< tt) (cc) (cc) (cc))
    c.loop-item.yielded _ c.loop-item.yielded_by _ _ c.in-Some.item c.in-Some.is c.next.ensures.steps in
    let front = YieldsList-so_far (YieldsList-from_str_split 44 c.args.list.now (lit< tt) (cc) (cc) (cc)) c.loop-item.yielded _ c.loop-item.yielded_by in
    let other : c.loop-item.is_behind ≡ false → is_chip c.in-Some.item.now ≡ false = elim c.else-eq.branch [
      | else-eq-via-then-eq+else-not-is_behind w ↦ λ e. cc
      | else-eq-via-else-eq w ↦ λ _. sym c.eq.ensures ∙ w.if-eq.false
    ] in
    sym (refused_at (items_of c.args.list.now) (map (λ x. x.now) c.loop-item.yielded) c.in-Some.item.now (length c.loop-item.yielded)
    c.loop-item.is_behind c.loop-item.near.items c.loop-item.far.items c.loop-item.invariant.goes front turn.0 turn.1
    (λ rest. at_full c.loop-item.is_behind c.loop-item.near.items c.loop-item.far.items c.in-Some.item.now rest c.in_ok-width.width other
    (sym c.width_of.ensures.width ∙ c.in_ok-width.was) (omega (arith, c.len.ensures.value, c.len-in-loop-item.ensures.value, c.if-len-eq-SIDES_MOST.true))))

pub loop-item-preserved : goal.loop-item-preserved
loop-item-preserved c =
    let other : is_chip c.in-Some.item.now ≡ false = elim c.else-eq.branch [
      | else-eq-via-then-eq+else-not-is_behind w ↦ cc
      | else-eq-via-else-eq w ↦ sym c.eq.ensures ∙ w.if-eq.false
    ] in
    record {
      can = tt;
      ends = tt;
      goes = on_with c.loop-item.yielded c.in-Some.item c.loop-item.is_behind c.loop-item.is_behind c.loop-item.near.items c.loop-item.far.items
          c.loop-item.near.items c.insert-else-is_behind.new.self.items c.loop-item.invariant.goes
          (λ rest. one_far c.loop-item.is_behind c.loop-item.near.items c.loop-item.far.items c.insert-else-is_behind.new.self.items c.in-Some.item.now rest
          c.in_ok-width.width c.if-is_behind.false other (sym c.width_of.ensures.width ∙ c.in_ok-width.was) c.insert-else-is_behind.ensures.items);
      few = omega (arith, c.insert-else-is_behind.ensures.len, c.loop-item.invariant.few);
      near_widths = c.loop-item.invariant.near_widths;
      far_widths = rw c.insert-else-is_behind.ensures.items
          (All-cons IsWidth c.in_ok-width.width c.loop-item.far.items c.in_ok-width.ensures.within c.loop-item.invariant.far_widths);
    }

pub returns-then-is_behind-2 : goal.returns-then-is_behind-2
unfolding plan_of
returns-then-is_behind-2 c =
    let all = YieldsList-end (YieldsList-from_str_split 44 c.args.list.now (lit< tt) (cc) (cc) (cc)) c.loop-item.yielded _ c.loop-item.yielded_by _ _
    c.in-None.is c.next.ensures.steps in
    made c.loop-item.is_behind c.loop-item.near.items c.loop-item.far.items _ c.if-is_behind-2.true c.new.ensures.plan c.new.ensures.right
    c.loop-item.invariant.near_widths
    c.loop-item.invariant.far_widths
    ∙ sym (ended (items_of c.args.list.now) (map (λ x. x.now) c.loop-item.yielded) _ _ _ c.loop-item.invariant.goes all.0)

pub returns-else-is_behind-2 : goal.returns-else-is_behind-2
unfolding plan_of
returns-else-is_behind-2 c =
    let all = YieldsList-end (YieldsList-from_str_split 44 c.args.list.now (lit< tt) (cc) (cc) (cc)) c.loop-item.yielded _ c.loop-item.yielded_by _ _
    c.in-None.is c.next.ensures.steps in
    sym (ended (items_of c.args.list.now) (map (λ x. x.now) c.loop-item.yielded) _ _ _ c.loop-item.invariant.goes all.0
    ∙ unmet c.loop-item.is_behind c.loop-item.near.items c.loop-item.far.items c.if-is_behind-2.false)
