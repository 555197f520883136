use Rattle.std.proofs.Common.{◌≡◌, ◌∙◌, ℕ, true, false, List, length, ap, refl, subst, sym}
use Rattle.std.proofs.lemmas.Bool.{eq-eqb, ne_eqb}
use Rattle.abstract_debugger.specs.Lines.{Line}
use Rattle.probe_run.specs.Told.{told}
use Rattle.probe_session.specs.declared.known.Known.TheVariants as known
use Rattle.soft_session.specs.Setting.{PlantedLed, PreparedLed, planted_list}
use Rattle.soft_session.proofs.SettingSteps.{no_room, set_already, set_done, set_running}
use Rattle.probe_session.proofs.LinkLemmas.{if_err}
use Rattle.soft_session.proofs.CutScriptCalls.{prepare_set_cut, plant_set_cut}
use Rattle.soft_session.proofs.CausedCalls.{since_err}
use Rattle.soft_session.proofs.session.SoftSession.set.Goals as goal

pub returns-then-planted-clause-led : goal.returns-then-planted-clause-led
returns-then-planted-clause-led g c =
    set_already c.args.at c.args.self.now (record c.args.self.now { session = record c.args.self.now.session { known = known.Nothing } })
    (told (g.D.Dmi.seen c.args.link.now)) (sym c.planted.ensures ∙ c.if-planted.true) refl refl

pub returns-then-patches-eq-PATCHES_MOST-clause-led : goal.returns-then-patches-eq-PATCHES_MOST-clause-led
returns-then-patches-eq-PATCHES_MOST-clause-led g c =
    no_room c.args.at c.args.self.now (record c.args.self.now { session = record c.args.self.now.session { known = known.Nothing } })
    (told (g.D.Dmi.seen c.args.link.now)) (sym c.planted.ensures ∙ c.if-planted.false)
    (eq-eqb (length c.args.self.now.table.addresses) 32 (sym (ap (λ (l : List ℕ). length l) c.patches.ensures.list) ∙ c.if-patches-eq-PATCHES_MOST.true))
    refl refl

pub returns-in-Running-clause-led : goal.returns-in-Running-clause-led
returns-in-Running-clause-led g c =
    set_running c.args.at c.in-Running.hart c.args.self.now (record c.args.self.now { session = record c.args.self.now.session { known = known.Nothing } })
    (told (g.D.Dmi.seen c.args.link.now)) (told (g.D.Dmi.seen c.prepare_first.new.link)) (sym c.planted.ensures ∙ c.if-planted.false)
    (ne_eqb (length c.args.self.now.table.addresses) 32 (λ e. c.if-patches-eq-PATCHES_MOST.false (ap (λ (l : List ℕ). length l) c.patches.ensures.list ∙ e)))
    (subst (λ r. PreparedLed c.args.self.now.table.addresses (told (g.D.Dmi.seen c.args.link.now)) (told (g.D.Dmi.seen c.prepare_first.new.link)) r)
    c.in-Running.is c.in_ok-hart.ensures.led) refl refl

pub returns-then-branch-clause-led : goal.returns-then-branch-clause-led
returns-then-branch-clause-led g c =
    set_done c.args.at true (Line.SoftSet c.args.at) c.args.self.now
    (record c.args.self.now { session = record c.args.self.now.session { known = known.Nothing }; table = c.plant_word.new.table })
    (told (g.D.Dmi.seen c.args.link.now)) (told (g.D.Dmi.seen c.prepare_first.new.link)) (told (g.D.Dmi.seen c.plant_word.new.link))
    (sym c.planted.ensures ∙ c.if-planted.false)
    (ne_eqb (length c.args.self.now.table.addresses) 32 (λ e. c.if-patches-eq-PATCHES_MOST.false (ap (λ (l : List ℕ). length l) c.patches.ensures.list ∙ e)))
    (subst (λ r. PreparedLed c.args.self.now.table.addresses (told (g.D.Dmi.seen c.args.link.now)) (told (g.D.Dmi.seen c.prepare_first.new.link)) r)
    c.in-Ready.is c.in_ok-hart.ensures.led)
    (subst (λ b. PlantedLed c.args.at c.args.self.now.table c.plant_word.new.table (told (g.D.Dmi.seen c.prepare_first.new.link))
    (told (g.D.Dmi.seen c.plant_word.new.link)) b) c.if-branch.true c.in_ok-plant_word-in-Ready.ensures.led)
    (subst (λ b. c.plant_word.new.table.addresses ≡ planted_list c.args.at b c.args.self.now.table.addresses) c.if-branch.true
    c.in_ok-plant_word-in-Ready.ensures.list) refl refl

pub returns-else-branch-clause-led : goal.returns-else-branch-clause-led
returns-else-branch-clause-led g c =
    set_done c.args.at false (Line.MemoryFault c.args.at) c.args.self.now
    (record c.args.self.now { session = record c.args.self.now.session { known = known.Nothing }; table = c.plant_word.new.table })
    (told (g.D.Dmi.seen c.args.link.now)) (told (g.D.Dmi.seen c.prepare_first.new.link)) (told (g.D.Dmi.seen c.plant_word.new.link))
    (sym c.planted.ensures ∙ c.if-planted.false)
    (ne_eqb (length c.args.self.now.table.addresses) 32 (λ e. c.if-patches-eq-PATCHES_MOST.false (ap (λ (l : List ℕ). length l) c.patches.ensures.list ∙ e)))
    (subst (λ r. PreparedLed c.args.self.now.table.addresses (told (g.D.Dmi.seen c.args.link.now)) (told (g.D.Dmi.seen c.prepare_first.new.link)) r)
    c.in-Ready.is c.in_ok-hart.ensures.led)
    (subst (λ b. PlantedLed c.args.at c.args.self.now.table c.plant_word.new.table (told (g.D.Dmi.seen c.prepare_first.new.link))
    (told (g.D.Dmi.seen c.plant_word.new.link)) b) c.if-branch.false c.in_ok-plant_word-in-Ready.ensures.led)
    (subst (λ b. c.plant_word.new.table.addresses ≡ planted_list c.args.at b c.args.self.now.table.addresses) c.if-branch.false
    c.in_ok-plant_word-in-Ready.ensures.list) refl refl

pub returns-in_err-hart-clause-cut : goal.returns-in_err-hart-clause-cut
returns-in_err-hart-clause-cut g c =
    if_err _ c.in_err-hart.field-0.0 _ c.from_residual.ensures.1
    (prepare_set_cut c.args.at c.args.self.now (told (g.D.Dmi.seen c.args.link.now)) (told (g.D.Dmi.seen c.prepare_first.new.link)) c.in_err-hart.field-0.0
    (sym c.planted.ensures ∙ c.if-planted.false) (ne_eqb (length c.args.self.now.table.addresses) 32 (λ e. c.if-patches-eq-PATCHES_MOST.false (ap (λ
    (l : List ℕ). length l) c.patches.ensures.list ∙ e))) c.in_err-hart.ensures.cut)

pub returns-in_err-plant_word-in-Ready-clause-cut : goal.returns-in_err-plant_word-in-Ready-clause-cut
returns-in_err-plant_word-in-Ready-clause-cut g c =
    if_err _ c.in_err-plant_word-in-Ready.field-0.0 _ c.from_residual-in_err-plant_word-in-Ready.ensures.1
    (plant_set_cut c.args.at c.args.self.now (told (g.D.Dmi.seen c.args.link.now)) (told (g.D.Dmi.seen c.prepare_first.new.link))
    (told (g.D.Dmi.seen c.plant_word.new.link)) c.in_err-plant_word-in-Ready.field-0.0
    (sym c.planted.ensures ∙ c.if-planted.false) (ne_eqb (length c.args.self.now.table.addresses) 32 (λ e. c.if-patches-eq-PATCHES_MOST.false (ap (λ
    (l : List ℕ). length l) c.patches.ensures.list ∙ e)))
    (subst (λ r. PreparedLed c.args.self.now.table.addresses (told (g.D.Dmi.seen c.args.link.now))
    (told (g.D.Dmi.seen c.prepare_first.new.link)) r) c.in-Ready.is c.in_ok-hart.ensures.led)
    c.in_err-plant_word-in-Ready.ensures.cut)

pub returns-in_err-hart-clause-caused : goal.returns-in_err-hart-clause-caused
returns-in_err-hart-clause-caused g c =
    if_err _ c.in_err-hart.field-0.0 _ c.from_residual.ensures.1
    (c.in_err-hart.ensures.caused)

pub returns-in_err-plant_word-in-Ready-clause-caused : goal.returns-in_err-plant_word-in-Ready-clause-caused
returns-in_err-plant_word-in-Ready-clause-caused g c =
    since_err ⊥ c.in_err-plant_word-in-Ready.field-0.0 (g.D.Dmi.seen c.args.link.now) (g.D.Dmi.seen c.prepare_first.new.link)
    (g.D.Dmi.seen c.plant_word.new.link) _ c.from_residual-in_err-plant_word-in-Ready.ensures.1 c.prepare_first.ensures.keeps.later
    c.plant_word.ensures.keeps.later
    (c.in_err-plant_word-in-Ready.ensures.caused)
