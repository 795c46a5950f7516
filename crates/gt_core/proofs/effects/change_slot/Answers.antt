use Rattle.gt_core.proofs.{Words.sym, Words.ap, Words.◌∙◌, Words.with_slot, Rows.set-state, Rows.changed-nowhere}
use Rattle.gt_core.proofs.effects.change_slot.Goals as goal

pub returns-in-Some : goal.returns-in-Some
returns-in-Some c =
    set-state c.args.domains.now c.args.dom.0 c.in-Some.at (with_slot c.args.gref.0 c.args.change) c.index-domains-at.result c.change_slot.new.self (sym c.find.ensures ∙ c.in-Some.is) c.index-domains-at.is (c.change_slot.ensures ∙ ap (with_slot c.args.gref.0 c.args.change) (sym c.index-domains-at.is))

pub returns-in_default : goal.returns-in_default
returns-in_default c = sym (changed-nowhere c.args.domains.now c.args.dom.0 (with_slot c.args.gref.0 c.args.change) (sym c.find.ensures ∙ c.in_default.is))
