use Rattle.gt_core.proofs.{Words.sym, Words.ap, Words.◌∙◌, Words.without_holder, Rows.set-state, Rows.changed-nowhere}
use Rattle.gt_core.proofs.effects.forget.Goals as goal

pub returns-in-Some : goal.returns-in-Some
returns-in-Some c =
    set-state c.args.domains.now c.args.dom.0 c.in-Some.at (without_holder c.args.holder) c.index-domains-at.result c.forget.new.self (sym c.find.ensures ∙ c.in-Some.is) c.index-domains-at.is (c.forget.ensures ∙ ap (without_holder c.args.holder) (sym c.index-domains-at.is))

pub returns-in_default : goal.returns-in_default
returns-in_default c = sym (changed-nowhere c.args.domains.now c.args.dom.0 (without_holder c.args.holder) (sym c.find.ensures ∙ c.in_default.is))
