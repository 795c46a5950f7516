use Rattle.gt_core.proofs.{Words.sym, Words.ap, Words.◌∙◌, Words.with_header, Rows.set-state, Rows.changed-nowhere}
use Rattle.gt_core.proofs.effects.store_header.Goals as goal

pub returns-in-Some : goal.returns-in-Some
returns-in-Some c =
    set-state c.args.domains.now c.args.dom.0 c.in-Some.at (with_header c.args.version c.args.frames) c.index-domains-at.result c.store_header.new.self (sym c.find.ensures ∙ c.in-Some.is) c.index-domains-at.is (c.store_header.ensures ∙ ap (with_header c.args.version c.args.frames) (sym c.index-domains-at.is))

pub returns-in_default : goal.returns-in_default
returns-in_default c = sym (changed-nowhere c.args.domains.now c.args.dom.0 (with_header c.args.version c.args.frames) (sym c.find.ensures ∙ c.in_default.is))
