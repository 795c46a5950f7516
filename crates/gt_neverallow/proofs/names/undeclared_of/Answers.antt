use Rattle.std.proofs.Common.{sym, ◌∙◌}
use Rattle.gt_neverallow.specs.Naming.{names_chosen}
use Rattle.gt_neverallow.proofs.NamingLemmas.{found_first, found_later}
use Rattle.gt_neverallow.proofs.names.undeclared_of.Goals as goal

pub returns-in-Some : goal.returns-in-Some
returns-in-Some c = sym (found_first c.args.statements.now (names_chosen c.args.never.now.source) (names_chosen c.args.never.now.target) c.in-Some.mention.now c.in-Some.ensures)

pub returns-in-None : goal.returns-in-None
returns-in-None c =
    c.undeclared_choice-in-None.ensures ∙ sym (found_later c.args.statements.now (names_chosen c.args.never.now.source) (names_chosen c.args.never.now.target) c.in-None.ensures)
