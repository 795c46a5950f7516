use Rattle.std.proofs.Common.{◌≡◌, ◌+◌, None, Option, drop, sym, ◌∙◌}
use Rattle.std.specs.List.{flat_map}
use Rattle.gt_policy.specs.declared.statements.Mention.{Mention}
use Rattle.gt_neverallow.specs.Naming.{mentions_of, undeclared}
use Rattle.gt_neverallow.proofs.NamingLemmas.{first_at, found_first, found_later}
use Rattle.gt_neverallow.proofs.names.undeclared.Goals as goal

pub returns-in-Some : goal.returns-in-Some
returns-in-Some c =
    sym (c.nevers.invariant ∙ first_at c.args.statements.now c.args.nevers.now c.nevers.never-index c.never-item.result c.nevers-test.true c.never-item.is
    ∙ found_first c.args.statements.now (mentions_of c.never-item.result) (flat_map mentions_of (drop (c.nevers.never-index + 1) c.args.nevers.now)) c.in-Some.mention.now c.in-Some.ensures)

pub nevers-preserved : goal.nevers-preserved
nevers-preserved c =
    let none : ◌≡◌ {A = Option Mention} None (undeclared c.args.statements.now (mentions_of c.never-item.result)) = rw c.in_default.is at c.undeclared_of.ensures in
    c.nevers.invariant ∙ first_at c.args.statements.now c.args.nevers.now c.nevers.never-index c.never-item.result c.nevers-test.true c.never-item.is
    ∙ found_later c.args.statements.now (mentions_of c.never-item.result) (flat_map mentions_of (drop (c.nevers.never-index + 1) c.args.nevers.now)) none
