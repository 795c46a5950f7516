use Rattle.std.proofs.Common.{ℕ, refl, subst, sym}
use Rattle.gt_policy_check.specs.Earlier.{AddsAtAll}
use Rattle.gt_policy_check.proofs.EarlierLemmas.{on_ok}
use Rattle.gt_policy_check.proofs.KnownLemmas.{knows_few}
use Rattle.gt_policy_check.proofs.earlier.EarlierStatements.add.Goals as goal

pub returns : goal.returns
returns c = λ members before x knows many are.
    on_ok _ _ c.push_at_all.result
    (λ adds. knows_few members before x c.args.sources.now c.args.self.now knows (record { of_source = c.push_at_all.new.lists; of_many = c.args.self.now.of_many }) are
    (subst (λ (n : ℕ). AddsAtAll c.args.self.now.of_source.items c.args.sources.now n c.push_at_all.new.lists.items) (sym many) adds) refl)
    c.push_at_all.ensures
