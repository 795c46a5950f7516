use Rattle.std.proofs.Common.{ℕ, List, ap, ◌∙◌}
use Rattle.gt_script.specs.Flags.{with_flag}
use Rattle.gt_script.proofs.FlagLemmas.{add-names, number-added}
use Rattle.gt_script.proofs.flags.FlagNames.number.Goals as goal

pub returns-clause-names : goal.returns-clause-names
returns-clause-names c =
    add-names c.self.inside.names.keys _ c.args.name c.in_ok-number.ensures.keys ∙ ap (λ (l : List (List ℕ)). with_flag l c.args.name.now) c.self.view_is

pub returns-clause-number : goal.returns-clause-number
returns-clause-number c =
    number-added c.self.inside.names.keys _ c.args.name c.in_ok-number.number c.in_ok-number.ensures.keys c.in_ok-number.ensures.index
