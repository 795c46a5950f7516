-- All that a text of neverallow and neverflow statements finds in a policy.
use Rattle.std.specs.Prelude.{◌≡◌, ◌==◌, ◌&&◌, ℕ, Bool, true, vec_len, List, Ok}
use Rattle.std.specs.List.{list_any}
use Rattle.gt_policy.specs.Allowing.{Meaning}
use Rattle.gt_policy.specs.Lined.{IsLined}
use Rattle.gt_policy.specs.Whole.{ReadsAs}
use Rattle.gt_policy.specs.declared.lined.LinedStatement.{LinedStatement}
use Rattle.gt_neverallow.specs.Breaking.{AreBroken, AreUnknown, forbids_some}
use Rattle.gt_neverallow.specs.Naming.{ReadsAsNever}
use Rattle.gt_neverallow.specs.declared.statement.NeverStatement.{NeverStatement}
use Rattle.gt_neverflow.specs.Flowing.{AreFlowBreaches}
use Rattle.gt_neverflow.specs.declared.finding.NeverFindings.{NeverFindings}

-- the breaches of a policy by a text of such statements, of which some forbids permissions of class `grant` or flows
abbrev pub AreBreaches : List ℕ → List ℕ → NeverFindings → Type 0
AreBreaches policy never found =
    (m : Meaning) × (xs : List LinedStatement) × (ns : List NeverStatement) × ReadsAs policy (Ok m) × IsLined policy xs
    × ReadsAsNever xs never (Ok ns) × (list_any forbids_some ns ≡ true) × AreUnknown never ns found.words.items
    × AreBroken xs ns found.breaches.items × AreFlowBreaches m xs ns found.flows.items

-- there is no breach, of a neverallow or a neverflow statement
abbrev pub has_no_breach : NeverFindings → Bool
has_no_breach found = (vec_len found.breaches == 0) && (vec_len found.flows == 0)
