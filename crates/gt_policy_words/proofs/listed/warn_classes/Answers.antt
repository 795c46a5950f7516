use Rattle.std.proofs.Common.{◌++◌, ◌∙◌, ℕ, List, ap}
use Rattle.gt_findings.specs.Findings.{class_lines}
use Rattle.gt_policy_words.specs.Words.{unknown_line}
use Rattle.gt_policy_statements.proofs.GrantLemmas.{appended-more}
use Rattle.gt_findings.proofs.KeepLemmas.{keeps_then}
use Rattle.gt_policy_words.proofs.listed.warn_classes.Goals as goal

pub classes-preserved : goal.classes-preserved
classes-preserved c =
    let added = c.in_ok-warn_class.ensures in let before = c.classes.invariant in let line = c.args.place.now.words.now.number in let out = class_lines c.classes.found.items in (
      (added.quiet.0 ∙ before.0.0, added.quiet.1 ∙ before.0.1, added.quiet.2 ∙ before.0.2),
      added.classes ∙ ap (λ (w : List ℕ). out ++ unknown_line line w) c.as_str.ensures
          ∙ appended-more (unknown_line line) c.args.classes.now c.classes.class-index c.class-item.result (class_lines c.args.found.now.items) out c.classes-test.true c.class-item.is before.1,
      keeps_then c.args.place.now.words.now.bytes.now c.args.found.now.items c.classes.found.items c.warn_class.new.found.items before.2 added.columns,
    )
