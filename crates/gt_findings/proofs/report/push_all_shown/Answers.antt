use Rattle.std.proofs.Common.{◌++◌, ◌∙◌, ℕ, List, sym, ap}
use Rattle.std.proofs.lemmas.Iterator.{YieldsList-from_chars}
use Rattle.std.proofs.lemmas.Iterator.Consumers.{YieldsList-end}
use Rattle.std.proofs.lemmas.List.{map-id}
use Rattle.gt_findings.specs.Report.{shown_text}
use Rattle.gt_findings.proofs.report.push_all_shown.Goals as goal

pub returns : goal.returns
returns c =
    let all = YieldsList-end (YieldsList-from_chars c.args.line.now c.utf8.line cc) c.letters.yielded _ c.letters.yielded_by _ _ c.in-None.is c.next.ensures.steps in
    c.letters.invariant ∙ ap (λ (l : List ℕ). c.args.out.now.items ++ shown_text l) (sym (map-id c.letters.yielded) ∙ all.0)
