use Rattle.std.proofs.Common.{◌∙◌, ℕ, List, refl, subst}
use Rattle.gt_findings.specs.Findings.{KeepsColumns}
use Rattle.gt_neverallow.proofs.BreakingLemmas.{unknown_more}
use Rattle.gt_neverallow.proofs.words.unknown_words.Goals as goal

pub nevers-preserved : goal.nevers-preserved
nevers-preserved c =
    let same = c.go_to.ensures.text ∙ c.nevers.invariant.text in
    let kept = subst (λ (l : List ℕ). KeepsColumns l c.nevers.found.items c.push_words_of.new.found.items) same c.in_ok-push_words_of.ensures.columns in
    record {
      found = unknown_more c.args.text.now c.args.nevers.now c.nevers.never-index c.never-item.result _ c.nevers.found.items c.push_words_of.new.found.items c.nevers-test.true c.never-item.is refl
          c.nevers.invariant.found c.in_ok-push_words_of.ensures.errors c.in_ok-push_words_of.ensures.classes kept;
      words = c.go_to.ensures.words;
      text = same;
    }
