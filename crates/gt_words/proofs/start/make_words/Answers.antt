use Rattle.std.proofs.Common.{ap, ◌∙◌, sym}
use Rattle.gt_word_history.specs.Rule.{Layout}
use Rattle.gt_words.proofs.start.make_words.Goals as goal

pub invariant_of-result : goal.invariant_of-result
invariant_of-result c = let run = c.in_ok-words.ensures.run ∙ c.requires.same in
    (c.in_ok-ids.ensures ∙ sym (ap (λ (k : Layout). k.ids) run), (c.args.config.now, c.requires.limits, run))
