use Rattle.std.proofs.Common.{rules, tests, ◌∙◌}
use Rattle.std.proofs.lemmas.Iterator.Consumers.{map_from_collect, YieldsList-from_filter, YieldsList-at}
use Rattle.std.proofs.lemmas.Iterator.Splits.{YieldsList-from_slice_split}
use Rattle.gt_script_lines.specs.Words.{is_space, is_nonempty, uncommented}
use Rattle.gt_script_lines.proofs.words.line_words.Goals as goal

pub returns : goal.returns
returns c =
    map_from_collect _ c.collect.ensures.ran
    (YieldsList-from_filter _ is_nonempty
    (YieldsList-at c.filter.ensures.source
    (YieldsList-from_slice_split _ is_space (uncommented c.args.line.now)
    (c.split.ensures.rest ∙ c.as_bytes.ensures.value ∙ c.uncommented.ensures)
    c.split.ensures.done c.split.ensures.closure (λ x r q k. search (rules, tests))))
    c.filter.ensures.closure (λ x r q k. search (rules, tests)))
