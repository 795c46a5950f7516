use Rattle.std.proofs.Common.{rules, tests}
use Rattle.std.proofs.lemmas.Iterator.{YieldsList-from_map_by}
use Rattle.std.proofs.lemmas.Iterator.Consumers.{map_from_collect, YieldsList-from_filter, YieldsList-at}
use Rattle.std.proofs.lemmas.Iterator.Splits.{YieldsList-from_slice_split}
use Rattle.gt_explore_witness.specs.GivingAnswers.{begins_with, domain_prefix, is_end, without_number}
use Rattle.gt_explore_witness.proofs.checked.answers.Goals as goal

pub returns : goal.returns
returns c =
    map_from_collect _ c.collect.ensures.ran
    (YieldsList-from_filter _ (begins_with (domain_prefix c.args.dom.0))
    (YieldsList-at c.filter.ensures.source
    (YieldsList-from_map_by _ (λ r. r.now) without_number
    (YieldsList-at c.map.ensures.source
    (YieldsList-from_slice_split _ is_end c.args.text.now c.split.ensures.rest
    c.split.ensures.done c.split.ensures.closure (λ x r q k. search (rules, tests))))
    c.map.ensures.closure (λ x r q k. search (rules, tests))))
    c.filter.ensures.closure (λ x r q k. search (rules, tests)))
