use Rattle.std.proofs.Common.{map}
use Rattle.gt_explore_choices.specs.Choosing.{open_seen}
use Rattle.gt_explore_choices.specs.Kinds.{marked_seen}
use Rattle.gt_explore_choices.proofs.Chosen.{each_text, first_text, whole_texts}
use Rattle.gt_explore_choices.proofs.choices.choices_in.Goals as goal

pub returns-clause-each : goal.returns-clause-each
returns-clause-each c =
    each_text (map marked_seen c.args.lines.items) (map open_seen c.in_ok-begun.begun.items) (rw c.as_slice.ensures.value at c.in_ok-begun.ensures)

pub returns-clause-whole : goal.returns-clause-whole
returns-clause-whole c = λ text is.
    whole_texts (map marked_seen c.args.lines.items) (map open_seen c.in_ok-begun.begun.items) text (rw c.as_slice.ensures.value at c.in_ok-begun.ensures) is

pub returns-clause-first : goal.returns-clause-first
returns-clause-first c =
    first_text (map marked_seen c.args.lines.items) (map open_seen c.in_ok-begun.begun.items) (rw c.as_slice.ensures.value at c.in_ok-begun.ensures)
