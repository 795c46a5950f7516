use Rattle.std.proofs.Common.{map}
use Rattle.gt_explore_choices.specs.Kinds.{marked_seen}
use Rattle.gt_explore_choices.proofs.Chosen.{text_at}
use Rattle.gt_explore_choices.proofs.choices.Choices.text.Goals as goal

pub returns : goal.returns
returns c =
    text_at (map marked_seen c.self.inside.lines.items) c.self.inside.begun.items c.args.self.now c.args.at c.index-choice.result.now c.text_chosen.result
    c.self.view_is c.requires c.index-choice.ensures (rw (c.as_slice.ensures.value, c.as_slice-2.ensures.value) at c.text_chosen.ensures)
