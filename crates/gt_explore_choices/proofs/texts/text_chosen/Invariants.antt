use Rattle.std.proofs.Common.{◌≡◌, ◌++◌, drop, map}
use Rattle.gt_explore_choices.specs.Choices.{text_chosen}
use Rattle.gt_explore_choices.specs.Kinds.{marked_seen}
use Rattle.gt_explore_choices.proofs.texts.text_chosen.Given as goal

-- the lines so far, and then those that are left
abbrev pub invariant-lines : goal.invariant-lines
invariant-lines l = record {
  at : l.at ≡ l.line-index;
  written : l.text.items ++ text_chosen (map marked_seen (drop l.line-index l.lines)) l.kept l.at
      ≡ text_chosen (map marked_seen l.lines) l.kept 0;
}
