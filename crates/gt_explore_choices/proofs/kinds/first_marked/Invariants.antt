use Rattle.std.proofs.Common.{◌≡◌, ◌+◌, drop, map}
use Rattle.gt_explore_choices.specs.Kinds.{first_choice, marked_seen}
use Rattle.gt_explore_choices.proofs.kinds.first_marked.Given as goal

-- none of the lines so far is a choice
abbrev pub invariant-lines : goal.invariant-lines
invariant-lines l = record {
  number : l.number ≡ l.line-index + 1;
  found : first_choice l.number (map marked_seen (drop l.line-index l.lines)) ≡ first_choice 1 (map marked_seen l.lines);
}
