use Rattle.std.proofs.Common.{◌≡◌, true}
use Rattle.gt_explore_by_choice.specs.Gathering.{AreGatheredTexts}
use Rattle.gt_explore_by_choice.proofs.gathering.gather_all.Given as goal

-- the choices so far were searched, and their searches met all states
abbrev pub invariant-choices : goal.invariant-choices
invariant-choices g l = record {
  all : AreGatheredTexts l.choices l.at l.all.orders.items true l.all.waiting;
  whole : l.all.whole ≡ true;
}
