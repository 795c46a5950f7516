use Rattle.std.proofs.Common.{◌≡◌, ◌≤◌, List, map}
use Rattle.gt_explore_replay.specs.Orders.{Happening}
use Rattle.gt_explore_ordered.specs.Holding.{move_shown}
use Rattle.gt_explore_ordered.proofs.Reading.{ReadSoFar}
use Rattle.gt_explore_ordered.proofs.following.is_held.Given as goal

-- the calls so far are counted, and the precedence does not hold so far
abbrev pub invariant-loop-at : goal.invariant-loop-at
invariant-loop-at l = record {
  begun_few : l.begun ≤ l.at;
  answered_few : l.answered ≤ l.at;
  read : (hs : List Happening) → l.moves ≡ map move_shown hs → ReadSoFar l.order l.at l.begun l.answered hs;
}
