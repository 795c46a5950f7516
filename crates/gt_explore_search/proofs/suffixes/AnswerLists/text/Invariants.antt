use Rattle.std.proofs.Common.{◌≡◌}
use Rattle.std.specs.List.{flat_map, range_with_len}
use Rattle.gt_explore_search.proofs.Listing.{said_by}
use Rattle.gt_explore_search.proofs.suffixes.AnswerLists.text.Given as goal

abbrev pub invariant-places : goal.invariant-places
invariant-places l = l.text.items ≡ flat_map (said_by l.self l.tails) (range_with_len 0 l.place)
