use Rattle.std.proofs.Common.{◌≡◌, ◌++◌, take}
use Rattle.std.specs.List.{flat_map}
use Rattle.gt_explore_trace.specs.Diagram.{participant_text}
use Rattle.gt_explore_trace.proofs.diagram.push_participants.Given as goal

abbrev pub invariant-domains : goal.invariant-domains
invariant-domains l = l.out.items ≡ l.initial.out.items ++ flat_map (participant_text l.moves) (take l.domain-index l.domains)
