use Rattle.std.proofs.Common.{◌≡◌, ◌+◌, ◌++◌, drop, map, take}
use Rattle.std.specs.Option.{option_map}
use Rattle.gt_policy_questions.specs.Asking.{trusted_by, unknown_place}
use Rattle.gt_policy_questions.proofs.flows.asking.push_trusted.Given as goal

abbrev pub invariant-names : goal.invariant-names
invariant-names l = record {
  place : unknown_place l.members l.count (map (λ n. n.now) l.names)
      ≡ option_map (λ n. l.place + n) (unknown_place l.members l.count (map (λ n. n.now) (drop l.place l.names)));
  ids : l.trusted.items
      ≡ l.initial.trusted.items ++ trusted_by l.members l.count (map (λ n. n.now) (take l.place l.names));
}
