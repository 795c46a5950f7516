use Rattle.std.proofs.Common.{◌≡◌, ◌++◌, take}
use Rattle.std.specs.List.{flat_map}
use Rattle.gt_json.specs.Strings.{escaped}
use Rattle.gt_json.proofs.values.push_quoted.Given as goal

abbrev pub invariant-bytes : goal.invariant-bytes
invariant-bytes l = l.out.items ≡ l.initial.out.items ++ flat_map escaped (take l.byte-index l.text)
