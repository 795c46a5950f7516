use Rattle.std.proofs.Common.{◌≡◌, ◌++◌, take}
use Rattle.std.specs.List.{flat_map}
use Rattle.gt_findings.specs.Report.{object_text}
use Rattle.gt_findings.proofs.report.push_json.Given as goal

abbrev pub invariant-found : goal.invariant-found
invariant-found l = l.out.items ≡ l.initial.out.items ++ flat_map (object_text l.file) (take l.finding-index l.found)
