use Rattle.std.proofs.Common.{◌≡◌, take}
use Rattle.std.specs.List.{flat_map}
use Rattle.gt_text.specs.Printing.{type_text}
use Rattle.gt_audit.specs.Lines.{line_text}
use Rattle.gt_run.proofs.logging.TrailLogger.audit.Given as goal

abbrev pub invariant-records : goal.invariant-records
invariant-records l = l.text.items ≡ flat_map (line_text (type_text (λ name. name) l.types)) (take l.recorded-index l.recorded-items)
