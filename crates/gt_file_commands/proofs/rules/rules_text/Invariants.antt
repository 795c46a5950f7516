use Rattle.std.proofs.Common.{◌≡◌, map, take}
use Rattle.gt_file_commands.specs.Rules.{rules_text}
use Rattle.gt_file_commands.proofs.rules.rules_text.Given as goal

abbrev pub invariant-rows : goal.invariant-rows
invariant-rows l = l.text.items ≡ rules_text l.width (map (λ row. (row.0, row.1.now, row.2.now)) (take l.row-index l.rows))
