use Rattle.std.proofs.Common.{◌≡◌, map, take}
use Rattle.std.specs.Option.{option_map}
use Rattle.gt_file_commands.specs.Rules.{asked_among}
use Rattle.gt_file_commands.proofs.rules.asked_among.Given as goal

abbrev pub invariant-rows : goal.invariant-rows
invariant-rows l =
    map (λ row. (row.0, row.1.now, row.2.now)) l.asked.items
    ≡ asked_among (option_map (λ n. n.now) l.name) (map (λ row. (row.0, row.1.now, row.2.now)) (take l.row-index l.rows))
