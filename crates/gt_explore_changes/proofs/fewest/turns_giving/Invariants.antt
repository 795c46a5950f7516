use Rattle.std.proofs.Common.{◌≡◌, drop}
use Rattle.std.specs.List.{list_any}
use Rattle.std.specs.Str.{bytes_eq}
use Rattle.gt_explore_changes.proofs.fewest.turns_giving.Given as goal

abbrev pub invariant-orders : goal.invariant-orders
invariant-orders l = list_any (λ o. bytes_eq o.text.items l.text) l.orders
    ≡ list_any (λ o. bytes_eq o.text.items l.text) (drop l.order-index l.orders)
