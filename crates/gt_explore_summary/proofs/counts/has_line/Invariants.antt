use Rattle.std.proofs.Common.{◌≡◌, drop, map}
use Rattle.std.specs.List.{list_any}
use Rattle.std.specs.Str.{bytes_eq}
use Rattle.gt_explore_summary.proofs.counts.has_line.Given as goal

abbrev pub invariant-lines : goal.invariant-lines
invariant-lines l =
    list_any (λ o. bytes_eq o l.line) (map (λ x. x.now) l.lines)
    ≡ list_any (λ o. bytes_eq o l.line) (map (λ x. x.now) (drop l.other-index l.lines))
