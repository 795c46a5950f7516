use Rattle.std.proofs.Common.{◌≡◌, drop, map}
use Rattle.std.specs.List.{list_all}
use Rattle.std.specs.Str.{bytes_eq}
use Rattle.gt_explore_witness.proofs.checked.are_all.Given as goal

abbrev pub invariant-lines : goal.invariant-lines
invariant-lines l =
    list_all (λ line. bytes_eq line l.other) (map (λ x. x.now) l.lines)
    ≡ list_all (λ line. bytes_eq line l.other) (map (λ x. x.now) (drop l.line-index l.lines))
