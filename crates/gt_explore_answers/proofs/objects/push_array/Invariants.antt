use Rattle.std.proofs.Common.{◌≡◌, ◌++◌, drop, map, true}
use Rattle.gt_explore_answers.specs.Objects.{items_from}
use Rattle.gt_explore_answers.proofs.objects.push_array.Given as goal

-- what is written so far, and then the items that are left, is what is written of all
abbrev pub invariant-lines : goal.invariant-lines
invariant-lines l =
    l.out.items ++ items_from l.is_first (map (λ b. b.now) (drop l.line-index l.lines))
    ≡ l.initial.out.items ++ items_from true (map (λ b. b.now) l.lines)
