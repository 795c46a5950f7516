use Rattle.std.proofs.Common.{◌≡◌, ◌++◌, drop, map}
use Rattle.std.specs.List.{flat_map}
use Rattle.std.specs.Option.{option_to_list}
use Rattle.gt_explore_claims.specs.Stating.{stated, stated_line}
use Rattle.gt_explore_claims.proofs.stated.claims_of.Given as goal

-- the claims so far, and then those of the lines that are left, are all
abbrev pub invariant-lines : goal.invariant-lines
invariant-lines l =
    map stated l.claims.items
    ++ flat_map (λ line. option_to_list (stated_line line)) (map (λ line. line.now) (drop l.line-index l.lines))
    ≡ flat_map (λ line. option_to_list (stated_line line)) (map (λ line. line.now) l.lines)
