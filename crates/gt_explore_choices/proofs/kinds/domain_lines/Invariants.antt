use Rattle.std.proofs.Common.{◌≡◌, ◌+◌, ◌≤◌, drop, map}
use Rattle.std.specs.Prelude.{count_by}
use Rattle.gt_explore_choices.specs.Kinds.{is_domain_line}
use Rattle.gt_explore_choices.proofs.kinds.domain_lines.Given as goal

-- the lines so far, and then those that are left
abbrev pub invariant-lines : goal.invariant-lines
invariant-lines l = record {
  few : l.count ≤ l.line-index;
  counted : l.count + count_by is_domain_line (map (λ line. line.now) (drop l.line-index l.lines))
      ≡ count_by is_domain_line (map (λ line. line.now) l.lines);
}
