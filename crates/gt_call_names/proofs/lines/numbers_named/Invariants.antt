use Rattle.std.proofs.Common.{◌≡◌, ◌+◌, ◌++◌, drop, map}
use Rattle.gt_call_names.specs.Naming.{numbers_named}
use Rattle.gt_call_names.proofs.lines.numbers_named.Given as goal

-- the numbers so far, and then those of the lines that are left, are the numbers of all lines
abbrev pub invariant-lines : goal.invariant-lines
invariant-lines l = record {
  number : l.number ≡ l.line-index + 1;
  found : l.numbers.items ++ numbers_named l.name l.number (map (λ line. line.now) (drop l.line-index l.lines))
      ≡ numbers_named l.name 1 (map (λ line. line.now) l.lines);
}
