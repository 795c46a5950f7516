use Rattle.std.proofs.Common.{◌≡◌, ◌++◌, drop, map}
use Rattle.gt_call_names.specs.Naming.{parts_numbered}
use Rattle.gt_call_names.proofs.numbering.joined.Given as goal

-- what is written so far, and then the words that are left, is the whole
abbrev pub invariant-parts : goal.invariant-parts
invariant-parts l = record {
  at : l.at ≡ l.part-index;
  written : l.out.items ++ parts_numbered (map (λ line. line.now) l.lines) (map (λ part. part.now) (drop l.part-index l.parts)) l.marks l.at
      ≡ parts_numbered (map (λ line. line.now) l.lines) (map (λ part. part.now) l.parts) l.marks 0;
}
