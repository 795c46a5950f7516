use Rattle.std.proofs.Common.{◌≡◌, ◌++◌, drop, map}
use Rattle.std.specs.Prelude.{string_bytes}
use Rattle.gt_command_line.proofs.leading.joined.Given as goal

-- the words so far
abbrev pub invariant-first : goal.invariant-first
invariant-first l = map string_bytes l.all.items ++ map (λ w. w.now) (drop l.word-index l.first) ≡ map (λ w. w.now) l.first

abbrev pub invariant-others : goal.invariant-others
invariant-others l =
    map string_bytes l.all.items ++ map string_bytes (drop l.word-index l.others)
    ≡ map (λ w. w.now) l.first ++ map string_bytes l.others
