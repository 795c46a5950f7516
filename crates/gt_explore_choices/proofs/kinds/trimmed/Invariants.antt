use Rattle.std.proofs.Common.{◌≡◌, drop}
use Rattle.gt_explore_choices.specs.Kinds.{trimmed}
use Rattle.gt_explore_choices.proofs.kinds.trimmed.Given as goal

-- all bytes so far are zeros
abbrev pub invariant-bytes : goal.invariant-bytes
invariant-bytes l = trimmed l.word ≡ trimmed (drop l.i l.word)
