use Rattle.std.proofs.Common.{◌≡◌, ◌+◌, drop}
use Rattle.std.specs.Option.{option_map}
use Rattle.gt_script.specs.Blocks.{opening}
use Rattle.gt_script.proofs.ScriptLemmas.{texts}
use Rattle.gt_script.proofs.blocks.block_opening.Given as goal

abbrev pub invariant-lines : goal.invariant-lines
invariant-lines l = opening (texts l.lines) ≡ option_map (λ n. l.i + n) (opening (texts (drop l.i l.lines)))
