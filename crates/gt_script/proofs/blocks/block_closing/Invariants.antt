use Rattle.std.proofs.Common.{◌≡◌, ◌+◌, drop}
use Rattle.std.specs.Option.{option_map}
use Rattle.gt_script.specs.Blocks.{closing}
use Rattle.gt_script.proofs.ScriptLemmas.{texts}
use Rattle.gt_script.proofs.blocks.block_closing.Given as goal

abbrev pub invariant-lines : goal.invariant-lines
invariant-lines l = closing (texts l.lines) ≡ option_map (λ n. l.i + n) (closing (texts (drop l.i l.lines)))
