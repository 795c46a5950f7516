use Rattle.std.proofs.Common.{◌≡◌, take}
use Rattle.std.specs.Prelude.{string_bytes}
use Rattle.gt_script.specs.Blocks.{block_text}
use Rattle.gt_script.proofs.ScriptLemmas.{texts}
use Rattle.gt_script.proofs.blocks.block_text.Given as goal

abbrev pub invariant-lines : goal.invariant-lines
invariant-lines l = string_bytes l.text ≡ block_text (texts (take l.line-index l.lines))
