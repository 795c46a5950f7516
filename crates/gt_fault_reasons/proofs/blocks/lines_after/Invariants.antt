use Rattle.std.proofs.Common.{◌≡◌, ◌++◌, take}
use Rattle.std.specs.Prelude.{replicate, string_bytes}
use Rattle.gt_script.specs.Blocks.{block_text}
use Rattle.gt_fault_reasons.proofs.BlockLemmas.{line_texts}
use Rattle.gt_fault_reasons.proofs.blocks.lines_after.Given as goal

abbrev pub invariant-lines : goal.invariant-lines
invariant-lines l =
    string_bytes l.text ≡ replicate l.before 10 ++ block_text (line_texts (take l.line-index l.lines))
