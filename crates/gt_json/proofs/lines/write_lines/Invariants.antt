use Rattle.std.proofs.Common.{take, flat_map}
use Rattle.gt_text.specs.Streams.{Sends}
use Rattle.gt_json.specs.Lines.{object_line}
use Rattle.gt_json.proofs.lines.write_lines.Given as goal

abbrev pub invariant-lines : goal.invariant-lines
invariant-lines g l =
    Sends (g.W.Write.contents l.initial.writer) (g.W.Write.contents l.writer)
    (flat_map (λ x. object_line l.fn.printed x.now) (take l.line-index l.lines)) l.waiting.items
