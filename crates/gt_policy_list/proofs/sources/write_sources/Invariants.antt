use Rattle.std.proofs.Common.{◌<◌, length, take, flat_map}
use Rattle.gt_allow.specs.Looking.{looks_up}
use Rattle.gt_text.specs.Streams.{Sends}
use Rattle.gt_policy_list.specs.Lines.{source_text}
use Rattle.gt_policy_list.proofs.sources.write_sources.Given as goal

abbrev pub invariant-sources : goal.invariant-sources
invariant-sources g l =
    (length l.waiting.items < 65536)
    × Sends (g.W.Write.contents l.initial.writer) (g.W.Write.contents l.writer) (flat_map (source_text l.policy.types (looks_up l.table) l.ids) (take l.source-index l.ids)) l.waiting.items
