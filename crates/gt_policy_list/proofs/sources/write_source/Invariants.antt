use Rattle.std.proofs.Common.{◌<◌, ◌++◌, length, take}
use Rattle.gt_allow.specs.Looking.{looks_up}
use Rattle.gt_policy_list.specs.Lines.{source_text}
use Rattle.gt_text.specs.Streams.{Sends}
use Rattle.gt_policy_list.proofs.sources.write_source.Given as goal

abbrev pub invariant-targets : goal.invariant-targets
invariant-targets g l =
    (length l.waiting.items < 65536)
    × Sends (g.W.Write.contents l.initial.writer) (g.W.Write.contents l.writer) (l.initial.waiting.items ++ source_text l.policy.types (looks_up l.table) (take l.target-index l.ids) l.fn.source) l.waiting.items
