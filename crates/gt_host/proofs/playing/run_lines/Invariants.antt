use Rattle.std.proofs.Common.{◌≡◌, ◌<◌, length, take}
use Rattle.gt_script.specs.Contents.{contents_of}
use Rattle.gt_host.proofs.PlayLemmas.{IsUnderway}
use Rattle.gt_host.proofs.playing.run_lines.Given as goal

abbrev pub invariant-steps : goal.invariant-steps
invariant-steps g l =
    (l.core.config ≡ l.initial.core.config) × (l.core.rights ≡ l.initial.core.rights)
    × IsUnderway (contents_of l.script) l.audit (take l.step-index l.steps) l.core.state l.kept l.waiting.items (g.W.Write.contents l.initial.writer) (g.W.Write.contents l.writer)
    × (length l.waiting.items < 65536)
