use Rattle.std.proofs.Common.{◌≡◌, ◌++◌, take}
use Rattle.gt_host.specs.OpenCalls.{call_in}
use Rattle.gt_script_runs.specs.Runs.{open_lines}
use Rattle.gt_host.proofs.playing.push_open_lines.Given as goal

abbrev pub invariant-domains : goal.invariant-domains
invariant-domains l = l.out.items ≡ l.initial.out.items ++ open_lines (take l.domain-index l.domains) (call_in l.calls)
