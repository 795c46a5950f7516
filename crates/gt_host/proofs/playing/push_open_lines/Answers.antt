use Rattle.std.proofs.Common.{◌≡◌, ◌<◌, length, arith}
use Rattle.gt_host.specs.OpenCalls.{call_in}
use Rattle.gt_host.proofs.PlayLemmas.{all_lines, line_more, no_line}
use Rattle.gt_host.proofs.playing.push_open_lines.Goals as goal

pub domains-init : goal.domains-init
domains-init c = no_line c.args.out.now.items

pub domains-preserved : goal.domains-preserved
domains-preserved c =
    let within : c.domains.domain-index < length c.args.domains.now = omega arith in
    line_more c.args.domains.now c.domains.domain-index _ (call_in c.args.calls.now) _ c.args.out.now.items c.domains.out.items c.push_if_open.new.out.items within c.domains.invariant c.of.ensures.call c.in_ok-push_if_open.ensures

pub returns : goal.returns
returns c =
    let all : c.domains.domain-index ≡ length c.args.domains.now = omega arith in
    all_lines c.args.domains.now c.domains.domain-index (call_in c.args.calls.now) c.args.out.now.items c.domains.out.items all c.domains.invariant
