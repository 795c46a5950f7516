use Rattle.std.proofs.Common.{◌≡◌, ◌<◌, length, arith}
use Rattle.gt_host.proofs.AuditLemmas.{all_records, record_more}
use Rattle.gt_host.proofs.PlayLemmas.{no_line}
use Rattle.gt_host.proofs.audit.push_records.Goals as goal

pub records-init : goal.records-init
records-init c = no_line c.args.out.now.items

pub records-preserved : goal.records-preserved
records-preserved c =
    let within : c.records.entry-index < length c.args.records.now = omega arith in
    record_more c.args.names.now c.args.records.now c.records.entry-index _ c.args.out.now.items c.records.out.items c.push_line.new.out.items within c.records.invariant c.in_ok-push_line.ensures.text

pub returns : goal.returns
returns c =
    let all : c.records.entry-index ≡ length c.args.records.now = omega arith in
    all_records c.args.names.now c.args.records.now c.records.entry-index c.args.out.now.items c.records.out.items all c.records.invariant
