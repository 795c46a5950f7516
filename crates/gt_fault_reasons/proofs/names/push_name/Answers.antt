use Rattle.gt_findings.proofs.ReportLemmas.{on_ok}
use Rattle.gt_fault_reasons.proofs.Named.{named}
use Rattle.gt_fault_reasons.proofs.names.push_name.Goals as goal

pub returns : goal.returns
returns c = on_ok c.push_rest.result
    (named c.args.file.now c.args.name.now c.as_bytes.result.now c.args.message.now c.args.out.now.items
    c.push_file.new.out.items c.push_word.new.out.items c.push_rest.new.out.items c.as_bytes.ensures.value
    c.in_ok-push_file.ensures c.in_ok-push_word.ensures) c.push_rest.ensures
