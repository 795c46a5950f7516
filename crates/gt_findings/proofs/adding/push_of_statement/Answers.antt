use Rattle.gt_findings.specs.declared.findings.Finding.{Finding}
use Rattle.gt_findings.proofs.KeepLemmas.{keeps_statement}
use Rattle.gt_findings.proofs.adding.push_of_statement.Goals as goal

pub returns-clause-columns : goal.returns-clause-columns
returns-clause-columns c =
    let place = c.args.place.now in
    let x : Finding = record { kind = c.args.kind; line = place.words.now.number; column = place.column; message = c.args.message } in
    keeps_statement place.words.now.bytes.now c.args.found.now.items c.push.new.self.items x c.requires.of_statement c.requires.position.column
    c.in_ok-push.ensures.items
