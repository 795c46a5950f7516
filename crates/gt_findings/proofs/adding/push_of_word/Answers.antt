use Rattle.std.proofs.Common.{refl}
use Rattle.gt_findings.specs.declared.findings.Finding.{Finding}
use Rattle.gt_findings.proofs.KeepLemmas.{keeps_word}
use Rattle.gt_findings.proofs.adding.push_of_word.Goals as goal

pub returns-clause-columns : goal.returns-clause-columns
returns-clause-columns c =
    let words = c.args.place.now.words.now in
    let x : Finding = record { kind = c.args.kind; line = words.number; column = c.column-column.result; message = c.args.message } in
    keeps_word words.bytes.now c.args.word.now c.args.word.now words.number x c.args.found.now.items c.push.new.self.items c.requires.of_word
    c.requires.quotes refl refl c.column-column.ensures c.in_ok-push.ensures.items
