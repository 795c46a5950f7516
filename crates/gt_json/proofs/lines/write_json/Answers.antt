use Rattle.gt_json.proofs.ToldLemmas.{json_of_lines}
use Rattle.gt_json.proofs.lines.write_json.Goals as goal

pub returns-clause-whole : goal.returns-clause-whole
returns-clause-whole g c =
    let written = rw c.as_slice.ensures.value at c.write_lines.ensures.whole in
    rw (json_of_lines c.args.printed (λ l. l.now) c.in_ok-lines.lines.items c.args.text.now c.in_ok-lines.ensures) at written

pub returns-clause-beginning : goal.returns-clause-beginning
returns-clause-beginning g c =
    let written = rw c.as_slice.ensures.value at c.write_lines.ensures.beginning in
    rw (json_of_lines c.args.printed (λ l. l.now) c.in_ok-lines.lines.items c.args.text.now c.in_ok-lines.ensures) at written
