use Rattle.std.proofs.lemmas.Result.{on_ok_weaker}
use Rattle.gt_text.specs.Texts.{StaysText, AreTexts}
use Rattle.gt_text.proofs.denials.push_denial.Goals as goal

pub returns-clause-stays : goal.returns-clause-stays
returns-clause-stays g c =
    on_ok_weaker c.push_facts.result
    (λ (last : AreTexts g.N.AsSlice.items c.args.names.now → StaysText c.push_next_number.new.out.items c.push_facts.new.out.items). λ all before.
    last all (c.in_ok-push_next_number.ensures.stays (c.in_ok-push_number.ensures.stays (c.in_ok-push_text.ensures.stays before))))
    c.push_facts.ensures.stays
