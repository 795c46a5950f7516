use Rattle.std.proofs.Common.{◌∙◌, sym, arith}
use Rattle.std.proofs.lemmas.Iterator.{YieldsList-from_chars}
use Rattle.std.proofs.lemmas.Iterator.Consumers.{YieldsList-end, YieldsList-so_far, YieldsList-turn}
use Rattle.std.proofs.lemmas.List.{map-id}
use Rattle.gt_findings.proofs.ReportLemmas.{on_ok, word_cut, word_whole}
use Rattle.gt_findings.proofs.report.push_word.Goals as goal

pub returns-then-count-eq-LONGEST_WORD : goal.returns-then-count-eq-LONGEST_WORD
returns-then-count-eq-LONGEST_WORD c =
    let chain = YieldsList-from_chars c.args.word.now c.utf8.word cc in
    let front = YieldsList-so_far chain c.letters.yielded _ c.letters.yielded_by in
    let turn = YieldsList-turn chain c.letters.yielded _ c.letters.yielded_by _ _ c.in-Some.letter c.in-Some.is c.next.ensures.steps in
    on_ok c.push_text.result
    (word_cut c.args.out.now.items c.letters.out.items c.push_text.new.out.items c.args.word.now c.letters.yielded c.letters.invariant.written
    (sym c.letters.invariant.many ∙ c.if-count-eq-LONGEST_WORD.true) (sym (map-id c.letters.yielded) ∙ front) turn.0) c.push_text.ensures.ok

pub returns : goal.returns
returns c =
    let all = YieldsList-end (YieldsList-from_chars c.args.word.now c.utf8.word cc) c.letters.yielded _ c.letters.yielded_by _ _ c.in-None.is c.next.ensures.steps in
    word_whole c.args.out.now.items c.letters.out.items c.args.word.now c.letters.yielded c.letters.invariant.written
    (omega (arith, c.letters.invariant.many, c.letters.invariant.few)) (sym (map-id c.letters.yielded) ∙ all.0)
