use Rattle.std.proofs.Common.{false, sym, ap, subst, ◌∙◌}
use Rattle.gt_policy.specs.Grammar.{Lexemes, set_of}
use Rattle.gt_neverallow.specs.Reading.{Reads}
use Rattle.gt_neverallow.proofs.ReadingLemmas.{set_behind}
use Rattle.gt_neverallow.proofs.parser.set.Goals as goal

pub returns-clause-value : goal.returns-clause-value
returns-clause-value c =
    let same = ap (λ (ls : Lexemes). set_of false ls) c.next-first.ensures.front ∙ set_behind false c.next-first.result c.next-first.new.self in
    subst (λ said. Reads c.set_from.result c.set_from.new.lexer said) (sym same) c.set_from.ensures.value
