use Rattle.std.proofs.Common.{ap, sym, ◌∙◌, refl, length, arith, take, subst, List, ℕ}
use Rattle.std.specs.Str.{IsUtf8}
use Rattle.gt_policy_text.proofs.LexingLemmas.{takes_name, takes_mark, IsUtf8-name}
use Rattle.gt_policy_text.proofs.lexer.Lexer.next.Goals as goal

pub returns-in-Some-clause-front : goal.returns-in-Some-clause-front
returns-in-Some-clause-front c =
    rw c.word_of.ensures.inner
    (takes_name c.self.inside.end c.self.inside.line c.skip-line.result.1 c.in-Some.byte.now c.self.inside.rest.now c.skip-line.result.0.now c.in-Some.field-0-1.now c.split_at.result.0.now c.split_at.result.1.now c.word_of.result c.args.self.now
    c.self.view_is (c.skip-line.ensures.same c.self.inside.end) c.in-Some.ensures.cases.0 c.skip-line.ensures.start (sym c.if-is_ascii_alphabetic.ensures.value)
    (c.split_at.ensures.front ∙ rw c.name_len.ensures.value refl) (c.split_at.ensures.back ∙ rw c.name_len.ensures.value refl) c.word_of.ensures.value)

pub returns-in-Some-2-clause-front : goal.returns-in-Some-2-clause-front
returns-in-Some-2-clause-front c =
    rw c.mark_of.ensures.inner
    (takes_mark c.self.inside.end c.self.inside.line c.skip-line.result.1 c.in-Some.byte.now c.self.inside.rest.now c.skip-line.result.0.now c.in-Some.field-0-1.now c.mark_of.result c.args.self.now
    c.self.view_is (c.skip-line.ensures.same c.self.inside.end) c.in-Some.ensures.cases.0 c.skip-line.ensures.start (sym c.if-is_ascii_alphabetic.ensures.value)
    c.mark_of.ensures.value)

pub returns-in-Some-clause-shorter : goal.returns-in-Some-clause-shorter
returns-in-Some-clause-shorter c =
    let taken = takes_name c.self.inside.end c.self.inside.line c.skip-line.result.1 c.in-Some.byte.now c.self.inside.rest.now c.skip-line.result.0.now c.in-Some.field-0-1.now c.split_at.result.0.now c.split_at.result.1.now c.word_of.result c.args.self.now
    c.self.view_is (c.skip-line.ensures.same c.self.inside.end) c.in-Some.ensures.cases.0 c.skip-line.ensures.start (sym c.if-is_ascii_alphabetic.ensures.value)
    (c.split_at.ensures.front ∙ rw c.name_len.ensures.value refl) (c.split_at.ensures.back ∙ rw c.name_len.ensures.value refl) c.word_of.ensures.value in
    omega (arith, ap length taken)

pub word_of-requires : goal.word_of-requires
word_of-requires c =
    let name = c.split_at.ensures.front ∙ ap (λ n. take n c.skip-line.result.0.now) c.name_len.ensures.value in
    subst (λ (bs : List ℕ). IsUtf8 bs) (sym name) (IsUtf8-name c.skip-line.result.0.now)
