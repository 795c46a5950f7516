use Rattle.std.proofs.Common.{◌≡◌, ℕ, ◌+◌, List, Option, arith, refl, sym, subst, take}
use Rattle.std.specs.Prelude.{slice_index_or, slice_range}
use Rattle.std.proofs.lemmas.List.{take_all}
use Rattle.gt_findings.specs.Columns.{IsToken}
use Rattle.gt_findings.specs.declared.places.Span.{Span}
use Rattle.gt_findings.proofs.ColumnLemmas.{IsFound, has_word, found_all, found_last, found_more, other_word, same_word}
use Rattle.gt_findings.proofs.places.place_of_word.Goals as goal
use Rattle.gt_findings.proofs.places.place_of_word.Goals.{then-eq+else-found-skipped, else-eq}

pub returns-then-found-skipped : goal.returns-then-found-skipped
returns-then-found-skipped c =
    let row = c.args.line.now in let word = c.args.word.now in
    let t : Span = slice_index_or c.args.tokens.now c.tokens.token-index (record { start = 0; end = 0 }) in
    let token : IsToken row t.start t.end = c.requires.each c.tokens.token-index (record { start = 0; end = 0 }) c.tokens-test.true in
    has_word row word c.bytes_of.result.now t.start t.end token (c.bytes_of.ensures (omega (arith, token.longer)) token.within)
    (same_word c.bytes_of.result.now word c.eq.result c.eq.ensures c.if-eq.true)

pub tokens-preserved : goal.tokens-preserved
tokens-preserved c =
    let row = c.args.line.now in let word = c.args.word.now in let i = c.tokens.token-index in
    let t : Span = slice_index_or c.args.tokens.now c.tokens.token-index (record { start = 0; end = 0 }) in
    let token : IsToken row t.start t.end = c.requires.each c.tokens.token-index (record { start = 0; end = 0 }) c.tokens-test.true in
    let read : c.bytes_of.result.now ≡ slice_range row t.start t.end = c.bytes_of.ensures (omega (arith, token.longer)) token.within in
    elim c.if-eq.branch [
      | then-eq+else-found-skipped w ↦ found_last row word (take (i + 1) c.args.tokens.now) c.if-eq.last t.start w.last-is
          (has_word row word c.bytes_of.result.now t.start t.end token read (same_word c.bytes_of.result.now word c.eq.result c.eq.ensures w.if-eq.true))
      | else-eq w ↦ subst (λ (o : Option ℕ). IsFound row word (take (i + 1) c.args.tokens.now) o) (sym w.last-is)
          (found_more row word c.args.tokens.now i c.tokens.last t c.tokens-test.true refl c.tokens.invariant
          (other_word c.bytes_of.result.now (slice_range row t.start t.end) word c.eq.result read c.eq.ensures w.if-eq.false))
    ]

pub returns : goal.returns
returns c =
    let row = c.args.line.now in let word = c.args.word.now in
    found_all row word c.args.tokens.now c.tokens.last c.requires
    (subst (λ (l : List Span). IsFound row word l c.tokens.last) (take_all c.tokens.token-index c.args.tokens.now c.tokens-test.false) c.tokens.invariant)
