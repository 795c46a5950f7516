use Rattle.std.proofs.Common.{◌≡◌, ◌+◌, List, Some, arith, refl, subst, take}
use Rattle.std.specs.HashMap.{get_by}
use Rattle.std.specs.Prelude.{slice_index_or, slice_range}
use Rattle.std.specs.Str.{bytes_eq}
use Rattle.std.proofs.lemmas.List.{take_all}
use Rattle.std.proofs.lemmas.Map.Text.{hash_map_updates_str}
use Rattle.gt_findings.specs.Columns.{IsToken}
use Rattle.gt_findings.specs.declared.places.Span.{Span}
use Rattle.gt_findings.proofs.ColumnLemmas.{IsFound}
use Rattle.gt_findings.proofs.LineLemmas.{all_found, found_again, found_first, found_in, some_read}
use Rattle.gt_findings.proofs.words.places_of.Goals as goal
use Rattle.gt_findings.proofs.words.places_of.Goals.{then-is_none+in_ok-insert, else-is_none}

pub tokens-preserved : goal.tokens-preserved
tokens-preserved c =
    let row = c.args.row.now in let tokens = c.args.tokens.now in let i = c.tokens.token-index in
    let t : Span = slice_index_or tokens i (record { start = 0; end = 0 }) in
    let token : IsToken row t.start t.end = c.requires.each i (record { start = 0; end = 0 }) c.tokens-test.true in
    let piece = c.bytes_of-word.result.now in
    let read : piece ≡ slice_range row t.start t.end = c.bytes_of-word.ensures (omega (arith, token.longer)) token.within in
    elim c.if-is_none.branch [
      | then-is_none+in_ok-insert w ↦ found_in row (take (i + 1) tokens) c.if-is_none.places w.insert.new.self w.places-is
          (found_first row tokens i t c.tokens-test.true refl token piece read (λ word. get_by (λ k. bytes_eq word k.now) c.tokens.places)
          (λ word. get_by (λ k. bytes_eq word k.now) w.insert.new.self) c.tokens.invariant
          (λ word. hash_map_updates_str piece c.tokens.places w.insert.new.self (Some t.start) w.in_ok-insert.ensures.updates word))
      | else-is_none w ↦ found_in row (take (i + 1) tokens) c.if-is_none.places c.tokens.places w.places-is
          (found_again row tokens i t c.tokens-test.true refl token piece read (λ word. get_by (λ k. bytes_eq word k.now) c.tokens.places)
          c.tokens.invariant (some_read c.get.result _ c.is_none.result c.get.ensures.value c.is_none.ensures w.if-is_none.false))
    ]

pub returns : goal.returns
returns c =
    let row = c.args.row.now in let tokens = c.args.tokens.now in
    all_found row tokens c.tokens.places c.requires
    (λ word. subst (λ (l : List Span). IsFound row word l (get_by (λ k. bytes_eq word k.now) c.tokens.places)) (take_all c.tokens.token-index tokens c.tokens-test.false)
    (c.tokens.invariant word))
