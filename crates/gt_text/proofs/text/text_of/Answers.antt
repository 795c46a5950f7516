use Rattle.std.proofs.Common.{◌≡◌, ◌+◌, take, sym, refl, ◌∙◌}
use Rattle.std.specs.Str.Lossy.{utf8_valid_len}
use Rattle.gt_text.specs.Texts.{line_after}
use Rattle.gt_text.proofs.text.text_of.Goals as goal

pub returns-in-Err-clause-line : goal.returns-in-Err-clause-line
returns-in-Err-clause-line c =
    let bytes = c.args.bytes.now in
    let valid : utf8_valid_len bytes ≡ c.valid_up_to.result = sym (c.valid_up_to.ensures ∙ c.in-Err.ensures.valid_len) in
    let counted : line_after (take c.valid_up_to.result bytes) ≡ c.newlines.result + 1 = simp (c.newlines.ensures) refl in
    (c.in-Err.ensures.cases.0, rw valid (sym counted))
