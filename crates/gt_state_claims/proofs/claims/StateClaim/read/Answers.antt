use Rattle.std.proofs.Common.{arith}
use Rattle.gt_state_claims.proofs.ReadLemmas.{few_terms}
use Rattle.gt_state_claims.proofs.claims.StateClaim.read.Goals as goal

pub choices_read-requires : goal.choices_read-requires
choices_read-requires c =
    let few = few_terms c.args.text.now in
    let short = c.if-text-gt-LONGEST_TEXT.false in
    rw c.as_slice.ensures.value (rw c.in_ok-texts.ensures (rw c.as_bytes.ensures.value (omega (arith, few, short))))
