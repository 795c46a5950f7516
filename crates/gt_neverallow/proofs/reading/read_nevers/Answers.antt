use Rattle.std.specs.List.{flat_map}
use Rattle.gt_neverallow.specs.Naming.{named_with, mentions_of, undeclared}
use Rattle.gt_neverallow.proofs.NamingLemmas.{named_err, named_ok, says_faulty, says_long, says_read}
use Rattle.gt_neverallow.proofs.reading.read_nevers.Goals as goal

pub returns-then-text-gt-LONGEST_TEXT-clause-fault : goal.returns-then-text-gt-LONGEST_TEXT-clause-fault
returns-then-text-gt-LONGEST_TEXT-clause-fault c = λ f shown. says_long c.args.policy.now c.args.text.now f c.if-text-gt-LONGEST_TEXT.true shown

pub returns-in-Ok-clause-ok : goal.returns-in-Ok-clause-ok
returns-in-Ok-clause-ok c =
    named_ok c.args.policy.now c.args.text.now (named_with c.in-Ok.nevers (undeclared c.args.policy.now (flat_map mentions_of c.in-Ok.nevers)))
    (λ said is. says_read c.args.policy.now c.args.text.now c.as_bytes.result.now c.in-Ok.nevers said c.as_bytes.ensures.value c.if-text-gt-LONGEST_TEXT.false c.in-Ok.ensures is) c.named.result c.named.ensures.ok

pub returns-in-Ok-clause-fault : goal.returns-in-Ok-clause-fault
returns-in-Ok-clause-fault c =
    named_err c.args.policy.now c.args.text.now (named_with c.in-Ok.nevers (undeclared c.args.policy.now (flat_map mentions_of c.in-Ok.nevers)))
    (λ said is. says_read c.args.policy.now c.args.text.now c.as_bytes.result.now c.in-Ok.nevers said c.as_bytes.ensures.value c.if-text-gt-LONGEST_TEXT.false c.in-Ok.ensures is) c.named.result c.named.ensures.fault

pub returns-in-Err-clause-fault : goal.returns-in-Err-clause-fault
returns-in-Err-clause-fault c = λ f shown.
    says_faulty c.args.policy.now c.args.text.now c.as_bytes.result.now c.in-Err.error f c.as_bytes.ensures.value c.if-text-gt-LONGEST_TEXT.false c.in-Err.ensures (c.fault_of.ensures.fault f shown)
