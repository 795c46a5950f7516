use Rattle.std.proofs.Common.{arith, rules}
use Rattle.gt_text.specs.Laws.{OnErr-all}
use Rattle.gt_text.proofs.StreamLemmas.{reads_more, read_ends, read_is_front}
use Rattle.gt_text.proofs.streams.read_text.Goals as goal

pub returns-in_err-read_on-clause-err : goal.returns-in_err-read_on-clause-err
returns-in_err-read_on-clause-err g c =
    OnErr-all _ _ (reads_more _ _ _ 1048577 _ c.reads.bytes.items c.reads.invariant.1 (omega arith) c.in_err-read_on.ensures.err)

pub returns-then-room-eq0-clause-text : goal.returns-then-room-eq0-clause-text
returns-then-room-eq0-clause-text g c = read_is_front _ _ 1048577 c.reads.bytes.items c.reads.invariant.1 (omega arith)

pub returns-then-not-branch-clause-text : goal.returns-then-not-branch-clause-text
returns-then-not-branch-clause-text g c =
    read_ends _ _ _ 1048577 _ _ c.reads.bytes.items _ c.reads.invariant.1 (omega arith) c.in_ok-read_on.ensures.ok (search rules)
