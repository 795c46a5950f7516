use Rattle.std.proofs.Common.{◌∙◌, sym}
use Rattle.gt_script.proofs.RoundLemmas.{told-is, none-waits, one-waits, nobody-waits}
use Rattle.gt_script.proofs.stuck.stuck_line.Goals as goal

pub returns-then-is_some : goal.returns-then-is_some
returns-then-is_some c =
    one-waits c.in_ok-told.told.items c.as_slice.result.now c.args.tasks.now c.args.domains.now c.domains.domain-index (record { id = record { 0 = 0 }; label = record { 0 = 0 }; frames = 0; table_frames = 0; version = 0 }) c.waiting_line-line.result
    (told-is c.args.tasks.now c.in_ok-told.told.items c.in_ok-told.ensures.closed c.in_ok-told.ensures.least) c.domains.invariant c.domains-test.true c.as_slice.ensures.value c.waiting_line-line.ensures
    (sym c.is_some.ensures ∙ c.if-is_some.true)

pub domains-preserved : goal.domains-preserved
domains-preserved c =
    none-waits c.in_ok-told.told.items c.as_slice.result.now c.args.tasks.now c.args.domains.now c.domains.domain-index (record { id = record { 0 = 0 }; label = record { 0 = 0 }; frames = 0; table_frames = 0; version = 0 }) c.waiting_line-line.result
    c.domains.invariant c.domains-test.true c.as_slice.ensures.value c.waiting_line-line.ensures (sym c.is_some.ensures ∙ c.if-is_some.false)

pub returns : goal.returns
returns c =
    nobody-waits c.in_ok-told.told.items c.args.tasks.now c.args.domains.now c.domains.domain-index
    (told-is c.args.tasks.now c.in_ok-told.told.items c.in_ok-told.ensures.closed c.in_ok-told.ensures.least) c.domains.invariant c.domains-test.false
