use Rattle.gt_calls.proofs.{Words.◌≡◌, Words.true, Words.sym, Words.ap, Words.◌∙◌, Words.subst, Words.arith, Words.None}
use Rattle.gt_calls.proofs.{Words.Spells, Words.is_invalid, Words.bytes_begun, Saying.spelled-is}
use Rattle.gt_calls.proofs.{Saying.bytes-open, Saying.spelled-begun}
use Rattle.gt_calls.proofs.asking.judge_bytes.Goals as goal

pub returns-in-Ok : goal.returns-in-Ok
returns-in-Ok c = let header = c.args.header in let own = c.args.own in let r = c.args.gref.0 in let bytes = c.args.bytes.now in
    let said = spelled-is header.version bytes c.in-Ok.entry c.in-Ok.ensures.ok in
    let invalid : is_invalid own.entry ≡ true = ap is_invalid (sym c.entry.ensures) ∙ sym c.is_invalid.ensures ∙ c.if-not-is_invalid.false in
    let none : bytes_begun header own.entry own.generation r bytes ≡ None =
    bytes-open header own.entry own.generation r bytes (let a = c.if-gref-entries.false in let b = c.entries.ensures in omega arith) invalid (λ e. c.if-generation-eq-LAST_GENERATION.false (c.generation.ensures.value ∙ e)) c.in-Ok.ensures.field in
    record {
      judged = (none, sym said, subst (Spells header.version bytes) (sym said) c.in-Ok.ensures.ok);
      unanswered = spelled-begun header own.entry own.generation r bytes c.in-Ok.entry none c.in-Ok.ensures.ok;
    }
