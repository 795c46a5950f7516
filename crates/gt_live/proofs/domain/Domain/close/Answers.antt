use Rattle.std.proofs.Common.{◌≡◌, ◌+◌, ◌≤◌, ◌∙◌, arith, refl, subst, sym, zero-add, ℕ, length, [], ◌∷◌, ◌++◌, length-append}
use Rattle.std.specs.List.{count_by}
use Rattle.gt_types.specs.declared.limits.TheConstants.{TABLE_ENTRIES}
use Rattle.gt_live.specs.Closing.{ClosesRow, is_in_use}
use Rattle.gt_live.proofs.Closing.{count-no, count-yes, counted-more, quiet-self, quiet-then, rows-end}
use Rattle.gt_live.proofs.domain.Domain.close.Goals as goal
use Rattle.gt_live.proofs.domain.Domain.close.Goals.{then-is_in_use, else-is_in_use}

pub entries-init : goal.entries-init
entries-init g c =
    record {
      mine = c.requires.mine;
      quiet = quiet-self c.args.self.now;
      words = [];
      all = refl;
      left_is = refl;
      few = omega arith;
      rows = refl;
      counted = λ r lt. absurd (omega (arith, lt));
    }

pub entries-preserved : goal.entries-preserved
entries-preserved g c =
    let m = c.args.monitor.now in let d = c.args.self.now in let e = c.entries.self in let f = c.close_row.new.self in
    let inv = c.entries.invariant in let row = c.close_row.ensures in let word = c.close_row.result in
    let few = inv.few in let all = inv.all in
    let counted : (c.if-is_in_use.left ≡ count_by is_in_use (inv.words ++ word ∷ [])) × (c.if-is_in_use.left ≤ c.entries.at + 1) =
    elim c.if-is_in_use.branch [
      | then-is_in_use w ↦ (
        w.left-is ∙ count-yes is_in_use inv.words word c.entries.left inv.left_is (sym c.is_in_use.ensures ∙ w.if-is_in_use.true),
        let e = w.left-is in omega (arith, e, few),
      )
      | else-is_in_use w ↦ (
        w.left-is ∙ count-no is_in_use inv.words word c.entries.left inv.left_is (sym c.is_in_use.ensures ∙ w.if-is_in_use.false),
        let e = w.left-is in omega (arith, e, few),
      )
    ] in
    record {
      mine = row.mine;
      quiet = quiet-then d e f inv.quiet row.quiet;
      words = inv.words ++ word ∷ [];
      all = omega (arith, all, length-append inv.words (word ∷ []));
      left_is = counted.0;
      few = counted.1;
      rows = rows-end g.P.Allows.may m d e f 0 inv.words word inv.rows
          (subst (λ (n : ℕ). ClosesRow g.P.Allows.may m e (record { 0 = n }) word f) (sym (zero-add (length inv.words) ∙ inv.all)) row.closed);
      counted = counted-more e f inv.words c.entries.at word inv.all row.closed.others inv.counted row.counted;
    }

pub returns-clause-closes : goal.returns-clause-closes
returns-clause-closes g c =
    let inv = c.entries.invariant in let rows = c.requires.mine.all_rows in let len = c.len-at-end.ensures in
    let most = c.entries.auto.at-end in let least = c.entries-test.false in
    let end : c.entries.at ≡ TABLE_ENTRIES = omega (arith, rows, len, most, least) in
    record {
      words = inv.words;
      all = inv.all ∙ end;
      left_is = inv.left_is;
      rows = inv.rows;
      counted = λ r lt. inv.counted r (omega (arith, lt, end));
    }
