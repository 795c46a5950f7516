use Rattle.std.proofs.Common.{◌-◌, ◌≤◌, List, ℕ, arith, inl, length, subst}
use Rattle.gt_findings.specs.Columns.{no_line}
use Rattle.gt_findings.proofs.LineLemmas.{line_column, line_missing}
use Rattle.gt_findings.proofs.columns.WordColumns.on_line.Goals as goal

pub returns-then-line-eq0 : goal.returns-then-line-eq0
returns-then-line-eq0 c = λ text word are. no_line (inl c.if-line-eq0.true)

pub returns-in-Some : goal.returns-in-Some
returns-in-Some c = λ text word are.
    let found = c.in-Some.ensures.lookup.3 in
    line_column text word c.args.self.now.columns.items c.deref.result.now c.args.line c.in-Some.column.now are c.deref.ensures.value (omega arith) found.0 (found.1 0)

pub returns-in-None : goal.returns-in-None
returns-in-None c = λ text word are.
    let past = subst (λ (l : List ℕ). length l ≤ c.args.line - 1) c.deref.ensures.value c.in-None.ensures.lookup.3 in
    line_missing text word c.args.self.now.columns.items c.args.line are (omega arith) past
