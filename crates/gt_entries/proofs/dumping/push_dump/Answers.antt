use Rattle.std.proofs.Common.{◌≡◌, ◌∙◌, ℕ, ◌+◌, suc, sym, subst, arith}
use Rattle.gt_entries.specs.Dumps.{AreEntryTexts}
use Rattle.gt_entries.proofs.DumpLemmas.{tells_next}
use Rattle.gt_entries.proofs.dumping.push_dump.Goals as goal

pub entries-preserved : goal.entries-preserved
entries-preserved c =
    let next : c.entries.gref + 1 ≡ suc c.entries.gref = omega arith in
    subst (λ (n : ℕ). AreEntryTexts c.args.asked c.args.dump.now n c.push_entry_lines.new.out.items) (sym next)
    (tells_next c.args.asked c.args.dump.now c.entries.gref _ c.entries.out.items _ c.entries.invariant c.entry_at.ensures c.in_ok-push_entry_lines.ensures)

pub returns : goal.returns
returns c =
    let all : c.entries.gref ≡ c.count_of-count.result = let a = c.entries-test.false in let b = c.entries.auto.gref-end in omega arith in
    subst (λ (n : ℕ). AreEntryTexts c.args.asked c.args.dump.now n c.entries.out.items) (all ∙ c.count_of-count.ensures) c.entries.invariant
