use Rattle.std.proofs.Common.{◌∙◌, ℕ, arith, ap, suc}
use Rattle.gt_types.specs.declared.limits.TheConstants.{TABLE_ENTRIES}
use Rattle.gt_c.specs.Calling.{ref_at}
use Rattle.gt_c.specs.Grantees.{noted_at, noted_first}
use Rattle.gt_c.specs.declared.c_domain.CDomain.{CDomain}
use Rattle.gt_c.proofs.Noting.{noted-to}
use Rattle.gt_c.proofs.renewing.note_all.Goals as goal

pub entries-preserved : goal.entries-preserved
entries-preserved c =
    let inv = c.entries.invariant in let here = inv.at in
    record {
      count = suc inv.count;
      at = omega (arith, here);
      noted = c.note.ensures ∙ ap (λ (d : CDomain). noted_at (ref_at c.entries.at) d) inv.noted
          ∙ ap (λ (n : ℕ). noted_at (ref_at n) (noted_first inv.count c.args.lent.now)) inv.at;
    }

pub returns : goal.returns
returns c =
    let inv = c.entries.invariant in let most = c.entries.auto.at-end in let least = c.entries-test.false in let at = inv.at in
    noted-to inv.count TABLE_ENTRIES c.args.lent.now c.entries.lent (omega (arith, most, least, at)) inv.noted
