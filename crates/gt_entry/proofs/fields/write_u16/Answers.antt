use Rattle.std.proofs.Common.{◌<◌, ◌^◌, List, ℕ, ap, ◌∙◌, arith}
use Rattle.gt_model.specs.Bytes.{field}
use Rattle.gt_entry.proofs.Encoding.{written-part, field-there}
use Rattle.gt_entry.proofs.fields.write_u16.Goals as goal

pub returns-clause-whole : goal.returns-clause-whole
returns-clause-whole c = written-part c.args.bytes.now c.write_u16.new.buf c.args.at 2 c.args.number c.write_u16.ensures

pub returns-clause-holds : goal.returns-clause-holds
returns-clause-holds c =
    let small : c.args.number < 256 ^ 2 = omega arith in
    ap (λ (bytes : List ℕ). field bytes c.args.at 2) (returns-clause-whole c) ∙ field-there c.args.bytes.now c.args.at 2 c.args.number c.requires small
