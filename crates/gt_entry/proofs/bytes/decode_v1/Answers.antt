use Rattle.std.proofs.Common.{sym, ◌∙◌}
use Rattle.gt_model.proofs.Decoding.{are-bytes, v1-ok}
use Rattle.gt_entry.proofs.bytes.decode_v1.Goals as goal

pub returns-clause-ok : goal.returns-clause-ok
returns-clause-ok c =
    v1-ok c.args.bytes.now c.read_u16-flags.result c.read_u16.result c.from.result c.is_set.result (are-bytes 8 c.args.bytes.now c.told-bytes c.fits-bytes) c.read_u16-flags.ensures
    (sym c.refused_field.ensures ∙ c.in_default.is) c.read_u16.ensures c.is_set.ensures (c.from.ensures ∙ c.read_u32.ensures)
