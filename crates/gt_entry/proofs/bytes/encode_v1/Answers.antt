use Rattle.std.proofs.Common.{replicate, sym, subst}
use Rattle.gt_model.specs.Bytes.{SpellsV1}
use Rattle.gt_entry.proofs.Encoding.{zeros, v1-encoded}
use Rattle.gt_entry.proofs.bytes.encode_v1.Goals as goal

pub returns-clause-spelled : goal.returns-clause-spelled
returns-clause-spelled c =
    subst (SpellsV1 c.write_u32.new.bytes) (sym c.in-Page.is)
    (v1-encoded (replicate 8 0) c.write_u16.new.bytes c.write_u16-2.new.bytes c.write_u32.new.bytes c.in-Page.dom c.in-Page.ro c.in-Page.frame c.flags_of.result (zeros 8) c.flags_of.ensures
    (c.write_u16.ensures.whole, c.write_u16.ensures.holds) (c.write_u16-2.ensures.whole, c.write_u16-2.ensures.holds) (c.write_u32.ensures.whole, c.write_u32.ensures.holds))
