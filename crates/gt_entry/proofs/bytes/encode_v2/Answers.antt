use Rattle.std.proofs.Common.{replicate, sym, subst, refl}
use Rattle.gt_model.specs.Bytes.{SpellsV2, IsZeroPadded}
use Rattle.gt_entry.proofs.Encoding.{zeros, v2-page-encoded, v2-sub-encoded, v2-via-encoded}
use Rattle.gt_entry.proofs.bytes.encode_v2.Goals as goal

pub returns-in-Page-clause-spelled : goal.returns-in-Page-clause-spelled
returns-in-Page-clause-spelled c =
    subst (SpellsV2 c.write_u64.new.bytes) (sym c.in-Page.is)
    (v2-page-encoded (replicate 16 0) c.write_u16.new.bytes c.write_u16-in-Page.new.bytes c.write_u64.new.bytes c.in-Page.dom c.in-Page.ro c.in-Page.frame c.flags_of.result (zeros 16) refl
    c.flags_of.ensures (c.write_u16.ensures.whole, c.write_u16.ensures.holds) (c.write_u16-in-Page.ensures.whole, c.write_u16-in-Page.ensures.holds)
    (c.write_u64.ensures.whole, c.write_u64.ensures.holds)).0

pub returns-in-Sub-clause-spelled : goal.returns-in-Sub-clause-spelled
returns-in-Sub-clause-spelled c =
    subst (SpellsV2 c.write_u64-in-Sub.new.bytes) (sym c.in-Sub.is)
    (v2-sub-encoded (replicate 16 0) c.write_u16-in-Sub.new.bytes c.write_u16-in-Sub-2.new.bytes c.write_u16-in-Sub-3.new.bytes c.write_u16-in-Sub-4.new.bytes c.write_u64-in-Sub.new.bytes
    c.in-Sub.dom c.in-Sub.ro c.in-Sub.frame c.in-Sub.off c.in-Sub.len c.flags_of-in-Sub.result (zeros 16) c.flags_of-in-Sub.ensures
    (c.write_u16-in-Sub.ensures.whole, c.write_u16-in-Sub.ensures.holds) (c.write_u16-in-Sub-2.ensures.whole, c.write_u16-in-Sub-2.ensures.holds)
    (c.write_u16-in-Sub-3.ensures.whole, c.write_u16-in-Sub-3.ensures.holds) (c.write_u16-in-Sub-4.ensures.whole, c.write_u16-in-Sub-4.ensures.holds)
    (c.write_u64-in-Sub.ensures.whole, c.write_u64-in-Sub.ensures.holds))

pub returns-in-Via-clause-spelled : goal.returns-in-Via-clause-spelled
returns-in-Via-clause-spelled c =
    subst (SpellsV2 c.write_u32.new.bytes) (sym c.in-Via.is)
    (v2-via-encoded (replicate 16 0) c.write_u16-in-Via.new.bytes c.write_u16-in-Via-2.new.bytes c.write_u16-in-Via-3.new.bytes c.write_u32.new.bytes
    c.in-Via.dom c.in-Via.dom2 c.in-Via.gref c.in-Via.ro c.flags_of-in-Via.result (zeros 16) refl refl c.flags_of-in-Via.ensures
    (c.write_u16-in-Via.ensures.whole, c.write_u16-in-Via.ensures.holds) (c.write_u16-in-Via-2.ensures.whole, c.write_u16-in-Via-2.ensures.holds)
    (c.write_u16-in-Via-3.ensures.whole, c.write_u16-in-Via-3.ensures.holds) (c.write_u32.ensures.whole, c.write_u32.ensures.holds)).0

pub returns-in-Page-clause-padded : goal.returns-in-Page-clause-padded
returns-in-Page-clause-padded c =
    subst (IsZeroPadded c.write_u64.new.bytes) (sym c.in-Page.is)
    (v2-page-encoded (replicate 16 0) c.write_u16.new.bytes c.write_u16-in-Page.new.bytes c.write_u64.new.bytes c.in-Page.dom c.in-Page.ro c.in-Page.frame c.flags_of.result (zeros 16) refl
    c.flags_of.ensures (c.write_u16.ensures.whole, c.write_u16.ensures.holds) (c.write_u16-in-Page.ensures.whole, c.write_u16-in-Page.ensures.holds)
    (c.write_u64.ensures.whole, c.write_u64.ensures.holds)).1

pub returns-in-Via-clause-padded : goal.returns-in-Via-clause-padded
returns-in-Via-clause-padded c =
    subst (IsZeroPadded c.write_u32.new.bytes) (sym c.in-Via.is)
    (v2-via-encoded (replicate 16 0) c.write_u16-in-Via.new.bytes c.write_u16-in-Via-2.new.bytes c.write_u16-in-Via-3.new.bytes c.write_u32.new.bytes
    c.in-Via.dom c.in-Via.dom2 c.in-Via.gref c.in-Via.ro c.flags_of-in-Via.result (zeros 16) refl refl c.flags_of-in-Via.ensures
    (c.write_u16-in-Via.ensures.whole, c.write_u16-in-Via.ensures.holds) (c.write_u16-in-Via-2.ensures.whole, c.write_u16-in-Via-2.ensures.holds)
    (c.write_u16-in-Via-3.ensures.whole, c.write_u16-in-Via-3.ensures.holds) (c.write_u32.ensures.whole, c.write_u32.ensures.holds)).1
