use Rattle.std.proofs.Common.{sym, ap, ◌∙◌}
use Rattle.std.proofs.lemmas.Option.{none-some}
use Rattle.gt_model.specs.Bytes.{refused_flag}
use Rattle.gt_model.proofs.Decoding.{are-bytes, v2-none, v2-page-ok, v2-sub-ok, v2-via-ok}
use Rattle.gt_entry.proofs.bytes.decode_v2.Goals as goal

pub returns-in-Some-clause-taken : goal.returns-in-Some-clause-taken
returns-in-Some-clause-taken c =
    λ e s. absurd (none-some c.in-Some.field (sym (v2-none c.args.bytes.now e s) ∙ (ap (refused_flag 2) (sym c.read_u16-flags.ensures) ∙ (sym c.refused_field.ensures ∙ c.in-Some.is))))

pub returns-then-flags-eq-TRANSITIVE-clause-ok : goal.returns-then-flags-eq-TRANSITIVE-clause-ok
returns-then-flags-eq-TRANSITIVE-clause-ok c =
    v2-via-ok c.args.bytes.now c.read_u16-flags.result c.read_u16.result c.read_u16-then-flags-eq-TRANSITIVE.result c.read_u32.result c.is_set-ro.result
    (are-bytes 16 c.args.bytes.now c.told-bytes c.fits-bytes) c.read_u16-flags.ensures (sym c.refused_field.ensures ∙ c.in_default.is) c.if-flags-eq-TRANSITIVE.true
    c.read_u16.ensures c.is_set-ro.ensures c.read_u16-then-flags-eq-TRANSITIVE.ensures c.read_u32.ensures

pub returns-then-not-is_set-clause-ok : goal.returns-then-not-is_set-clause-ok
returns-then-not-is_set-clause-ok c =
    v2-page-ok c.args.bytes.now c.read_u16-flags.result c.read_u16.result c.read_u64-frame.result c.is_set-ro.result
    (are-bytes 16 c.args.bytes.now c.told-bytes c.fits-bytes) c.read_u16-flags.ensures (sym c.refused_field.ensures ∙ c.in_default.is) c.if-flags-eq-TRANSITIVE.false
    (sym c.is_set.ensures ∙ c.if-not-is_set.true) c.read_u16.ensures c.is_set-ro.ensures c.read_u64-frame.ensures

pub returns-clause-ok : goal.returns-clause-ok
returns-clause-ok c =
    v2-sub-ok c.args.bytes.now c.read_u16-flags.result c.read_u16.result c.read_u64-frame.result c.read_u16-2.result c.read_u16-3.result c.is_set-ro.result
    (are-bytes 16 c.args.bytes.now c.told-bytes c.fits-bytes) c.read_u16-flags.ensures (sym c.refused_field.ensures ∙ c.in_default.is) c.if-flags-eq-TRANSITIVE.false
    (sym c.is_set.ensures ∙ c.if-not-is_set.false) c.read_u16.ensures c.is_set-ro.ensures c.read_u64-frame.ensures c.read_u16-2.ensures c.read_u16-3.ensures
