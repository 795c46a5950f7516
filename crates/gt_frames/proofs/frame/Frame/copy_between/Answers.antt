use Rattle.std.proofs.Common.{rules, ◌≡◌, ◌+◌, ◌∙◌, ap, slice_range, subst, sym}
use Rattle.gt_frames.specs.declared.frame.FrameParts.{FrameParts}
use Rattle.gt_frames.proofs.Writes.{IsSoundIn, kept_after, is_write, same_bytes, seen, sound_after}
use Rattle.gt_frames.proofs.frame.Frame.copy_between.Goals as goal

pub invariant_of-to-2 : goal.invariant_of-to-2
invariant_of-to-2 c =
    let p = c.deref_mut-parts.result.now in let e = c.deref_mut-parts.ensures.value in
    let was : seen p ≡ c.args.to.now = ap seen e ∙ c.to.view_is in
    let sound : IsSoundIn p = subst IsSoundIn (sym e) c.to.invariant.0 in (
      sound_after _ _ _ _ _ _ _ _ was c.in_ok-store.ensures.journal _ _ _ sound c.in_ok-store.ensures.contents
          c.range_of-bytes.ensures.len c.requires.dest c.requires.right,
      c.in_ok-store.ensures.knows,
    )

pub returns : goal.returns
returns c =
    let p = c.deref_mut-parts.result.now in let e = c.deref_mut-parts.ensures.value in
    let was : seen p ≡ c.args.to.now = ap seen e ∙ c.to.view_is in
    let sound : IsSoundIn p = subst IsSoundIn (sym e) c.to.invariant.0 in
    let from = c.from.inside.parts.value in let off = c.args.range.off in let len = c.args.range.len in record {
      written =
          is_write _ _ _ _ _ _ _ _ was c.in_ok-store.ensures.journal _ _ sound c.range_of-bytes.ensures.len c.requires.dest _
          (c.range_of-bytes.ensures.bytes
          ∙ (ap (λ (q : FrameParts). slice_range q.bytes off (off + len)) c.deref.ensures
          ∙ same_bytes _ _ _ from.bytes from.journal off len c.from.view_is c.from.invariant.0));
      kept =
          kept_after _ _ _ _ _ _ _ _ was c.in_ok-store.ensures.journal _ _ sound c.range_of-bytes.ensures.len c.requires.dest c.requires.right;
      receipt = search rules;
      refused = search rules;
    }
