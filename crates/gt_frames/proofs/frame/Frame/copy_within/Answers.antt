use Rattle.std.proofs.Common.{rules, ◌≡◌, ◌∙◌, ◌+◌, ap, arith, length, slice_range, subst, sym}
use Rattle.std.proofs.lemmas.Grind.{common_steps}
use Rattle.gt_types.specs.declared.limits.TheConstants.{FRAME_SIZE}
use Rattle.gt_frames.proofs.Writes.{IsSoundIn, kept_after, is_write, same_bytes, seen, sound_after}
use Rattle.gt_frames.proofs.frame.Frame.copy_within.Goals as goal

pub invariant_of-self-2 : goal.invariant_of-self-2
invariant_of-self-2 c =
    let p = c.deref_mut-parts.result.now in let e = c.deref_mut-parts.ensures.value in
    let was : seen p ≡ c.args.self.now = ap seen e ∙ c.self.view_is in
    let sound : IsSoundIn p = subst IsSoundIn (sym e) c.self.invariant.0 in
    let all : length p.bytes ≡ FRAME_SIZE = sound.len in
    let size : length (slice_range p.bytes c.args.range.off (c.args.range.off + c.args.range.len)) ≡ c.args.range.len = grind (arith, common_steps) in (
      sound_after _ _ _ _ _ _ _ _ was c.in_ok-store_own.ensures.journal _ _ _ sound c.in_ok-store_own.ensures.contents
          size c.requires.dest c.requires.right,
      c.in_ok-store_own.ensures.knows,
    )

pub returns : goal.returns
returns c =
    let p = c.deref_mut-parts.result.now in let e = c.deref_mut-parts.ensures.value in
    let was : seen p ≡ c.args.self.now = ap seen e ∙ c.self.view_is in
    let sound : IsSoundIn p = subst IsSoundIn (sym e) c.self.invariant.0 in
    let all : length p.bytes ≡ FRAME_SIZE = sound.len in
    let size : length (slice_range p.bytes c.args.range.off (c.args.range.off + c.args.range.len)) ≡ c.args.range.len = grind (arith, common_steps) in
    record {
      written =
          is_write _ _ _ _ _ _ _ _ was c.in_ok-store_own.ensures.journal _ _ sound size c.requires.dest _
          (same_bytes _ _ _ p.bytes p.journal c.args.range.off c.args.range.len was sound);
      kept =
          kept_after _ _ _ _ _ _ _ _ was c.in_ok-store_own.ensures.journal _ _ sound size c.requires.dest c.requires.right;
      receipt = search rules;
      refused = search rules;
    }
