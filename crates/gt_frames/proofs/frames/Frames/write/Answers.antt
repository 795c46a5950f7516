use Rattle.std.proofs.Common.{◌≡◌, ◌∙◌, ap, sym, subst, set, length, IsTrue, Some}
use Rattle.std.proofs.lemmas.Bool.{and_parts}
use Rattle.std.proofs.lemmas.Result.{on_ok_weaker, IfOk-weaker}
use Rattle.gt_frames.specs.Frames.{FrameState, covers}
use Rattle.gt_frames.specs.Places.{pool_number}
use Rattle.gt_frames.specs.Receipts.{writing_of}
use Rattle.gt_frames.specs.Sets.{FrameSet, place_in, frame_at, has_range, WritesTo}
use Rattle.gt_frames.proofs.Laying.{seen, still_laid, one_written, found_read, kept_all}
use Rattle.gt_frames.proofs.frames.Frames.write.Goals as goal

pub write-requires-clause-right : goal.write-requires-clause-right
write-requires-clause-right c =
    let is : pool_number c.self.inside.domains.items c.args.name.owner c.args.name.number 0 ≡ Some c.unwrap-place.result =
    ap (λ (s : FrameSet). place_in s c.args.name) c.self.view_is ∙ sym c.place.ensures.place ∙ c.unwrap-place.ensures in
    let f = found_read c.self.inside.domains.items c.self.inside.frames.items c.self.invariant c.args.name c.unwrap-place.result c.index_mut.result.now is c.index_mut.ensures.value in
    let right = and_parts (has_range c.args.self.now c.args.name c.args.off (length c.args.bytes.now)) (covers c.args.writ.now c.args.name.owner c.args.name.number c.args.off (length c.args.bytes.now)) c.requires in
    subst (λ (x : FrameState). IsTrue (covers c.args.writ.now x.owner x.number c.args.off (length c.args.bytes.now))) (sym f) right.1

module _ (c : goal.After-self-1) where
  is : pool_number c.self.inside.domains.items c.args.name.owner c.args.name.number 0 ≡ Some c.unwrap-place.result
  is = ap (λ (s : FrameSet). place_in s c.args.name) c.self.view_is ∙ sym c.place.ensures.place ∙ c.unwrap-place.ensures

  frame_is : c.index_mut.result.now ≡ frame_at c.args.self.now c.args.name
  frame_is =
      found_read c.self.inside.domains.items c.self.inside.frames.items c.self.invariant c.args.name c.unwrap-place.result c.index_mut.result.now is c.index_mut.ensures.value
      ∙ ap (λ (s : FrameSet). frame_at s c.args.name) c.self.view_is

pub invariant_of-self : goal.invariant_of-self
invariant_of-self c =
    still_laid c.self.inside.domains.items c.self.inside.frames.items c.self.invariant c.args.name c.unwrap-place.result c.index_mut.result.now (is c) c.index_mut.ensures.value
    c.write.result c.write.new.self c.args.writ.now c.args.off c.args.bytes.now c.write.ensures.written c.write.ensures.kept c.write.ensures.refused

pub returns-clause-written : goal.returns-clause-written
returns-clause-written c =
    let new : FrameSet = seen c.self.inside.domains.items (set c.self.inside.frames.items c.unwrap-place.result c.write.new.self) in
    on_ok_weaker c.write.result
    (λ writes. subst (λ (s : FrameSet). WritesTo s new c.args.name c.args.writ.now c.args.off c.args.bytes.now) c.self.view_is writes)
    (one_written c.self.inside.domains.items c.self.inside.frames.items c.self.invariant c.args.name c.unwrap-place.result c.index_mut.result.now (is c) c.index_mut.ensures.value
    c.write.result c.write.new.self c.args.writ.now c.args.off c.args.bytes.now c.write.ensures.written c.write.ensures.kept c.write.ensures.refused)

pub returns-clause-kept : goal.returns-clause-kept
returns-clause-kept c = kept_all _ _ (invariant_of-self c)

pub returns-clause-receipt : goal.returns-clause-receipt
returns-clause-receipt c =
    IfOk-weaker c.write.result _ _
    (λ r tells. tells ∙ ap (λ (x : FrameState). writing_of x c.args.off c.args.bytes.now c.args.writ.now.writer) (frame_is c))
    c.write.ensures.receipt
