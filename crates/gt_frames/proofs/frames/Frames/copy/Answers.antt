use Rattle.std.proofs.Common.{◌≡◌, ◌∙◌, ap, sym, subst, List, IsTrue, slice_get, Some}
use Rattle.std.specs.Vec.{with_items}
use Rattle.std.proofs.lemmas.Bool.{and_parts}
use Rattle.std.proofs.lemmas.List.{with_items_is}
use Rattle.std.proofs.lemmas.Result.{on_ok_weaker, IfOk-weaker}
use Rattle.gt_frames.specs.Frames.{FrameState, covers, bytes_at}
use Rattle.gt_frames.specs.Places.{pool_number}
use Rattle.gt_frames.specs.Receipts.{copying_of}
use Rattle.gt_frames.specs.Sets.{FrameSet, place_in, frame_at, has_range, AreLaidOut, WritesTo}
use Rattle.gt_frames.proofs.Laying.{seen, found, laid_still, one_copied, told_of, same_len, kept_all}
use Rattle.gt_frames.proofs.frames.Frames.copy.Goals as goal

pub copy_among-requires-clause-right : goal.copy_among-requires-clause-right
copy_among-requires-clause-right c to at =
    let is : pool_number c.self.inside.domains.items c.args.to.frame.owner c.args.to.frame.number 0 ≡ Some c.unwrap-dest.result =
    ap (λ (s : FrameSet). place_in s c.args.to.frame) c.self.view_is ∙ sym c.place-2.ensures.place ∙ c.unwrap-dest.ensures in
    let f = found c.self.inside.domains.items c.self.inside.frames.items c.self.invariant c.args.to.frame c.unwrap-dest.result to is
    (ap (λ (l : List FrameState). slice_get l c.unwrap-dest.result) (sym c.deref_mut.ensures.value) ∙ at) in
    let right = and_parts (has_range c.args.self.now c.args.to.frame c.args.to.off c.args.len) (covers c.args.writ.now c.args.to.frame.owner c.args.to.frame.number c.args.to.off c.args.len) c.requires.dest in
    subst (λ (x : FrameState). IsTrue (covers c.args.writ.now x.owner x.number c.args.to.off c.args.len)) (sym f) right.1

module _ (c : goal.After-self-1) where
  from_is : pool_number c.self.inside.domains.items c.args.from.frame.owner c.args.from.frame.number 0 ≡ Some c.unwrap-source.result
  from_is = ap (λ (s : FrameSet). place_in s c.args.from.frame) c.self.view_is ∙ sym c.place.ensures.place ∙ c.unwrap-source.ensures

  to_is : pool_number c.self.inside.domains.items c.args.to.frame.owner c.args.to.frame.number 0 ≡ Some c.unwrap-dest.result
  to_is = ap (λ (s : FrameSet). place_in s c.args.to.frame) c.self.view_is ∙ sym c.place-2.ensures.place ∙ c.unwrap-dest.ensures

  out : AreLaidOut c.self.inside.domains.items c.deref_mut.result.now
  out = subst (λ (l : List FrameState). AreLaidOut c.self.inside.domains.items l) (sym c.deref_mut.ensures.value) c.self.invariant

  shown : seen c.self.inside.domains.items c.deref_mut.result.now ≡ c.args.self.now
  shown = ap (λ (l : List FrameState). seen c.self.inside.domains.items l) c.deref_mut.ensures.value ∙ c.self.view_is

  items : (with_items c.self.inside.frames c.copy_among.new.frames).items ≡ c.copy_among.new.frames
  items =
      with_items_is c.self.inside.frames c.copy_among.new.frames
      (same_len c.self.inside.domains.items c.deref_mut.result.now c.copy_among.new.frames out c.args.from.frame c.args.to.frame c.unwrap-source.result c.unwrap-dest.result from_is to_is
      c.copy_among.result c.args.writ.now c.args.from.off c.args.to.off c.args.len c.copy_among.ensures.written c.copy_among.ensures.refused
      ∙ c.deref_mut.ensures.len)

pub invariant_of-self : goal.invariant_of-self
invariant_of-self c =
    subst (λ (l : List FrameState). AreLaidOut c.self.inside.domains.items l) (sym (items c))
    (laid_still c.self.inside.domains.items c.deref_mut.result.now c.copy_among.new.frames (out c) c.args.from.frame c.args.to.frame c.unwrap-source.result c.unwrap-dest.result (from_is c) (to_is c)
    c.copy_among.result c.args.writ.now c.args.from.off c.args.to.off c.args.len c.copy_among.ensures.written c.copy_among.ensures.refused)

pub returns-clause-written : goal.returns-clause-written
returns-clause-written c =
    on_ok_weaker c.copy_among.result
    (λ writes.
    subst (λ (l : List FrameState). WritesTo c.args.self.now (seen c.self.inside.domains.items l) c.args.to.frame c.args.writ.now c.args.to.off (bytes_at (frame_at c.args.self.now c.args.from.frame) c.args.from.off c.args.len)) (sym (items c))
    (subst (λ (s : FrameSet). WritesTo s (seen c.self.inside.domains.items c.copy_among.new.frames) c.args.to.frame c.args.writ.now c.args.to.off (bytes_at (frame_at s c.args.from.frame) c.args.from.off c.args.len)) (shown c) writes))
    (one_copied c.self.inside.domains.items c.deref_mut.result.now c.copy_among.new.frames (out c) c.args.from.frame c.args.to.frame c.unwrap-source.result c.unwrap-dest.result (from_is c) (to_is c)
    c.copy_among.result c.args.writ.now c.args.from.off c.args.to.off c.args.len c.copy_among.ensures.written c.copy_among.ensures.refused)

pub returns-clause-kept : goal.returns-clause-kept
returns-clause-kept c = kept_all _ _ (invariant_of-self c)

pub returns-clause-receipt : goal.returns-clause-receipt
returns-clause-receipt c =
    IfOk-weaker c.copy_among.result _ _
    (λ r tells.
    subst (λ (s : FrameSet). r ≡ copying_of (frame_at s c.args.from.frame) c.args.from.off (frame_at s c.args.to.frame) c.args.to.off c.args.len c.args.writ.now.writer) (shown c)
    (told_of c.self.inside.domains.items c.deref_mut.result.now c.copy_among.new.frames (out c) c.args.from.frame c.args.to.frame c.unwrap-source.result c.unwrap-dest.result (from_is c) (to_is c)
    c.copy_among.result c.args.writ.now c.args.from.off c.args.to.off c.args.len c.copy_among.ensures.written c.copy_among.ensures.refused c.args.writ.now.writer r tells))
    c.copy_among.ensures.receipt
