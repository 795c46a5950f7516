use Rattle.std.proofs.Common.{rules, ◌≡◌, ◌<◌, ◌∙◌, length, slice_get, Some, arith}
use Rattle.std.proofs.lemmas.Result.{on_ok_weaker, IfOk-weaker}
use Rattle.gt_frames.specs.Frames.{FrameState}
use Rattle.gt_frames.proofs.Laying.{copied_among, receipt_among, at_front, at_back, set_front_is, set_back_is}
use Rattle.gt_frames.proofs.frames.copy_among.Goals as goal

module _ (c : goal.After-frames-then-source-dest-2-1) where
  from_here : (g : FrameState) → slice_get c.args.frames.now c.args.source ≡ Some g → g ≡ c.index-front-source.result
  from_here g at =
      at_front c.args.frames.now c.split_at_mut-front.result.0.now c.split_at_mut-front.result.1.now c.args.dest c.split_at_mut-front.ensures.value c.split_at_mut-front.ensures.front_len
      c.args.source c.index-front-source.result g (search rules) c.index-front-source.is at

  to_here : (g : FrameState) → slice_get c.args.frames.now c.args.dest ≡ Some g → g ≡ c.index-back-0.result
  to_here g at =
      let some : 0 < length c.split_at_mut-front.result.1.now = search rules in
      at_back c.args.frames.now c.split_at_mut-front.result.0.now c.split_at_mut-front.result.1.now c.args.dest c.split_at_mut-front.ensures.value c.split_at_mut-front.ensures.front_len
      c.index-back-0.result g some c.index-back-0.is at

pub returns-then-source-dest-2-clause-written : goal.returns-then-source-dest-2-clause-written
returns-then-source-dest-2-clause-written c =
    on_ok_weaker c.copy_between.result
    (λ write.
    copied_among c.args.frames.now _ c.args.source c.args.dest c.args.writ.now c.args.range.off c.args.to_off c.args.range.len _ _ c.copy_between.new.to
    (λ g at. from_here c g at ∙ c.index-front-source.is) (λ g at. to_here c g at ∙ c.index-back-0.is) write c.copy_between.ensures.kept
    (set_back_is c.args.frames.now c.split_at_mut-front.result.0.now c.split_at_mut-front.result.1.now c.args.dest c.split_at_mut-front.ensures.value c.split_at_mut-front.ensures.front_len c.copy_between.new.to))
    c.copy_between.ensures.written

pub returns-then-source-dest-2-clause-receipt : goal.returns-then-source-dest-2-clause-receipt
returns-then-source-dest-2-clause-receipt c =
    IfOk-weaker c.copy_between.result _ _
    (λ r is.
    receipt_among c.args.frames.now c.args.source c.args.dest c.args.writ.now.writer c.args.range.off c.args.to_off c.args.range.len _ _ r
    (λ g at. from_here c g at ∙ c.index-front-source.is) (λ g at. to_here c g at ∙ c.index-back-0.is) is)
    c.copy_between.ensures.receipt

module _ (c : goal.After-frames-else-source-dest-2-2-1) where
  from_there : (g : FrameState) → slice_get c.args.frames.now c.args.source ≡ Some g → g ≡ c.index-back-0-else-source-dest-2.result
  from_there g at =
      let some : 0 < length c.split_at_mut-front-else-source-dest-2.result.1.now = search rules in
      at_back c.args.frames.now c.split_at_mut-front-else-source-dest-2.result.0.now c.split_at_mut-front-else-source-dest-2.result.1.now c.args.source
      c.split_at_mut-front-else-source-dest-2.ensures.value c.split_at_mut-front-else-source-dest-2.ensures.front_len
      c.index-back-0-else-source-dest-2.result g some c.index-back-0-else-source-dest-2.is at

  to_there : (g : FrameState) → slice_get c.args.frames.now c.args.dest ≡ Some g → g ≡ c.index-front-dest.result
  to_there g at =
      let below : c.args.dest < c.args.source = grind arith in
      at_front c.args.frames.now c.split_at_mut-front-else-source-dest-2.result.0.now c.split_at_mut-front-else-source-dest-2.result.1.now c.args.source
      c.split_at_mut-front-else-source-dest-2.ensures.value c.split_at_mut-front-else-source-dest-2.ensures.front_len
      c.args.dest c.index-front-dest.result g below c.index-front-dest.is at

pub returns-else-source-dest-2-clause-written : goal.returns-else-source-dest-2-clause-written
returns-else-source-dest-2-clause-written c =
    let below : c.args.dest < c.args.source = grind arith in
    on_ok_weaker c.copy_between-else-source-dest-2.result
    (λ write.
    copied_among c.args.frames.now _ c.args.source c.args.dest c.args.writ.now c.args.range.off c.args.to_off c.args.range.len _ _
    c.copy_between-else-source-dest-2.new.to
    (λ g at. from_there c g at ∙ c.index-back-0-else-source-dest-2.is) (λ g at. to_there c g at ∙ c.index-front-dest.is) write c.copy_between-else-source-dest-2.ensures.kept
    (set_front_is c.args.frames.now c.split_at_mut-front-else-source-dest-2.result.0.now c.split_at_mut-front-else-source-dest-2.result.1.now c.args.source
    c.split_at_mut-front-else-source-dest-2.ensures.value c.split_at_mut-front-else-source-dest-2.ensures.front_len c.args.dest c.copy_between-else-source-dest-2.new.to below))
    c.copy_between-else-source-dest-2.ensures.written

pub returns-else-source-dest-2-clause-receipt : goal.returns-else-source-dest-2-clause-receipt
returns-else-source-dest-2-clause-receipt c =
    IfOk-weaker c.copy_between-else-source-dest-2.result _ _
    (λ r is.
    receipt_among c.args.frames.now c.args.source c.args.dest c.args.writ.now.writer c.args.range.off c.args.to_off c.args.range.len _ _ r
    (λ g at. from_there c g at ∙ c.index-back-0-else-source-dest-2.is) (λ g at. to_there c g at ∙ c.index-front-dest.is) is)
    c.copy_between-else-source-dest-2.ensures.receipt
