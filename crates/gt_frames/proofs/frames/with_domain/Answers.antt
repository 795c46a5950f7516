use Rattle.std.proofs.Common.{◌∙◌, ◌++◌, [], ◌∷◌, ap, map, List, ℕ}
use Rattle.std.specs.List.{range_with_len}
use Rattle.gt_frames.specs.declared.places.FrameCount.{FrameCount}
use Rattle.gt_frames.specs.Frames.{FrameState}
use Rattle.gt_frames.specs.Sets.{zero_in}
use Rattle.gt_frames.proofs.Laying.{zeros_more}
use Rattle.gt_frames.proofs.frames.with_domain.Goals as goal

pub frames-preserved : goal.frames-preserved
frames-preserved c =
    let d : FrameCount = record { owner = c.args.owner; frames = c.args.count } in
    c.in_ok-push.ensures.items
    ∙ ap (λ (l : List FrameState). l ++ c.in_ok-new.field-0 ∷ []) c.frames.invariant
    ∙ ap (λ (f : FrameState). (c.args.frames.items ++ map (zero_in d) (range_with_len 0 c.frames.number)) ++ f ∷ []) c.in_ok-new.ensures
    ∙ ap (λ (n : ℕ). (c.args.frames.items ++ map (zero_in d) (range_with_len 0 c.frames.number)) ++ zero_in d n ∷ []) c.from.ensures
    ∙ zeros_more d c.frames.number c.args.frames.items
