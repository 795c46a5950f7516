use Rattle.std.proofs.Common.{rules, ◌≡◌, ◌<◌, ◌∙◌, ap, sym, slice_get, length, Some, refl}
use Rattle.std.proofs.lemmas.List.{length-map}
use Rattle.std.proofs.lemmas.Option.{slice_get_read}
use Rattle.gt_frames.specs.Sets.{FrameSet, frame_at, place_in, journal_of}
use Rattle.gt_frames.proofs.Laying.{found}
use Rattle.gt_frames.proofs.frames.Frames.get.Goals as goal

module _ (c : goal.After-index-frame) where
  here : slice_get c.self.inside.frames.items c.in_ok-place.place ≡ Some c.index-frame.result.now
  here =
      let fs = c.self.inside.frames.items in
      let n : length c.args.self.now.journals ≡ length fs = ap (λ (s : FrameSet). length s.journals) (sym c.self.view_is) ∙ length-map fs journal_of in
      let b : c.in_ok-place.place < length fs = search (rules, n) in
      slice_get_read fs (length fs) c.in_ok-place.place c.index-frame.result.now refl b c.index-frame.ensures

pub returns-clause-frame : goal.returns-clause-frame
returns-clause-frame c =
    let is : place_in c.args.self.now c.args.name ≡ Some c.in_ok-place.place = search rules in
    found c.self.inside.domains.items c.self.inside.frames.items c.self.invariant c.args.name c.in_ok-place.place c.index-frame.result.now
    (ap (λ (s : FrameSet). place_in s c.args.name) c.self.view_is ∙ is) (here c)
    ∙ ap (λ (s : FrameSet). frame_at s c.args.name) c.self.view_is

pub returns-clause-kept : goal.returns-clause-kept
returns-clause-kept c = c.self.invariant.kept c.in_ok-place.place c.index-frame.result.now (here c)
