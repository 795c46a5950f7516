use Rattle.std.proofs.Common.{◌≡◌, ◌∙◌, ap, sym, subst, map, List}
use Rattle.std.specs.List.{flat_map}
use Rattle.gt_frames.specs.declared.places.FrameCount.{FrameCount}
use Rattle.gt_frames.specs.Frames.{FrameState}
use Rattle.gt_frames.specs.Sets.{all_zeros, zero_frames, journal_of, AreLaidOut}
use Rattle.gt_frames.proofs.Laying.{laid_new, journals_new, kept_all}
use Rattle.gt_frames.proofs.frames.Frames.new.Goals as goal

pub invariant_of-result : goal.invariant_of-result
invariant_of-result c =
    let ds : List FrameCount = c.in_ok-domains.domains.items in
    let all : c.in_ok-frames.frames.items ≡ flat_map zero_frames ds =
    c.in_ok-frames.ensures ∙ ap (λ (l : List FrameCount). flat_map zero_frames l) c.deref.ensures.value in
    subst (λ (fs : List FrameState). AreLaidOut ds fs) (sym all) (laid_new ds)

pub returns-clause-zeros : goal.returns-clause-zeros
returns-clause-zeros c =
    let ds : List FrameCount = c.in_ok-domains.domains.items in
    let all : c.in_ok-frames.frames.items ≡ flat_map zero_frames ds =
    c.in_ok-frames.ensures ∙ ap (λ (l : List FrameCount). flat_map zero_frames l) c.deref.ensures.value in
    ap (λ (fs : List FrameState). record { domains = ds; journals = map journal_of fs }) all
    ∙ ap (λ js. record { domains = ds; journals = js }) (journals_new ds)
    ∙ ap (λ (l : List FrameCount). all_zeros l) c.in_ok-domains.ensures

pub returns-clause-kept : goal.returns-clause-kept
returns-clause-kept c = kept_all _ _ (invariant_of-result c)
