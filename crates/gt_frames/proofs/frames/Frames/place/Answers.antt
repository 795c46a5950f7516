use Rattle.std.proofs.Common.{◌≡◌, ◌<◌, ◌∙◌, ap, sym, length, IfSome, Option, Some, None, refl, ℕ, arith}
use Rattle.std.proofs.lemmas.List.{length-map}
use Rattle.gt_frames.specs.Places.{pool_number}
use Rattle.gt_frames.specs.Sets.{FrameSet, journal_of}
use Rattle.gt_frames.proofs.Laying.{below}
use Rattle.gt_frames.proofs.frames.Frames.place.Goals as goal

pub returns-clause-below : goal.returns-clause-below
returns-clause-below c = there c.number_in_pool.result refl
  where
    there : (o : Option ℕ) → c.number_in_pool.result ≡ o → IfSome o (λ place. place < length c.args.self.now.journals)
    there None is = tt
    there (Some place) is =
        let fs = c.self.inside.frames.items in
        let ds = c.self.inside.domains.items in
        let found : pool_number ds c.args.name.owner c.args.name.number 0 ≡ Some place =
        ap (λ l. pool_number l c.args.name.owner c.args.name.number 0) (sym c.deref.ensures.value) ∙ sym c.number_in_pool.ensures ∙ is in
        let b : place < length fs = below ds fs c.self.invariant c.args.name place found in
        let n : length c.args.self.now.journals ≡ length fs = ap (λ (s : FrameSet). length s.journals) (sym c.self.view_is) ∙ length-map fs journal_of in
        omega arith
