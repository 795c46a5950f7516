use Rattle.std.proofs.Common.{◌≡◌, ◌∙◌, ap, refl, subst, sym}
use Rattle.gt_frames.proofs.Writes.{IsSoundIn, kept_after, is_write, seen, sound_after}
use Rattle.gt_frames.proofs.frame.Frame.write.Goals as goal

pub invariant_of-self-2 : goal.invariant_of-self-2
invariant_of-self-2 c =
    let p = c.deref_mut-parts.result.now in let e = c.deref_mut-parts.ensures.value in
    let was : seen p ≡ c.args.self.now = ap seen e ∙ c.self.view_is in
    let sound : IsSoundIn p = subst IsSoundIn (sym e) c.self.invariant.0 in (
      sound_after _ _ _ _ _ _ _ _ was c.in_ok-store.ensures.journal _ _ _ sound c.in_ok-store.ensures.contents refl c.requires.range c.requires.right,
      c.in_ok-store.ensures.knows,
    )

pub returns-clause-written : goal.returns-clause-written
returns-clause-written c =
    let p = c.deref_mut-parts.result.now in let e = c.deref_mut-parts.ensures.value in
    let was : seen p ≡ c.args.self.now = ap seen e ∙ c.self.view_is in
    let sound : IsSoundIn p = subst IsSoundIn (sym e) c.self.invariant.0 in
    is_write _ _ _ _ _ _ _ _ was c.in_ok-store.ensures.journal _ _ sound refl c.requires.range _ refl

pub returns-clause-kept : goal.returns-clause-kept
returns-clause-kept c =
    let p = c.deref_mut-parts.result.now in let e = c.deref_mut-parts.ensures.value in
    let was : seen p ≡ c.args.self.now = ap seen e ∙ c.self.view_is in
    let sound : IsSoundIn p = subst IsSoundIn (sym e) c.self.invariant.0 in
    kept_after _ _ _ _ _ _ _ _ was c.in_ok-store.ensures.journal _ _ sound refl c.requires.range c.requires.right
