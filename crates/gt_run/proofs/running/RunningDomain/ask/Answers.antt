use Rattle.std.proofs.Common.{◌≡◌, ℕ, Ok, Err}
use Rattle.std.specs.Prelude.{MatchResult, Result}
use Rattle.gt_types.specs.declared.Size.{Size}
use Rattle.gt_types.specs.declared.denial.Denial.{Denial}
use Rattle.gt_model.specs.declared.handle.Handle.{Handle}
use Rattle.gt_model.specs.declared.trace.Answer.{Answer}
use Rattle.gt_model.specs.declared.trace.Answer.TheVariants as answers
use Rattle.gt_run.specs.Asking.{frames_answer, mapped_answer, size_answer, version_answer}
use Rattle.gt_run.proofs.running.RunningDomain.ask.Goals as goal

mapped : (r : Result Handle Denial) (a : Answer) → MatchResult r (λ h. a ≡ answers.Mapped h) (λ e. a ≡ answers.Denied e) → a ≡ mapped_answer r
mapped (Ok h) a is = is
mapped (Err e) a is = is

has : (r : Result ℕ Denial) (a : Answer) → MatchResult r (λ n. a ≡ answers.Frames n) (λ e. a ≡ answers.Denied e) → a ≡ frames_answer r
has (Ok n) a is = is
has (Err e) a is = is

sized : (r : Result Size Denial) (a : Answer) → MatchResult r (λ s. a ≡ answers.Size s) (λ e. a ≡ answers.Denied e) → a ≡ size_answer r
sized (Ok s) a is = is
sized (Err e) a is = is

versioned : (r : Result ℕ Denial) (a : Answer) → MatchResult r (λ n. a ≡ answers.Version n) (λ e. a ≡ answers.Denied e) → a ≡ version_answer r
versioned (Ok n) a is = is
versioned (Err e) a is = is

pub returns-in-Grant-clause-asked : goal.returns-in-Grant-clause-asked
returns-in-Grant-clause-asked g c =
    let e = c.grant.ensures in
    rw (← c.self.view_is, c.in-Grant.is) (e.stays.1.dom, (c.grant.result, c.done.ensures, e.answers), e.stays)

pub returns-in-GrantBytes-clause-asked : goal.returns-in-GrantBytes-clause-asked
returns-in-GrantBytes-clause-asked g c =
    let e = c.grant_bytes.ensures in
    rw (← c.self.view_is, c.in-GrantBytes.is) (e.stays.1.dom, (c.grant_bytes.result, c.done-in-GrantBytes.ensures, e.answers), e.stays)

pub returns-in-Revoke-clause-asked : goal.returns-in-Revoke-clause-asked
returns-in-Revoke-clause-asked g c =
    let e = c.revoke.ensures in
    rw (← c.self.view_is, c.in-Revoke.is) (e.stays.1.dom, (c.revoke.result, c.done-in-Revoke.ensures, e.answers), e.stays)

pub returns-in-Withdraw-clause-asked : goal.returns-in-Withdraw-clause-asked
returns-in-Withdraw-clause-asked g c =
    let e = c.withdraw.ensures in
    rw (← c.self.view_is, c.in-Withdraw.is) (e.stays.1.dom, (c.withdraw.result, c.done-in-Withdraw.ensures, e.answers), e.stays)

pub returns-in-Demote-clause-asked : goal.returns-in-Demote-clause-asked
returns-in-Demote-clause-asked g c =
    let e = c.demote.ensures in
    rw (← c.self.view_is, c.in-Demote.is) (e.stays.1.dom, (c.demote.result, c.done-in-Demote.ensures, e.answers), e.stays)

pub returns-in-Promote-clause-asked : goal.returns-in-Promote-clause-asked
returns-in-Promote-clause-asked g c =
    let e = c.promote.ensures in
    rw (← c.self.view_is, c.in-Promote.is) (e.stays.1.dom, (c.promote.result, c.done-in-Promote.ensures, e.answers), e.stays)

pub returns-in-Map-clause-asked : goal.returns-in-Map-clause-asked
returns-in-Map-clause-asked g c =
    let e = c.map-mapped.ensures in
    rw (← c.self.view_is, c.in-Map.is)
    (e.seat.dom, (c.map-mapped.result, mapped _ _ c.map_or_else.ensures, e.answered, e.recorded), (e.mine, e.seat))

pub returns-in-Unmap-clause-asked : goal.returns-in-Unmap-clause-asked
returns-in-Unmap-clause-asked g c =
    let e = c.unmap.ensures in
    rw (← c.self.view_is, c.in-Unmap.is) (
      e.seat.dom,
      (c.unmap.result, c.done-in-Unmap.ensures, e.answered, e.removed, e.refused, e.recorded),
      (e.mine, e.seat),
    )

pub returns-in-Release-clause-asked : goal.returns-in-Release-clause-asked
returns-in-Release-clause-asked g c =
    let e = c.release.ensures in
    rw (← c.self.view_is, c.in-Release.is) (
      e.seat.dom,
      (c.release.result, c.done-in-Release.ensures, e.answered, e.removed, e.refused, e.silent),
      (e.mine, e.seat),
    )

pub returns-in-SetVersion-clause-asked : goal.returns-in-SetVersion-clause-asked
returns-in-SetVersion-clause-asked g c =
    let e = c.set_version.ensures in
    rw (← c.self.view_is, c.in-SetVersion.is) (e.stays.1.dom, (c.set_version.result, c.done-in-SetVersion.ensures, e.answers), e.stays)

pub returns-in-SetupTable-clause-asked : goal.returns-in-SetupTable-clause-asked
returns-in-SetupTable-clause-asked g c =
    let e = c.setup_table-has.ensures in
    rw (← c.self.view_is, c.in-SetupTable.is) (e.stays.1.dom, (c.setup_table-has.result, has _ _ c.map_or_else-in-SetupTable.ensures, e.answers), e.stays)

pub returns-in-QuerySize-clause-asked : goal.returns-in-QuerySize-clause-asked
returns-in-QuerySize-clause-asked g c =
    let e = c.query_size-size.ensures in
    rw (← c.self.view_is, c.in-QuerySize.is) (e.stays.1.dom, (c.query_size-size.result, sized _ _ c.map_or_else-in-QuerySize.ensures, e.answers), e.stays)

pub returns-in-GetVersion-clause-asked : goal.returns-in-GetVersion-clause-asked
returns-in-GetVersion-clause-asked g c =
    let e = c.get_version-version.ensures in
    rw (← c.self.view_is, c.in-GetVersion.is) (e.stays.1.dom, (c.get_version-version.result, versioned _ _ c.map_or_else-in-GetVersion.ensures, e.answers), e.stays)

pub returns-in-Load-clause-asked : goal.returns-in-Load-clause-asked
returns-in-Load-clause-asked g c =
    let e = c.load.ensures in
    rw (← c.self.view_is, c.in-Load.is) (e.stays.1.dom, (c.load.result, c.read.ensures, e.answers), e.stays)

pub returns-in-Store-clause-asked : goal.returns-in-Store-clause-asked
returns-in-Store-clause-asked g c =
    let e = c.store.ensures in
    rw (← c.self.view_is, c.in-Store.is) (e.stays.1.dom, (c.store.result, c.written.ensures, e.answers), e.stays)

pub returns-in-Peek-clause-asked : goal.returns-in-Peek-clause-asked
returns-in-Peek-clause-asked g c =
    let e = c.peek.ensures in
    rw (← c.self.view_is, c.in-Peek.is) (e.stays.1.dom, (c.peek.result, c.read-in-Peek.ensures, e.answers), e.stays)

pub returns-in-Poke-clause-asked : goal.returns-in-Poke-clause-asked
returns-in-Poke-clause-asked g c =
    let e = c.poke.ensures in
    rw (← c.self.view_is, c.in-Poke.is) (e.stays.1.dom, (c.poke.result, c.written-in-Poke.ensures, e.answers), e.stays)

pub returns-in-Copy-clause-asked : goal.returns-in-Copy-clause-asked
returns-in-Copy-clause-asked g c =
    let e = c.copy.ensures in
    rw (← c.self.view_is, c.in-Copy.is)
    (e.seat.dom, (c.copy.result, c.copied.ensures, e.answered, e.kept, e.recorded), (e.mine, e.seat))
