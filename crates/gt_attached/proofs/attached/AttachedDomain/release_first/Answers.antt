use Rattle.std.proofs.Common.{◌≡◌, ◌-◌, arith, refl, subst, sym, suc}
use Rattle.std.specs.Prelude.{IsSome}
use Rattle.gt_handles.specs.Handles.{value_of}
use Rattle.gt_model.specs.declared.handle.Handle.{Handle}
use Rattle.gt_live.specs.declared.domain.Domain.{Domain}
use Rattle.gt_attached.specs.Several.{ReleasesFirst}
use Rattle.gt_attached.proofs.Searching.{seat-same, stays-then}
use Rattle.gt_attached.proofs.Undoing.{apart-then, kept-then, released-at, released-then}
use Rattle.gt_attached.proofs.attached.AttachedDomain.release_first.Goals as goal

pub made-init : goal.made-init
made-init g c =
    record {
      stays = (refl, c.requires.idle, seat-same c.args.self.now.domain.seat);
      left = c.args.count;
      gone = omega arith;
      kept = c.requires.kept;
      apart = c.requires.apart;
      then = λ e rest. rest;
    }

pub made-preserved : goal.made-preserved
made-preserved g c =
    let may = g.P.Allows.may in let inv = c.made.invariant in let s = c.args.self.now in let t = c.made.self in
    let u = c.release-is_there.new.self in let rs = c.args.requests.now in let k = c.args.count - 1 - c.made.gone in
    let gone = inv.gone in let more = c.made-test.true in
    let is : inv.left ≡ suc k = omega (arith, gone, more) in
    let there = c.request_at-request.ensures in
    let some = inv.kept k c.request_at-request.result (omega (arith, is)) there in
    let ok = c.release-is_there.ensures.there (subst (λ (h : Handle). IsSome (value_of t.domain.mappings h)) (sym c.handle.ensures) some) in
    let at = released-at may s.monitor t.monitor t.domain u.domain rs k c.request_at-request.result c.handle.result c.release-is_there.result inv.stays.0 there
    c.handle.ensures ok c.release-is_there.ensures.answered c.release-is_there.ensures.removed c.release-is_there.ensures.silent in
    record {
      stays = stays-then s t u inv.stays c.release-is_there.ensures.stays;
      left = k;
      gone = omega (arith, gone, more);
      kept = kept-then may s.monitor t.domain u.domain rs inv.left k is at inv.apart inv.kept;
      apart = apart-then rs inv.left k is inv.apart;
      then =
          released-then may s.monitor t.domain u.domain rs inv.left k
          (λ (e : Domain). ReleasesFirst may s.monitor s.domain rs c.args.count e) is at inv.then;
    }
