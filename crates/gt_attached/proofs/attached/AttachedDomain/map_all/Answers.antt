use Rattle.std.proofs.Common.{◌∙◌, ℕ, arith, ap, subst, sym, suc, Err}
use Rattle.std.proofs.lemmas.List.{length-set}
use Rattle.gt_live.specs.declared.monitor.Monitor.{Monitor}
use Rattle.gt_attached.specs.Several.{HaveMappings, HaveOwnHandles, MakesMap, MapsFirst, ReleasesFirst, without_handle}
use Rattle.gt_attached.specs.declared.several.MapRequest.{MapRequest}
use Rattle.gt_attached.proofs.Searching.{stays-then}
use Rattle.gt_attached.proofs.Undoing.{apart, asked-still, kept, kept-same, mapped-more, unadded, undone}
use Rattle.gt_attached.proofs.attached.AttachedDomain.map_all.Goals as goal

pub release_first-requires-clause-kept : goal.release_first-requires-clause-kept
release_first-requires-clause-kept g c =
    let may = g.P.Allows.may in let inv = c.requests.invariant in let s = c.args.self.now in let t = c.requests.self in
    let u = c.map_one.new.self in let rs = c.requests.requests in
    subst (λ (n : ℕ). HaveMappings u.domain rs n) (sym inv.at)
    (kept-same t.domain u.domain rs inv.count (unadded may t.monitor t.domain u.domain c.request_at-request.result c.in-Err.denial c.in-Err.ensures.makes)
    (kept may s.monitor inv.count s.domain t.domain rs inv.maps))

pub release_first-requires-clause-apart : goal.release_first-requires-clause-apart
release_first-requires-clause-apart g c =
    let inv = c.requests.invariant in
    subst (λ (n : ℕ). HaveOwnHandles c.requests.requests n) (sym inv.at)
    (apart g.P.Allows.may c.args.self.now.monitor inv.count c.args.self.now.domain c.requests.self.domain c.requests.requests inv.maps)

pub returns-in-Err-clause-maps : goal.returns-in-Err-clause-maps
returns-in-Err-clause-maps g c =
    let may = g.P.Allows.may in let inv = c.requests.invariant in let s = c.args.self.now in let t = c.requests.self in
    let u = c.map_one.new.self in let v = c.release_first.new.self in let rs = c.requests.requests in let at = c.requests.at in
    let maps : MapsFirst may s.monitor s.domain rs at t.domain =
    subst (λ (n : ℕ). MapsFirst may s.monitor s.domain rs n t.domain) (sym inv.at) inv.maps in
    let gone : ReleasesFirst may s.monitor u.domain rs at v.domain =
    subst (λ (m : Monitor g.row.P.Denot). ReleasesFirst may m u.domain rs at v.domain) (c.in-Err.ensures.stays.0 ∙ inv.stays.0)
    c.release_first.ensures.released in
    record {
      full = t.domain;
      maps = maps;
      request = c.request_at-request.result;
      there = c.request_at-request.ensures;
      stopped = u.domain;
      refuses = subst (λ (m : Monitor g.row.P.Denot). MakesMap may m t.domain c.request_at-request.result (Err c.in-Err.denial) u.domain) inv.stays.0
          c.in-Err.ensures.makes;
      releases = gone;
      same = undone may s.monitor at s.domain t.domain u.domain v.domain rs maps
          (unadded may t.monitor t.domain u.domain c.request_at-request.result c.in-Err.denial c.in-Err.ensures.makes) gone;
    }

pub requests-preserved : goal.requests-preserved
requests-preserved g c =
    let may = g.P.Allows.may in let inv = c.requests.invariant in let s = c.args.self.now in let t = c.requests.self in
    let u = c.map_one.new.self in let rs = c.requests.requests in let at = c.requests.at in let r = c.with_handle.result in
    let here = inv.at in
    let there = c.request_at-request.ensures in
    record {
      stays = stays-then s t u inv.stays c.in-Ok.ensures.stays;
      count = suc inv.count;
      at = omega (arith, here);
      maps = mapped-more may s.monitor t.monitor s.domain t.domain u.domain rs inv.count at c.request_at-request.result r c.in-Ok.made inv.stays.0 inv.at there
          c.with_handle.ensures inv.maps c.in-Ok.ensures.makes;
      asked = asked-still rs at r c.request_at-request.result there (ap (λ (x : MapRequest). without_handle x) c.with_handle.ensures) ∙ inv.asked;
      len = length-set rs at r ∙ inv.len;
    }
