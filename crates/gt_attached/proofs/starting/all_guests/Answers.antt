use Rattle.std.proofs.Common.{◌≡◌, ◌∙◌, subst, sym, ap, arith, All, List, [], ◌∷◌, ◌++◌, map, append_assoc}
use Rattle.std.proofs.lemmas.List.Elements.{All-head, All-tail}
use Rattle.std.specs.Arc.{arc_value}
use Rattle.std.specs.Vec.Iter.{into_iter_items}
use Rattle.gt_live.specs.Domains.{BelongsTo}
use Rattle.gt_live.specs.declared.domain.Domain.{Domain}
use Rattle.gt_live.specs.declared.monitor.Monitor.{Monitor}
use Rattle.gt_attached.specs.Seated.{Seated}
use Rattle.gt_attached.specs.Starting.{attached_to}
use Rattle.gt_attached.proofs.starting.all_guests.Goals as goal

-- one more guest at the end, and one domain fewer to come
moved-over : {S : Type 0} (f : Domain → S) (all new : List S) (d : Domain) (rest old : List Domain) → new ≡ all ++ f d ∷ []
    → old ≡ d ∷ rest → new ++ map f rest ≡ all ++ map f old
moved-over f all new d rest old pushed is =
    ap (λ xs. xs ++ map f rest) pushed ∙ append_assoc all (f d ∷ []) (map f rest) ∙ ap (λ (ds : List Domain). all ++ map f ds) (sym is)

pub new-requires : goal.new-requires
new-requires g c =
    let Mine : Domain → Type 0 = λ d. BelongsTo g.P.Allows.may (arc_value c.args.monitor.now) d in
    let all = subst (λ (ds : List Domain). All Mine ds) c.in-Some.ensures.items c.rest.invariant.mine in
    subst (λ (m : Monitor g.row.P.Denot). BelongsTo g.P.Allows.may m c.in-Some.domain) (sym c.in-Ok-try_clone.ensures)
    (All-head Mine c.in-Some.domain (into_iter_items c.next.new.self) all)

pub finish-requires : goal.finish-requires
finish-requires g c =
    let Mine : Domain → Type 0 = λ d. BelongsTo g.P.Allows.may (arc_value c.args.monitor.now) d in
    let all = subst (λ (ds : List Domain). All Mine ds) c.in-Some.ensures.items c.rest.invariant.mine in
    record {
      mine = subst (λ (m : Monitor g.row.P.Denot). BelongsTo g.P.Allows.may m c.in-Some.domain) (sym c.deref-in-Err.ensures)
          (All-head Mine c.in-Some.domain (into_iter_items c.next.new.self) all);
    }

pub rest-preserved-in-Ok-try_clone : goal.rest-preserved-in-Ok-try_clone
rest-preserved-in-Ok-try_clone g c =
    let m = arc_value c.args.monitor.now in
    let Mine : Domain → Type 0 = λ d. BelongsTo g.P.Allows.may m d in
    let inv = c.rest.invariant in
    let all = subst (λ (ds : List Domain). All Mine ds) c.in-Some.ensures.items inv.mine in
    let room = inv.room in let few = inv.few in
    record {
      mine = All-tail Mine c.in-Some.domain (into_iter_items c.next.new.self) all;
      room = omega (arith, room, c.in-Some.ensures.len, c.push_reserved.ensures.len, c.push_reserved.ensures.capacity);
      few = omega (arith, few, c.in-Some.ensures.len, c.push_reserved.ensures.len);
      made = λ full.
          moved-over (attached_to m) c.rest.all.items c.push_reserved.new.self.items c.in-Some.domain (into_iter_items c.next.new.self)
          (into_iter_items c.rest.rest)
          (c.push_reserved.ensures.items
          ∙ ap (λ (s : Seated g.row.P.Denot). c.rest.all.items ++ s ∷ [])
          (c.new.ensures ∙ ap (λ (n : Monitor g.row.P.Denot). attached_to n c.in-Some.domain) c.in-Ok-try_clone.ensures))
          c.in-Some.ensures.items
          ∙ inv.made (omega (arith, full, c.in-Some.ensures.len, c.push_reserved.ensures.len));
    }

pub rest-preserved : goal.rest-preserved
rest-preserved g c =
    let Mine : Domain → Type 0 = λ d. BelongsTo g.P.Allows.may (arc_value c.args.monitor.now) d in
    let inv = c.rest.invariant in
    let all = subst (λ (ds : List Domain). All Mine ds) c.in-Some.ensures.items inv.mine in
    let room = inv.room in let few = inv.few in
    record {
      mine = All-tail Mine c.in-Some.domain (into_iter_items c.next.new.self) all;
      room = omega (arith, room, c.in-Some.ensures.len);
      few = omega (arith, few, c.in-Some.ensures.len);
      made = λ full. absurd (omega (arith, full, few, c.in-Some.ensures.len));
    }

pub push_reserved-requires : goal.push_reserved-requires
push_reserved-requires g c = let room = c.rest.invariant.room in omega (arith, room, c.in-Some.ensures.len)
