use Rattle.std.proofs.Common.{arith, ◌≡◌, ◌∙◌, ◌≤◌, ◌+◌, ◌<◌, sym, ap, subst, refl, Some, None, inl, inr}
use Rattle.std.specs.Prelude.{Result, Ok, Err, OnOk, IsOk, ℕ, true, false, ◌^◌}
use Rattle.std.specs.Result.{is_err}
use Rattle.gt_handles.specs.Handles.{HandleMap, KeepsSpent}
use Rattle.gt_handles.specs.Listing.{IsInserted}
use Rattle.gt_model.specs.Asking.{begun_of}
use Rattle.gt_model.specs.Path.{map_leg, path}
use Rattle.gt_model.specs.Rules.{CallerKnowledge, map_begun}
use Rattle.gt_model.specs.declared.held.HeldPin.{HeldPin}
use Rattle.gt_model.specs.declared.request.OpenRequest.TheVariants as asks
use Rattle.gt_model.specs.declared.request.Request.TheVariants as requests
use Rattle.gt_live.specs.declared.domain.Domain.{Domain}
use Rattle.gt_live.specs.Domains.{knowledge}
use Rattle.gt_live.specs.Driving.{IsSame}
use Rattle.gt_live.specs.Maps.{pin_verdict}
use Rattle.gt_live.specs.Walks.{Called}
use Rattle.gt_live.proofs.Accessing.{none-left, refused-called, refuses}
use Rattle.gt_live.proofs.DomainKept.{looked, mapped}
use Rattle.gt_live.proofs.Knowing.{roomier-inserted}
use Rattle.gt_live.proofs.Making.{same-self, same_seat-self, still_seat}
use Rattle.gt_live.proofs.AnsweredAtOnce.{mapping-refused}
use Rattle.gt_live.proofs.domain.Domain.make_mapping.Goals as goal

on-ok : {A E : Type 0} (r : Result A E) (B : Type 0) → is_err r ≡ false → OnOk r B → B
on-ok (Ok a) B e b = b
on-ok (Err x) B e b = cc

no-room : {A E : Type 0} (r : Result A E) (n : ℕ) → is_err r ≡ true → (1 ≤ n → IsOk r) → n ≡ 0
no-room r n e some = grind arith

pub returns-in-Some : goal.returns-in-Some
returns-in-Some g c =
    let m = c.args.monitor.now in let d = c.args.self.now in let k = knowledge m.config (g.P.Allows.may m.rights) d in
    let request = requests.Map c.args.dom c.args.gref c.args.flags in let verdict = c.in-Some.verdict in
    let begun : begun_of k d.seat.dom request ≡ Some verdict =
    sym c.judge_map.ensures ∙ c.in-Some.is in
    record {
      mine = c.requires.mine;
      seat = same_seat-self d.seat;
      answered = (
        inl (refused-called m.words.layout k d.seat.dom request c.refusal_of.result d.seat.view
            (refuses k d.seat.dom request verdict c.refusal_of.result (mapping-refused k d.seat.dom request verdict tt tt begun) begun c.refusal_of.ensures)),
        (record { slots = refl; given = refl }, λ t q. refl),
      );
      silent = refl;
    }

pub returns-then-is_err-clause-mine : goal.returns-then-is_err-clause-mine
returns-then-is_err-clause-mine g c =
    let m = c.args.monitor.now in let d = c.args.self.now in let may = g.P.Allows.may m.rights in
    looked m.words m.config may d (record d { mappings = c.reserve.new.self }) c.requires.mine c.requires.mine.seat refl refl
    (ap (λ (z : HandleMap HeldPin). z.slots) c.reserve.ensures.kept) (same-self d.seat.view)

pub returns-then-is_err-clause-answered : goal.returns-then-is_err-clause-answered
returns-then-is_err-clause-answered g c =
    let m = c.args.monitor.now in let d = c.args.self.now in let k = knowledge m.config (g.P.Allows.may m.rights) d in
    let begun : begun_of k d.seat.dom (requests.Map c.args.dom c.args.gref c.args.flags) ≡ None =
    sym c.judge_map.ensures ∙ none-left c.judge_map.result c.in_default.not-Some in
    let kept = c.reserve.ensures.kept in
    (inr (c.new.ensures, begun, no-room c.reserve.result d.mappings.room (sym c.is_err.ensures.value ∙ c.if-is_err.true) c.reserve.ensures.succeeds, refl), (record { slots = ap (λ (z : HandleMap HeldPin). z.slots) kept; given = ap (λ (z : HandleMap HeldPin). z.given) kept }, λ t q. refl))

pub drive_map-requires-clause-mine : goal.drive_map-requires-clause-mine
drive_map-requires-clause-mine g c =
    let m = c.args.monitor.now in let d = c.args.self.now in let may = g.P.Allows.may m.rights in
    looked m.words m.config may d (record d { mappings = c.reserve.new.self }) c.requires.mine c.requires.mine.seat refl refl
    (ap (λ (z : HandleMap HeldPin). z.slots) c.reserve.ensures.kept) (same-self d.seat.view)

pub drive_map-requires-clause-unanswered : goal.drive_map-requires-clause-unanswered
drive_map-requires-clause-unanswered g c =
    let m = c.args.monitor.now in let d = c.args.self.now in let may = g.P.Allows.may m.rights in let k = knowledge m.config may d in
    let begun : map_begun k d.seat.dom c.args.dom c.args.flags ≡ None =
    sym c.judge_map.ensures ∙ none-left c.judge_map.result c.in_default.not-Some in
    subst (λ (z : HandleMap HeldPin). map_begun (knowledge m.config may (record d { mappings = z })) d.seat.dom c.args.dom c.args.flags ≡ None) (sym c.reserve.ensures.kept) begun

pub insert-handle-requires-clause-room : goal.insert-handle-requires-clause-room
insert-handle-requires-clause-room g c =
    subst (λ (z : HandleMap HeldPin). 1 ≤ z.room) (sym c.drive_map.ensures.kept.mappings)
    (on-ok c.reserve.result (1 ≤ c.reserve.new.self.room) (sym c.is_err.ensures.value ∙ c.if-is_err.false) c.reserve.ensures.room)

pub insert-handle-requires-clause-serial : goal.insert-handle-requires-clause-serial
insert-handle-requires-clause-serial g c =
    let left = c.in-Ok.ensures.leaves in
    subst (λ (z : HandleMap HeldPin). z.given + 1 < 2 ^ 64) (sym c.drive_map.ensures.kept.mappings) left.serial

pub returns-in-Err : goal.returns-in-Err
returns-in-Err g c =
    let m = c.args.monitor.now in let d = c.args.self.now in let may = g.P.Allows.may m.rights in let f = c.drive_map.new.self in
    let one = c.reserve.ensures.kept in let e = c.drive_map.ensures.kept in
    let same : IsSame d.seat.view f.seat.view = c.in-Err.ensures.leaves in
    let d' : Domain = record d { mappings = c.reserve.new.self } in
    let known : knowledge m.config may d' ≡ knowledge m.config may d = ap (λ (x : HandleMap HeldPin). knowledge m.config may (record d { mappings = x })) one in
    let request = asks.Map c.args.dom c.args.gref c.args.flags in
    let slots = ap (λ (z : HandleMap HeldPin). z.slots) (e.mappings ∙ one) in
    record {
      mine = looked m.words m.config may d f c.requires.mine (still_seat m.words d.seat f.seat c.requires.mine.seat e.seat) e.seat.dom (ap (λ v. v.items) e.own) slots same;
      seat = e.seat;
      answered = (
        inl (subst (λ (k : CallerKnowledge). Called m.words.layout (path k d.seat.dom request) (pin_verdict (Err c.in-Err.denial)) d.seat.view f.seat.view) known c.in-Err.ensures.called),
        (record { slots = slots; given = ap (λ (z : HandleMap HeldPin). z.given) (e.mappings ∙ one) }, same.pins),
      );
      silent = e.trail;
    }

pub returns-in-Ok : goal.returns-in-Ok
returns-in-Ok g c =
    let m = c.args.monitor.now in let d = c.args.self.now in let may = g.P.Allows.may m.rights in let f = c.drive_map.new.self in
    let one = c.reserve.ensures.kept in let e = c.drive_map.ensures.kept in let i = c.insert-handle.ensures in let h = c.insert-handle.result in
    let new = c.insert-handle.new.self in let p = c.in-Ok.held in
    let d' : Domain = record d { mappings = c.reserve.new.self } in
    let known : knowledge m.config may d' ≡ knowledge m.config may d = ap (λ (x : HandleMap HeldPin). knowledge m.config may (record d { mappings = x })) one in
    let request = asks.Map c.args.dom c.args.gref c.args.flags in
    let mine' = looked m.words m.config may d d' c.requires.mine c.requires.mine.seat refl refl (ap (λ (z : HandleMap HeldPin). z.slots) one) (same-self d.seat.view) in
    let inserted : IsInserted d'.mappings new h p =
    subst (λ (z : HandleMap HeldPin). IsInserted z new h p) e.mappings (record { fresh = i.fresh; updates = i.updates; count = i.count; given = i.given }) in
    record {
      mine = mapped m.words m.config may d' (record f { mappings = new }) h request p mine' e.seat (ap (λ v. v.items) e.own) c.in-Ok.ensures.leaves inserted;
      seat = e.seat;
      answered = (
        subst (λ (k : CallerKnowledge). Called m.words.layout (path k d.seat.dom request) (pin_verdict (Ok p)) d.seat.view f.seat.view) known c.in-Ok.ensures.called,
        record {
          serial = i.serial ∙ ap (λ (z : HandleMap HeldPin). z.given) (e.mappings ∙ one);
          inserted = roomier-inserted d'.mappings d.mappings new h p one inserted;
          spent = λ other was. subst (λ (z : HandleMap HeldPin). KeepsSpent z new) (e.mappings ∙ one) i.spent other (record { given = was.given; gone = was.gone });
        },
      );
      silent = e.trail;
    }

pub drive_map-requires-clause-leg : goal.drive_map-requires-clause-leg
drive_map-requires-clause-leg g c =
    let m = c.args.monitor.now in let d = c.args.self.now in let may = g.P.Allows.may m.rights in
    subst (λ (z : HandleMap HeldPin). c.map_leg-leg.result ≡ map_leg (knowledge m.config may (record d { mappings = z })) d.seat.dom c.args.dom c.args.gref c.args.flags)
    (sym c.reserve.ensures.kept) c.map_leg-leg.ensures
