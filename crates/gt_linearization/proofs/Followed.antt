-- A domain whose entry follows the bytes of its guest makes calls that change the entry.
use Rattle.std.proofs.Common.{◌≡◌, suc, ◌+◌, List, [], ◌∷◌, length, Result, sym, refl, ◌∙◌, subst, arith}
use Rattle.std.specs.Prelude.{All}
use Rattle.std.proofs.lemmas.List.Elements.{All-head, All-tail}
use Rattle.gt_types.specs.declared.GrantRef.{GrantRef}
use Rattle.gt_types.specs.declared.denial.Denial.{Denial}
use Rattle.gt_model.specs.declared.change.EntryChange.{EntryChange}
use Rattle.gt_model.specs.declared.change.EntryChange.TheVariants.{Publish, Revoke, Withdraw, Demote, Promote}
use Rattle.gt_model.specs.Asking.{asked}
use Rattle.gt_live.proofs.Following.{by-calls}
use Rattle.gt_live.specs.Domains.{AllowRelation, BelongsTo, StaysIn, verdict_of}
use Rattle.gt_live.specs.Ending.{IsOfMapping}
use Rattle.gt_live.specs.Following.{Calls, FitsChange, MakesCalls, request_of_change}
use Rattle.gt_live.specs.declared.domain.Domain.{Domain}
use Rattle.gt_live.specs.declared.monitor.Monitor.{Monitor}
use Rattle.gt_linearization.proofs.Called.{no-pin, plain-made}
use Rattle.gt_linearization.proofs.RunActions.{at-rest}
use Rattle.gt_linearization.specs.Following.{AreChanges, FollowingIsCalling}
use Rattle.gt_linearization.specs.Runs.{AreDeeds, CallMade, DomainAct, FitsTypes, domain_after}
use Rattle.gt_linearization.specs.Runs.DomainAct.{Call}
use Rattle.gt_linearization.specs.Runs.CallOutcome.{Judged}

no-mapping : (gref : GrantRef) (change : EntryChange) → IsOfMapping (asked (request_of_change gref change)) → ⊥
no-mapping gref (Publish entry) is = is
no-mapping gref Revoke is = is
no-mapping gref Withdraw is = is
no-mapping gref Demote is = is
no-mapping gref Promote is = is

fits-types : (gref : GrantRef) (change : EntryChange) → FitsChange change → FitsTypes (request_of_change gref change)
fits-types gref (Publish entry) fits = (fits, tt)
fits-types gref Revoke fits = (tt, tt)
fits-types gref Withdraw fits = (tt, tt)
fits-types gref Demote fits = (tt, tt)
fits-types gref Promote fits = (tt, tt)

module _ {P : Type 0} (may : P → AllowRelation) (m : Monitor P) (start : Domain) (gref : GrantRef) where
  -- the calls so far, and the domain after them
  record Came (e : Domain) : Type 0 where
    run_actions : List DomainAct
    made : AreDeeds m.words m.config (may m.rights) start run_actions
    changes : AreChanges gref run_actions
    now : domain_after start run_actions ≡ e
    mine : BelongsTo may m e

  one-call : (d e : Domain) (change : EntryChange) (done : Result (Unit {0}) Denial) → FitsChange change → (was : Came d) → Calls may m d gref change done e → StaysIn may m d e
      → (x : Came e) × (length x.run_actions ≡ suc (length was.run_actions))
  one-call d e change done fits was called stays =
      let request = request_of_change gref change in
      let one = plain-made may m d e request (verdict_of done) (record { before = was.mine; afterwards = stays.0; seat = stays.1 }) (no-mapping gref change) (fits-types gref change fits) (no-pin done) called.answers.0 called.answers.1 in
      let call : CallMade = record { request = request; outcome = Judged (verdict_of done); steps = one.0; old = d; new = e } in (
        record {
          run_actions = Call call ∷ was.run_actions;
          made = (one.1, at-rest d (domain_after start was.run_actions) was.now, was.made);
          changes = ((change, refl), was.changes);
          now = refl;
          mine = stays.0;
        },
        refl,
      )

  each : (changes : List EntryChange) (d e : Domain) → All FitsChange changes → (was : Came d) → MakesCalls may m d gref changes e
      → (x : Came e) × (length x.run_actions ≡ length changes + length was.run_actions)
  each [] d e fit was same =
      let came : Came e = record {
        run_actions = was.run_actions;
        made = was.made;
        changes = was.changes;
        now = was.now ∙ sym same;
        mine = subst (BelongsTo may m) (sym same) was.mine;
      } in (came, omega arith)
  each (change ∷ changes) d e fit was (mid, done, made, stays, then) =
      let one = one-call d mid change done (All-head FitsChange change changes fit) was made stays in
      let rest = each changes mid e (All-tail FitsChange change changes fit) one.0 then in
      let count = rest.1 in let before = one.1 in
      (rest.0, omega (arith, count, before))

module _ {P : Type 0} (may : P → AllowRelation) (m : Monitor P) where
  pub following-made : FollowingIsCalling may m
  following-made d e gref bytes result mine stays follows =
      let x = by-calls may m d e gref bytes result stays follows in
      let y = each may m d gref x.0 d e x.2 (record { run_actions = []; made = tt; changes = tt; now = refl; mine = mine }) x.3 in
      let few = x.1 in let count = y.1 in
      (y.0.run_actions, omega (arith, few, count), record { made = y.0.made; now = at-rest e (domain_after d y.0.run_actions) y.0.now }, y.0.changes)
