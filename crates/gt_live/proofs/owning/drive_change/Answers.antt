use Rattle.std.proofs.Common.{◌≡◌, refl, subst, sym}
use Rattle.gt_model.specs.Path.{path}
use Rattle.gt_calls.specs.Known.{knows}
use Rattle.gt_model.specs.declared.entry.Entry.{Entry}
use Rattle.gt_model.specs.declared.change.EntryChange.{EntryChange}
use Rattle.gt_model.specs.declared.change.EntryChange.TheVariants.{Publish, Revoke}
use Rattle.gt_live.specs.Domains.{verdict_of}
use Rattle.gt_live.specs.Driving.{Leaves}
use Rattle.gt_live.specs.Owning.{IsInTurns, asks_change, change_effect}
use Rattle.gt_live.specs.Walks.{Called}
use Rattle.gt_live.proofs.owning.drive_change.Goals as goal

in-turns : (change : EntryChange) → ((entry : Entry) → change ≡ Publish entry → ⊥) → (change ≡ Revoke → ⊥) → IsInTurns change
in-turns (Publish entry) p r = absurd (p entry refl)
in-turns Revoke p r = absurd (r refl)
in-turns change p r = tt

pub returns-in-Publish-clause-called : goal.returns-in-Publish-clause-called
returns-in-Publish-clause-called g c =
    subst (λ (x : EntryChange). Called c.args.words.now.layout
    (path (knows g.P.Allows.may c.args.known.now) c.args.caller (asks_change c.args.idle.gref x))
    (verdict_of c.drive_grant.result) c.args.seat.now.view c.drive_grant.new.seat.view) (sym c.in-Publish.is)
    c.drive_grant.ensures.called

pub returns-in-Publish-clause-leaves : goal.returns-in-Publish-clause-leaves
returns-in-Publish-clause-leaves g c =
    subst (λ (x : EntryChange). Leaves (knows g.P.Allows.may c.args.known.now) c.args.words.now.layout c.args.caller
    (asks_change c.args.idle.gref x) c.args.seat.now.view c.drive_grant.new.seat.view
    (change_effect c.args.idle.gref x c.drive_grant.result)) (sym c.in-Publish.is)
    c.drive_grant.ensures.leaves

pub returns-in-Revoke-clause-called : goal.returns-in-Revoke-clause-called
returns-in-Revoke-clause-called g c =
    subst (λ (x : EntryChange). Called c.args.words.now.layout
    (path (knows g.P.Allows.may c.args.known.now) c.args.caller (asks_change c.args.idle.gref x))
    (verdict_of c.drive_revoke.result) c.args.seat.now.view c.drive_revoke.new.seat.view) (sym c.in-Revoke.is)
    c.drive_revoke.ensures.called

pub returns-in-Revoke-clause-leaves : goal.returns-in-Revoke-clause-leaves
returns-in-Revoke-clause-leaves g c =
    subst (λ (x : EntryChange). Leaves (knows g.P.Allows.may c.args.known.now) c.args.words.now.layout c.args.caller
    (asks_change c.args.idle.gref x) c.args.seat.now.view c.drive_revoke.new.seat.view
    (change_effect c.args.idle.gref x c.drive_revoke.result)) (sym c.in-Revoke.is)
    c.drive_revoke.ensures.leaves

pub drive_turns-requires-clause-turns : goal.drive_turns-requires-clause-turns
drive_turns-requires-clause-turns g c = in-turns c.args.change c.in_default.not-Publish c.in_default.not-Revoke
