use Rattle.std.proofs.Common.{inl, refl, subst, sym}
use Rattle.std.specs.Prelude.{Result, Err, Ok}
use Rattle.gt_model.specs.declared.change.EntryChange.TheVariants.{Withdraw}
use Rattle.gt_types.specs.declared.denial.Denial.{Denial}
use Rattle.gt_live.specs.Following.{Calls, Does, RefusesField}
use Rattle.gt_live.specs.declared.domain.following.Due.{Due}
use Rattle.gt_live.specs.declared.domain.following.Followed.{Followed}
use Rattle.gt_live.proofs.Following.{made-done}
use Rattle.gt_live.proofs.domain.Domain.make_due.Goals as goal

pub returns-in-Ok-clause-does : goal.returns-in-Ok-clause-does
returns-in-Ok-clause-does g c =
    let may = g.P.Allows.may in let m = c.args.monitor.now in let d = c.args.self.now in let gref = c.args.gref in
    let mid = c.make_change-in-Replace.new.self in let f = c.in-Ok.field-0 in let then = c.make_change-in-Ok in
    let calls : Calls may m d gref Withdraw (Ok tt) mid =
    made-done may m d gref Withdraw (Ok f) mid f refl c.in-Ok.ensures.makes in
    subst (λ (x : Due). Does may m d gref x then.result then.new.self) (sym c.in-Replace.is)
    (inl (mid, calls, c.in-Ok.ensures.stays, then.ensures.makes))

pub returns-in-Ok-make_change-clause-does : goal.returns-in-Ok-make_change-clause-does
returns-in-Ok-make_change-clause-does g c =
    let may = g.P.Allows.may in let m = c.args.monitor.now in let d = c.args.self.now in let gref = c.args.gref in
    let mid = c.make_change-in-Close.new.self in let f = c.in-Ok-make_change.field-0 in
    let calls : Calls may m d gref Withdraw (Ok tt) mid =
    made-done may m d gref Withdraw (Ok f) mid f refl c.in-Ok-make_change.ensures.makes in
    let answer : Result Followed Denial = Err c.no_entry.result in
    let refused : RefusesField c.in-Close.field mid answer mid = (cc (c.no_entry.ensures), refl) in
    subst (λ (x : Due). Does may m d gref x answer mid) (sym c.in-Close.is)
    (inl (mid, calls, c.in-Ok-make_change.ensures.stays, refused))
