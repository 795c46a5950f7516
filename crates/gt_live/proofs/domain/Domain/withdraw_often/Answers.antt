use Rattle.std.proofs.Common.{◌≡◌, ◌∙◌, ℕ, ap, arith, inl, inr, refl, subst, List}
use Rattle.std.specs.Prelude.{slice_get}
use Rattle.gt_model.specs.declared.change.EntryChange.TheVariants.{Withdraw}
use Rattle.gt_calls.specs.declared.known.OwnerEntry.{OwnerEntry}
use Rattle.gt_live.specs.Closing.{AreRefused}
use Rattle.gt_live.proofs.Closing.{one-more-refused, quiet-self, quiet-then}
use Rattle.gt_live.proofs.RowsKept.{row-other}
use Rattle.gt_live.proofs.domain.Domain.withdraw_often.Goals as goal

pub asked-init : goal.asked-init
asked-init g c = record { mine = c.requires.mine; quiet = quiet-self c.args.self.now; same = refl; refused = refl }

pub asked-preserved : goal.asked-preserved
asked-preserved g c =
    let inv = c.asked.invariant in let d = c.args.self.now in let e = c.asked.self in let f = c.withdraw_row.new.self in
    let w = c.withdraw_row.ensures in
    record {
      mine = w.mine;
      quiet = quiet-then d e f inv.quiet w.quiet;
      same = c.in-Err.ensures.same ∙ inv.same;
      refused = one-more-refused g.P.Allows.may c.args.monitor.now d e f c.args.gref c.asked.counter _ inv.refused
          c.in-Err.ensures.asked;
    }

pub returns-in-Ok : goal.returns-in-Ok
returns-in-Ok g c =
    let inv = c.asked.invariant in let d = c.args.self.now in let e = c.asked.self in let f = c.withdraw_row.new.self in
    let w = c.withdraw_row.ensures in let r = c.args.gref.0 in
    record {
      mine = w.mine;
      quiet = quiet-then d e f inv.quiet w.quiet;
      shut = inr (inl (record {
        refusals = c.asked.counter;
        few = omega (arith, c.asked-test.true);
        before = e;
        refused = inv.refused;
        granted = c.in-Ok.ensures.asked;
      }));
      others = λ q ne. ap (λ (os : List OwnerEntry). slice_get os q) c.in-Ok.ensures.gone ∙ row-other e.own.items r q Withdraw ne
          ∙ ap (λ (os : List OwnerEntry). slice_get os q) inv.same;
    }

pub returns : goal.returns
returns g c =
    let inv = c.asked.invariant in let d = c.args.self.now in let e = c.asked.self in
    let most = c.asked.auto.counter-end in let least = c.asked-test.false in
    let end : c.asked.counter ≡ 16 = omega (arith, most, least) in
    record {
      mine = inv.mine;
      quiet = inv.quiet;
      shut = inr (inr (subst (λ (n : ℕ). AreRefused g.P.Allows.may c.args.monitor.now d c.args.gref n e) end inv.refused));
      others = λ q ne. ap (λ (os : List OwnerEntry). slice_get os q) inv.same;
    }
