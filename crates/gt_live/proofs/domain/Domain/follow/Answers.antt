use Rattle.std.proofs.Common.{◌<◌, ◌∙◌, ℕ, arith, inr, subst}
use Rattle.gt_model.specs.declared.entry.Entry.{Entry}
use Rattle.gt_model.specs.declared.header.Header.{Header}
use Rattle.gt_model.specs.Rules.{size_of}
use Rattle.gt_live.specs.Following.{IsDue, Means, own_entry_at}
use Rattle.gt_live.proofs.Following.{due-leaves}
use Rattle.gt_live.proofs.domain.Domain.follow.Goals as goal

pub returns-clause-follows : goal.returns-clause-follows
returns-clause-follows g c =
    let m = c.args.monitor.now in let d = c.args.self.now in let e = c.make_due.new.self in
    let gref = c.args.gref in let meaning = c.meaning_of.result in let due = c.due_for-due.result in
    let inside : gref.0 < c.entries.result = omega arith in
    let is_due : IsDue (own_entry_at d gref) meaning due =
    subst (λ (x : Entry). IsDue x meaning due) (c.entry-old.ensures ∙ c.own_entry.ensures.entry) c.due_for-due.ensures in
    inr (
      subst (λ (h : Header). gref.0 < size_of h) c.header-header.ensures.value
          (subst (λ (n : ℕ). gref.0 < n) c.entries.ensures inside),
      record {
        meaning = meaning;
        means = subst (λ (h : Header). Means h.version c.args.bytes.now meaning) c.header-header.ensures.value c.meaning_of.ensures;
        due = due;
        is_due = is_due;
        does = c.make_due.ensures.does;
        leaves = due-leaves g.P.Allows.may m d gref meaning due c.make_due.result e is_due c.make_due.ensures.does;
      },
    )
