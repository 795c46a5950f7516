use Rattle.std.proofs.Common.{◌∙◌, arith, ap, refl, suc, sym}
use mathlib.Core.Bool.{true≢false}
use Rattle.gt_live.specs.declared.monitor.Monitor.{Monitor}
use Rattle.gt_attached.specs.Renewing.{IsSameEntry}
use Rattle.gt_attached.proofs.Comparing.{alike-all, both-so, differs-here}
use Rattle.gt_attached.proofs.Searching.{seat-same, stays-then}
use Rattle.gt_attached.proofs.attached.AttachedDomain.first_difference.Goals as goal

pub entries-init : goal.entries-init
entries-init g c = record {
  stays = (refl, c.requires.idle, seat-same c.args.self.now.domain.seat);
  other_stays = (refl, c.requires.other_idle, seat-same c.args.other.now.domain.seat);
  count = 0;
  at = omega arith;
  passed = refl;
}

pub see-mine-requires : goal.see-mine-requires
see-mine-requires g c = record { idle = c.entries.invariant.stays.1 }

pub see-theirs-requires : goal.see-theirs-requires
see-theirs-requires g c = record { idle = c.entries.invariant.other_stays.1 }

pub entries-preserved : goal.entries-preserved
entries-preserved g c =
    let inv = c.entries.invariant in let s = c.args.self.now in let o = c.args.other.now in
    let t = c.entries.self in let p = c.entries.other in let u = c.see-mine.new.self in let v = c.see-theirs.new.self in
    let at = inv.at in
    record {
      stays = stays-then s t u inv.stays c.see-mine.ensures.stays;
      other_stays = stays-then o p v inv.other_stays c.see-theirs.ensures.stays;
      count = suc inv.count;
      at = omega (arith, at);
      passed = (
        record { one = t.domain; other = p.domain },
        inv.passed,
        both-so s.monitor.words.layout o.monitor.words.layout t.monitor.words.layout p.monitor.words.layout
            (record { one = t.domain; other = p.domain }) (record { one = u.domain; other = v.domain }) inv.count c.entries.at
            c.see-mine.result c.see-theirs.result IsSameEntry
            (ap (λ (m : Monitor g.row.P.Denot). m.words.layout) inv.stays.0)
            (ap (λ (m : Monitor g.row.P.Denot). m.words.layout) inv.other_stays.0) at
            c.see-mine.ensures.sees c.see-theirs.ensures.sees (c.is_same_entry.ensures.0 c.if-not-is_same_entry.false),
      );
    }

pub returns-then-not-is_same_entry-clause-stays : goal.returns-then-not-is_same_entry-clause-stays
returns-then-not-is_same_entry-clause-stays g c =
    stays-then c.args.self.now c.entries.self c.see-mine.new.self c.entries.invariant.stays c.see-mine.ensures.stays

pub returns-then-not-is_same_entry-clause-other_stays :
    goal.returns-then-not-is_same_entry-clause-other_stays
returns-then-not-is_same_entry-clause-other_stays g c =
    stays-then c.args.other.now c.entries.other c.see-theirs.new.self c.entries.invariant.other_stays c.see-theirs.ensures.stays

pub returns-then-not-is_same_entry-clause-finds : goal.returns-then-not-is_same_entry-clause-finds
returns-then-not-is_same_entry-clause-finds g c =
    let inv = c.entries.invariant in let s = c.args.self.now in let o = c.args.other.now in
    let t = c.entries.self in let p = c.entries.other in let u = c.see-mine.new.self in let v = c.see-theirs.new.self in
    differs-here s.monitor.words.layout o.monitor.words.layout (record { one = s.domain; other = o.domain })
    (record { one = t.domain; other = p.domain }) (record { one = u.domain; other = v.domain }) inv.count c.entries.at inv.at inv.passed
    (both-so s.monitor.words.layout o.monitor.words.layout t.monitor.words.layout p.monitor.words.layout
    (record { one = t.domain; other = p.domain }) (record { one = u.domain; other = v.domain }) c.entries.at c.entries.at
    c.see-mine.result c.see-theirs.result (λ mine theirs. ¬ IsSameEntry mine theirs)
    (ap (λ (m : Monitor g.row.P.Denot). m.words.layout) inv.stays.0)
    (ap (λ (m : Monitor g.row.P.Denot). m.words.layout) inv.other_stays.0) refl
    c.see-mine.ensures.sees c.see-theirs.ensures.sees
    (λ alike. true≢false (sym (c.is_same_entry.ensures.1 alike) ∙ c.if-not-is_same_entry.true)))

pub returns-clause-finds : goal.returns-clause-finds
returns-clause-finds g c =
    let inv = c.entries.invariant in let s = c.args.self.now in let o = c.args.other.now in
    let most = c.entries.auto.at-end in let least = c.entries-test.false in let at = inv.at in
    alike-all s.monitor.words.layout o.monitor.words.layout (record { one = s.domain; other = o.domain })
    (record { one = c.entries.self.domain; other = c.entries.other.domain }) inv.count (omega (arith, most, least, at)) inv.passed

pub returns-clause-stays : goal.returns-clause-stays
returns-clause-stays g c = c.entries.invariant.stays

pub returns-clause-other_stays : goal.returns-clause-other_stays
returns-clause-other_stays g c = c.entries.invariant.other_stays
