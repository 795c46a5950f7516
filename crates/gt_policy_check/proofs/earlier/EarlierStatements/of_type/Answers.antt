use Rattle.std.proofs.Common.{◌<◌, ◌≤◌, ℕ, List, ◌∙◌, ap, sym, subst, get_or, length}
use Rattle.std.specs.Global.{Vec}
use Rattle.gt_policy_check.proofs.EarlierLemmas.{past_by, within_by}
use Rattle.gt_policy_check.proofs.KnownLemmas.{list_past, list_there}
use Rattle.gt_policy_check.proofs.earlier.EarlierStatements.of_type.Goals as goal

pub returns-in-Some : goal.returns-in-Some
returns-in-Some c =
    let e = c.in-Some.ensures.lookup in
    let below : c.args.source < length c.args.self.now.of_source.items = subst (λ (l : List (Vec ℕ)). c.args.source < length l) c.deref.ensures.value (within_by c.args.source _ e.0) in
    c.as_slice.ensures.value
    ∙ ap (λ (v : Vec ℕ). v.items) (e.1 ∙ ap (λ (l : List (Vec ℕ)). get_or l c.args.source c.in-Some.list.now) c.deref.ensures.value)
    ∙ sym (list_there c.args.self.now.of_source.items c.args.source c.in-Some.list.now below)

pub returns-in-None : goal.returns-in-None
returns-in-None c =
    sym (list_past c.args.self.now.of_source.items c.args.source
    (subst (λ (l : List (Vec ℕ)). length l ≤ c.args.source) c.deref.ensures.value (past_by c.args.source _ c.in-None.ensures.lookup.0)))
