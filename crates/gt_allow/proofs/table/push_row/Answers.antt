use Rattle.std.proofs.Common.{◌≡◌, ℕ, [], ◌∷◌, ◌++◌, List, refl, sym, ap, subst, ◌∙◌, arith, append_assoc}
use Rattle.std.proofs.lemmas.List.{append-nil}
use Rattle.gt_types.specs.declared.perms.Perms.{Perms}
use Rattle.gt_allow.specs.Looking.{IsRow}
use Rattle.gt_allow.proofs.TableLemmas.{row_more}
use Rattle.gt_allow.proofs.table.push_row.Goals as goal

pub targets-init : goal.targets-init
targets-init c = ([], sym (append-nil _), (refl, λ t perm low. absurd (omega arith)))

pub targets-preserved : goal.targets-preserved
targets-preserved c =
    let so_far = c.targets.invariant in
    (so_far.0 ++ c.on.result ∷ [], c.in_ok-push.ensures.items ∙ ap (λ (xs : List Perms). xs ++ c.on.result ∷ []) so_far.1 ∙ append_assoc c.args.sets.now.items so_far.0 (c.on.result ∷ []), row_more c.args.row.now c.targets.target so_far.0 c.on.result so_far.2 c.on.ensures)

pub returns : goal.returns
returns c =
    let all : c.targets.target ≡ c.args.count = omega arith in
    subst (λ (n : ℕ). (added : List Perms) × (c.targets.sets.items ≡ c.args.sets.now.items ++ added) × IsRow c.args.row.now n added) all c.targets.invariant
