use Rattle.std.proofs.Common.{◌∙◌, ◌++◌, [], ◌∷◌, ap, sym, append-nil, append_assoc, replicate, List}
use Rattle.gt_audit.specs.declared.record.Record.{Record}
use Rattle.gt_audit.proofs.Joining.{replicate-more}
use Rattle.gt_audit.proofs.pieces.add_pieces.Goals as goal

pub added-init : goal.added-init
added-init c = sym (append-nil c.args.pieces.now.items)

pub added-preserved : goal.added-preserved
added-preserved c =
    let ps = c.args.pieces.now.items in
    c.in-Ok.ensures.added ∙ ap (λ (qs : List (List Record)). qs ++ [] ∷ []) c.added.invariant
    ∙ append_assoc ps (replicate c.added.counter []) ([] ∷ [])
    ∙ ap (λ (qs : List (List Record)). ps ++ qs) (replicate-more c.added.counter [])
