use Rattle.std.proofs.Common.{◌≡◌, ◌<◌, ◌++◌, ◌∷◌, ◌∙◌, [], arith, ap, get_or, length, List, set, subst, sym}
use Rattle.gt_audit.specs.declared.record.Record.{Record}
use Rattle.gt_audit.specs.Pieces.{AreFilled, joined}
use Rattle.gt_audit.proofs.Joining.{filled-push, joined-push, same-read}
use Rattle.gt_audit.proofs.pieces.put.Goals as goal

pub returns-clause-filled : goal.returns-clause-filled
returns-clause-filled c =
    let ps : List (List Record) = c.args.pieces.now.items in
    let d : List Record = c.index_mut.result.now in
    let one : List Record = c.args.recorded ∷ [] in
    let put : c.push.new.self ≡ get_or ps c.args.at d ++ one =
    c.push.ensures ∙ ap (λ (p : List Record). p ++ one) c.index_mut.ensures.value in
    let room : length (get_or ps c.args.at d) < 256 =
    omega (arith, ap (λ (p : List Record). length p) (same-read ps c.args.at d [] c.requires.1), c.requires.2) in
    subst (λ (p : List Record). AreFilled c.args.at (set ps c.args.at p)) (sym put)
    (filled-push c.args.at ps d c.args.recorded c.requires.0 c.requires.1 room)

pub returns-clause-records : goal.returns-clause-records
returns-clause-records c =
    let ps : List (List Record) = c.args.pieces.now.items in
    let d : List Record = c.index_mut.result.now in
    let one : List Record = c.args.recorded ∷ [] in
    let put : c.push.new.self ≡ get_or ps c.args.at d ++ one =
    c.push.ensures ∙ ap (λ (p : List Record). p ++ one) c.index_mut.ensures.value in
    ap (λ (p : List Record). joined (set ps c.args.at p)) put
    ∙ joined-push c.args.at ps d c.args.recorded c.requires.0 c.requires.1
