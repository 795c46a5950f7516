use Rattle.std.proofs.Common.{ap, ◌∙◌, ◌++◌, ℕ, List, length, replicate, drop}
use Rattle.std.proofs.lemmas.List.{drop-replicate}
use Rattle.gt_c.proofs.rules.padded.Goals as goal

pub returns : goal.returns
returns c =
    ap (λ (x : List ℕ). x ++ drop (length c.args.text.now) (replicate 240 0)) c.copy_from_slice.ensures.after
    ∙ ap (λ (y : List ℕ). c.args.text.now ++ y) (drop-replicate (length c.args.text.now) 240 0)
