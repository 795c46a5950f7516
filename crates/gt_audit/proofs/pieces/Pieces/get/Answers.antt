use Rattle.std.proofs.Common.{◌≡◌, ◌+◌, ◌*◌, ◌/◌, ◌%◌, ◌∙◌, ℕ, arith, ap, List, slice_get, sym}
use Rattle.gt_audit.specs.declared.record.Record.{Record}
use Rattle.gt_audit.specs.Pieces.{Filling, joined}
use Rattle.gt_audit.proofs.Joining.{past-get, place-get}
use Rattle.gt_audit.proofs.pieces.Pieces.get.Goals as goal

pub returns-then-place-len : goal.returns-then-place-len
returns-then-place-len c =
    let ps : List (List Record) = c.self.inside.pieces.items in
    let k : ℕ = c.args.index / 256 in
    let i : ℕ = c.args.index % 256 in
    let d : List Record = c.index.result.now in
    let at : 256 * k + i ≡ c.args.index = omega arith in
    c.get.ensures ∙ ap (λ (p : List Record). slice_get p i) c.index.ensures
    ∙ sym (place-get c.self.inside.at ps k i d c.self.invariant (omega arith) (omega arith))
    ∙ ap (λ (n : ℕ). slice_get (joined ps) n) at
    ∙ ap (λ (f : Filling). slice_get f.records c.args.index) c.self.view_is

pub returns-else-place-len : goal.returns-else-place-len
returns-else-place-len c =
    let ps : List (List Record) = c.self.inside.pieces.items in
    let k : ℕ = c.args.index / 256 in
    let i : ℕ = c.args.index % 256 in
    let at : 256 * k + i ≡ c.args.index = omega arith in
    sym (past-get c.self.inside.at ps k i c.self.invariant (omega arith))
    ∙ ap (λ (n : ℕ). slice_get (joined ps) n) at
    ∙ ap (λ (f : Filling). slice_get f.records c.args.index) c.self.view_is
