use Rattle.std.proofs.Common.{◌≡◌, ◌-◌, ◌∙◌, ℕ, Some, ap, arith, slice_get, sym}
use Rattle.std.proofs.lemmas.Option.{slice_get_read}
use Rattle.gt_frames.specs.declared.writ.Writ.{Writ}
use Rattle.gt_frames.proofs.writers.Writers.is_writ.Goals as goal

pub returns : goal.returns
returns c = λ is.
    let writs = c.args.self.now.writs.items in
    let number : c.from-number.result ≡ c.args.number = omega arith in
    let read : slice_get writs (c.from-number.result - 1) ≡ Some c.index.result.now =
    slice_get_read writs c.len.result (c.from-number.result - 1) c.index.result.now (omega arith) (omega arith) c.index.ensures in (
      omega arith,
      omega arith,
      ap (λ (n : ℕ). slice_get writs (n - 1)) (sym number) ∙ read ∙ ap (λ (w : Writ). Some w) (c.equals.ensures is),
    )
