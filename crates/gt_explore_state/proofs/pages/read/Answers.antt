use Rattle.std.proofs.Common.{◌≡◌, ◌∙◌, ◌+◌, ◌-◌, ◌++◌, ap, List, ℕ, take, drop, length, replicate, arith, rules}
use Rattle.std.specs.Prelude.{slice_range, min}
use Rattle.std.proofs.lemmas.Grind.{common_steps}
use Rattle.gt_explore_state.specs.Pages.{padded}
use Rattle.gt_explore_state.proofs.Padding.{read-is}
use Rattle.gt_explore_state.proofs.pages.read.Goals as goal

pub returns : goal.returns
returns c = λ fits.
    let start : c.min-start.result ≡ min c.args.off (length c.kept-held.result.now) = first_of (search rules, grind (arith, common_steps)) in
    let end : c.min-end.result ≡ min (c.args.off + c.args.len) (length c.kept-held.result.now) = first_of (search rules, grind (arith, common_steps)) in
    let whole : c.resize.new.self.items ≡ take c.args.len (slice_range c.kept-held.result.now c.min-start.result c.min-end.result) ++ replicate (c.args.len - length (slice_range c.kept-held.result.now c.min-start.result c.min-end.result)) 0 =
    first_of (search rules, grind (arith, common_steps)) in
    read-is c.kept-held.result.now c.resize.new.self.items c.args.off c.args.len c.min-start.result c.min-end.result fits start end whole
    ∙ ap (λ (l : List ℕ). take c.args.len (drop c.args.off (padded l))) c.kept-held.ensures
