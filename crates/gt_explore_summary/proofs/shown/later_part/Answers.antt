use Rattle.std.proofs.Common.{◌==◌, ◌∙◌, ◌≡◌, ◌+◌, ◌-◌, ℕ, arith, drop, length, length-drop, Option, Some, None, ap, sym, rules, tests}
use Rattle.std.proofs.lemmas.Iterator.{YieldsList-from_slice}
use Rattle.std.proofs.lemmas.Iterator.Search.{position_from_yields_List}
use Rattle.std.proofs.lemmas.List.{take_all}
use Rattle.std.specs.List.{position}
use Rattle.gt_explore_summary.specs.Shown.{bytes_after}
use Rattle.gt_explore_summary.proofs.shown.later_part.Goals as goal

pub returns-in-Some : goal.returns-in-Some
returns-in-Some c =
    let found : c.position.result ≡ position (λ b. b == 32) c.args.line.now =
    position_from_yields_List (λ b. b == 32) _ _ _ c.position.ensures.ran (YieldsList-from_slice c.args.line.now (cc)) (λ x b q k. search (rules, tests)) in
    let at : Some c.in-Some.at ≡ position (λ b. b == 32) c.args.line.now = sym c.in-Some.is ∙ found in
    take_all (length c.args.line.now - (c.in-Some.at + 1)) (drop (c.in-Some.at + 1) c.args.line.now)
    (let has = length-drop (c.in-Some.at + 1) c.args.line.now in omega (arith, has))
    ∙ ap (λ (o : Option ℕ). bytes_after o c.args.line.now) at

pub returns-in-None : goal.returns-in-None
returns-in-None c =
    let found : c.position.result ≡ position (λ b. b == 32) c.args.line.now =
    position_from_yields_List (λ b. b == 32) _ _ _ c.position.ensures.ran (YieldsList-from_slice c.args.line.now (cc)) (λ x b q k. search (rules, tests)) in
    let none : None ≡ position (λ b. b == 32) c.args.line.now = sym c.in-None.is ∙ found in
    ap (λ (o : Option ℕ). bytes_after o c.args.line.now) none
