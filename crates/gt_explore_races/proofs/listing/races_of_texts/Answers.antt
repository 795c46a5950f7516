use Rattle.std.proofs.Common.{◌≡◌, ◌+◌, ◌∙◌, List, arith, length, subst, sym, take}
use Rattle.std.proofs.lemmas.Bool.{eqb-true}
use Rattle.std.specs.Prelude.{vec_len}
use Rattle.gt_script.specs.RunContents.{run_contents}
use Rattle.gt_explore_races.specs.Listing.{HasRacesOfTexts}
use Rattle.gt_explore_races.specs.Races.{EachRaces}
use Rattle.gt_explore_races.specs.declared.racing.Race.{Race}
use Rattle.gt_explore_races.proofs.Saying.{each-more, nil-of, said-all, said-empty, said-race}
use Rattle.gt_explore_races.proofs.listing.races_of_texts.Goals as goal

pub found-preserved-then-is_empty : goal.found-preserved-then-is_empty
found-preserved-then-is_empty c =
    let o = c.order-item.result in
    let none : vec_len o.text ≡ 0 = eqb-true (vec_len o.text) 0 (sym c.is_empty.ensures ∙ c.if-is_empty.true) in
    let empty : length o.text.items ≡ 0 = omega (arith, none, o.text.ok.0) in
    (c.found.invariant.0, said-empty c.args.found.now c.found.order-index o c.found.races.items c.found-test.true c.order-item.is c.found.invariant.1 (nil-of o.text.items empty))

pub found-preserved : goal.found-preserved
found-preserved c =
    let d = run_contents c.args.script.now in let o = c.order-item.result in let race = c.in_ok-race_of_text.field-0 in let says = c.in_ok-race_of_text.ensures in
    subst (λ (l : List Race). EachRaces d l × HasRacesOfTexts (take (c.found.order-index + 1) c.args.found.now) l) (sym c.in_ok-push.ensures.items)
    (each-more d c.found.races.items race o c.found.invariant.0 says, said-race d c.args.found.now c.found.order-index o c.found.races.items race c.found-test.true c.order-item.is c.found.invariant.1 says)

pub returns-clause-said : goal.returns-clause-said
returns-clause-said c = said-all c.args.found.now c.found.order-index c.found.races.items (omega (arith, c.found-test.false)) c.found.invariant.1
