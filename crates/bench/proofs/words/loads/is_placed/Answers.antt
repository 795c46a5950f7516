use Rattle.std.proofs.Common.{◌≡◌, ◌<◌, ◌∙◌, ℕ, List, length, sym, subst, Option, Some, None, true}
use Rattle.std.specs.Prelude.{◌==◌, is_some, position, unwrap_or}
use Rattle.std.proofs.lemmas.List.Quantifiers.{position-Some}
use Rattle.gt_types.specs.declared.DomId.{DomId}
use Rattle.gt_word_history.specs.Rule.{position_in}
use Rattle.bench.proofs.words.loads.is_placed.Goals as goal

placed : (ids : List DomId) (dom : DomId) (r : Option ℕ) → r ≡ position (λ x. x.0 == dom.0) ids → is_some r ≡ true → position_in ids dom < length ids
placed ids dom None e is = cc
placed ids dom (Some at) e is =
    subst (λ (o : Option ℕ). unwrap_or o (length ids) < length ids) e (position-Some (λ (x : DomId). x.0 == dom.0) ids at (record { 0 = 0 }) (sym e)).0

pub returns : goal.returns
returns c = λ is. placed c.args.positions.now c.args.dom c.position.result c.position.ensures (sym c.is_some.ensures ∙ is)
