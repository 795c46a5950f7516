-- From the rules that were asked for to what went out.
use Rattle.std.proofs.Common.{◌≡◌, ◌==◌, ◌∙◌, ℕ, false, List, [], ◌∷◌, Option, length, map, sym, subst, ap}
use Rattle.gt_file_commands.specs.Prelude.{AppendsBeginning, Appends, Outcome, Unknown, Yes}
use Rattle.gt_file_commands.specs.Rules.{PrintsRules, RuleRow, asked_among, asked_rows, every_row, rules_text}
use Rattle.gt_file_commands.specs.declared.rules.TheConstants.{RULES}

-- a list that has a length is not empty
some : {X : Type 0} (view : X → RuleRow) (items : List X) (n : ℕ) → length items ≡ n → (n == 0) ≡ false → map view items ≡ [] → ⊥
some view [] n is isnt none = let full : (0 == 0) ≡ false = subst (λ (k : ℕ). (k == 0) ≡ false) (sym is) isnt in absurd (cc full)
some view (x ∷ xs) n is isnt none = absurd (cc none)

module _ {X : Type 0} (view : X → RuleRow) (width : Option ℕ) (name : Option (List ℕ)) (items here : List X) (n : ℕ) (text shown : List ℕ) (old new : Option (List ℕ))
    (asked : map view items ≡ asked_among name (map (λ row. (row.0, row.1.now, row.2.now)) RULES)) (same : here ≡ items)
    (made : text ≡ rules_text width (map view here)) (shows : shown ≡ text) where
  found : map view items ≡ asked_rows name
  unfolding every_row
  found = asked

  whole : shown ≡ rules_text width (asked_rows name)
  whole = shows ∙ made ∙ ap (λ (l : List X). rules_text width (map view l)) same ∙ ap (rules_text width) found

  -- the lines went out
  pub printed : length here ≡ n → (n == 0) ≡ false → Appends old new shown → PrintsRules width name old new Yes
  printed long full went = (
    λ none. some view items n (ap length (sym same) ∙ long) full (found ∙ none),
    subst (λ (l : List ℕ). Appends old new l) whole went,
  )

  -- or a prefix of them
  pub cut : (outcome : Outcome) → outcome ≡ Unknown → AppendsBeginning old new shown → PrintsRules width name old new outcome
  cut outcome is went = subst (λ (o : Outcome). PrintsRules width name old new o) (sym is) (subst (λ (l : List ℕ). AppendsBeginning old new l) whole went)
