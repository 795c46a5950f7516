-- The position of a domain in the configuration is that of its words.
use Rattle.std.proofs.Common.{◌≡◌, ◌∙◌, ℕ, Bool, List, [], ◌∷◌, length, map, Option, Some, None, cond, ltb, refl, sym, ap}
use Rattle.std.proofs.Common.{subst, arith}
use Rattle.std.proofs.lemmas.List.{length-map}
use Rattle.std.specs.Prelude.{◌==◌, position, unwrap_or}
use Rattle.std.specs.List.{position_or_len}
use Rattle.std.specs.Option.{IsSome}
use Rattle.gt_types.specs.declared.DomId.{DomId}
use Rattle.gt_types.specs.declared.config.Config.{Config}
use Rattle.gt_types.specs.declared.config.DomainConfig.{DomainConfig}
use Rattle.gt_word_history.specs.Rule.{Layout, layout_of, position_in}
use Rattle.gt_words.specs.Conditions.{HasDomain}

abbrev is_number : ℕ → DomId → Bool
is_number d x = x.0 == d

abbrev pub has_number : ℕ → DomainConfig → Bool
has_number d x = x.id.0 == d

abbrev numbers : List DomainConfig → List DomId
numbers xs = map (λ (x : DomainConfig). x.id) xs

same-place : (xs : List DomainConfig) (d : ℕ) → position_or_len (is_number d) (numbers xs) ≡ position_or_len (has_number d) xs
same-place [] d = refl
same-place (x ∷ xs) d = grind (arith, same-place xs d)

-- the position of a number is that of the domain with it
by-number : (xs : List DomainConfig) (d : ℕ) → position (is_number d) (numbers xs) ≡ position (has_number d) xs
by-number xs d =
    ap (λ (n : ℕ). cond (ltb n (length (numbers xs))) (Some n) None) (same-place xs d)
    ∙ ap (λ (m : ℕ). cond (ltb (position_or_len (has_number d) xs) m) (Some (position_or_len (has_number d) xs)) None) (length-map xs (λ (x : DomainConfig). x.id))

-- a domain that the configuration has
pub found-there : (k : Layout) (c : Config) (dom : DomId) (at : ℕ) → k ≡ layout_of c
    → position (has_number dom.0) c.domains.items ≡ Some at → at ≡ position_in k.ids dom
found-there k c dom at run found =
    let ids = numbers c.domains.items in
    let here : position_in ids dom ≡ at = ap (λ (o : Option ℕ). unwrap_or o (length ids)) (by-number c.domains.items dom.0 ∙ found) in
    subst (λ (l : Layout). at ≡ position_in l.ids dom) (sym run) (sym here)

-- a domain that it does not have
pub found-nowhere : (k : Layout) (c : Config) (dom : DomId) → k ≡ layout_of c
    → position (has_number dom.0) c.domains.items ≡ None → length c.domains.items ≡ position_in k.ids dom
found-nowhere k c dom run none =
    let ids = numbers c.domains.items in
    let here : position_in ids dom ≡ length ids = ap (λ (o : Option ℕ). unwrap_or o (length ids)) (by-number c.domains.items dom.0 ∙ none) in
    subst (λ (l : Layout). length c.domains.items ≡ position_in l.ids dom) (sym run)
    (sym (length-map c.domains.items (λ (x : DomainConfig). x.id)) ∙ sym here)

-- a domain of the run is found
pub some-there : (k : Layout) (c : Config) (dom : DomId) → k ≡ layout_of c → HasDomain k dom → IsSome (position (has_number dom.0) c.domains.items)
some-there k c dom run has = by (position (has_number dom.0) c.domains.items) refl
  where
    by : (o : Option ℕ) → position (has_number dom.0) c.domains.items ≡ o → IsSome o
    by None none =
        let at = found-nowhere k c dom run none in
        let count : length k.ids ≡ length c.domains.items = ap (λ (l : Layout). length l.ids) run ∙ length-map c.domains.items (λ (x : DomainConfig). x.id) in
        absurd (omega (arith, at, count, has))
    by (Some at) is = refl
