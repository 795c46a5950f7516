-- The position of a number among the domains, and the domain there.
use Rattle.std.proofs.Common.{◌≡◌, ◌<◌, ◌≤◌, ℕ, refl, Bool, List, [], ◌∷◌, length, map, Option, Some, None, cond, ltb}
use Rattle.std.proofs.Common.{sym, ap, ◌∙◌, arith, get_or}
use Rattle.std.proofs.lemmas.List.{length-map}
use Rattle.std.proofs.lemmas.Bool.{cond_both, ltb-false}
use Rattle.std.proofs.lemmas.List.Quantifiers.{position-Some}
use Rattle.std.proofs.lemmas.List.Folds.{find_at}
use Rattle.std.proofs.lemmas.Option.{slice_get-get_or, slice_get_past}
use Rattle.std.specs.Prelude.{◌==◌, find, position, slice_get}
use Rattle.std.specs.List.{position_or_len}
use Rattle.gt_types.specs.Names.{domain_of}
use Rattle.gt_types.specs.declared.DomId.{DomId}
use Rattle.gt_types.specs.declared.config.DomainConfig.{DomainConfig}

abbrev pub is_number : ℕ → DomId → Bool
is_number d x = x.0 == d

abbrev pub has_number : ℕ → DomainConfig → Bool
has_number d x = x.id.0 == d

abbrev pub numbers : List DomainConfig → List DomId
numbers xs = map (λ (x : DomainConfig). x.id) xs

same-place : (xs : List DomainConfig) (d : ℕ) → position_or_len (is_number d) (numbers xs) ≡ position_or_len (has_number d) xs
same-place [] d = refl
same-place (x ∷ xs) d = grind (arith, same-place xs d)

-- the position of a number is that of the domain with it
pub place-by-number : (ids : List DomId) (xs : List DomainConfig) (d : ℕ) → numbers xs ≡ ids → position (is_number d) ids ≡ position (has_number d) xs
place-by-number ids xs d e = ap (λ (l : List DomId). position (is_number d) l) (sym e)
    ∙ ap (λ (n : ℕ). cond (ltb n (length (numbers xs))) (Some n) None) (same-place xs d)
    ∙ ap (λ (m : ℕ). cond (ltb (position_or_len (has_number d) xs) m) (Some (position_or_len (has_number d) xs)) None) (length-map xs (λ (x : DomainConfig). x.id))

domain_of-find : (xs : List DomainConfig) (dom : DomId) → domain_of xs dom ≡ find (has_number dom.0) xs
domain_of-find [] dom = refl
domain_of-find (x ∷ xs) dom = ap (cond (x.id.0 == dom.0) (Some x)) (domain_of-find xs dom)

none-place : (n m : ℕ) → cond (ltb n m) (Some n) None ≡ None → m ≤ n
none-place n m h = cond_both (ltb n m) (Some n) None (λ o. o ≡ None → m ≤ n) (λ e k. cc) (λ e k. ltb-false n m e) h

some-place : (n m i : ℕ) → cond (ltb n m) (Some n) None ≡ Some i → n ≡ i
some-place n m i h = cond_both (ltb n m) (Some n) None (λ o. o ≡ Some i → n ≡ i) (λ e k. cc) (λ e k. cc) h

-- no domain has the number
pub domain-nowhere : (xs : List DomainConfig) (dom : DomId) → position (has_number dom.0) xs ≡ None → domain_of xs dom ≡ None
domain-nowhere xs dom h = domain_of-find xs dom ∙ find_at (has_number dom.0) xs ∙ slice_get_past xs (position_or_len (has_number dom.0) xs) (none-place _ _ h)

-- the first domain with the number
pub domain-there : (xs : List DomainConfig) (dom : DomId) (i : ℕ) (x : DomainConfig) → position (has_number dom.0) xs ≡ Some i → domain_of xs dom ≡ Some (get_or xs i x)
domain-there xs dom i x h = domain_of-find xs dom ∙ find_at (has_number dom.0) xs
    ∙ ap (slice_get xs) (some-place (position_or_len (has_number dom.0) xs) (length xs) i h)
    ∙ slice_get-get_or xs i x (position-Some (has_number dom.0) xs i x h).0
