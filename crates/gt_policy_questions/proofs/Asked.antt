-- The types that are asked for, one after another.
use Rattle.std.proofs.Common.{◌≡◌, ℕ, suc, ◌+◌, true, false, List, [], ◌∷◌, ◌++◌, Option, ap, sym, ◌∙◌, arith}
use Rattle.std.proofs.lemmas.List.{append-nil}
use Rattle.gt_types.specs.declared.TypeId.{TypeId}
use Rattle.gt_policy_statements.specs.declared.members.Member.{Member}
use Rattle.gt_policy_questions.specs.Pairs.{is_type_asked, type_if, types_asked_of}

module _ (members : List Member) (asked : Option (List ℕ)) where
  pub types-none : (ids : List TypeId) → ids ≡ [] → ids ≡ types_asked_of members asked 0
  unfolding types_asked_of
  types-none ids h = h

  one-more : (n : ℕ) → types_asked_of members asked (n + 1) ≡ types_asked_of members asked n ++ type_if (is_type_asked members asked n) n
  unfolding types_asked_of
  one-more n = ap (λ k. types_asked_of members asked k) (let e : n + 1 ≡ suc n = omega arith in e)

  pub types-yes : (n : ℕ) (ids : List TypeId) → ids ≡ types_asked_of members asked n → is_type_asked members asked n ≡ true
      → ids ++ record { 0 = n } ∷ [] ≡ types_asked_of members asked (n + 1)
  types-yes n ids h t = ap (λ q. q ++ record { 0 = n } ∷ []) h
      ∙ ap (λ b. types_asked_of members asked n ++ type_if b n) (sym t) ∙ sym (one-more n)

  pub types-no : (n : ℕ) (ids : List TypeId) → ids ≡ types_asked_of members asked n → is_type_asked members asked n ≡ false
      → ids ≡ types_asked_of members asked (n + 1)
  types-no n ids h t = h ∙ sym (append-nil (types_asked_of members asked n))
      ∙ ap (λ b. types_asked_of members asked n ++ type_if b n) (sym t) ∙ sym (one-more n)
