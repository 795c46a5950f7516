-- Races in ascending order, each once.
use Rattle.std.proofs.Common.{◌≡◌, ◌∙◌, ℕ, Bool, true, List, [], ap, sym, subst, arith}
use Rattle.std.proofs.lemmas.Cmp.{eq_by_cmp_equiv, nat_cmp_total, on_total, then_total}
use Rattle.std.proofs.lemmas.Bool.Decides.{nat_tests}
use Rattle.std.proofs.lemmas.List.Filters.{All-dedup, dedup_is}
use Rattle.std.proofs.lemmas.List.Kept.{Contains-dedup, IsStrictlySortedBy-dedup}
use Rattle.std.specs.Cmp.{IsEquivalence, IsTotalOrder, both_tied, unsigned_ties}
use Rattle.std.specs.List.Retain.{DiffersFromLast, IsFiltered}
use Rattle.std.specs.List.Sorted.{IsSorted, IsStrictlySortedBy}
use Rattle.std.specs.Ordering.{eq_by_cmp, nat_cmp}
use Rattle.std.specs.Prelude.{◌==◌, ◌&&◌, Contains}
use Rattle.gt_explore_search.specs.declared.exploring.FoundText.{FoundText}
use Rattle.gt_script.specs.RunContents.{RunContents}
use Rattle.gt_explore_races.specs.Listing.{HasRacesOfTexts}
use Rattle.gt_explore_races.specs.Races.{EachRaces, Races}
use Rattle.gt_explore_races.specs.Texts.{race_cmp}
use Rattle.gt_explore_races.specs.declared.racing.Race.{Race}

abbrev pub same_race : Race → Race → Bool
same_race r t = (r.first == t.first) && (r.second == t.second)

race-total : IsTotalOrder race_cmp
race-total = then_total (on_total (λ (r : Race). r.first) nat_cmp_total) (on_total (λ (r : Race). r.second) nat_cmp_total)

race-ties : (r t : Race) → same_race r t ≡ eq_by_cmp race_cmp r t
race-ties r t = both_tied (r.first == t.first) (r.second == t.second) (nat_cmp r.first t.first) (nat_cmp r.second t.second) (unsigned_ties r.first t.first) (unsigned_ties r.second t.second)

race-equal : IsEquivalence same_race
race-equal = let e = eq_by_cmp_equiv race-total in record {
  refl = λ r. race-ties r r ∙ e.refl r;
  symm = λ r t. race-ties r t ∙ e.symm r t ∙ sym (race-ties t r);
  congr = λ r t u same. race-ties r u ∙ e.congr r t u (sym (race-ties r t) ∙ same) ∙ sym (race-ties t u);
}

equal : (m n k l : ℕ) → ((m == n) && (k == l)) ≡ true → (m ≡ n) × (k ≡ l)
equal m n k l same = (grind (arith, nat_tests), grind (arith, nat_tests))

one : (r t : Race) → same_race r t ≡ true → r ≡ t
one r t same =
    let (first, second) = equal r.first t.first r.second t.second same in
    ap (λ (n : ℕ). let race : Race = record { first = n; second = r.second } in race) first ∙ ap (λ (n : ℕ). let race : Race = record { first = t.first; second = n } in race) second

module _ (xs ys : List Race) (once : IsFiltered (DiffersFromLast same_race) [] xs ys) where
  pub ascending-once : IsSorted race_cmp xs → IsStrictlySortedBy race_cmp ys
  ascending-once sorted = subst (IsStrictlySortedBy race_cmp) (sym (dedup_is same_race xs ys once)) (IsStrictlySortedBy-dedup race-total race-ties xs sorted)

  pub each-once : (c : RunContents) → EachRaces c xs → EachRaces c ys
  each-once c each = subst (EachRaces c) (sym (dedup_is same_race xs ys once)) (All-dedup same_race (Races c) xs each)

  pub said-once : (found : List FoundText) → HasRacesOfTexts found xs → HasRacesOfTexts found ys
  said-once found said at o r there text small =
      subst (λ (l : List Race). Contains l r) (sym (dedup_is same_race xs ys once)) (Contains-dedup race-equal one xs r (said at o r there text small))
