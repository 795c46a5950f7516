use Rattle.std.proofs.Common.{◌≡◌, ℕ, List, Bor, string_bytes, refl, ap, ◌∙◌}
use Rattle.std.specs.List.{range_with_len}
use Rattle.gt_policy.specs.Listing.{type_name_of}
use Rattle.gt_policy.proofs.ListingLemmas.{numbers_start, all_start, numbers_more, all_more, name_here, count_all}
use Rattle.gt_policy.proofs.policy.Policy.numbered.Goals as goal

pub loop-i-init : goal.loop-i-init
loop-i-init c = (
  numbers_start (λ (e : Bor (List ℕ) × ℕ). e.1) _ c.new-named.ensures.items,
  all_start (λ (e : Bor (List ℕ) × ℕ). type_name_of c.args.self.now.types e.1 ≡ e.0.now) _ c.new-named.ensures.items,
)

pub loop-i-preserved : goal.loop-i-preserved
loop-i-preserved c =
    let here = name_here (λ s. string_bytes s) _ c.self.inside.types.items _ c.loop-i.i _ _ c.deref-name-items.ensures.value (ap (λ m. m.types) c.self.view_is) c.loop-i-test.true c.name-item.is c.as_str.ensures.value in (
      numbers_more (λ (e : Bor (List ℕ) × ℕ). e.1) _ _ (c.as_str.result, c.loop-i.i) c.loop-i.i c.in_ok-push.ensures.items refl c.loop-i.invariant.0,
      all_more (λ (e : Bor (List ℕ) × ℕ). type_name_of c.args.self.now.types e.1 ≡ e.0.now) _ _ (c.as_str.result, c.loop-i.i) c.in_ok-push.ensures.items c.loop-i.invariant.1 here,
    )

pub returns-clause-numbers : goal.returns-clause-numbers
returns-clause-numbers c =
    c.loop-i.invariant.0
    ∙ ap (λ n. range_with_len 0 n) (count_all (λ s. string_bytes s) _ c.self.inside.types.items _ c.loop-i.i c.deref-name-items.ensures.value (ap (λ m. m.types) c.self.view_is) c.loop-i-test.false c.loop-i.auto.i-end)

pub returns-clause-named : goal.returns-clause-named
returns-clause-named c = c.loop-i.invariant.1
