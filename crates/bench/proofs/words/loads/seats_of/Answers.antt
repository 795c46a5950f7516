use Rattle.std.proofs.Common.{◌≡◌, ℕ, ◌<◌, length, sym, ap, ◌∙◌, arith, inl, inr}
use Rattle.std.proofs.lemmas.Bool.{cases_lt}
use Rattle.std.proofs.lemmas.List.{length-map}
use Rattle.gt_types.specs.declared.DomId.{DomId}
use Rattle.gt_types.specs.declared.config.DomainConfig.{DomainConfig}
use Rattle.gt_word_history.specs.Rule.{Layout, id_at, layout_of, position_in}
use Rattle.gt_words.specs.Conditions.{HasDomain}
use Rattle.gt_words.specs.Laws.{domain_at}
use Rattle.bench.specs.declared.extent.TheConstants.{MIDDLE, OWNER}
use Rattle.bench.proofs.words.loads.seats_of.Goals as goal

-- a run that has both domains has two at least
two_domains : (k : Layout) → HasDomain k OWNER → HasDomain k MIDDLE → 1 < length k.ids
two_domains k a b = elim (cases_lt 1 (length k.ids)) [
  | inl more ↦ more
  | inr one ↦
      let same : position_in k.ids OWNER ≡ position_in k.ids MIDDLE = omega (arith, a, b, one) in
      let e : OWNER ≡ MIDDLE = sym (domain_at k OWNER a) ∙ (ap (λ (t : ℕ). id_at k.ids t) same ∙ domain_at k MIDDLE b) in
      let n : OWNER.0 ≡ MIDDLE.0 = ap (λ (d : DomId). d.0) e in absurd (omega (arith, n))
]

pub remove-middle-requires : goal.remove-middle-requires
remove-middle-requires c =
    let ds = c.args.config.now.domains.items in
    let two = two_domains (layout_of c.args.config.now) c.requires.owner c.requires.middle in
    let many : length (layout_of c.args.config.now).ids ≡ length ds = length-map ds (λ (d : DomainConfig). d.id) in
    let count = c.in_ok-words.ensures.count in let left = c.remove-owner.ensures.len in omega (arith, two, many, count, left)
