use Rattle.std.proofs.Common.{sym, ◌∙◌, ap, ◌≡◌, ◌<◌, ◌≤◌, List, ℕ, length, Some, slice_get, get_or, Bor, arith}
use Rattle.std.proofs.lemmas.Option.{same_Some, slice_get_within, slice_get-get_or}
use Rattle.std.specs.List.{flat_map, range_with_len}
use Rattle.std.specs.Option.{option_map}
use Rattle.gt_explore_search.specs.Lists.{rest_by}
use Rattle.gt_explore_search.specs.Parts.{by_numbers}
use Rattle.gt_explore_search.specs.declared.exploring.Node.{Node}
use Rattle.gt_explore_search.proofs.Trying.{length_more, text_found, texts_more}
use Rattle.gt_explore_search.proofs.exploring.Explorer.found.Goals as goal

pub ends-preserved : goal.ends-preserved
ends-preserved g c = record {
  many = length_more c.ends.orders.items c.push.new.self.items _ c.ends.end-index c.ends.invariant.many c.in_ok-push.ensures.items;
  each =
      texts_more c.args.self.now.suffixes c.domains-domains.result c.ends.end-index c.in-Some-get.lists.now
      (get_or c.in-Some-get.lists.now c.ends.end-index 0) c.ends.orders.items c.push.new.self.items
      (record { turns = c.in_ok-turns.turns; text = c.in_ok-text.text }) c.ends.invariant.many
      (slice_get-get_or c.in-Some-get.lists.now c.ends.end-index 0 c.ends-test.true) c.in_ok-push.ensures.items c.in_ok-text.ensures c.ends.invariant.each;
}

pub returns : goal.returns
returns g c = λ all over.
    let there : slice_get c.args.self.now.nodes.items c.in-Some.first ≡ Some c.in-Some-node_at.done.now =
    ap (λ (l : List Node). slice_get l c.in-Some.first) (sym c.as_slice.ensures.value) ∙ sym c.node_at.ensures ∙ ap (option_map (λ (n : Bor Node). n.now)) c.in-Some-node_at.is in
    let set : slice_get c.args.self.now.sets c.in-Some-node_at.done.now.set ≡ Some c.in-Some-get.lists.now = sym c.get.ensures ∙ ap (option_map (λ (l : Bor (List ℕ)). l.now)) c.in-Some-get.is in
    let past : length c.in-Some-get.lists.now ≤ c.ends.end-index = omega (arith, c.ends-test.false) in
    text_found (by_numbers (g.S.TransitionSystem.ways c.args.space.now) (g.S.TransitionSystem.parts c.args.space.now) all) c.args.self.now over c.in-Some.first (record { orders = c.ends.orders; states = c.len-states.result }) c.in-Some.ensures (λ n ends at e here are is has.
    let node : n ≡ c.in-Some-node_at.done.now = same_Some n c.in-Some-node_at.done.now (sym here ∙ there) in
    let same : ends ≡ c.in-Some-get.lists.now = same_Some ends c.in-Some-get.lists.now (sym are ∙ ap (λ (m : Node). slice_get c.args.self.now.sets m.set) node ∙ set) in
    let now : slice_get c.in-Some-get.lists.now at ≡ Some e = ap (λ (l : List ℕ). slice_get l at) (sym same) ∙ is in
    let within = slice_get_within c.in-Some-get.lists.now at e now in
    let less : at < c.ends.end-index = omega (arith, within, past) in
    let o = c.ends.invariant.each at e less now has in
    (o.0, o.1, o.2 ∙ ap (λ (m : ℕ). flat_map (rest_by c.args.self.now.suffixes e) (range_with_len 0 m)) c.domains-domains.ensures))
