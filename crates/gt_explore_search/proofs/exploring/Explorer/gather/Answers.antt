use Rattle.std.proofs.Common.{sym, ◌∙◌, ap, ◌≡◌, ◌≤◌, ℕ, List, length, None, Some, slice_get, get_or, Bor, arith}
use Rattle.std.proofs.lemmas.Option.{none-some, slice_get-get_or}
use Rattle.std.specs.Option.{option_map}
use Rattle.gt_explore_search.specs.declared.exploring.Node.{Node}
use Rattle.gt_explore_search.specs.Parts.{by_numbers}
use Rattle.gt_explore_search.proofs.Listing.{line_grown}
use Rattle.gt_explore_search.proofs.Gathering.{gathers_first, gathers_more, gathers_all, with_suffixes}
use Rattle.gt_explore_search.proofs.exploring.Explorer.gather.Goals as goal

pub ends-init : goal.ends-init
ends-init g c = record {
  gathers = λ all turn n holds visit has leads there are. gathers_first (by_numbers (g.S.TransitionSystem.ways c.args._space.now) (g.S.TransitionSystem.parts c.args._space.now) all) c.args.self.now c.set_all.new.self c.args.visit.now turn c.args.line c.in-Some-get.lists.now holds visit;
}

pub ends-preserved : goal.ends-preserved
ends-preserved g c = record {
  gathers = λ all turn n holds visit has leads there are.
      let i = c.ends.invariant.gathers all turn n holds visit has leads there are in
      let line = line_grown c.args.self.now.suffixes c.ends.suffixes c.args.line i.grew.suffixes has in
      gathers_more (by_numbers (g.S.TransitionSystem.ways c.args._space.now) (g.S.TransitionSystem.parts c.args._space.now) all) c.args.self.now c.args.visit.now turn c.args.node c.args.line n c.in-Some-get.lists.now (with_suffixes c.args.self.now c.ends.suffixes c.ends.marks) c.ends.visit c.ends.end-index
      (get_or c.in-Some-get.lists.now c.ends.end-index 0) c.longer.new.self c.note.new.marks c.in_ok-list.list c.note.new.self holds there are line i
      (slice_get-get_or c.in-Some-get.lists.now c.ends.end-index 0 c.ends-test.true)
      c.in_ok-list.ensures.grows c.in_ok-list.ensures.there (c.in_ok-list.ensures.longer line) c.in_ok-note.ensures;
}

pub returns-in_default-get-clause-gathered : goal.returns-in_default-get-clause-gathered
returns-in_default-get-clause-gathered g c = λ all turn holds visit has leads.
    let there : slice_get c.args.self.now.nodes.items c.args.node ≡ Some c.in-Some.done.now =
    ap (λ (l : List Node). slice_get l c.args.node) (sym c.as_slice.ensures.value) ∙ sym c.node_at.ensures ∙ ap (option_map (λ (n : Bor Node). n.now)) c.in-Some.is in
    let none : slice_get c.args.self.now.sets c.in-Some.done.now.set ≡ None = sym c.get.ensures ∙ ap (option_map (λ (l : Bor (List ℕ)). l.now)) c.in_default-get.is in
    let it = holds.nodes c.args.node c.in-Some.done.now there in
    absurd (none-some it.ends (sym none ∙ it.has))

pub returns-clause-gathered : goal.returns-clause-gathered
returns-clause-gathered g c = λ all turn holds visit has leads.
    let there : slice_get c.args.self.now.nodes.items c.args.node ≡ Some c.in-Some.done.now =
    ap (λ (l : List Node). slice_get l c.args.node) (sym c.as_slice.ensures.value) ∙ sym c.node_at.ensures ∙ ap (option_map (λ (n : Bor Node). n.now)) c.in-Some.is in
    let are : slice_get c.args.self.now.sets c.in-Some.done.now.set ≡ Some c.in-Some-get.lists.now = sym c.get.ensures ∙ ap (option_map (λ (l : Bor (List ℕ)). l.now)) c.in-Some-get.is in
    let past : length c.in-Some-get.lists.now ≤ c.ends.end-index = omega (arith, c.ends-test.false) in
    gathers_all (by_numbers (g.S.TransitionSystem.ways c.args._space.now) (g.S.TransitionSystem.parts c.args._space.now) all) c.args.self.now c.args.visit.now turn c.args.node c.args.line c.in-Some.done.now c.in-Some-get.lists.now (with_suffixes c.args.self.now c.ends.suffixes c.ends.marks) c.ends.visit c.ends.end-index
    holds visit leads there are has past
    (c.ends.invariant.gathers all turn c.in-Some.done.now holds visit has leads there are)
