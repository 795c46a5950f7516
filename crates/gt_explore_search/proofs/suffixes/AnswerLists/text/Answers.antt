use Rattle.std.proofs.Common.{sym, ◌∙◌, ap, ◌≡◌, ◌≤◌, ◌++◌, List, [], ℕ, arith, get_or, Bor}
use Rattle.std.specs.List.{flat_map, range_with_len}
use Rattle.std.specs.Option.{option_map}
use Rattle.gt_explore_search.specs.Lists.{printed_of}
use Rattle.gt_explore_search.proofs.Listing.{domains_next, said_by, tail_stored}
use Rattle.gt_explore_search.proofs.suffixes.AnswerLists.text.Goals as goal

pub places-preserved : goal.places-preserved
places-preserved c =
    c.in_ok-push_printed.ensures
    ∙ ap (λ (n : ℕ). c.places.text.items ++ printed_of c.args.self.now.lines.keys (get_or c.args.self.now.tails n [])) c.tail_at.ensures
    ∙ ap (λ (t : List ℕ). t ++ said_by c.args.self.now c.in-Some.tails.now c.places.place) c.places.invariant
    ∙ sym (domains_next (said_by c.args.self.now c.in-Some.tails.now) c.places.place)

pub returns : goal.returns
returns c = λ has.
    let upto : c.places.place ≤ c.args.domains = c.places.auto.place-end in
    let over : c.args.domains ≤ c.places.place = c.places-test.false in
    let same : c.places.place ≡ c.args.domains = omega (arith, upto, over) in
    c.shrink_to_fit.ensures.items
    ∙ c.places.invariant
    ∙ ap (λ (n : ℕ). flat_map (said_by c.args.self.now c.in-Some.tails.now) (range_with_len 0 n)) same
    ∙ ap (λ (l : List ℕ). flat_map (said_by c.args.self.now l) (range_with_len 0 c.args.domains))
    (sym (tail_stored c.args.self.now.lists c.args.list c.in-Some.tails.now (sym c.get.ensures ∙ ap (option_map (λ (l : Bor (List ℕ)). l.now)) c.in-Some.is)))
