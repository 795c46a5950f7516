use Rattle.std.proofs.Common.{refl, ap, sym, ◌∙◌, ◌≡◌, ◌<◌, [], ℕ, List, Some, slice_get, subst, length, arith, get_or, Bor, true≢false}
use Rattle.std.proofs.lemmas.Option.{slice_get-get_or}
use Rattle.std.specs.Option.{option_map}
use Rattle.gt_explore_search.specs.Lists.{IsLonger}
use Rattle.gt_explore_search.specs.Numbers.{IsKeptAs}
use Rattle.gt_explore_search.proofs.Keeping.{kept_within}
use Rattle.gt_explore_search.proofs.Listing.{list_added, is_longer, tail_stored}
use Rattle.gt_explore_search.proofs.suffixes.AnswerLists.longer.Goals as goal

pub returns-clause-grows : goal.returns-clause-grows
returns-clause-grows c =
    let old : slice_get c.args.self.now.lists c.args.list ≡ Some c.in-Some-get.old.now = sym c.get.ensures ∙ ap (option_map (λ (l : Bor (List ℕ)). l.now)) c.in-Some-get.is in
    let later : slice_get c.args.self.now.tails (get_or c.in-Some-get.old.now c.in-Some.line.place 0) ≡ Some (get_or c.args.self.now.tails c.tail_at-behind.result []) =
    ap (λ (n : ℕ). slice_get c.args.self.now.tails n) (sym c.tail_at-behind.ensures) ∙ slice_get-get_or c.args.self.now.tails c.tail_at-behind.result [] (c.has.ensures.0 c.if-not-has.false) in
    let number : c.in-Some.line.number < length c.args.self.now.lines.keys = omega arith in
    let list : IsKeptAs c.args.self.now.lists c.put_tail.new.out.items c.in_ok-number.number c.number_of-2.new.self =
    subst (λ (l : List ℕ). IsKeptAs c.args.self.now.lists l c.in_ok-number.number c.number_of-2.new.self) c.as_slice.ensures.value c.in_ok-number.ensures.kept in
    list_added c.args.self.now _ c.in-Some-get.old.now (get_or c.args.self.now.tails c.tail_at-behind.result []) c.put_tail.new.out.items c.args.list c.in-Some.line.place c.in-Some.line.number c.in_ok-tail.tail c.in_ok-number.number
    refl old number later c.in_ok-tail.ensures c.in_ok-put_tail.ensures list

pub returns-clause-there : goal.returns-clause-there
returns-clause-there c = λ has. kept_within c.args.self.now.lists _ c.in_ok-number.number c.number_of-2.new.self c.in_ok-number.ensures.kept

pub returns-clause-longer : goal.returns-clause-longer
returns-clause-longer c = λ line whole has.
    let old : slice_get c.args.self.now.lists c.args.list ≡ Some c.in-Some-get.old.now = sym c.get.ensures ∙ ap (option_map (λ (l : Bor (List ℕ)). l.now)) c.in-Some-get.is in
    let later : slice_get c.args.self.now.tails (get_or c.in-Some-get.old.now c.in-Some.line.place 0) ≡ Some (get_or c.args.self.now.tails c.tail_at-behind.result []) =
    ap (λ (n : ℕ). slice_get c.args.self.now.tails n) (sym c.tail_at-behind.ensures) ∙ slice_get-get_or c.args.self.now.tails c.tail_at-behind.result [] (c.has.ensures.0 c.if-not-has.false) in
    let number : c.in-Some.line.number < length c.args.self.now.lines.keys = omega arith in
    let list : IsKeptAs c.args.self.now.lists c.put_tail.new.out.items c.in_ok-number.number c.number_of-2.new.self =
    subst (λ (l : List ℕ). IsKeptAs c.args.self.now.lists l c.in_ok-number.number c.number_of-2.new.self) c.as_slice.ensures.value c.in_ok-number.ensures.kept in
    let grows = list_added c.args.self.now (record c.args.self.now { tails = c.number_of.new.self; lists = c.number_of-2.new.self; scratch = c.put_tail.new.out }) c.in-Some-get.old.now (get_or c.args.self.now.tails c.tail_at-behind.result []) c.put_tail.new.out.items c.args.list c.in-Some.line.place c.in-Some.line.number c.in_ok-tail.tail c.in_ok-number.number
    refl old number later c.in_ok-tail.ensures c.in_ok-put_tail.ensures list in
    subst (λ l. IsLonger (record c.args.self.now { tails = c.number_of.new.self; lists = c.number_of-2.new.self; scratch = c.put_tail.new.out }) l c.args.list c.in_ok-number.number) (sym c.in-Some.is)
    (is_longer c.args.self.now (record c.args.self.now { tails = c.number_of.new.self; lists = c.number_of-2.new.self; scratch = c.put_tail.new.out }) c.in-Some-get.old.now (get_or c.args.self.now.tails c.tail_at-behind.result []) c.put_tail.new.out.items c.args.list c.in-Some.line.place c.in-Some.line.number c.in_ok-tail.tail c.in_ok-number.number
    grows old later c.in_ok-tail.ensures c.in_ok-put_tail.ensures list)

pub returns-then-not-has-clause-longer : goal.returns-then-not-has-clause-longer
returns-then-not-has-clause-longer c = λ line whole has.
    let old : slice_get c.args.self.now.lists c.args.list ≡ Some c.in-Some-get.old.now = sym c.get.ensures ∙ ap (option_map (λ (l : Bor (List ℕ)). l.now)) c.in-Some-get.is in
    let behind : get_or (get_or c.args.self.now.lists c.args.list []) c.in-Some.line.place 0 ≡ c.tail_at-behind.result =
    ap (λ (l : List ℕ). get_or l c.in-Some.line.place 0) (tail_stored c.args.self.now.lists c.args.list c.in-Some-get.old.now old) ∙ sym c.tail_at-behind.ensures in
    absurd (true≢false (sym (c.has.ensures.1 (subst (λ (n : ℕ). n < length c.args.self.now.tails) behind (whole.tails c.args.list c.in-Some.line.place))) ∙ c.if-not-has.true))
