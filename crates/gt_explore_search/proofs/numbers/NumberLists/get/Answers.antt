use Rattle.std.proofs.Common.{sym, ◌∙◌, ap, ◌≡◌, ◌≤◌, ◌-◌, ◌∷◌, List, ℕ, slice_get, subst, Some, None, take, drop, length, get_or}
use Rattle.gt_explore_search.proofs.Keeping.{cut_at, cut_none, within_cut}
use Rattle.gt_explore_search.proofs.numbers.NumberLists.get.Goals as goal

pub between-requires : goal.between-requires
between-requires c =
    let there : slice_get c.self.inside.ends.items c.args.number ≡ Some c.in-Some.end =
    ap (λ (l : List ℕ). slice_get l c.args.number) (sym c.as_slice-ends.ensures.value) ∙ sym c.end_of.ensures ∙ c.in-Some.is in
    let within = within_cut 0 c.self.inside.items.items c.self.inside.ends.items c.args.number c.in-Some.end c.self.invariant there in
    let begin : c.begin_of.result ≡ get_or (0 ∷ c.self.inside.ends.items) c.args.number 0 =
    c.begin_of.ensures ∙ ap (λ (l : List ℕ). get_or (0 ∷ l) c.args.number 0) c.as_slice-ends.ensures.value in
    record {
      order = subst (λ (n : ℕ). n ≤ c.in-Some.end) (sym begin) within.0;
      within = subst (λ (l : List ℕ). c.in-Some.end ≤ length l) (sym c.as_slice.ensures.value) within.1;
    }

pub returns-in-Some : goal.returns-in-Some
returns-in-Some c =
    let there : slice_get c.self.inside.ends.items c.args.number ≡ Some c.in-Some.end =
    ap (λ (l : List ℕ). slice_get l c.args.number) (sym c.as_slice-ends.ensures.value) ∙ sym c.end_of.ensures ∙ c.in-Some.is in
    let begin : c.begin_of.result ≡ get_or (0 ∷ c.self.inside.ends.items) c.args.number 0 =
    c.begin_of.ensures ∙ ap (λ (l : List ℕ). get_or (0 ∷ l) c.args.number 0) c.as_slice-ends.ensures.value in
    ap (λ (l : List ℕ). Some l) (
    c.between.ensures
    ∙ ap (λ (n : ℕ). take (c.in-Some.end - n) (drop n c.as_slice.result.now)) begin
    ∙ ap (λ (l : List ℕ). take (c.in-Some.end - get_or (0 ∷ c.self.inside.ends.items) c.args.number 0) (drop (get_or (0 ∷ c.self.inside.ends.items) c.args.number 0) l)) c.as_slice.ensures.value
    )
    ∙ sym (cut_at 0 c.self.inside.items.items c.self.inside.ends.items c.args.number c.in-Some.end there)
    ∙ ap (λ (ls : List (List ℕ)). slice_get ls c.args.number) c.self.view_is

pub returns-in-None : goal.returns-in-None
returns-in-None c =
    let none : slice_get c.self.inside.ends.items c.args.number ≡ None =
    ap (λ (l : List ℕ). slice_get l c.args.number) (sym c.as_slice-ends.ensures.value) ∙ sym c.end_of.ensures ∙ c.in-None.is in
    sym (cut_none 0 c.self.inside.items.items c.self.inside.ends.items c.args.number none)
    ∙ ap (λ (ls : List (List ℕ)). slice_get ls c.args.number) c.self.view_is
