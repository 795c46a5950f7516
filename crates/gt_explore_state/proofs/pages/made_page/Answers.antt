use Rattle.std.proofs.Common.{◌≤◌, ◌∙◌, sym, ap, refl, subst, length, List, position}
use Rattle.gt_explore_state.specs.Pages.{is_page_of, kept_bytes}
use Rattle.gt_explore_state.specs.declared.pages.SparsePage.{SparsePage}
use Rattle.gt_explore_state.proofs.Kept.{place-inserted, kept-inserted, others}
use Rattle.gt_explore_state.proofs.pages.made_page.Goals as goal

pub returns-clause-place : goal.returns-clause-place
returns-clause-place c =
    let none = ap (position (is_page_of c.args.owner.0 c.args.frame)) (sym c.as_slice.ensures.value) ∙ (sym c.place_in.ensures ∙ c.in_default.is) in
    ap (position (is_page_of c.args.owner.0 c.args.frame)) c.in_ok-insert.ensures.items
    ∙ place-inserted c.args.pages.now.items c.place_for-at.result (record { owner = c.args.owner; frame = c.args.frame; bytes = c.new.result }) c.args.owner.0 c.args.frame
    (subst (λ (l : List SparsePage). c.place_for-at.result ≤ length l) c.as_slice-2.ensures.value c.place_for-at.ensures)
    (record { owner = refl; frame = refl; bytes = c.new.ensures.items }) (others c.args.pages.now.items c.args.owner.0 c.args.frame none)

pub returns-clause-same : goal.returns-clause-same
returns-clause-same c = λ t f.
    let none = ap (position (is_page_of c.args.owner.0 c.args.frame)) (sym c.as_slice.ensures.value) ∙ (sym c.place_in.ensures ∙ c.in_default.is) in
    ap (λ (l : List SparsePage). kept_bytes l t f) c.in_ok-insert.ensures.items
    ∙ kept-inserted c.args.pages.now.items c.place_for-at.result (record { owner = c.args.owner; frame = c.args.frame; bytes = c.new.result }) c.args.owner.0 c.args.frame t f
    (subst (λ (l : List SparsePage). c.place_for-at.result ≤ length l) c.as_slice-2.ensures.value c.place_for-at.ensures)
    (record { owner = refl; frame = refl; bytes = c.new.ensures.items }) (others c.args.pages.now.items c.args.owner.0 c.args.frame none)
