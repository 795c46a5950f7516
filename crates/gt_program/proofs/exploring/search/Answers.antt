use Rattle.std.proofs.Common.{ℕ, List}
use Rattle.gt_text.specs.Laws.{of_input}
use Rattle.gt_program.specs.Obeying.{Searches}
use Rattle.gt_program.proofs.Chosen.{searched_unread}
use Rattle.gt_program.proofs.exploring.search.Goals as goal

pub returns-in-Ok : goal.returns-in-Ok
returns-in-Ok g c =
    let searched = rw c.as_slice.ensures.value at c.search_text.ensures in
    let read = of_input _ c.in-Ok.text.items (λ (input : List ℕ). Searches c.args.asked.now input _ _ c.search_text.result) c.in-Ok.ensures.limit c.in-Ok.ensures.text searched in
    rw c.new-input.ensures at read

pub returns : goal.returns
returns g c = searched_unread c.args.asked.now _ _ c.in-Err.error _ c.unread.ensures
