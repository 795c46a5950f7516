use Rattle.gt_core.proofs.{Words.HandleMap, Words.HeldPin, Words.◌≡◌, Words.◌∙◌, Words.ℕ, Words.None, Words.Invalid}
use Rattle.gt_core.proofs.{Words.replicate, Words.refl, Words.subst, Words.sym, Words.ap, Words.Header, Words.OwnerEntry}
use Rattle.gt_core.proofs.{Words.PinCounts, Words.State, Words.first_state, Words.ENTRIES, CallsOver.at-rest}
use Rattle.gt_core.proofs.state.DomainState.new.Goals as goal

pub returns : goal.returns
returns c =
    let first : State = first_state c.args.first_gen c.args.domain in
    subst (λ (x : Header). ◌≡◌ {A = State} (record { id = c.args.domain.id; header = x; own = c.in_ok-own.own.items; slots = c.in_ok-slots.slots.items; mappings = record c.new-3.result { room = 0 }; underway = None; given = c.new-4.result.items }) first) (sym c.table_header.ensures)
    (at-rest c.args.domain c.args.first_gen ENTRIES c.in_ok-own.own.items c.in_ok-slots.slots.items (record c.new-3.result { room = 0 }) c.new-4.result.items refl
    (c.in_ok-own.ensures.items_if_clones_equal (λ y e. e) ∙ ap (λ (x : OwnerEntry). replicate ENTRIES x) (c.new.ensures ∙ ap (λ (n : ℕ). record { entry = Invalid; generation = n }) c.min.ensures))
    (c.in_ok-slots.ensures.items_if_clones_equal (λ y e. e) ∙ ap (λ (x : PinCounts). replicate ENTRIES x) c.new-2.ensures)
    (ap (λ (k : HandleMap HeldPin). record k { room = 0 }) c.new-3.ensures) c.new-4.ensures.items)
