-- A domain at the start of a run.
use Rattle.std.proofs.Common.{◌≡◌, ℕ, ◌<◌, refl, sym, ap, ◌∙◌, List, [], length, get_or, zero, suc, Option, Some}
use Rattle.std.proofs.Common.{None, arith}
use Rattle.std.specs.List.{count_by}
use Rattle.std.specs.Prelude.{replicate, slice_get}
use Rattle.gt_types.specs.declared.limits.TheConstants.{TABLE_ENTRIES}
use Rattle.gt_roster.specs.Frameless.{IsRunnable}
use Rattle.gt_types.specs.declared.config.Config.{Config}
use Rattle.gt_model.specs.declared.entry.Entry.TheVariants.{Invalid}
use Rattle.gt_words.specs.Conditions.{Board}
use Rattle.gt_words.specs.Answers.{IsNewSeat}
use Rattle.gt_word_history.specs.Rule.{Layout, layout_of}
use Rattle.gt_word_history.specs.Views.{LivePin, pins_like, entry_steps, invalid_at, last_record, live_pins}
use Rattle.gt_word_history.specs.declared.view.SeatStep.{SeatStep}
use Rattle.gt_handles.specs.Handles.{HandleMap, under, value_of}
use Rattle.gt_handles.specs.Listing.{has_passing}
use Rattle.gt_model.specs.declared.handle.Handle.{Handle}
use Rattle.gt_handles.specs.declared.handles.HandleSlot.{HandleSlot}
use Rattle.gt_audit.specs.Trails.{silent}
use Rattle.gt_model.specs.declared.held.HeldPin.{HeldPin}
use Rattle.gt_calls.specs.declared.known.OwnerEntry.{OwnerEntry}
use Rattle.gt_calls.specs.Known.{row_entry, row_generation}
use Rattle.gt_live.specs.Domains.{AllowRelation}
use Rattle.gt_live.specs.Mappings.{is_mapping_of}
use Rattle.gt_live.specs.Starting.{first_rows, IsNewDomain}
use Rattle.gt_live.specs.declared.domain.Domain.{Domain}

same-row : (n r : ℕ) (x : OwnerEntry) → r < n → slice_get (replicate n x) r ≡ Some x
same-row zero r x lt = absurd (omega arith)
same-row (suc n) zero x lt = refl
same-row (suc n) (suc r) x lt = same-row n r x (omega arith)

same-length : (n : ℕ) (x : OwnerEntry) → length (replicate n x) ≡ n
same-length zero x = refl
same-length (suc n) x = ap (λ (m : ℕ). suc m) (same-length n x)

row-at : (first r : ℕ) → r < TABLE_ENTRIES → slice_get (first_rows first) r ≡ Some (record { entry = Invalid; generation = first })
unfolding first_rows
row-at first r lt = same-row TABLE_ENTRIES r (record { entry = Invalid; generation = first }) lt

rows-length : (first : ℕ) → length (first_rows first) ≡ TABLE_ENTRIES
unfolding first_rows
rows-length first = same-length TABLE_ENTRIES (record { entry = Invalid; generation = first })

nothing-there : (s : HandleMap HeldPin) (h : Handle) (m : HeldPin) → s.slots ≡ [] → value_of s h ≡ Some m → ⊥
nothing-there s h m e there = let none : value_of s h ≡ None = ap (λ (xs : List (Option (HandleSlot HeldPin))). under h.serial (get_or xs h.key None)) e in cc

pub new-domain : (b : Board) (c : Config) (may : AllowRelation) (i : ℕ) (d : Domain) → IsRunnable c → b.layout ≡ layout_of c → IsNewSeat b i d.seat → d.own.items ≡ first_rows c.first_gen → d.mappings ≡ record { slots = []; given = 0; room = 0 } → d.trail ≡ silent → IsNewDomain b c may i d
new-domain b c may i d limits run new own mappings trail =
    let v = d.seat.view in
    let first : v.first ≡ c.first_gen = new.first ∙ ap (λ (k : Layout). k.first) run in
    let few = limits.generation in
    let slots : d.mappings.slots ≡ [] = ap (λ (k : HandleMap HeldPin). k.slots) mappings in
    let none : (t r : ℕ) → live_pins (entry_steps t r v.steps) ≡ [] = λ t r. ap (λ (xs : List SeatStep). live_pins (entry_steps t r xs)) new.steps in
    record {
      domain = record {
        seat = new.seat;
        rows = λ r lt2.
            let there = ap (λ (xs : List OwnerEntry). slice_get xs r) own ∙ row-at c.first_gen r lt2 in
            ap (λ (xs : List SeatStep). last_record v.first (entry_steps v.position r xs)) new.steps
            ∙ (ap invalid_at first
            ∙ (ap (λ n. record { generation = n; entry = Invalid }) (sym (ap (λ (o : Option OwnerEntry). row_generation c.first_gen o) there))
            ∙ ap (λ z. record { generation = row_generation c.first_gen (slice_get d.own.items r); entry = z }) (sym (ap row_entry there))));
        generations = λ r lt2. let there = ap (λ (o : Option OwnerEntry). row_generation c.first_gen o) (ap (λ (xs : List OwnerEntry). slice_get xs r) own ∙ row-at c.first_gen r lt2) in omega (arith, there, few);
        all_rows = ap (λ (xs : List OwnerEntry). length xs) own ∙ rows-length c.first_gen;
        mapped = λ h m e. absurd (nothing-there d.mappings h m slots e);
        pins = λ t r a g. ap (λ (ps : List LivePin). pins_like a g ps) (none t r) ∙ sym (ap (λ xs. count_by (has_passing (is_mapping_of b.layout t r a g)) xs) slots);
      };
      seat = new;
      mappings = mappings;
      trail = trail;
    }
