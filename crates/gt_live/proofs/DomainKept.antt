-- What a call keeps of its domain.
use Rattle.std.proofs.Common.{◌≡◌, ℕ, ◌+◌, ◌<◌, ◌==◌, ◌&&◌, Bool, true, false, cond, refl, sym, ap, ◌∙◌, subst, List}
use Rattle.std.proofs.Common.{[], ◌∷◌, length, get_or, Option, Some, None, inl, inr, arith, min}
use Rattle.std.specs.List.{count_by}
use Rattle.std.specs.Prelude.{slice_index_or}
use Rattle.std.proofs.lemmas.Bool.{eq-eqb, cases_eq, cases_lt}
use Rattle.gt_types.specs.declared.limits.TheConstants.{TABLE_ENTRIES}
use lib.ListN.{get_or-eq_default}
use Rattle.gt_types.specs.declared.DomId.{DomId}
use Rattle.gt_types.specs.declared.Dir.{Dir}
use Rattle.gt_types.specs.declared.config.Config.{Config}
use Rattle.gt_types.specs.declared.config.DomainConfig.{DomainConfig}
use Rattle.gt_model.specs.declared.change.EntryChange.{EntryChange}
use Rattle.gt_model.specs.Entries.{changed_entry, raise_of}
use Rattle.gt_word_history.specs.Controls.{generation_of}
use Rattle.gt_words.specs.Conditions.{Board, IsSameSeat, IsSeatOf, SeatOf}
use Rattle.gt_words.specs.Answers.{Unpins}
use Rattle.gt_words.specs.Keeping.{Holds, KeepsPins, held}
use Rattle.gt_word_history.specs.Steps.{changed as becomes}
use Rattle.gt_word_history.specs.Rule.{Layout, id_at, position_in}
use Rattle.gt_word_history.specs.Views.{IsAmong, LivePin, is_pin, is_same_dir, last_of, live_pins, pins_like}
use Rattle.gt_word_history.specs.Views.{steps_on}
use Rattle.gt_word_history.specs.declared.view.EntryRecord.{EntryRecord}
use Rattle.gt_word_history.specs.declared.view.View.{View}
use Rattle.gt_model.specs.declared.handle.Handle.{Handle}
use Rattle.gt_handles.specs.declared.handles.HandleSlot.{HandleSlot}
use Rattle.gt_handles.specs.Handles.{HandleMap, count_of, under, value_of}
use Rattle.gt_model.specs.Asking.{same_handle}
use Rattle.gt_handles.specs.Laws.{counted-most, inserted-counted, taken-counted}
use Rattle.gt_handles.specs.Listing.{IsInserted, IsTaken, has_passing}
use Rattle.gt_model.specs.declared.held.HeldPin.{HeldPin}
use Rattle.gt_calls.specs.declared.known.OwnerEntry.{OwnerEntry}
use Rattle.gt_model.specs.declared.request.OpenRequest.{OpenRequest}
use Rattle.gt_calls.specs.Known.{entry_in, own_generation, row_entry, row_generation}
use Rattle.gt_live.specs.declared.domain.Domain.{Domain}
use Rattle.gt_live.specs.Domains.{IsDomainOf, AllowRelation, knowledge}
use Rattle.gt_live.specs.Driving.{ChangesBy, IsSame, MapsBy}
use Rattle.gt_live.specs.Mappings.{IsMappingOf, PinsAreOf, is_mapping_of, entry_record_of}
use Rattle.gt_live.specs.Rows.{row_changed}
use Rattle.gt_live.proofs.Counting.{count-cons, counted, dir-self}
use Rattle.gt_live.proofs.Making.{still_seat}
use Rattle.gt_live.proofs.RowsKept.{row-here, row-length, row-other, row-there}

-- a mapping under a handle stands in a slot
pub record InSlot (s : HandleMap HeldPin) (h : Handle) (m : HeldPin) : Type 0 where
  pub slot : HandleSlot HeldPin
  pub there : get_or s.slots h.key None ≡ Some slot
  pub value : slot.value ≡ m
  pub inside : h.key < length s.slots

slot-of : (serial : ℕ) (o : Option (HandleSlot HeldPin)) (m : HeldPin) → under serial o ≡ Some m → (slot : HandleSlot HeldPin) × (o ≡ Some slot) × (slot.value ≡ m)
slot-of serial None m e = cc
slot-of serial (Some slot) m e = by (slot.serial == serial) e
  where
    by : (b : Bool) → cond b (Some slot.value) None ≡ Some m → (x : HandleSlot HeldPin) × (Some slot ≡ Some x) × (x.value ≡ m)
    by true is = (slot, refl, cc)
    by false is = cc

in-slot : (s : HandleMap HeldPin) (h : Handle) (m : HeldPin) → value_of s h ≡ Some m → InSlot s h m
in-slot s h m e =
    let x = slot-of h.serial (get_or s.slots h.key None) m e in
    let inside : h.key < length s.slots = elim (cases_lt h.key (length s.slots)) [ inl lt ↦ lt | inr ge ↦ let none = get_or-eq_default s.slots None ge in let some = x.1 in absurd (cc) ] in
    record { slot = x.0; there = x.1; value = x.2; inside = inside }

counts-itself : (k : Layout) (m : HeldPin) → is_mapping_of k (position_in k.ids m.dom) m.gref.0 m.dir (generation_of m.word) m ≡ true
counts-itself k m =
    ap (λ (b : Bool). b && ((m.gref.0 == m.gref.0) && (is_same_dir m.dir m.dir && (generation_of m.word == generation_of m.word)))) (eq-eqb (position_in k.ids m.dom) (position_in k.ids m.dom) refl)
    ∙ (ap (λ (b : Bool). b && (is_same_dir m.dir m.dir && (generation_of m.word == generation_of m.word))) (eq-eqb m.gref.0 m.gref.0 refl)
    ∙ (ap (λ (b : Bool). b && (generation_of m.word == generation_of m.word)) (dir-self m.dir) ∙ eq-eqb (generation_of m.word) (generation_of m.word) refl))

-- the pins of a mapping's kind and generation are some
pub some-pins : (k : Layout) (v : View) (kept : HandleMap HeldPin) → PinsAreOf k v kept → (h : Handle) (m : HeldPin) → value_of kept h ≡ Some m → Holds (position_in k.ids m.dom) m.gref.0 m.dir (generation_of m.word) v
some-pins k v kept all h m e =
    let t = position_in k.ids m.dom in let g = generation_of m.word in
    let x = in-slot kept h m e in
    let passes : has_passing (is_mapping_of k t m.gref.0 m.dir g) (get_or kept.slots h.key None) ≡ true =
    ap (λ (o : Option (HandleSlot HeldPin)). has_passing (is_mapping_of k t m.gref.0 m.dir g) o) x.there ∙ (ap (λ (y : HeldPin). is_mapping_of k t m.gref.0 m.dir g y) x.value ∙ counts-itself k m) in
    subst (λ (n : ℕ). 0 < n) (sym (all t m.gref.0 m.dir g)) (counted (has_passing (is_mapping_of k t m.gref.0 m.dir g)) kept.slots h.key None x.inside passes)

-- a mapping whose pin is held in another view is one still
moved : (k : Layout) (ds : List DomainConfig) (may : AllowRelation) (dom dom' : DomId) (v w : View) (m : HeldPin) → dom' ≡ dom
    → (IsAmong (m.dir, entry_record_of m) (live_pins (steps_on (position_in k.ids m.dom) m.gref.0 v)) → IsAmong (m.dir, entry_record_of m) (live_pins (steps_on (position_in k.ids m.dom) m.gref.0 w)))
    → IsMappingOf k ds may dom v m → IsMappingOf k ds may dom' w m
moved k ds may dom dom' v w m same on is =
    let here : IsMappingOf k ds may dom w m = record { pin = record { run = is.pin.run; inside = is.pin.inside; held = on is.pin.held }; permitted = is.permitted; in_frames = is.in_frames; allowed = is.allowed } in
    subst (λ (d : DomId). IsMappingOf k ds may d w m) (sym same) here

same-slots : (old new : HandleMap HeldPin) (h : Handle) → new.slots ≡ old.slots → value_of new h ≡ value_of old h
same-slots old new h e = ap (λ (xs : List (Option (HandleSlot HeldPin))). under h.serial (slice_index_or xs h.key None)) e

-- the seat after looks alone is of the same words
pub looked-seat : (b : Board) (s : SeatOf) (u : View) → IsSeatOf b s → IsSame s.view u → IsSeatOf b (record s { view = u })
looked-seat b s u is same = record {
  table = is.table;
  inside = subst (λ (p : ℕ). p < length b.layout.ids) (sym same.position) is.inside;
  named = ap (λ (p : ℕ). id_at b.layout.ids p) same.position ∙ is.named;
  ids = same.ids ∙ is.ids;
}

same-rows : (c : Config) (os os' : List OwnerEntry) (r : ℕ) → os' ≡ os → ◌≡◌ {A = EntryRecord} (record { generation = own_generation c.first_gen os r; entry = entry_in os r }) (record { generation = own_generation c.first_gen os' r; entry = entry_in os' r })
same-rows c os os' r e = ap (λ (xs : List OwnerEntry). record { generation = own_generation c.first_gen xs r; entry = entry_in xs r }) (sym e)

-- where all pins are those of before
same-mapped : (b : Board) (c : Config) (may : AllowRelation) (d e : Domain) → IsDomainOf b c may d → e.seat.dom ≡ d.seat.dom → e.mappings.slots ≡ d.mappings.slots → KeepsPins d.seat.view e.seat.view → (h : Handle) (m : HeldPin) → value_of e.mappings h ≡ Some m
    → IsMappingOf b.layout c.domains.items may e.seat.dom e.seat.view m
same-mapped b c may d e is dom slots same h m there =
    moved b.layout c.domains.items may d.seat.dom e.seat.dom d.seat.view e.seat.view m dom (λ x. subst (λ (ps : List LivePin). IsAmong (m.dir, entry_record_of m) ps) (sym (same (position_in b.layout.ids m.dom) m.gref.0)) x)
    (is.mapped h m (sym (same-slots d.mappings e.mappings h slots) ∙ there))

same-pins : (b : Board) (c : Config) (may : AllowRelation) (d e : Domain) → IsDomainOf b c may d → e.mappings.slots ≡ d.mappings.slots → KeepsPins d.seat.view e.seat.view → PinsAreOf b.layout e.seat.view e.mappings
same-pins b c may d e is slots same t r a g =
    ap (λ (ps : List LivePin). pins_like a g ps) (same t r) ∙ (is.pins t r a g ∙ ap (λ xs. count_by (has_passing (is_mapping_of b.layout t r a g)) xs) (sym slots))

-- after looks alone
pub looked : (b : Board) (c : Config) (may : AllowRelation) (d e : Domain) → IsDomainOf b c may d → IsSeatOf b e.seat → e.seat.dom ≡ d.seat.dom → e.own.items ≡ d.own.items → e.mappings.slots ≡ d.mappings.slots → IsSame d.seat.view e.seat.view → IsDomainOf b c may e
looked b c may d e is seat dom own slots same = record {
  seat = seat;
  rows = λ r lt. same.records r ∙ (is.rows r lt ∙ same-rows c d.own.items e.own.items r own);
  generations = λ r lt. subst (λ (xs : List OwnerEntry). own_generation c.first_gen xs r < 1048576) (sym own) (is.generations r lt);
  all_rows = ap (λ (xs : List OwnerEntry). length xs) own ∙ is.all_rows;
  mapped = same-mapped b c may d e is dom slots same.pins;
  pins = same-pins b c may d e is slots same.pins;
}

-- after an access
pub reseated : (b : Board) (c : Config) (may : AllowRelation) (d : Domain) (s : SeatOf) → IsDomainOf b c may d → IsSameSeat d.seat s → IsSame d.seat.view s.view → IsDomainOf b c may (record d { seat = s })
reseated b c may d s is seat same = looked b c may d (record d { seat = s }) is (still_seat b d.seat s is.seat seat) seat.dom refl refl same

-- after an owner's change of one of its entries
pub changed : (b : Board) (c : Config) (may : AllowRelation) (d e : Domain) (request : OpenRequest) (q : ℕ) (ch : EntryChange) → IsDomainOf b c may d → IsSameSeat d.seat e.seat → e.mappings.slots ≡ d.mappings.slots → e.own.items ≡ row_changed d.own.items q ch
    → ChangesBy (knowledge c may d) b.layout request q ch d.seat.view e.seat.view → IsDomainOf b c may e
changed b c may d e request q ch is seat slots own x =
    let u = x.before in let w = e.seat.view in let os = row_changed d.own.items q ch in
    let same : KeepsPins d.seat.view w = λ t r. x.changes.pins t r ∙ x.same.pins t r in
    let row : (r : ℕ) → r < TABLE_ENTRIES → (last_of r w ≡ record { generation = own_generation c.first_gen os r; entry = entry_in os r }) × (own_generation c.first_gen os r < 1048576) =
    λ r lt. elim (cases_eq q r) [
      | inl e1 ↦
          let all = is.all_rows in let low = x.inside in let fresh = x.fresh in
          let o = row-there d.own.items q (omega (arith, all, low)) in
          let new = row-here d.own.items q o.0 ch o.1 in
          let was : last_of q u ≡ record { generation = own_generation c.first_gen d.own.items q; entry = entry_in d.own.items q } = x.same.records q ∙ is.rows q low in
          let same_gen : own_generation c.first_gen d.own.items q ≡ o.0.generation = ap (λ (y : Option OwnerEntry). row_generation c.first_gen y) o.1 in
          let same_entry : entry_in d.own.items q ≡ o.0.entry = ap row_entry o.1 in
          let now : own_generation c.first_gen os q ≡ min (o.0.generation + raise_of ch) 1048575 = ap (λ (y : Option OwnerEntry). row_generation c.first_gen y) new in
          let up : own_generation c.first_gen d.own.items q + raise_of ch ≡ own_generation c.first_gen os q = omega (arith, same_gen, now, fresh) in
          let ent : entry_in os q ≡ changed_entry ch (entry_in d.own.items q) = ap row_entry new ∙ ap (λ z. changed_entry ch z) (sym same_entry) in
          let here : last_of q w ≡ record { generation = own_generation c.first_gen os q; entry = entry_in os q } =
          x.changes.last ∙ (ap (λ (y : EntryRecord). becomes ch y) was
          ∙ (ap (λ n. record { generation = n; entry = changed_entry ch (entry_in d.own.items q) }) up ∙ ap (λ z. record { generation = own_generation c.first_gen os q; entry = z }) (sym ent))) in
          subst (λ (n : ℕ). (last_of n w ≡ record { generation = own_generation c.first_gen os n; entry = entry_in os n }) × (own_generation c.first_gen os n < 1048576)) e1 (here, omega (arith, now))
      | inr ne ↦
          let other = row-other d.own.items q r ch ne in
          let gen : own_generation c.first_gen os r ≡ own_generation c.first_gen d.own.items r = ap (λ (y : Option OwnerEntry). row_generation c.first_gen y) other in
          let ent : entry_in os r ≡ entry_in d.own.items r = ap row_entry other in (
            x.changes.rows.last r ne ∙ (x.same.records r ∙ (is.rows r lt
                ∙ (ap (λ n. record { generation = n; entry = entry_in d.own.items r }) (sym gen) ∙ ap (λ z. record { generation = own_generation c.first_gen os r; entry = z }) (sym ent)))),
            (let few = is.generations r lt in omega (arith, few, gen)),
          )
    ] in
    record {
      seat = still_seat b d.seat e.seat is.seat seat;
      rows = λ r lt. (row r lt).0 ∙ same-rows c os e.own.items r own;
      generations = λ r lt. subst (λ (xs : List OwnerEntry). own_generation c.first_gen xs r < 1048576) (sym own) (row r lt).1;
      all_rows = ap (λ (xs : List OwnerEntry). length xs) own ∙ (row-length d.own.items q ch ∙ is.all_rows);
      mapped = same-mapped b c may d e is seat.dom slots same;
      pins = same-pins b c may d e is slots same;
    }

taken-away : {A : Type 0} (x : Bool) (o : Option HeldPin) (m : HeldPin) → (o ≡ Some m → A) → cond x None o ≡ Some m → A
taken-away true o m f e = absurd (cc)
taken-away false o m f e = f e

added : (x : Bool) (o : Option HeldPin) (m n : HeldPin) (P : HeldPin → Type 0) → P m → (o ≡ Some n → P n) → cond x (Some m) o ≡ Some n → P n
added true o m n P here old e = let same : m ≡ n = cc in subst (λ (z : HeldPin). P z) same here
added false o m n P here old e = old e

-- after an unmap that was Ok, and where a domain leaves
pub unmapped : (b : Board) (c : Config) (may : AllowRelation) (d e : Domain) (h : Handle) (m : HeldPin) → IsDomainOf b c may d → IsSeatOf b e.seat → e.seat.dom ≡ d.seat.dom → e.own.items ≡ d.own.items
    → IsTaken d.mappings e.mappings h m → Unpins b.layout (position_in b.layout.ids m.dom) m.gref.0 m.dir (generation_of m.word) d.seat.view e.seat.view → IsDomainOf b c may e
unmapped b c may d e h m is seat dom own out u =
    let k = b.layout in let v = d.seat.view in let w = e.seat.view in
    let all : PinsAreOf k w e.mappings = λ t r a g.
    let one = u.one_less t r a g in let counts = taken-counted (is_mapping_of k t r a g) d.mappings e.mappings h m out in let was = is.pins t r a g in omega (arith, one, counts, was) in
    record {
      seat = seat;
      rows = λ r lt. u.rows.last r ∙ (is.rows r lt ∙ same-rows c d.own.items e.own.items r own);
      generations = λ r lt. subst (λ (xs : List OwnerEntry). own_generation c.first_gen xs r < 1048576) (sym own) (is.generations r lt);
      all_rows = ap (λ (xs : List OwnerEntry). length xs) own ∙ is.all_rows;
      mapped = λ h' m' is'.
          let old = taken-away (same_handle h' h) (value_of d.mappings h') m' (λ z. is.mapped h' m' z) (sym (out.updates h') ∙ is') in
          moved k c.domains.items may d.seat.dom e.seat.dom v w m' dom (λ there. u.records (position_in k.ids m'.dom) m'.gref.0 (m'.dir, entry_record_of m') there (some-pins k w e.mappings all h' m' is')) old;
      pins = all;
    }

-- after a map that was Ok
pub mapped : (b : Board) (c : Config) (may : AllowRelation) (d e : Domain) (h : Handle) (request : OpenRequest) (m : HeldPin) → IsDomainOf b c may d → IsSameSeat d.seat e.seat → e.own.items ≡ d.own.items
    → MapsBy (knowledge c may d) b.layout d.seat.dom request m d.seat.view e.seat.view → IsInserted d.mappings e.mappings h m → IsDomainOf b c may e
mapped b c may d e h request m is seat own x ins =
    let k = b.layout in let v = d.seat.view in let w = e.seat.view in
    let all : PinsAreOf k w e.mappings = λ t r a g.
    let one = x.pins.one_more t r a g in let counts = inserted-counted (is_mapping_of k t r a g) d.mappings e.mappings h m ins in let was = is.pins t r a g in
    let before : held t r a g x.before ≡ held t r a g v = ap (λ (ps : List LivePin). pins_like a g ps) (x.same.pins t r) in omega (arith, one, counts, was, before) in
    record {
      seat = still_seat b d.seat e.seat is.seat seat;
      rows = λ r lt. x.pins.rows.last r ∙ (x.same.records r ∙ (is.rows r lt ∙ same-rows c d.own.items e.own.items r own));
      generations = λ r lt. subst (λ (xs : List OwnerEntry). own_generation c.first_gen xs r < 1048576) (sym own) (is.generations r lt);
      all_rows = ap (λ (xs : List OwnerEntry). length xs) own ∙ is.all_rows;
      mapped = λ h' m' is'. added (same_handle h' h) (value_of d.mappings h') m m' (λ (z : HeldPin). IsMappingOf k c.domains.items may e.seat.dom w z)
          (subst (λ (z : DomId). IsMappingOf k c.domains.items may z w m) (sym seat.dom) x.mapping)
          (λ z.
          let t = position_in k.ids m'.dom in let r = m'.gref.0 in
          moved k c.domains.items may d.seat.dom e.seat.dom v w m' seat.dom
          (λ there. x.pins.records t r (m'.dir, entry_record_of m') (subst (λ (ps : List LivePin). IsAmong (m'.dir, entry_record_of m') ps) (sym (x.same.pins t r)) there) (some-pins k w e.mappings all h' m' is')) (is.mapped h' m' z))
          (sym (ins.updates h') ∙ is');
      pins = all;
    }

no-pin : (ps : List LivePin) → ((a : Dir) (g : ℕ) → pins_like a g ps ≡ 0) → ps ≡ []
no-pin [] h = refl
no-pin (p ∷ ps) h =
    let one = count-cons (is_pin p.0 p.1.generation) p ps in let nil = h p.0 p.1.generation in
    let here : is_pin p.0 p.1.generation p ≡ true = ap (λ (x : Bool). x && (p.1.generation == p.1.generation)) (dir-self p.0) ∙ eq-eqb p.1.generation p.1.generation refl in
    let w : ◌≡◌ {A = ℕ} (cond (is_pin p.0 p.1.generation p) 1 0) 1 = ap {B = ℕ} (λ (x : Bool). cond x 1 0) here in absurd (omega (arith, one, nil, w))

-- a domain without mappings has no pins
pub without-pins : (b : Board) (c : Config) (may : AllowRelation) (d : Domain) → IsDomainOf b c may d → count_of d.mappings ≡ 0 → (t r : ℕ) → live_pins (steps_on t r d.seat.view) ≡ []
without-pins b c may d is none t r = no-pin _ (λ a g. let was = is.pins t r a g in let few = counted-most (is_mapping_of b.layout t r a g) d.mappings in omega (arith, was, few, none))

-- whatever records a domain keeps
pub retold : (b : Board) (c : Config) (may : AllowRelation) (d e : Domain) → IsDomainOf b c may d → e.seat ≡ d.seat → e.own ≡ d.own → e.mappings ≡ d.mappings → IsDomainOf b c may e
retold b c may d e is seat own mappings =
    let here : IsDomainOf b c may (record e { seat = d.seat; own = d.own; mappings = d.mappings }) =
    record { seat = is.seat; rows = is.rows; generations = is.generations; all_rows = is.all_rows; mapped = is.mapped; pins = is.pins } in
    subst (λ (x : Domain). IsDomainOf b c may x)
    (ap (λ s. record e { seat = s; own = d.own; mappings = d.mappings }) (sym seat) ∙ (ap (λ o. record e { own = o; mappings = d.mappings }) (sym own) ∙ ap (λ m. record e { mappings = m }) (sym mappings))) here
