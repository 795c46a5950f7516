-- A call of a line begins in a state as it does in the run.
use Rattle.std.proofs.Common.{◌≡◌, ◌+◌, ◌<◌, ◌^◌, ◌-◌, ◌⊎◌, ℕ, refl, List, length, map, Option, Some, None, sym, ap}
use Rattle.std.proofs.Common.{◌∙◌, arith, subst, Bor, inl, inr, ◌≤◌}
use Rattle.std.specs.Prelude.{slice_get, unwrap_or}
use Rattle.std.proofs.lemmas.List.{length-map}
use Rattle.std.proofs.lemmas.Option.{slice_get_past, none-some}
use Rattle.gt_types.specs.declared.DomId.{DomId}
use Rattle.gt_handles.specs.Handles.{value_of}
use Rattle.gt_model.specs.declared.handle.Handle.{Handle}
use Rattle.gt_model.specs.declared.action.CallResult.{CallResult}
use Rattle.gt_model.specs.declared.action.Step.{Step}
use Rattle.gt_calls.specs.declared.call.Call.{Call}
use Rattle.gt_model.specs.declared.held.HeldPin.{HeldPin}
use Rattle.gt_model.specs.declared.bounds.TheConstants.{SERIAL_LIMIT}
use Rattle.gt_model.specs.declared.request.OpenRequest.{OpenRequest}
use Rattle.gt_model.specs.declared.request.Request.{Request}
use Rattle.gt_model.specs.Asking.{asked, begun_of, bytes_of, plainly_asked}
use Rattle.gt_model.specs.History.{History, Setting, known_at, mapping_of, mappings_at, maps_answered_at, open_call}
use Rattle.gt_script_runs.specs.Runs.{Named, MakesRequest, handle_of, never_given, call_bytes, handle_labelled}
use Rattle.gt_script_runs.specs.Runs.{request_of}
use Rattle.gt_script_lines.specs.declared.calls.ScriptCall.{ScriptCall}
use Rattle.gt_explore_replay.specs.Courses.{Course, resting}
use Rattle.gt_script.specs.Lists.{RunTask}
use Rattle.gt_explore_moves.specs.Beginnings.{BeginsAlike, OpensSo}
use Rattle.gt_explore_moves.specs.Calls.{KnowsTable, SerialsRise, ShowsCalls, handles_at, known_by_place, known_in}
use Rattle.gt_explore_moves.specs.Calls.{pins_mapped_at, AsksByPlace}
use Rattle.gt_explore_moves.specs.Mappings.{labels_of, mapping_pins, label_bytes}
use Rattle.gt_explore_moves.specs.Placing.{ArePlaced, CountFrom, place_names, pin_by_place}
use Rattle.gt_explore_moves.specs.Renaming.{FindsSame, KnowAlike, asked_under}
use Rattle.gt_explore_moves.specs.declared.actor.Actor.{Actor}
use Rattle.gt_explore_moves.specs.declared.actor.LabelledMapping.{LabelledMapping}
use Rattle.gt_explore_moves.specs.declared.names.ActorHandles.{ActorHandles}
use Rattle.gt_explore_moves.specs.declared.scene.SearchContext.{SearchContext}
use Rattle.gt_explore_state.specs.declared.table.SparseTable.{SparseTable}
use Rattle.gt_explore_moves.proofs.ByPlace.{counted, names-alike, NamesAlike, NamesNothing, get-there}
use Rattle.gt_explore_moves.proofs.MappingFound.{count-rises, finds-alike, label_asked, listed-at, listed-gone}
use Rattle.gt_explore_moves.proofs.MappingFound.{mapping-listed, never-listed, request-renamed, same-found}
use Rattle.gt_explore_moves.proofs.Renaming.{alike-between, asked-renamed, begins-alike, begun-of-renamed, finds-own}
use Rattle.gt_explore_moves.proofs.Renaming.{own_handle}
use Rattle.gt_calls.specs.Opening.{opens}
use Rattle.gt_model.specs.Rules.{CallerKnowledge, release_begun}
use Rattle.gt_model.specs.declared.request.OpenRequest.TheVariants as asks
use Rattle.gt_script_runs.specs.Naming.{AreNamed}
use Rattle.gt_script_lines.specs.declared.calls.ScriptCall.TheVariants as script_calls
use Rattle.gt_model.specs.declared.request.Request.TheVariants as requests
use Rattle.gt_explore_moves.specs.Starting.{BeginsAsRun, GivesAsRun}
use Rattle.gt_explore_moves.proofs.CallOpened.{rests}
use Rattle.gt_explore_moves.specs.declared.calls.CallOpening.{CallOpening}
use Rattle.gt_explore_moves.specs.declared.calls.CallOpening.TheVariants.{Open, Done}

-- what is known of the domain's table in the state and by what happened is alike
pub knows-alike : (s : Setting) (h : History) (d : DomId) (scene : SearchContext) (a : Actor) (t : SparseTable) (n : ActorHandles) → KnowsTable s h d scene t → ArePlaced d a.mappings.items n → mapping_pins a.mappings.items ≡ pins_mapped_at h d
    → maps_answered_at h d.0 < SERIAL_LIMIT → length a.mappings.items < SERIAL_LIMIT → KnowAlike (known_at s h d) (known_in scene t n.mappings)
knows-alike s h d scene a t n table placed pins below also = record {
  domains = table.domains;
  may = table.may;
  entry = table.entries;
  generation = table.generations;
  header = table.header;
  in_use = placed.kept.count ∙ sym (length-map placed.pairs (λ (m : Handle × HeldPin). m.1)) ∙ ap (λ (l : List HeldPin). length l) (placed.pins ∙ pins) ∙ length-map (mappings_at h d.0) (λ (m : Handle × HeldPin). m.1);
  below = below;
  also_below = subst (λ (m : ℕ). m < SERIAL_LIMIT) (sym placed.kept.given_is) also;
}

-- and alike to that by places
pub place-alike : (s : Setting) (h : History) (d : DomId) → maps_answered_at h d.0 < SERIAL_LIMIT → KnowAlike (known_at s h d) (known_by_place s h d)
place-alike s h d below = record {
  domains = refl;
  may = refl;
  entry = refl;
  generation = refl;
  header = refl;
  in_use = refl;
  below = below;
  also_below = (let e : 0 < SERIAL_LIMIT = omega arith in e);
}

module _ (s : Setting) (h : History) (tasks : List RunTask) (k : Course) (scene : SearchContext) (a : Actor) (t : SparseTable) (n : ActorHandles) (show : ShowsCalls s h tasks k a) (table : KnowsTable s h k.dom scene t) (placed : ArePlaced k.dom a.mappings.items n)
    (below : maps_answered_at h k.dom.0 < SERIAL_LIMIT) (few : length a.mappings.items < SERIAL_LIMIT) where
  abbrev names : List Named
  names = place_names k.dom n.handles.items (labels_of a.mappings.items)

  many-labels : length n.handles.items ≡ length (labels_of a.mappings.items)
  many-labels = ap (λ (l : List Handle). length l) (sym placed.handles) ∙ length-map placed.pairs (λ (m : Handle × HeldPin). m.0) ∙ sym (length-map placed.pairs (λ (m : Handle × HeldPin). m.1))
      ∙ ap (λ (l : List HeldPin). length l) placed.pins ∙ length-map a.mappings.items (λ (m : LabelledMapping). m.held) ∙ sym (length-map a.mappings.items (λ (m : LabelledMapping). label_bytes m.label))

  many-handles : length (handles_at h k.dom) ≡ length (labels_of a.mappings.items)
  many-handles = length-map (mappings_at h k.dom.0) (λ (m : Handle × HeldPin). m.0) ∙ sym (length-map (mappings_at h k.dom.0) (λ (m : Handle × HeldPin). m.1))
      ∙ ap (λ (l : List HeldPin). length l) (sym show.pins) ∙ length-map a.mappings.items (λ (m : LabelledMapping). m.held) ∙ sym (length-map a.mappings.items (λ (m : LabelledMapping). label_bytes m.label))

  -- what the label of a call names
  pub named-so : (label : List ℕ) → NamesAlike k.named names k.dom (handles_at h k.dom) n.handles.items label ⊎ NamesNothing k.named names k.dom (handles_at h k.dom) label
  named-so label = names-alike k.named k.dom (handles_at h k.dom) n.handles.items (labels_of a.mappings.items) label placed.places many-labels many-handles show.labels

  no-run : mapping_of (mappings_at h k.dom.0) never_given ≡ None
  no-run = mapping-listed (mappings_at h k.dom.0) never_given ∙ never-listed 0 (mappings_at h k.dom.0) (maps_answered_at h k.dom.0) show.rising (omega arith)

  gone-run : (handle : Handle) → ((at : ℕ) → slice_get (handles_at h k.dom) at ≡ Some handle → ⊥) → mapping_of (mappings_at h k.dom.0) handle ≡ None
  gone-run handle gone = mapping-listed (mappings_at h k.dom.0) handle ∙ listed-gone (mappings_at h k.dom.0) handle gone

  run-at : (at : ℕ) (handle : Handle) → slice_get (handles_at h k.dom) at ≡ Some handle → mapping_of (mappings_at h k.dom.0) handle ≡ slice_get (pins_mapped_at h k.dom) at
  run-at at handle there = mapping-listed (mappings_at h k.dom.0) handle ∙ listed-at 0 (mappings_at h k.dom.0) (maps_answered_at h k.dom.0) at handle show.rising there

  pairs-rise : SerialsRise 0 (map (λ (m : Handle × HeldPin). m.0) placed.pairs) (0 + length (map (λ (m : Handle × HeldPin). m.0) placed.pairs))
  pairs-rise = count-rises 0 (map (λ (m : Handle × HeldPin). m.0) placed.pairs) (subst (CountFrom 0) (sym placed.handles) placed.places)

  state-at : (at : ℕ) (handle place : Handle) → slice_get (handles_at h k.dom) at ≡ Some handle → slice_get n.handles.items at ≡ Some place → value_of n.mappings place ≡ mapping_of (mappings_at h k.dom.0) handle
  state-at at handle place there here =
      ap (λ (f : Handle → Option HeldPin). f place) placed.kept.named
      ∙ listed-at 0 placed.pairs (0 + length (map (λ (m : Handle × HeldPin). m.0) placed.pairs)) at place pairs-rise (ap (λ (l : List Handle). slice_get l at) placed.handles ∙ here)
      ∙ ap (λ (l : List HeldPin). slice_get l at) (placed.pins ∙ show.pins) ∙ sym (run-at at handle there)

  no-state : value_of n.mappings never_given ≡ None
  no-state = ap (λ (f : Handle → Option HeldPin). f never_given) placed.kept.named
      ∙ never-listed 0 placed.pairs (0 + length (map (λ (m : Handle × HeldPin). m.0) placed.pairs)) pairs-rise
      (let e : length (map (λ (m : Handle × HeldPin). m.0) placed.pairs) ≡ length a.mappings.items = ap (λ (l : List Handle). length l) placed.handles ∙ many-labels ∙ length-map a.mappings.items (λ (m : LabelledMapping). label_bytes m.label) in omega arith)

  no-place : pin_by_place (pins_mapped_at h k.dom) never_given ≡ None
  no-place = slice_get_past (pins_mapped_at h k.dom) (2 ^ 64 - 1)
      (let e : length (pins_mapped_at h k.dom) ≡ length a.mappings.items = ap (λ (l : List HeldPin). length l) (sym show.pins) ∙ length-map a.mappings.items (λ (m : LabelledMapping). m.held) in omega arith)

  -- by the label of a call the state finds the mapping that the run finds
  state-finds : (label : List ℕ) → value_of n.mappings (handle_of names k.dom label) ≡ mapping_of (mappings_at h k.dom.0) (handle_of k.named k.dom label)
  state-finds label = same-found (value_of n.mappings) (mapping_of (mappings_at h k.dom.0)) k.named names k.dom (handles_at h k.dom) n.handles.items label state-at gone-run no-state no-run (named-so label)

  place-finds : (label : List ℕ) → pin_by_place (pins_mapped_at h k.dom) (handle_of names k.dom label) ≡ mapping_of (mappings_at h k.dom.0) (handle_of k.named k.dom label)
  place-finds label = same-found (pin_by_place (pins_mapped_at h k.dom)) (mapping_of (mappings_at h k.dom.0)) k.named names k.dom (handles_at h k.dom) n.handles.items label
      (λ at handle place there here. ap (slice_get (pins_mapped_at h k.dom)) (counted 0 n.handles.items at place placed.places here ∙ (let e : 0 + at ≡ at = omega arith in e)) ∙ sym (run-at at handle there))
      gone-run no-place no-run (named-so label)

  -- the handle that a label names has a mapping in the run only if in the state it names the place of that mapping
  place-of : (label : List ℕ) (m : HeldPin) → mapping_of (mappings_at h k.dom.0) (handle_of k.named k.dom label) ≡ Some m
      → slice_get (handles_at h k.dom) (handle_of names k.dom label).serial ≡ Some (handle_of k.named k.dom label)
  place-of label m found = by (named-so label) where
    none : NamesNothing k.named names k.dom (handles_at h k.dom) label → (o : Option Handle) → handle_labelled k.named k.dom.0 label ≡ o → mapping_of (mappings_at h k.dom.0) (unwrap_or o never_given) ≡ None
    none n None e = no-run
    none n (Some handle) e = gone-run handle (λ at there. n.gone at handle there e)

    by : NamesAlike k.named names k.dom (handles_at h k.dom) n.handles.items label ⊎ NamesNothing k.named names k.dom (handles_at h k.dom) label
        → slice_get (handles_at h k.dom) (handle_of names k.dom label).serial ≡ Some (handle_of k.named k.dom label)
    by (inl x) =
        ap (λ (o : Option Handle). slice_get (handles_at h k.dom) (unwrap_or o never_given).serial) x.names_is ∙ ap (slice_get (handles_at h k.dom)) x.serial
        ∙ x.there ∙ sym (ap (λ (o : Option Handle). Some (unwrap_or o never_given)) x.named_is)
    by (inr x) = absurd (none-some m (sym (none x (handle_labelled k.named k.dom.0 label) refl) ∙ found))

  in-place-by : (call : ScriptCall) (bytes : Bor (List ℕ)) → begun_of (known_at s h k.dom) k.dom (request_of k.named k.dom bytes call) ≡ None
      → AsksByPlace (handles_at h k.dom) (handle_of names k.dom (label_asked call)) (asked (request_of k.named k.dom bytes call))
  unfolding request_of
  in-place-by (script_calls.Unmap label) bytes e = let o = opens (known_at s h k.dom) k.dom (asks.Unmap (handle_of k.named k.dom label)) e in place-of label o.mapping o.found
  in-place-by (script_calls.Load label off len) bytes e = let o = opens (known_at s h k.dom) k.dom (asks.Load (handle_of k.named k.dom label) off len) e in place-of label o.mapping o.found
  in-place-by (script_calls.Store label off hex) bytes e = let o = opens (known_at s h k.dom) k.dom (asks.Store (handle_of k.named k.dom label) off (length bytes.now)) e in place-of label o.mapping o.found
  in-place-by call bytes e = tt

  module _ (choice : ℕ) (handle place : Handle) (there : slice_get (handles_at h k.dom) choice ≡ Some handle) (here : slice_get n.handles.items choice ≡ Some place) where
    serial-is : place.serial ≡ choice
    serial-is = counted 0 n.handles.items choice place placed.places here ∙ (let e : 0 + choice ≡ choice = omega arith in e)

    alike-known : KnowAlike (known_at s h k.dom) (known_in scene t n.mappings)
    alike-known = knows-alike s h k.dom scene a t n table placed show.pins below few

    gives-as-run : begun_of (known_in scene t n.mappings) k.dom (requests.Release place) ≡ begun_of (known_at s h k.dom) k.dom (requests.Release handle)
    gives-as-run = begun-of-renamed (known_at s h k.dom) (known_in scene t n.mappings) k.dom place (requests.Release handle) (requests.Release place) alike-known (state-at choice handle place there here) refl refl

    gives-by-place : BeginsAlike (known_by_place s h k.dom) (known_in scene t n.mappings) k.dom (requests.Release place)
    gives-by-place = begins-alike (known_in scene t n.mappings) (known_by_place s h k.dom) k.dom (requests.Release place)
        (alike-between (known_at s h k.dom) (known_in scene t n.mappings) (known_by_place s h k.dom) alike-known (place-alike s h k.dom below))
        (ap (slice_get (pins_mapped_at h k.dom)) serial-is ∙ sym (run-at choice handle there) ∙ sym (state-at choice handle place there here))

    -- the release of the mapping at a place begins as in the run
    pub gives-run : (now : Call) (step : Step) → ((z : CallerKnowledge) → BeginsAlike z (known_in scene t n.mappings) k.dom (requests.Release place) → OpensSo z k.dom (requests.Release place) (Open now step)) → GivesAsRun s h k.dom handle choice (Some (now, step))
    gives-run now step opened = let o = opened (known_by_place s h k.dom) gives-by-place in
        (sym gives-as-run ∙ sym gives-by-place.begins ∙ o.unanswered, (place, serial-is, o))

    -- it is not refused, since there is a mapping
    pub gives-open : (verdict : CallResult) → ((z : CallerKnowledge) → BeginsAlike z (known_in scene t n.mappings) k.dom (requests.Release place) → OpensSo z k.dom (requests.Release place) (Done verdict)) → ⊥
    gives-open verdict opened =
        let many : length (handles_at h k.dom) ≡ length (pins_mapped_at h k.dom) = length-map (mappings_at h k.dom.0) (λ (m : Handle × HeldPin). m.0) ∙ sym (length-map (mappings_at h k.dom.0) (λ (m : Handle × HeldPin). m.1)) in
        let pin = get-there (handles_at h k.dom) (pins_mapped_at h k.dom) choice handle many there in
        let found : value_of n.mappings place ≡ Some pin.0 = state-at choice handle place there here ∙ run-at choice handle there ∙ pin.1 in
        none-some verdict (sym (ap (λ (m : Option HeldPin). release_begun (λ z. m) place) found) ∙ opened (known_in scene t n.mappings) (record { header = refl; begins = refl; judged = refl; first = refl }))

  module _ (call : ScriptCall) (q p : Request) (is_made : MakesRequest k.named k.dom call q) (says : MakesRequest names k.dom call p) where
    abbrev place : Handle
    place = handle_of names k.dom (label_asked call)

    renamed : (bytes_of p ≡ bytes_of q) × (plainly_asked p ≡ asked_under place (plainly_asked q))
    renamed = request-renamed k.named names k.dom call q p is_made says

    -- it asks the same but for its handle
    pub asks-by-place : asked p ≡ asked_under place (asked q)
    asks-by-place = asked-renamed place q p renamed.0 renamed.1

    alike : KnowAlike (known_at s h k.dom) (known_in scene t n.mappings)
    alike = knows-alike s h k.dom scene a t n table placed show.pins below few

    -- it is judged as in the run
    pub begins-as-run : begun_of (known_in scene t n.mappings) k.dom p ≡ begun_of (known_at s h k.dom) k.dom q
    begins-as-run = begun-of-renamed (known_at s h k.dom) (known_in scene t n.mappings) k.dom place q p alike
        (finds-alike (value_of n.mappings) (mapping_of (mappings_at h k.dom.0)) k.named names k.dom call q is_made (state-finds (label_asked call))) renamed.0 renamed.1

    -- and it begins so by what is known by places
    pub begins-by-place : BeginsAlike (known_by_place s h k.dom) (known_in scene t n.mappings) k.dom p
    begins-by-place = begins-alike (known_in scene t n.mappings) (known_by_place s h k.dom) k.dom p
        (alike-between (known_at s h k.dom) (known_in scene t n.mappings) (known_by_place s h k.dom) alike (place-alike s h k.dom below))
        (subst (λ (r : OpenRequest). FindsSame (pin_by_place (pins_mapped_at h k.dom)) (own_handle r) (value_of n.mappings) r) (sym asks-by-place)
        (finds-own (pin_by_place (pins_mapped_at h k.dom)) (value_of n.mappings) place (asked q) (place-finds (label_asked call) ∙ sym (state-finds (label_asked call)))))

    -- one that is open asks by the place of its mapping
    in-place : begun_of (known_at s h k.dom) k.dom q ≡ None → AsksByPlace (handles_at h k.dom) place (asked q)
    in-place e = subst (λ (r : Request). AsksByPlace (handles_at h k.dom) place (asked r)) (sym is_made.2)
        (in-place-by call is_made.0 (ap (begun_of (known_at s h k.dom) k.dom) (sym is_made.2) ∙ e))

    same-self : BeginsAlike (known_in scene t n.mappings) (known_in scene t n.mappings) k.dom p
    same-self = record { header = refl; begins = refl; judged = refl; first = refl }

    -- it begins as in the run
    pub begins-run : (result : CallOpening) → ((z : CallerKnowledge) → BeginsAlike z (known_in scene t n.mappings) k.dom p → OpensSo z k.dom p result) → BeginsAsRun s h k.dom q result
    begins-run (Done verdict) opened = sym begins-as-run ∙ opened (known_in scene t n.mappings) same-self
    begins-run (Open now step) opened = let o = opened (known_by_place s h k.dom) begins-by-place in
        let none : begun_of (known_at s h k.dom) k.dom q ≡ None = sym begins-as-run ∙ sym begins-by-place.begins ∙ o.unanswered in
        (none, (p, place, asks-by-place, in-place none, o))

-- the call of a line of this domain begins as in the run
pub begun-line : (s : Setting) (h : History) (tasks : List RunTask) (k : Course) (scene : SearchContext) (a : Actor) (t : SparseTable) (d : DomId) (n : ActorHandles) (call : ScriptCall) (q p : Request) (bytes : Bor (List ℕ)) (result : CallOpening) → d ≡ k.dom → ShowsCalls s h tasks k a → length tasks < 2 ^ 63
    → KnowsTable s h k.dom scene t → ArePlaced d a.mappings.items n → MakesRequest k.named k.dom call q → bytes.now ≡ call_bytes call → ((named : List Named) → AreNamed n.labels named → p ≡ request_of named d bytes call)
    → ((z : CallerKnowledge) → BeginsAlike z (known_in scene t n.mappings) d p → OpensSo z d p result) → BeginsAsRun s h k.dom q result
begun-line s h tasks k scene a t d n call q p bytes result dom show short table placed is_made hex asked-so opened =
    let there : ArePlaced k.dom a.mappings.items n = subst (λ (x : DomId). ArePlaced x a.mappings.items n) dom placed in
    let names-now : List Named = place_names k.dom n.handles.items (labels_of a.mappings.items) in
    let few = show.few in let begun = show.begun in let ok = a.mappings.ok in let small = a.mappings.small in
    let below : maps_answered_at h k.dom.0 < SERIAL_LIMIT = omega arith in
    let many : length a.mappings.items < SERIAL_LIMIT = (let len : a.mappings.len ≡ length a.mappings.items = ok.0 in let le : a.mappings.len ≤ a.mappings.cap = ok.1 in omega arith) in
    begins-run s h tasks k scene a t n show table there below many call q p is_made
    (bytes, hex, subst (λ (x : DomId). p ≡ request_of names-now x bytes call) dom (asked-so names-now there.labels)) result
    (subst (λ (x : DomId). (z : CallerKnowledge) → BeginsAlike z (known_in scene t n.mappings) x p → OpensSo z x p result) dom opened)

module _ (s : Setting) (h : History) (tasks : List RunTask) (k : Course) (scene : SearchContext) (a : Actor) (t : SparseTable) (d : DomId) (n : ActorHandles) (choice : ℕ) (handle : Handle) (dom : d ≡ k.dom) (show : ShowsCalls s h tasks k a) (short : length tasks < 2 ^ 63)
    (table : KnowsTable s h k.dom scene t) (placed : ArePlaced d a.mappings.items n) (rest : k.opened ≡ resting) (held : slice_get k.held choice ≡ Some handle) where
  at-choice : slice_get (handles_at h k.dom) choice ≡ Some handle
  at-choice = ap (λ (l : List Handle). slice_get l choice) (sym (rests s h tasks k a.next k.opened (open_call h k.dom.0) a.«open» rest show.opens)) ∙ held

  placed-there : ArePlaced k.dom a.mappings.items n
  placed-there = subst (λ (x : DomId). ArePlaced x a.mappings.items n) dom placed

  as-many-there : length (handles_at h k.dom) ≡ length n.handles.items
  as-many-there = length-map (mappings_at h k.dom.0) (λ (m : Handle × HeldPin). m.0) ∙ sym (length-map (mappings_at h k.dom.0) (λ (m : Handle × HeldPin). m.1)) ∙ ap (λ (l : List HeldPin). length l) (sym (placed-there.pins ∙ show.pins))
      ∙ length-map placed-there.pairs (λ (m : Handle × HeldPin). m.1) ∙ sym (length-map placed-there.pairs (λ (m : Handle × HeldPin). m.0)) ∙ ap (λ (l : List Handle). length l) placed-there.handles

  -- a domain that holds a mapping at a place has a handle there
  pub given-there : slice_get n.handles.items choice ≡ None → ⊥
  given-there none = let there = get-there (handles_at h k.dom) n.handles.items choice handle as-many-there at-choice in none-some there.0 (sym none ∙ there.1)

  few-mappings : length a.mappings.items < SERIAL_LIMIT
  few-mappings = let ok = a.mappings.ok in let small = a.mappings.small in let len : a.mappings.len ≡ length a.mappings.items = ok.0 in let le : a.mappings.len ≤ a.mappings.cap = ok.1 in omega arith

  few-answered : maps_answered_at h k.dom.0 < SERIAL_LIMIT
  few-answered = let few = show.few in let begun = show.begun in omega arith

  -- what the start of a release of it gives, by what is known in the state
  abbrev pub Starts : Handle → CallOpening → Type 0
  Starts place result = (z : CallerKnowledge) → BeginsAlike z (known_in scene t n.mappings) d (requests.Release place) → OpensSo z d (requests.Release place) result

  starts-there : (place : Handle) (result : CallOpening) → Starts place result → (z : CallerKnowledge) → BeginsAlike z (known_in scene t n.mappings) k.dom (requests.Release place) → OpensSo z k.dom (requests.Release place) result
  starts-there place result opened = subst (λ (x : DomId). (z : CallerKnowledge) → BeginsAlike z (known_in scene t n.mappings) x (requests.Release place) → OpensSo z x (requests.Release place) result) dom opened

  -- it begins as in the run
  pub given-line : (place : Handle) (now : Call) (step : Step) → slice_get n.handles.items choice ≡ Some place → Starts place (Open now step) → GivesAsRun s h k.dom handle choice (Some (now, step))
  given-line place now step here opened =
      gives-run s h tasks k scene a t n show table placed-there few-answered few-mappings choice handle place at-choice here now step (starts-there place (Open now step) opened)

  -- it is not refused
  pub given-open : (place : Handle) (verdict : CallResult) → slice_get n.handles.items choice ≡ Some place → Starts place (Done verdict) → ⊥
  given-open place verdict here opened =
      gives-open s h tasks k scene a t n show table placed-there few-answered few-mappings choice handle place at-choice here verdict (starts-there place (Done verdict) opened)
