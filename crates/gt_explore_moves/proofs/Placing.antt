-- Mappings under handles whose serials are their places, one after the other.
use Rattle.std.proofs.Common.{◌≡◌, ◌+◌, ◌++◌, ℕ, suc, refl, List, [], ◌∷◌, length, Option, Some, None, sym, ap, ◌∙◌}
use Rattle.std.proofs.Common.{◌<◌, arith, subst, length-append, take, get_or}
use Rattle.std.proofs.lemmas.List.{length-map, map-append, take_more}
use Rattle.gt_types.specs.declared.DomId.{DomId}
use Rattle.gt_handles.specs.Handles.{HandleMap}
use Rattle.gt_handles.specs.Listing.{HasJust, InsertedIsListed, IsInserted}
use Rattle.gt_model.specs.declared.handle.Handle.{Handle}
use Rattle.gt_model.specs.declared.held.HeldPin.{HeldPin}
use Rattle.gt_script_runs.specs.Labels.{handle_in}
use Rattle.gt_script_runs.specs.Naming.{AreNamed}
use Rattle.gt_script_runs.specs.Runs.{Named, with_name}
use Rattle.gt_explore_moves.specs.Mappings.{labels_of, label_bytes}
use Rattle.gt_explore_moves.specs.Placing.{ArePlaced, CountFrom, place_names, place_names_after}
use Rattle.gt_explore_moves.specs.declared.actor.LabelledMapping.{LabelledMapping}
use Rattle.gt_explore_moves.specs.declared.names.ActorHandles.{ActorHandles}

count-more : (n : ℕ) (handles : List Handle) (handle : Handle) → CountFrom n handles → handle.serial ≡ n + length handles → CountFrom n (handles ++ handle ∷ [])
count-more n [] handle counts e = (let f : handle.serial ≡ n = omega arith in f, tt)
count-more n (first ∷ handles) handle counts e = (counts.0, count-more (suc n) handles handle counts.1 (let f : handle.serial ≡ suc n + length handles = omega arith in f))

names-more : (dom : DomId) (handles : List Handle) (labels : List (Option (List ℕ))) (named : List Named) (handle : Handle) (label : Option (List ℕ)) → length handles ≡ length labels
    → place_names_after dom (handles ++ handle ∷ []) (labels ++ label ∷ []) named ≡ with_name (place_names_after dom handles labels named) dom label (Some handle)
names-more dom [] [] named handle label e = refl
names-more dom (first ∷ handles) (one ∷ labels) named handle label e =
    names-more dom handles labels (with_name named dom one (Some first)) handle label (let f : length handles ≡ length labels = omega arith in f)
names-more dom [] (one ∷ labels) named handle label e = absurd (omega arith)
names-more dom (first ∷ handles) [] named handle label e = absurd (omega arith)

-- with other room the same values are there
room-else : (s : HandleMap HeldPin) (room : ℕ) (pairs : List (Handle × HeldPin)) (n : ℕ) → HasJust s pairs n → HasJust (record s { room = room }) pairs n
room-else s room pairs n j = record { named = j.named; count = j.count; given_is = j.given_is; apart = j.apart }

-- no mappings yet
pub none-placed : (dom : DomId) (n : ActorHandles) → HasJust n.mappings [] 0 → n.handles.items ≡ [] → ((d : ℕ) (label : List ℕ) → handle_in n.labels d label ≡ None) → ArePlaced dom [] n
none-placed dom n kept none names = record {
  pairs = [];
  kept = kept;
  pins = refl;
  handles = sym none;
  places = subst (CountFrom 0) (sym none) tt;
  labels = subst (λ (hs : List Handle). AreNamed n.labels (place_names dom hs [])) (sym none) names;
}

as-many : (dom : DomId) (mappings : List LabelledMapping) (n : ActorHandles) (a : ArePlaced dom mappings n) → length n.handles.items ≡ length mappings
as-many dom mappings n a =
    ap (λ (l : List Handle). length l) (sym a.handles) ∙ length-map a.pairs (λ (m : Handle × HeldPin). m.0)
    ∙ sym (length-map a.pairs (λ (m : Handle × HeldPin). m.1)) ∙ ap (λ (l : List HeldPin). length l) a.pins
    ∙ length-map mappings (λ (m : LabelledMapping). m.held)

-- one more
pub one-placed : (dom : DomId) (mappings : List LabelledMapping) (m : LabelledMapping) (old new : ActorHandles) (mid : HandleMap HeldPin) (handle : Handle) → InsertedIsListed HeldPin → ArePlaced dom mappings old
    → mid ≡ record old.mappings { room = mid.room } → handle.serial ≡ mid.given → IsInserted mid new.mappings handle m.held → new.handles.items ≡ old.handles.items ++ handle ∷ []
    → ((named : List Named) → AreNamed old.labels named → AreNamed new.labels (with_name named dom (label_bytes m.label) (Some handle)))
    → ArePlaced dom (mappings ++ m ∷ []) new
one-placed dom mappings m old new mid handle law a reserved serial ins pushed names =
    let before : HasJust mid a.pairs (length mappings) = subst (λ (s : HandleMap HeldPin). HasJust s a.pairs (length mappings)) (sym reserved) (room-else old.mappings mid.room a.pairs (length mappings) a.kept) in
    let many : length old.handles.items ≡ length mappings = as-many dom mappings old a in
    let labels : labels_of (mappings ++ m ∷ []) ≡ labels_of mappings ++ label_bytes m.label ∷ [] = map-append (λ (x : LabelledMapping). label_bytes x.label) mappings (m ∷ []) in
    let longer : length (labels_of mappings) ≡ length mappings = length-map mappings (λ (x : LabelledMapping). label_bytes x.label) in
    record {
      pairs = a.pairs ++ (handle, m.held) ∷ [];
      kept = subst (HasJust new.mappings (a.pairs ++ (handle, m.held) ∷ [])) (sym (length-append mappings (m ∷ [])))
          (law mid new.mappings handle m.held a.pairs (length mappings) ins before);
      pins = map-append (λ (x : Handle × HeldPin). x.1) a.pairs ((handle, m.held) ∷ []) ∙ ap (λ (l : List HeldPin). l ++ m.held ∷ []) a.pins
          ∙ sym (map-append (λ (x : LabelledMapping). x.held) mappings (m ∷ []));
      handles = map-append (λ (x : Handle × HeldPin). x.0) a.pairs ((handle, m.held) ∷ []) ∙ ap (λ (l : List Handle). l ++ handle ∷ []) a.handles ∙ sym pushed;
      places = subst (CountFrom 0) (sym pushed) (count-more 0 old.handles.items handle a.places
          (serial ∙ before.given_is ∙ sym many ∙ (let e : length old.handles.items ≡ 0 + length old.handles.items = omega arith in e)));
      labels = subst (AreNamed new.labels)
          (sym (ap (λ (hs : List Handle). place_names dom hs (labels_of (mappings ++ m ∷ []))) pushed
          ∙ ap (place_names dom (old.handles.items ++ handle ∷ [])) labels
          ∙ names-more dom old.handles.items (labels_of mappings) [] handle (label_bytes m.label) (many ∙ sym longer)))
          (names (place_names dom old.handles.items (labels_of mappings)) a.labels);
    }

-- the mapping at the next place too
pub placed-step : (dom : DomId) (held : List LabelledMapping) (i : ℕ) (d : LabelledMapping) (old new : ActorHandles) (mid : HandleMap HeldPin) (handle : Handle) → i < length held → InsertedIsListed HeldPin → ArePlaced dom (take i held) old
    → mid ≡ record old.mappings { room = mid.room } → handle.serial ≡ mid.given → IsInserted mid new.mappings handle (get_or held i d).held → new.handles.items ≡ old.handles.items ++ handle ∷ []
    → ((named : List Named) → AreNamed old.labels named → AreNamed new.labels (with_name named dom (label_bytes (get_or held i d).label) (Some handle)))
    → ArePlaced dom (take (i + 1) held) new
placed-step dom held i d old new mid handle lt law a reserved serial ins pushed names =
    subst (λ (ms : List LabelledMapping). ArePlaced dom ms new) (sym (take_more held i d lt)) (one-placed dom (take i held) (get_or held i d) old new mid handle law a reserved serial ins pushed names)
