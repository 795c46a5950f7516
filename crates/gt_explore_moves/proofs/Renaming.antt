-- A call does the same under another handle, if that finds the same mapping.
use Rattle.std.proofs.Common.{◌≡◌, ◌<◌, ℕ, refl, false, List, Option, Some, None, sym, ap, ◌∙◌, arith, subst}
use Rattle.std.specs.Prelude.{nat_le}
use Rattle.std.specs.Option.{option_map}
use Rattle.gt_model.specs.declared.handle.Handle.{Handle}
use Rattle.gt_types.specs.declared.DomId.{DomId}
use Rattle.gt_types.specs.declared.GrantRef.{GrantRef}
use Rattle.gt_model.specs.declared.held.HeldPin.{HeldPin}
use Rattle.gt_model.specs.declared.bounds.TheConstants.{SERIAL_LIMIT}
use Rattle.gt_model.specs.declared.request.OpenRequest.{OpenRequest}
use Rattle.gt_model.specs.declared.request.Request.{Request}
use Rattle.gt_model.specs.declared.request.Request.TheVariants as requests
use Rattle.gt_model.specs.Asking.{asked, asked_by, begun_by, begun_of, bytes_of, plainly_asked}
use Rattle.gt_model.specs.declared.request.OpenRequest.TheVariants.{Map, Unmap, Release, Load, Store}
use Rattle.gt_model.specs.declared.action.Observation.{Observation}
use Rattle.gt_model.specs.declared.action.CallResult.{CallResult}
use Rattle.gt_model.specs.Rules.{CallerKnowledge, begun}
use Rattle.gt_calls.specs.Machine.{first_phase, load_phase, store_phase, unmap_phase}
use Rattle.gt_model.specs.Path.{path, after_beginning, steps_of}
use Rattle.gt_explore_moves.specs.Beginnings.{BeginsAlike}
use Rattle.gt_explore_moves.specs.Renaming.{asked_under, action_under, FindsSame, KnowAlike}

-- the same, but for mappings and maps answered
abbrev with_mappings : CallerKnowledge → (Handle → Option HeldPin) → ℕ → CallerKnowledge
with_mappings k found n = record k { mapping = found; maps_answered = n }

-- no caller is at the end of its serials
not-at-end : (n : ℕ) → n < SERIAL_LIMIT → nat_le SERIAL_LIMIT n ≡ false
not-at-end n lt = grind arith

same-end : (m n : ℕ) → m < SERIAL_LIMIT → n < SERIAL_LIMIT → nat_le SERIAL_LIMIT n ≡ nat_le SERIAL_LIMIT m
same-end m n below also = not-at-end n also ∙ sym (not-at-end m below)

begun-map : (k : CallerKnowledge) (found : Handle → Option HeldPin) (n : ℕ) (d dom : DomId) (gref : GrantRef) (flags : ℕ)
    → k.maps_answered < SERIAL_LIMIT → n < SERIAL_LIMIT
    → begun (with_mappings k found n) d (Map dom gref flags) ≡ begun k d (Map dom gref flags)
begun-map k found n d dom gref flags below also = rw (not-at-end n also) (rw (not-at-end k.maps_answered below) refl)

path-found : (k : CallerKnowledge) (found : Handle → Option HeldPin) (n : ℕ) (d : DomId) (b : Handle) (r : OpenRequest) (vs : List Observation)
    → k.maps_answered < SERIAL_LIMIT → n < SERIAL_LIMIT → FindsSame found b k.mapping r
    → option_map (action_under b) (path (with_mappings k found n) d (asked_under b r) vs) ≡ option_map (action_under b) (path k d r vs)
path-found k found n d b (Unmap a) vs below also finds = grind arith
path-found k found n d b (Release a) vs below also finds = grind arith
path-found k found n d b (Load a off len) vs below also finds = grind arith
path-found k found n d b (Store a off len) vs below also finds = grind arith
path-found k found n d b (Map dom gref flags) vs below also finds =
    ap (λ (v : Option CallResult). option_map (action_under b) (after_beginning v (steps_of k d (Map dom gref flags)) vs))
    (begun-map k found n d dom gref flags below also)
path-found k found n d b r vs below also finds = refl

same-but-mappings : (k l : CallerKnowledge) → KnowAlike k l → l ≡ with_mappings k l.mapping l.maps_answered
same-but-mappings k l alike = grind arith

pub path-renamed : (k l : CallerKnowledge) (d : DomId) (b : Handle) (r : OpenRequest) (vs : List Observation) → KnowAlike k l → FindsSame l.mapping b k.mapping r
    → option_map (action_under b) (path l d (asked_under b r) vs) ≡ option_map (action_under b) (path k d r vs)
path-renamed k l d b r vs alike found =
    ap (λ (z : CallerKnowledge). option_map (action_under b) (path z d (asked_under b r) vs)) (same-but-mappings k l alike)
    ∙ path-found k l.mapping l.maps_answered d b r vs alike.below alike.also_below found

begun-found : (k : CallerKnowledge) (found : Handle → Option HeldPin) (n : ℕ) (d : DomId) (b : Handle) (r : OpenRequest)
    → k.maps_answered < SERIAL_LIMIT → n < SERIAL_LIMIT → FindsSame found b k.mapping r
    → begun (with_mappings k found n) d (asked_under b r) ≡ begun k d r
begun-found k found n d b (Unmap a) below also finds = grind arith
begun-found k found n d b (Release a) below also finds = grind arith
begun-found k found n d b (Load a off len) below also finds = grind arith
begun-found k found n d b (Store a off len) below also finds = grind arith
begun-found k found n d b (Map dom gref flags) below also finds = begun-map k found n d dom gref flags below also
begun-found k found n d b r below also finds = refl

-- a beginning is judged so too
pub begun-renamed : (k l : CallerKnowledge) (d : DomId) (b : Handle) (r : OpenRequest) → KnowAlike k l → FindsSame l.mapping b k.mapping r
    → begun l d (asked_under b r) ≡ begun k d r
begun-renamed k l d b r alike found =
    ap (λ (z : CallerKnowledge). begun z d (asked_under b r)) (same-but-mappings k l alike)
    ∙ begun-found k l.mapping l.maps_answered d b r alike.below alike.also_below found

-- and of a request that says the same under another handle
pub begun-of-renamed : (k l : CallerKnowledge) (d : DomId) (b : Handle) (q p : Request) → KnowAlike k l → FindsSame l.mapping b k.mapping (asked q)
    → bytes_of p ≡ bytes_of q → plainly_asked p ≡ asked_under b (plainly_asked q) → begun_of l d p ≡ begun_of k d q
begun-of-renamed k l d b q p alike found same asks =
    ap (begun_by l d p) same ∙ by (bytes_of q) refl where
      by : (o : Option (GrantRef × List ℕ)) → bytes_of q ≡ o → begun_by l d p o ≡ begun_by k d q o
      by None is = ap (begun l d) asks ∙ begun-renamed k l d b (plainly_asked q) alike (subst (λ (z : Option (GrantRef × List ℕ)). FindsSame l.mapping b k.mapping (asked_by q z)) is found)
      by (Some z) is = rw alike.header (rw alike.entry (rw alike.generation refl))

pub asked-renamed : (b : Handle) (q p : Request) → bytes_of p ≡ bytes_of q → plainly_asked p ≡ asked_under b (plainly_asked q) → asked p ≡ asked_under b (asked q)
asked-renamed b q p same asks = ap (asked_by p) same ∙ by (bytes_of q) where
  by : (o : Option (GrantRef × List ℕ)) → asked_by p o ≡ asked_under b (asked_by q o)
  by None = asks
  by (Some z) = refl

-- by what is known alike

-- the handle that is asked by
abbrev pub own_handle : OpenRequest → Handle
own_handle (Unmap a) = a
own_handle (Release a) = a
own_handle (Load a off len) = a
own_handle (Store a off len) = a
own_handle request = record { serial = 0; key = 0 }

under-own : (r : OpenRequest) → asked_under (own_handle r) r ≡ r
under-own (Unmap a) = refl
under-own (Release a) = refl
under-own (Load a off len) = refl
under-own (Store a off len) = refl
under-own r = refl

first-found : (k : CallerKnowledge) (found : Handle → Option HeldPin) (n : ℕ) (d : DomId) (r : OpenRequest) → FindsSame found (own_handle r) k.mapping r
    → first_phase (with_mappings k found n) d r ≡ first_phase k d r
first-found k found n d (Unmap a) finds = ap (unmap_phase a) finds
first-found k found n d (Release a) finds = ap (unmap_phase a) finds
first-found k found n d (Load a off len) finds = ap (λ (m : Option HeldPin). load_phase m off len) finds
first-found k found n d (Store a off len) finds = ap (λ (m : Option HeldPin). store_phase m off len) finds
first-found k found n d r finds = refl

plain-own : (q : Request) → plainly_asked q ≡ asked_under (own_handle (asked q)) (plainly_asked q)
plain-own (requests.GrantBytes gref bytes) = refl
plain-own q = refl

-- what begins a call is the same if it finds the same mapping by the handle of the request
pub begins-alike : (k l : CallerKnowledge) (d : DomId) (q : Request) → KnowAlike k l → FindsSame l.mapping (own_handle (asked q)) k.mapping (asked q) → BeginsAlike l k d q
begins-alike k l d q alike found = record {
  header = alike.header;
  begins = begun-of-renamed k l d (own_handle (asked q)) q q alike found refl (plain-own q);
  judged = ap (begun l d) (sym (under-own (asked q))) ∙ begun-renamed k l d (own_handle (asked q)) (asked q) alike found;
  first = ap (λ (z : CallerKnowledge). first_phase z d (asked q)) (same-but-mappings k l alike) ∙ first-found k l.mapping l.maps_answered d (asked q) found;
}

-- a request under another handle is found by that one
pub finds-own : (found mapping : Handle → Option HeldPin) (b : Handle) (r : OpenRequest) → found b ≡ mapping b → FindsSame found (own_handle (asked_under b r)) mapping (asked_under b r)
finds-own found mapping b (Unmap a) e = e
finds-own found mapping b (Release a) e = e
finds-own found mapping b (Load a off len) e = e
finds-own found mapping b (Store a off len) e = e
finds-own found mapping b r e = tt

-- what two know like a third they know alike
pub alike-between : (k l m : CallerKnowledge) → KnowAlike k l → KnowAlike k m → KnowAlike l m
alike-between k l m a b = record {
  domains = b.domains ∙ sym a.domains;
  may = b.may ∙ sym a.may;
  entry = b.entry ∙ sym a.entry;
  generation = b.generation ∙ sym a.generation;
  header = b.header ∙ sym a.header;
  in_use = b.in_use ∙ sym a.in_use;
  below = a.also_below;
  also_below = b.also_below;
}
