-- Several maps in one call, and their release if one of them is refused.
use Rattle.std.proofs.Common.{◌≡◌, ◌∙◌, ◌⊎◌, ◌<◌, ◌≤◌, ℕ, zero, suc, ap, arith, inl, inr, refl, subst, sym}
use Rattle.std.proofs.Common.{Bool, true, false, List, [], ◌∷◌, map, length, Option, Some, None, IsSome, Result, Ok, Err}
use Rattle.std.specs.Prelude.{cond, ◌==◌, slice_index_or, OnOk}
use Rattle.std.specs.List.{slice_get}
use Rattle.std.proofs.Math.ListN.{set}
use Rattle.std.proofs.Math.Nat.{eq-or-lt_of_le}
use Rattle.std.proofs.lemmas.Bool.{and_parts, and_from, eq-eqb, eqb-true, true≢false}
use Rattle.std.proofs.lemmas.Option.{same_Some, slice_get_within}
use Rattle.gt_types.specs.declared.denial.Denial.{Denial}
use Rattle.gt_handles.specs.Handles.{HandleMap, under, value_of}
use Rattle.gt_handles.specs.declared.handles.HandleSlot.{HandleSlot}
use Rattle.gt_model.specs.Asking.{same_handle}
use Rattle.gt_model.specs.declared.handle.Handle.{Handle}
use Rattle.gt_model.specs.declared.held.HeldPin.{HeldPin}
use Rattle.gt_model.specs.declared.action.CallResult.TheVariants.{Granted}
use Rattle.gt_model.specs.declared.request.Request.TheVariants as requests
use Rattle.gt_live.specs.Domains.{AllowRelation, Answered, verdict_of}
use Rattle.gt_live.specs.Parts.{trail_of}
use Rattle.gt_live.specs.Mappings.{AddsMapping, Removes}
use Rattle.gt_live.specs.declared.domain.Domain.{Domain}
use Rattle.gt_live.specs.declared.domain.mappings.NewMapping.{NewMapping}
use Rattle.gt_live.specs.declared.monitor.Monitor.{Monitor}
use Rattle.gt_attached.specs.Several.{HaveOwnHandles, HaveMappings, HasSameMappings, MakesMap, MapsAt, MapsFirst, ReleasesAt, ReleasesFirst}
use Rattle.gt_attached.specs.Several.{mapped_handle, with_handle, without_handle}
use Rattle.gt_attached.specs.declared.several.MapRequest.{MapRequest}

self-same : (h : Handle) → same_handle h h ≡ true
self-same h = and_from (h.serial == h.serial) (h.key == h.key) (eq-eqb h.serial h.serial refl) (eq-eqb h.key h.key refl)

same-handle : (a b : Handle) → same_handle a b ≡ true → a ≡ b
same-handle a b e =
    let p = and_parts (a.serial == b.serial) (a.key == b.key) e in
    ap (λ (n : ℕ). record { serial = n; key = a.key }) (eqb-true a.serial b.serial p.0)
    ∙ ap (λ (n : ℕ). record { serial = b.serial; key = n }) (eqb-true a.key b.key p.1)

-- what a map that was made added to the domain's mappings
added : {P : Type 0} (may : P → AllowRelation) (m : Monitor P) (d e : Domain) (r : MapRequest) (n : NewMapping)
    → MakesMap may m d r (Ok n) e → AddsMapping d.mappings e.mappings n.handle n.held
added may m d e r n (inl made) = made.1.1
added may m d e r n (inr wrong) = absurd (let f = wrong.1 in cc)

-- a refused map leaves the mappings as they are
pub unadded : {P : Type 0} (may : P → AllowRelation) (m : Monitor P) (d e : Domain) (r : MapRequest) (denial : Denial)
    → MakesMap may m d r (Err denial) e → HasSameMappings d e
unadded may m d e r denial (inl made) h =
    ap (λ (s : List (Option (HandleSlot HeldPin))). under h.serial (slice_index_or s h.key None)) made.1.1.0.slots
unadded may m d e r denial (inr wrong) h = ap (λ (x : Domain). value_of x.mappings h) wrong.2

one-of : (rs : List MapRequest) (n : ℕ) (r s : MapRequest) → slice_get rs n ≡ Some r → slice_get rs n ≡ Some s → r ≡ s
one-of rs n r s a b = same_Some r s (sym a ∙ b)

-- one value more
more-values : (b : Bool) (x : HeldPin) (o : Option HeldPin) → IsSome o → IsSome (cond b (Some x) o)
more-values true x o some = refl
more-values false x o some = some

no-value : (o : Option HeldPin) → o ≡ None → IsSome o → ⊥
no-value None e some = true≢false (sym some)
no-value (Some x) e some = absurd cc

-- the new mapping has its value, and others keep theirs
has-new : (old new : HandleMap HeldPin) (h : Handle) (p : HeldPin) → AddsMapping old new h p → IsSome (value_of new h)
has-new old new h p adds =
    subst (λ (o : Option HeldPin). IsSome o)
    (sym (adds.inserted.updates h ∙ ap (λ (b : Bool). cond b (Some p) (value_of old h)) (self-same h))) refl

has-old : (old new : HandleMap HeldPin) (h other : Handle) (p : HeldPin) → AddsMapping old new h p → IsSome (value_of old other)
    → IsSome (value_of new other)
has-old old new h other p adds some =
    subst (λ (o : Option HeldPin). IsSome o) (sym (adds.inserted.updates other))
    (more-values (same_handle other h) p (value_of old other) some)

-- the requests whose maps were made have mappings, and handles that differ
pub kept : {P : Type 0} (may : P → AllowRelation) (m : Monitor P) (n : ℕ) (d c : Domain) (rs : List MapRequest)
    → MapsFirst may m d rs n c → HaveMappings c rs n
kept may m zero d c rs maps i r low there = absurd (omega (arith, low))
kept may m (suc n) d c rs (b, maps, at) i r low there =
    by (λ less. kept may m n d b rs maps i r less there) (eq-or-lt_of_le (omega (arith, low)))
  where
    adds : AddsMapping b.mappings c.mappings at.made.handle at.made.held
    adds = added may m b c at.request at.made at.makes

    by : (i < n → IsSome (value_of b.mappings (mapped_handle r))) → ((i ≡ n) ⊎ (i < n)) → IsSome (value_of c.mappings (mapped_handle r))
    by before (inl is) =
        let same : r ≡ at.request = one-of rs n r at.request (subst (λ (k : ℕ). slice_get rs k ≡ Some r) is there) at.there in
        subst (λ (h : Handle). IsSome (value_of c.mappings h))
        (sym (ap (λ (x : MapRequest). mapped_handle x) same ∙ at.named))
        (has-new b.mappings c.mappings at.made.handle at.made.held adds)
    by before (inr less) = has-old b.mappings c.mappings at.made.handle (mapped_handle r) at.made.held adds (before less)

pub apart : {P : Type 0} (may : P → AllowRelation) (m : Monitor P) (n : ℕ) (d c : Domain) (rs : List MapRequest)
    → MapsFirst may m d rs n c → HaveOwnHandles rs n
apart may m zero d c rs maps i j r s before low there there' same = absurd (omega (arith, low))
apart may m (suc n) d c rs (b, maps, at) i j r s before low there there' same =
    by (λ less. kept may m n d b rs maps i r less there) (λ less. apart may m n d b rs maps i j r s before less there there' same)
    (eq-or-lt_of_le (omega (arith, low)))
  where
    adds : AddsMapping b.mappings c.mappings at.made.handle at.made.held
    adds = added may m b c at.request at.made at.makes

    by : (i < n → IsSome (value_of b.mappings (mapped_handle r))) → (j < n → ⊥) → ((j ≡ n) ⊎ (j < n)) → ⊥
    by are differ (inl is) =
        let last : s ≡ at.request = one-of rs n s at.request (subst (λ (k : ℕ). slice_get rs k ≡ Some s) is there') at.there in
        let name : mapped_handle r ≡ at.made.handle = same ∙ ap (λ (x : MapRequest). mapped_handle x) last ∙ at.named in
        no-value (value_of b.mappings at.made.handle) adds.inserted.fresh
        (subst (λ (h : Handle). IsSome (value_of b.mappings h)) name
        (are (omega (arith, before, is))))
    by are differ (inr less) = differ less

-- requests that have mappings in one domain have them in another with the same mappings
pub kept-same : (d e : Domain) (rs : List MapRequest) (n : ℕ) → HasSameMappings d e → HaveMappings d rs n → HaveMappings e rs n
kept-same d e rs n same are i r low there =
    subst (λ (o : Option HeldPin). IsSome o) (sym (same (mapped_handle r))) (are i r low there)

-- after the release of the last of them the others still have mappings
pub kept-before : (d e : Domain) (rs : List MapRequest) (n : ℕ) (last : MapRequest) (p : HeldPin) → slice_get rs n ≡ Some last
    → HaveOwnHandles rs (suc n) → Removes d.mappings e.mappings (mapped_handle last) p → HaveMappings d rs (suc n) → HaveMappings e rs n
kept-before d e rs n last p at differ removes are i r low there =
    subst (λ (o : Option HeldPin). IsSome o)
    (sym (removes.taken.updates (mapped_handle r) ∙ ap (λ (b : Bool). cond b None (value_of d.mappings (mapped_handle r))) (off (same_handle (mapped_handle r) (mapped_handle last)) refl)))
    (are i r (omega (arith, low)) there)
  where
    off : (b : Bool) → same_handle (mapped_handle r) (mapped_handle last) ≡ b → same_handle (mapped_handle r) (mapped_handle last) ≡ false
    off true e = absurd (differ i n r last low (omega arith) there at (same-handle (mapped_handle r) (mapped_handle last) e))
    off false e = e

pub apart-before : (rs : List MapRequest) (n : ℕ) → HaveOwnHandles rs (suc n) → HaveOwnHandles rs n
apart-before rs n differ i j r s before low there there' same =
    differ i j r s before (omega (arith, low)) there there' same

-- a mapping that was added and then released leaves no trace
taken-back : {P : Type 0} (may : P → AllowRelation) (m : Monitor P) (b c x y : Domain) (rs : List MapRequest) (n : ℕ)
    → MapsAt may m b rs n c → HasSameMappings c x → ReleasesAt may m x rs n y → HasSameMappings b y
taken-back may m b c x y rs n at same gone h = by (same_handle h k) refl
  where
    k : Handle
    k = at.made.handle

    adds : AddsMapping b.mappings c.mappings k at.made.held
    adds = added may m b c at.request at.made at.makes

    name : mapped_handle gone.request ≡ k
    name = ap (λ (r : MapRequest). mapped_handle r) (one-of rs n gone.request at.request gone.there at.there) ∙ at.named

    now : value_of y.mappings h ≡ cond (same_handle h k) None (value_of x.mappings h)
    now = gone.removes.taken.updates h ∙ ap (λ (o : Handle). cond (same_handle h o) None (value_of x.mappings h)) name

    by : (t : Bool) → same_handle h k ≡ t → value_of y.mappings h ≡ value_of b.mappings h
    by true e =
        now ∙ ap (λ (t : Bool). cond t None (value_of x.mappings h)) e ∙ sym adds.inserted.fresh
        ∙ ap (λ (o : Handle). value_of b.mappings o) (sym (same-handle h k e))
    by false e =
        now ∙ ap (λ (t : Bool). cond t None (value_of x.mappings h)) e ∙ same h ∙ adds.inserted.updates h
        ∙ ap (λ (t : Bool). cond t (Some at.made.held) (value_of b.mappings h)) e

-- maps that were made, and then released from the last one on, leave the mappings as they were
pub undone : {P : Type 0} (may : P → AllowRelation) (m : Monitor P) (n : ℕ) (d c x e : Domain) (rs : List MapRequest)
    → MapsFirst may m d rs n c → HasSameMappings c x → ReleasesFirst may m x rs n e → HasSameMappings d e
undone may m zero d c x e rs maps same gone h =
    ap (λ (o : Domain). value_of o.mappings h) gone ∙ same h ∙ ap (λ (o : Domain). value_of o.mappings h) maps
undone may m (suc n) d c x e rs (b, maps, at) same (y, gone, rest) h =
    undone may m n d b y e rs maps (taken-back may m b c x y rs n at same gone) rest h

-- a request that is written does not change those before it
get-other : (rs : List MapRequest) (i j : ℕ) (r : MapRequest) → i < j → slice_get (set rs j r) i ≡ slice_get rs i
get-other [] i j r low = refl
get-other (x ∷ rs) i zero r low = absurd (omega (arith, low))
get-other (x ∷ rs) zero (suc j) r low = refl
get-other (x ∷ rs) (suc i) (suc j) r low = get-other rs i j r (omega (arith, low))

pub get-set : (rs : List MapRequest) (i : ℕ) (r : MapRequest) → i < length rs → slice_get (set rs i r) i ≡ Some r
get-set [] i r low = absurd (omega (arith, low))
get-set (x ∷ rs) zero r low = refl
get-set (x ∷ rs) (suc i) r low = get-set rs i r (omega (arith, low))

pub maps-still : {P : Type 0} (may : P → AllowRelation) (m : Monitor P) (n : ℕ) (d e : Domain) (rs : List MapRequest) (j : ℕ)
    (r : MapRequest) → n ≤ j → MapsFirst may m d rs n e → MapsFirst may m d (set rs j r) n e
maps-still may m zero d e rs j r low maps = maps
maps-still may m (suc n) d e rs j r low (b, maps, at) = (
  b,
  maps-still may m n d b rs j r (omega (arith, low)) maps,
  record {
    request = at.request;
    there = get-other rs n j r (omega (arith, low)) ∙ at.there;
    made = at.made;
    named = at.named;
    makes = at.makes;
  },
)

-- what the requests ask for is unchanged
pub asked-still : (rs : List MapRequest) (i : ℕ) (r old : MapRequest) → slice_get rs i ≡ Some old → without_handle r ≡ without_handle old
    → map without_handle (set rs i r) ≡ map without_handle rs
asked-still [] i r old there same = refl
asked-still (x ∷ rs) zero r old there same =
    ap (λ (y : MapRequest). y ∷ map without_handle rs) (same ∙ ap (λ (y : MapRequest). without_handle y) (sym (same_Some x old there)))
asked-still (x ∷ rs) (suc i) r old there same = ap (λ (ys : List MapRequest). without_handle x ∷ ys) (asked-still rs i r old there same)

-- the map of one more request was made
pub mapped-more : {P : Type 0} (may : P → AllowRelation) (m n : Monitor P) (d t u : Domain) (rs : List MapRequest) (count at : ℕ)
    (asked r : MapRequest) (made : NewMapping) → n ≡ m → at ≡ count → slice_get rs at ≡ Some asked → r ≡ with_handle made.handle asked
    → MapsFirst may m d rs count t → MakesMap may n t asked (Ok made) u → MapsFirst may m d (set rs at r) (suc count) u
mapped-more {P} may m n d t u rs count at asked r made same here there is maps makes =
    subst (λ (k : ℕ). MapsFirst may m d (set rs at r) (suc k) u) here (
      t,
      maps-still may m at d t rs at r (omega arith) (subst (λ (k : ℕ). MapsFirst may m d rs k t) (sym here) maps),
      record {
        request = r;
        there = get-set rs at r (slice_get_within rs at asked there);
        made = made;
        named = ap (λ (x : MapRequest). mapped_handle x) is;
        makes =
            subst (λ (x : MapRequest). MakesMap may m t x (Ok made) u) (sym is)
            (subst (λ (y : Monitor P). MakesMap may y t asked (Ok made) u) same makes);
      },
    )

-- the mapping of a request was released
pub released-at : {P : Type 0} (may : P → AllowRelation) (m n : Monitor P) (d e : Domain) (rs : List MapRequest) (k : ℕ)
    (r : MapRequest) (h : Handle) (result : Result (Unit {0}) Denial) → n ≡ m → slice_get rs k ≡ Some r → h ≡ mapped_handle r
    → result ≡ Ok tt → Answered may n d (requests.Release h) (verdict_of result) e
    → OnOk result ((p : HeldPin) × Removes d.mappings e.mappings h p) → trail_of e ≡ trail_of d → ReleasesAt may m d rs k e
released-at {P} may m n d e rs k r h result same there name ok answered removed silent =
    let gone = subst (λ (o : Result (Unit {0}) Denial). OnOk o ((p : HeldPin) × Removes d.mappings e.mappings h p)) ok removed in
    record {
      request = r;
      there = there;
      answered =
          subst (λ (y : Monitor P). Answered may y d (requests.Release (mapped_handle r)) Granted e) same
          (subst (λ (x : Handle). Answered may n d (requests.Release x) Granted e) name
          (subst (λ (o : Result (Unit {0}) Denial). Answered may n d (requests.Release h) (verdict_of o) e) ok answered));
      pin = gone.0;
      removes = subst (λ (x : Handle). Removes d.mappings e.mappings x gone.0) name gone.1;
      silent = silent;
    }

-- after the release of the last mapping the others stay, and their release is what is left to do
pub kept-then : {P : Type 0} (may : P → AllowRelation) (m : Monitor P) (d e : Domain) (rs : List MapRequest) (left k : ℕ)
    → left ≡ suc k → ReleasesAt may m d rs k e → HaveOwnHandles rs left → HaveMappings d rs left → HaveMappings e rs k
kept-then may m d e rs left k is gone differ are =
    kept-before d e rs k gone.request gone.pin gone.there (subst (λ (n : ℕ). HaveOwnHandles rs n) is differ) gone.removes
    (subst (λ (n : ℕ). HaveMappings d rs n) is are)

pub apart-then : (rs : List MapRequest) (left k : ℕ) → left ≡ suc k → HaveOwnHandles rs left → HaveOwnHandles rs k
apart-then rs left k is differ = apart-before rs k (subst (λ (n : ℕ). HaveOwnHandles rs n) is differ)

pub released-then : {P : Type 0} (may : P → AllowRelation) (m : Monitor P) (d e : Domain) (rs : List MapRequest) (left k : ℕ)
    (Ends : Domain → Type 0) → left ≡ suc k → ReleasesAt may m d rs k e
    → ((x : Domain) → ReleasesFirst may m d rs left x → Ends x) → (x : Domain) → ReleasesFirst may m e rs k x → Ends x
released-then may m d e rs left k Ends is gone ends x rest =
    ends x (subst (λ (n : ℕ). ReleasesFirst may m d rs n x) (sym is) (e, gone, rest))
