-- Several maps in one call: all of them are made, or none remains.
use Rattle.std.specs.Prelude.{◌≡◌, ◌⊎◌, ◌<◌, ◌≤◌, ℕ, zero, suc, List, length, Some, IsSome, Result, Ok, Err}
use Rattle.std.specs.List.{slice_get}
use Rattle.gt_types.specs.Denial.{denial_of}
use Rattle.gt_types.specs.declared.denial.Denial.{Denial}
use Rattle.gt_types.specs.declared.denial.Facts.TheVariants as facts
use Rattle.gt_types.specs.declared.denial.Rule.TheVariants.{N1}
use Rattle.gt_audit.specs.Trails.{AppendsRecord}
use Rattle.gt_audit.specs.declared.record.Hypercall.TheVariants as hypercalls
use Rattle.gt_handles.specs.Handles.{value_of}
use Rattle.gt_model.specs.declared.action.CallResult.TheVariants.{Granted}
use Rattle.gt_model.specs.declared.handle.Handle.{Handle}
use Rattle.gt_model.specs.declared.held.HeldPin.{HeldPin}
use Rattle.gt_model.specs.declared.request.Request.TheVariants as requests
use Rattle.gt_live.specs.Domains.{AllowRelation, Answered, outcome_of, record_of_result}
use Rattle.gt_live.specs.Mappings.{Removes}
use Rattle.gt_live.specs.Parts.{mappings_of, trail_of}
use Rattle.gt_live.specs.Releasing.{MapAdds}
use Rattle.gt_live.specs.declared.domain.Domain.{Domain}
use Rattle.gt_live.specs.declared.domain.mappings.NewMapping.{NewMapping}
use Rattle.gt_live.specs.declared.monitor.Monitor.{Monitor}
use Rattle.gt_attached.specs.declared.answer.RefusedMap.{RefusedMap}
use Rattle.gt_attached.specs.declared.several.MapRequest.{MapRequest}

-- the handle in a request, which is that of its mapping when it is made
abbrev pub mapped_handle : MapRequest → Handle
mapped_handle r = record { serial = r.serial; key = r.key }

-- the request with the handle of its mapping
abbrev pub with_handle : Handle → MapRequest → MapRequest
with_handle h r = record r { serial = h.serial; key = h.key }

-- what a request asks for, without a handle
abbrev pub without_handle : MapRequest → MapRequest
without_handle r = record r { serial = 0; key = 0 }

-- the map of a request was made, as by the call of that name; or the number of its domain has more than 16 bits, N1
-- refuses it, and nothing was done
abbrev pub MakesMap : {P : Type 0} → (P → AllowRelation) → Monitor P → Domain → MapRequest → Result NewMapping Denial
    → Domain → Type 0
MakesMap may m d r result e =
    ((r.dom ≤ 65535)
    × MapAdds may m d (requests.Map (record { 0 = r.dom }) (record { 0 = r.gref }) r.flags) result e
    × AppendsRecord (trail_of d)
    (record_of_result d (hypercalls.Map (record { 0 = r.dom }) (record { 0 = r.gref }) r.flags) (outcome_of result))
    (trail_of e))
    ⊎ ((65535 < r.dom) × (result ≡ Err (denial_of N1 facts.None)) × (e ≡ d))

-- the map of the request at this index was made, and the request has the handle of its mapping
pub record MapsAt {P : Type 0} (may : P → AllowRelation) (m : Monitor P) (d : Domain) (rs : List MapRequest) (n : ℕ)
    (e : Domain) : Type 0 where
  pub request : MapRequest
  pub there : slice_get rs n ≡ Some request
  pub made : NewMapping
  pub named : mapped_handle request ≡ made.handle
  pub makes : MakesMap may m d request (Ok made) e

-- the maps of the first n requests were made, one after another, and nothing else was done
abbrev pub MapsFirst : {P : Type 0} → (P → AllowRelation) → Monitor P → Domain → List MapRequest → ℕ → Domain → Type 0
MapsFirst may m d rs zero e = e ≡ d
MapsFirst may m d rs (suc n) e = (c : Domain) × MapsFirst may m d rs n c × MapsAt may m c rs n e

-- the mapping of the request at this index was dropped, and its pin released, without asking the policy and without a
-- record
pub record ReleasesAt {P : Type 0} (may : P → AllowRelation) (m : Monitor P) (d : Domain) (rs : List MapRequest) (n : ℕ)
    (e : Domain) : Type 0 where
  pub request : MapRequest
  pub there : slice_get rs n ≡ Some request
  pub answered : Answered may m d (requests.Release (mapped_handle request)) Granted e
  pub pin : HeldPin
  pub removes : Removes (mappings_of d) (mappings_of e) (mapped_handle request) pin
  pub silent : trail_of e ≡ trail_of d

-- the mappings of the first n requests were released, the last one first, and nothing else was done
abbrev pub ReleasesFirst : {P : Type 0} → (P → AllowRelation) → Monitor P → Domain → List MapRequest → ℕ → Domain
    → Type 0
ReleasesFirst may m d rs zero e = e ≡ d
ReleasesFirst may m d rs (suc n) e = (c : Domain) × ReleasesAt may m d rs n c × ReleasesFirst may m c rs n e

-- under each handle the domain has the mapping that it had
abbrev pub HasSameMappings : Domain → Domain → Type 0
HasSameMappings d e = (h : Handle) → value_of (mappings_of e) h ≡ value_of (mappings_of d) h

-- the maps before the first refusal were made and then released, and the domain has the mappings that it had
pub record UndoesMaps {P : Type 0} (may : P → AllowRelation) (m : Monitor P) (d : Domain) (rs : List MapRequest)
    (refused : RefusedMap) (e : Domain) : Type 0 where
  pub full : Domain
  pub maps : MapsFirst may m d rs refused.index full
  pub request : MapRequest
  pub there : slice_get rs refused.index ≡ Some request
  pub stopped : Domain
  pub refuses : MakesMap may m full request (Err refused.denial) stopped
  pub releases : ReleasesFirst may m stopped rs refused.index e
  pub same : HasSameMappings d e

-- the map of each request was made; or one was refused, and none remains
abbrev pub MapsAllOrNone : {P : Type 0} → (P → AllowRelation) → Monitor P → Domain → List MapRequest
    → Result (Unit {0}) RefusedMap → Domain → Type 0
MapsAllOrNone may m d rs (Ok done) e = MapsFirst may m d rs (length rs) e
MapsAllOrNone may m d rs (Err refused) e = UndoesMaps may m d rs refused e

-- the domain has a mapping for each of the first n requests
abbrev pub HaveMappings : Domain → List MapRequest → ℕ → Type 0
HaveMappings d rs n =
    (i : ℕ) (r : MapRequest) → i < n → slice_get rs i ≡ Some r → IsSome (value_of (mappings_of d) (mapped_handle r))

-- no two of the first n requests have the same handle
abbrev pub HaveOwnHandles : List MapRequest → ℕ → Type 0
HaveOwnHandles rs n =
    (i j : ℕ) (r s : MapRequest) → i < j → j < n → slice_get rs i ≡ Some r → slice_get rs j ≡ Some s
    → mapped_handle r ≡ mapped_handle s → ⊥
