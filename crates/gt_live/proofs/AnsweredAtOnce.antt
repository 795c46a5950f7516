-- How calls are answered at their beginning.
use Rattle.std.proofs.Common.{◌≡◌, ℕ, Bool, true, false, cond, refl, subst, ◌+◌, length, List, [], ◌∷◌, Option, Some}
use Rattle.std.proofs.Common.{None, nat_le, nat_lt, not, ◌==◌}
use Rattle.std.specs.Prelude.{is_none, ◌||◌}
use Rattle.gt_types.specs.declared.DomId.{DomId}
use Rattle.gt_types.specs.declared.GrantRef.{GrantRef}
use Rattle.gt_types.specs.declared.TypeId.{TypeId}
use Rattle.gt_types.specs.declared.rights.Triple.{Triple}
use Rattle.gt_types.specs.declared.perms.Perms.{Perms}
use Rattle.gt_types.specs.declared.denial.Rule.{Rule}
use Rattle.gt_types.specs.declared.denial.Rule.TheVariants.{N1, N2, N3, N4, N5, N6, N7, N8, N9, N10, N16, N20, N21}
use Rattle.gt_types.specs.declared.denial.Rule.TheVariants.{N22, N23, N24}
use Rattle.gt_types.specs.declared.denial.Facts.TheVariants.{Policy}
use Rattle.gt_types.specs.declared.limits.TheConstants.{FRAME_SIZE, LAST_GENERATION, MAX_MAPPINGS, MAX_TABLE_FRAMES}
use Rattle.gt_types.specs.Denial.{denial_of}
use Rattle.gt_types.specs.Names.{domain_of, resolved}
use Rattle.gt_model.specs.declared.change.EntryChange.{EntryChange}
use Rattle.gt_model.specs.declared.change.EntryChange.TheVariants as changes
use Rattle.gt_model.specs.Words.{size_of}
use Rattle.gt_model.specs.declared.action.CallValue.TheVariants.{Frames}
use Rattle.gt_model.specs.declared.action.CallResult.{CallResult}
use Rattle.gt_model.specs.declared.action.CallResult.TheVariants.{Granted, Refused, Given, Mapped}
use Rattle.gt_model.specs.declared.held.HeldPin.{HeldPin}
use Rattle.gt_model.specs.declared.request.OpenRequest.{OpenRequest}
use Rattle.gt_model.specs.declared.request.OpenRequest.TheVariants as asks
use Rattle.gt_model.specs.declared.request.Request.{Request}
use Rattle.gt_model.specs.declared.request.Request.TheVariants as requests
use Rattle.gt_model.specs.Asking.{asked, begun_of, field_refused}
use Rattle.gt_model.specs.Bytes.{first_refused}
use Rattle.gt_types.specs.declared.denial.Field.{Field}
use Rattle.gt_types.specs.declared.copies.CopyArgs.{CopyArgs}
use Rattle.gt_types.specs.declared.denial.Denial.{Denial}
use Rattle.gt_model.specs.Rules.{copy_begun, ends_framed, ends_named, ends_owned, ends_ranged, frame_count_of}
use Rattle.gt_model.specs.Rules.{is_for_reading, is_foreign, is_past_frames, own_access_begun, rights_to_copy}
use Rattle.gt_model.specs.Rules.{via_judged, CallerKnowledge, cannot_stand, change_begun, query_begun, denied, first}
use Rattle.gt_model.specs.Rules.{given_when, granted_when, has_valid, is_already, is_invalid, is_version, map_dir}
use Rattle.gt_model.specs.Rules.{refused_when, rights_to_map, rights_to_query, rights_to_setup, rights_to_unmap}
use Rattle.gt_model.specs.Rules.{unmap_denied}
use Rattle.gt_types.specs.Copies.{is_dest_granted, is_source_granted}
use Rattle.gt_live.specs.Ending.{IsAccessing, IsAtOnce, IsOfMapping, IsWordless, WaitsForNobody}

module _ (r : OpenRequest) where
  -- not answered, or answered as this request may be at once
  abbrev pub MayBe : Option CallResult → Type 0
  MayBe None = Unit {0}
  MayBe (Some verdict) = IsAtOnce r verdict

  first-may : (o : Option CallResult) (xs : List (Option CallResult)) → MayBe o → MayBe (first xs) → MayBe (first (o ∷ xs))
  first-may None xs a b = b
  first-may (Some verdict) xs a b = a

  refused-may : (b : Bool) (n : Rule) → MayBe (refused_when b n)
  refused-may true n = tt
  refused-may false n = tt

  denied-may : (may : TypeId → TypeId → Perms → Bool) (ts : List Triple) → MayBe (denied may ts)
  denied-may may [] = tt
  denied-may may (t ∷ ts) = by (denied may ts) (denied-may may ts) (may t.source t.target t.perm)
    where
      by : (rest : Option CallResult) → MayBe rest → (b : Bool) → MayBe (cond b rest (Some (Refused (denial_of N5 (Policy t.source t.target t.perm)))))
      by rest h true = h
      by rest h false = tt

  -- each of a list may be so
  abbrev pub EachMay : List (Option CallResult) → Type 0
  EachMay [] = Unit {0}
  EachMay (o ∷ xs) = MayBe o × EachMay xs

  first-of : (xs : List (Option CallResult)) → EachMay xs → MayBe (first xs)
  first-of [] all = tt
  first-of (o ∷ xs) all = first-may o xs all.0 (first-of xs all.1)

module _ (k : CallerKnowledge) (caller : DomId) where
  granted-may : (r : OpenRequest) → IsAtOnce r Granted → (b : Bool) → MayBe r (granted_when b)
  granted-may r ok true = ok
  granted-may r ok false = tt

  given-may : (frames n : ℕ) (b : Bool) → MayBe (asks.SetupTable frames) (given_when b (Frames n))
  given-may frames n true = tt
  given-may frames n false = tt

  once-turn : (r : OpenRequest) (change : EntryChange) (q : GrantRef) → IsAtOnce r Granted → MayBe r (change_begun change k.header (k.entry q.0) (k.generation q.0) q.0)
  once-turn r change q ok =
      let a = nat_le (size_of k.header) q.0 in let b = is_invalid (k.entry q.0) in let d = is_already change (k.entry q.0) in let f = k.generation q.0 == LAST_GENERATION in
      first-of r (refused_when a N9 ∷ refused_when b N10 ∷ granted_when d ∷ refused_when f N22 ∷ []) (refused-may r a N9, (refused-may r b N10, (granted-may r ok d, (refused-may r f N22, tt))))

  once-query : (r : OpenRequest) (dom : DomId) → MayBe r (query_begun k caller dom)
  once-query r dom =
      let a = is_none (domain_of k.domains (resolved caller dom)) in let ts = rights_to_query k caller (resolved caller dom) in
      first-of r (refused_when a N1 ∷ denied k.may ts ∷ []) (refused-may r a N1, (denied-may r k.may ts, tt))

  once-unmap : (r : OpenRequest) (o : Option HeldPin) → MayBe r (unmap_denied k caller o)
  once-unmap r None = tt
  once-unmap r (Some m) = denied-may r k.may (rights_to_unmap k caller m.dom)

  once-field : (r : OpenRequest) (o : Option Field) → MayBe r (field_refused o)
  once-field r None = tt
  once-field r (Some f) = tt

  once : (request : Request) → WaitsForNobody (asked request) → MayBe (asked request) (begun_of k caller request)
  once (requests.Grant gref entry) w =
      let r = asks.Grant gref entry in
      let a = nat_le (size_of k.header) gref.0 in let b = not (is_invalid (k.entry gref.0)) in let d = cannot_stand entry k.header.version in let f = k.generation gref.0 == LAST_GENERATION in
      first-of r (refused_when a N9 ∷ refused_when b N20 ∷ refused_when d N21 ∷ refused_when f N22 ∷ []) (refused-may r a N9, (refused-may r b N20, (refused-may r d N21, (refused-may r f N22, tt))))
  once (requests.GrantBytes gref bytes) w =
      let r = asked (requests.GrantBytes gref bytes) in
      let a = nat_le (size_of k.header) gref.0 in let b = not (is_invalid (k.entry gref.0)) in let f = k.generation gref.0 == LAST_GENERATION in let o = first_refused k.header.version bytes.now in
      first-of r (refused_when a N9 ∷ refused_when b N20 ∷ refused_when f N22 ∷ field_refused o ∷ []) (refused-may r a N9, (refused-may r b N20, (refused-may r f N22, (once-field r o, tt))))
  once (requests.Revoke gref) w =
      let r = asks.Revoke gref in let a = nat_le (size_of k.header) gref.0 in let b = is_invalid (k.entry gref.0) in
      first-of r (refused_when a N9 ∷ refused_when b N10 ∷ []) (refused-may r a N9, (refused-may r b N10, tt))
  once (requests.Withdraw gref) w =
      let r = asks.Withdraw gref in let a = nat_le (size_of k.header) gref.0 in let b = is_invalid (k.entry gref.0) in
      first-of r (refused_when a N9 ∷ refused_when b N10 ∷ []) (refused-may r a N9, (refused-may r b N10, tt))
  once (requests.Demote gref) w = once-turn (asks.Demote gref) changes.Demote gref tt
  once (requests.Promote gref) w = once-turn (asks.Promote gref) changes.Promote gref tt
  once (requests.Map dom gref flags) w =
      let r = asks.Map dom gref flags in let ts = rights_to_map k caller (resolved caller dom) (map_dir flags) in
      let a = is_none (domain_of k.domains (resolved caller dom)) in let b = not ((flags == 2) || (flags == 6)) in let f = nat_le MAX_MAPPINGS k.in_use || nat_le 18446744073709551615 k.maps_answered in
      first-of r (refused_when a N1 ∷ refused_when b N2 ∷ denied k.may ts ∷ refused_when f N8 ∷ []) (refused-may r a N1, (refused-may r b N2, (denied-may r k.may ts, (refused-may r f N8, tt))))
  once (requests.Unmap handle) w =
      let r = asks.Unmap handle in let a = is_none (k.mapping handle) in let o = unmap_denied k caller (k.mapping handle) in
      first-of r (refused_when a N6 ∷ o ∷ []) (refused-may r a N6, (once-unmap r (k.mapping handle), tt))
  once (requests.Release handle) w = refused-may (asks.Release handle) (is_none (k.mapping handle)) N6
  once (requests.SetVersion version) w =
      let r = asks.SetVersion version in let a = not (is_version version) in let b = version == k.header.version in let f = has_valid k.entry (size_of k.header) in
      first-of r (refused_when a N2 ∷ granted_when b ∷ refused_when f N24 ∷ []) (refused-may r a N2, (granted-may r tt b, (refused-may r f N24, tt)))
  once (requests.SetupTable frames) w =
      let r = asks.SetupTable frames in let ts = rights_to_setup k caller in let b = nat_le frames k.header.frames in let f = nat_lt MAX_TABLE_FRAMES frames in
      first-of r (denied k.may ts ∷ given_when b (Frames k.header.frames) ∷ refused_when f N23 ∷ []) (denied-may r k.may ts, (given-may frames k.header.frames b, (refused-may r f N23, tt)))
  once (requests.QuerySize dom) w = once-query (asks.QuerySize dom) dom
  once (requests.GetVersion dom) w = once-query (asks.GetVersion dom) dom
  once _ w = absurd w

  -- an answer at the beginning is one that may be at once
  pub answered-once : (request : Request) (verdict : CallResult) → WaitsForNobody (asked request) → begun_of k caller request ≡ Some verdict → IsAtOnce (asked request) verdict
  answered-once request verdict w e = subst (λ (o : Option CallResult). MayBe (asked request) o) e (once request w)

  -- of the requests with an access none is Ok at its beginning
  only-refused : (r : OpenRequest) (verdict : CallResult) → IsAccessing r → IsAtOnce r verdict → (denial : Denial) × (verdict ≡ Refused denial) × IsWordless denial.facts
  only-refused r (Refused denial) is at = (denial, refl, at)
  only-refused (asks.Load handle off len) Granted is at = absurd at
  only-refused (asks.Store handle off len) Granted is at = absurd at
  only-refused (asks.Peek frame off len) Granted is at = absurd at
  only-refused (asks.Poke frame off len) Granted is at = absurd at
  only-refused (asks.Copy c) Granted is at = absurd at
  only-refused (asks.Load handle off len) (Given value) is at = absurd at
  only-refused (asks.Store handle off len) (Given value) is at = absurd at
  only-refused (asks.Peek frame off len) (Given value) is at = absurd at
  only-refused (asks.Poke frame off len) (Given value) is at = absurd at
  only-refused (asks.Copy c) (Given value) is at = absurd at
  only-refused (asks.Load handle off len) (Mapped p) is at = absurd at
  only-refused (asks.Store handle off len) (Mapped p) is at = absurd at
  only-refused (asks.Peek frame off len) (Mapped p) is at = absurd at
  only-refused (asks.Poke frame off len) (Mapped p) is at = absurd at
  only-refused (asks.Copy c) (Mapped p) is at = absurd at
  only-refused _ _ is at = absurd is

  -- nor of those that map or unmap
  pub mapping-refused : (request : Request) (verdict : CallResult) → IsOfMapping (asked request)
      → WaitsForNobody (asked request) → begun_of k caller request ≡ Some verdict
      → (denial : Denial) × (verdict ≡ Refused denial) × IsWordless denial.facts
  mapping-refused request verdict is waits e = by (asked request) verdict is (answered-once request verdict waits e)
    where
      by : (r : OpenRequest) (verdict : CallResult) → IsOfMapping r → IsAtOnce r verdict
          → (denial : Denial) × (verdict ≡ Refused denial) × IsWordless denial.facts
      by r (Refused denial) is at = (denial, refl, at)
      by (asks.Map dom gref flags) Granted is at = absurd at
      by (asks.Map dom gref flags) (Given value) is at = absurd at
      by (asks.Map dom gref flags) (Mapped p) is at = absurd at
      by (asks.Unmap handle) Granted is at = absurd at
      by (asks.Unmap handle) (Given value) is at = absurd at
      by (asks.Unmap handle) (Mapped p) is at = absurd at
      by (asks.Release handle) Granted is at = absurd at
      by (asks.Release handle) (Given value) is at = absurd at
      by (asks.Release handle) (Mapped p) is at = absurd at
      by _ _ is at = absurd is

  once-own : (r : OpenRequest) (frame off len : ℕ) → MayBe r (own_access_begun k.domains caller frame off len)
  once-own r frame off len =
      let a = nat_lt FRAME_SIZE (off + len) in let b = nat_le (frame_count_of k.domains caller) frame in
      first-of r (refused_when a N3 ∷ refused_when b N16 ∷ []) (refused-may r a N3, (refused-may r b N16, tt))

  once-copy : (c : CopyArgs) → MayBe (asks.Copy c) (copy_begun k caller c)
  once-copy c =
      let r = asks.Copy c in
      let a = is_none (domain_of k.domains (resolved caller c.source.domid)) in let b = is_none (domain_of k.domains (resolved caller c.dest.domid)) in let d = nat_lt 3 c.flags in
      let e = nat_lt FRAME_SIZE (c.source.offset + c.len) in let f = nat_lt FRAME_SIZE (c.dest.offset + c.len) in
      let g = is_foreign caller (is_source_granted c) c.source in let h = is_foreign caller (is_dest_granted c) c.dest in
      let i = is_past_frames k caller (is_source_granted c) c.source in let j = is_past_frames k caller (is_dest_granted c) c.dest in
      let ts = rights_to_copy k (resolved caller c.source.domid) (resolved caller c.dest.domid) in
      let named = first-of r (refused_when a N1 ∷ refused_when b N1 ∷ refused_when d N2 ∷ []) (refused-may r a N1, (refused-may r b N1, (refused-may r d N2, tt))) in
      let ranged = first-of r (refused_when e N3 ∷ refused_when f N3 ∷ []) (refused-may r e N3, (refused-may r f N3, tt)) in
      let owned = first-of r (refused_when g N4 ∷ refused_when h N4 ∷ []) (refused-may r g N4, (refused-may r h N4, tt)) in
      let framed = first-of r (refused_when i N16 ∷ refused_when j N16 ∷ []) (refused-may r i N16, (refused-may r j N16, tt)) in
      first-of r (ends_named k caller c ∷ ends_ranged c ∷ ends_owned caller c ∷ denied k.may ts ∷ ends_framed k caller c ∷ []) (named, (ranged, (owned, (denied-may r k.may ts, (framed, tt)))))

  once-access : (request : Request) → IsAccessing (asked request) → MayBe (asked request) (begun_of k caller request)
  once-access (requests.Load handle off bytes) w =
      let r = asks.Load handle off bytes in let a = nat_lt FRAME_SIZE (off + bytes) in let b = is_none (k.mapping handle) in
      first-of r (refused_when a N3 ∷ refused_when b N6 ∷ []) (refused-may r a N3, (refused-may r b N6, tt))
  once-access (requests.Store handle off bytes) w =
      let r = asked (requests.Store handle off bytes) in let a = nat_lt FRAME_SIZE (off + length bytes.now) in let b = is_none (k.mapping handle) in let d = is_for_reading (k.mapping handle) in
      first-of r (refused_when a N3 ∷ refused_when b N6 ∷ refused_when d N7 ∷ []) (refused-may r a N3, (refused-may r b N6, (refused-may r d N7, tt)))
  once-access (requests.Peek frame off len) w = once-own (asks.Peek frame off len) frame off len
  once-access (requests.Poke frame off bytes) w = once-own (asked (requests.Poke frame off bytes)) frame off (length bytes.now)
  once-access (requests.Copy c) w = once-copy c
  once-access _ w = absurd w

  -- a call with an access that is answered at its beginning is refused there
  pub refused-once : (request : Request) (verdict : CallResult) → IsAccessing (asked request) → begun_of k caller request ≡ Some verdict → (denial : Denial) × (verdict ≡ Refused denial) × IsWordless denial.facts
  refused-once request verdict w e = only-refused (asked request) verdict w (subst (λ (o : Option CallResult). MayBe (asked request) o) e (once-access request w))

  -- past a Via a copy is refused without a word, where it is
  pub via-refused : (pair : DomId × DomId) (dom : DomId) (verdict : CallResult) → via_judged k pair dom ≡ Some verdict → (denial : Denial) × (verdict ≡ Refused denial) × IsWordless denial.facts
  via-refused pair dom verdict e =
      let r = asks.Load (record { serial = 0; key = 0 }) 0 0 in let a = is_none (domain_of k.domains dom) in let ts = rights_to_copy k pair.0 pair.1 in
      let may : MayBe r (via_judged k pair dom) = first-of r (refused_when a N1 ∷ denied k.may ts ∷ []) (refused-may r a N1, (denied-may r k.may ts, tt)) in
      only-refused r verdict tt (subst (λ (o : Option CallResult). MayBe r o) e may)
