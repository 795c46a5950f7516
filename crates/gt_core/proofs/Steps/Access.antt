-- What an access to bytes depends on: it is inside a frame, and justified.
use Rattle.gt_core.proofs.Words.{◌≡◌, ◌≢◌, ◌≤◌, ◌<◌, ◌+◌, ◌⊎◌, inl, inr, ℕ, suc, refl, Bool, true, List, [], ◌∷◌, Some}
use Rattle.gt_core.proofs.Words.{None, sym, ap, ◌∙◌, arith, subst, reverse, eqb-true, none-some, same_Some, Any}
use Rattle.gt_core.proofs.Words.{resolved, DomId, Dir, Read, Write, FRAME_SIZE, Entry, frame_of, permits, forwards}
use Rattle.gt_core.proofs.Words.{Handle, HeldPin, AccessPath, Direct, Through, CallPins, End, OpenRequest, Load, Store}
use Rattle.gt_core.proofs.Words.{Peek, Poke, Copy, PinHolder, Spot, last_first, CallerKnowledge, begun, frame_count_of}
use Rattle.gt_core.proofs.Words.{via_judged, rights_to_copy, is_source_granted, is_dest_granted, source_pair, dest_pair}
use Rattle.gt_core.proofs.Words.{opens, RestsOnRequest, RestsOnWays, IsReached, GivesHeld, State, History, Setting, Pin}
use Rattle.gt_core.proofs.Words.{live, known_at, legs_at, mappings_at, mapping_of, gather, mapping_named, by_leg}
use Rattle.gt_core.proofs.Words.{same_handle, IsInFrame, CopyIsJustified, Justified, IsLawfulPin, IsLawfullyHeld}
use Rattle.gt_core.proofs.Words.{DomainsStand, numbered, owner_by, IsAllowed, IsMapped, IsPermitted, Reaches, Forwards}
use Rattle.gt_core.proofs.Words.{MayCopy, MayUseMapping, MayAsk, EndIsJustified, cond_both}
use Rattle.gt_model.specs.declared.action.Step.TheVariants as call_steps
use Rattle.gt_model.specs.declared.request.PinHolder.TheVariants as holders
use Rattle.gt_types.specs.declared.Use.TheVariants as uses
use Rattle.gt_core.proofs.{Phases.none-of}
use Rattle.gt_model.proofs.Observers.{IsKeyed, mapping-keyed, leg-keyed}
use Rattle.gt_model.specs.declared.held.AccessPath.TheVariants.{Own}
use Rattle.gt_model.specs.Path.{end_spot}
use Rattle.gt_model.specs.Justified.{AccessIsJustified}
use Rattle.gt_core.{specs.Standing.LetsUse}

-- pins among those of a domain

-- the pin is one of these
abbrev pub IsHeldIn : {K : Type 0} → HeldPin → List (K × HeldPin) → Type 0
IsHeldIn m [] = ⊥
IsHeldIn m (x ∷ xs) = (x.1 ≡ m) ⊎ IsHeldIn m xs

-- the pin is the domain's, and its holder gives it
abbrev IsBy : {K : Type 0} {give : PinHolder → HeldPin → List (K × HeldPin)} → IsKeyed give → ℕ → HeldPin → Pin → Type 0
IsBy keyed d m p = (p.actor ≡ d) × (p.held ≡ m) × (keyed.key p.holder ≢ None)

any-there : {X : Type 0} (P : X → Type 0) (x : X) (xs : List X) → Any P xs → Any P (x ∷ xs)
any-there P x xs a = (suc a.0, a.1, (let lt = a.2 in omega arith), a.3, a.4)

pub any-map : {X : Type 0} (P Q : X → Type 0) (xs : List X) → ((x : X) → P x → Q x) → Any P xs → Any Q xs
any-map P Q xs f a = (a.0, a.1, a.2, a.3, f a.1 a.4)

gathered-any : {K : Type 0} (give : PinHolder → HeldPin → List (K × HeldPin)) (keyed : IsKeyed give) (d : ℕ) (m : HeldPin) (ps : List Pin) → IsHeldIn m (gather give d ps) → Any (IsBy keyed d m) ps
unfolding gather
gathered-any give keyed d m [] a = absurd a
gathered-any {K} give keyed d m (p ∷ ps) a = grind (arith, gathered-any give keyed d m ps, keyed.gives p.holder p.held, any-there (IsBy keyed d m) p ps, eqb-true p.actor d)

-- through a mapping

found-in : (ms : List (Handle × HeldPin)) (handle : Handle) (m : HeldPin) → mapping_of ms handle ≡ Some m → IsHeldIn m ms
found-in [] handle m e = absurd (none-some m e)
found-in (x ∷ ms) handle m e =
    cond_both (same_handle x.0 handle) (Some x.1) (mapping_of ms handle) (λ o. o ≡ Some m → (x.1 ≡ m) ⊎ IsHeldIn m ms) (λ is f. inl (same_Some _ _ f)) (λ is f. inr (found-in ms handle m f)) e

-- a pin whose mapping may be used lets the domain access any range in that direction
pub permits-as : (e : Entry) (d : DomId) (held dir : Dir) (off len : ℕ) → ((dir ≡ Write) → held ≡ Write) → permits e d held uses.Map 0 0 ≡ true → permits e d dir uses.Map off len ≡ true
permits-as e d held dir off len w a = grind arith

-- the mapping's pin is the domain's, by right
pub record IsRightful (s : Setting) (d : DomId) (m : HeldPin) (p : Pin) : Type 0 where
  pub own : p.actor ≡ d.0
  pub is : p.held ≡ m
  pub lets : LetsUse s d m.dom m.dir m.entry

mapping-holder : (x : PinHolder) → mapping-keyed.key x ≢ None → (k : Handle) × (x ≡ holders.Mapping k)
mapping-holder x some = grind arith

-- the pin of a mapping is live
pub mapping-pin : (s : Setting) (h : History) (xs : List State) (d : DomId) (handle : Handle) (m : HeldPin) → DomainsStand s h xs → mapping_of (mappings_at h d.0) handle ≡ Some m → Any (IsRightful s d m) (live h)
mapping-pin s h xs d handle m st found = let a = gathered-any mapping_named mapping-keyed d.0 m (live h) (found-in (mappings_at h d.0) handle m found) in
    let p = a.1 in let by = a.4 in let held = mapping-holder p.holder by.2 in
    let w : IsLawfullyHeld s p (holders.Mapping held.0) = subst (IsLawfullyHeld s p) held.1 (subst (IsLawfulPin s) a.3 (st.lawful a.0 p a.2)) in
    let own : record { 0 = p.actor } ≡ d = ap (λ (n : ℕ). record { 0 = n }) by.0 in (
      a.0,
      p,
      a.2,
      a.3,
      record {
        own = by.0;
        is = by.1;
        lets = subst (λ (q : HeldPin). LetsUse s d q.dom q.dir q.entry) by.1 (subst (λ (z : DomId). LetsUse s z p.held.dom p.held.dir p.held.entry) own w);
      },
    )

-- an access through a mapping, if its kind allows the direction, and an access to a frame of the domain's own
access-mapped : (s : Setting) (h : History) (xs : List State) (d : DomId) (r : OpenRequest) (dir : Dir) (handle : Handle) (dom : DomId) (frame off len : ℕ) → DomainsStand s h xs → (a : IsMapped (known_at s h d) handle dom frame)
    → ((dir ≡ Write) → a.mapping.dir ≡ Write) → off + len ≤ FRAME_SIZE → (MayUseMapping s d (mapping_of (mappings_at h d.0) handle) → MayAsk s h d r) → AccessIsJustified s h d r dir (record { frame = record { owner = dom; number = frame }; off = off }) len
access-mapped s h xs d r dir handle dom frame off len st a writes inside ask = let m = a.mapping in
    let pin = mapping-pin s h xs d handle m st a.found in
    let at : Spot = record { frame = record { owner = m.dom; number = frame_of m.entry }; off = off } in
    subst (λ (z : DomId). AccessIsJustified s h d r dir (record { frame = record { owner = z; number = frame }; off = off }) len) (sym a.of_dom)
    (subst (λ (n : ℕ). AccessIsJustified s h d r dir (record { frame = record { owner = m.dom; number = n }; off = off }) len) (sym a.of_frame) (
      (pin.4.lets.2, inside),
      inr (any-map (IsRightful s d m) (Reaches d d dir uses.Map at len) (live h) (λ p b. record {
        of_actor = b.own;
        of_owner = ap (λ (q : HeldPin). q.dom.0) b.is;
        of_frame = ap (λ (q : HeldPin). frame_of q.entry) b.is;
        permitted = ap (λ (q : HeldPin). permits q.entry d dir uses.Map off len) b.is ∙ permits-as m.entry d m.dir dir off len writes b.lets.0;
        writes = λ w. ap (λ (q : HeldPin). q.dir) b.is ∙ writes w;
      }) pin),
      ask (subst (MayUseMapping s d) (sym a.found) pin.4.lets.1),
    ))

access-own : (s : Setting) (h : History) (d : DomId) (r : OpenRequest) (dir : Dir) (dom : DomId) (frame off len : ℕ) → dom ≡ d → frame < frame_count_of s.domains d → off + len ≤ FRAME_SIZE → MayAsk s h d r
    → AccessIsJustified s h d r dir (record { frame = record { owner = dom; number = frame }; off = off }) len
access-own s h d r dir dom frame off len own framed range ask = grind arith

pub same-held : (k : CallerKnowledge) (handle : Handle) (a b : HeldPin) → k.mapping handle ≡ Some a → k.mapping handle ≡ Some b → a ≡ b
same-held k handle a b e f = same_Some a b (sym e ∙ f)

pub read-justified : (s : Setting) (h : History) (xs : List State) (d : DomId) (r : OpenRequest) (dom : DomId) (frame off len : ℕ) → DomainsStand s h xs → begun (known_at s h d) d r ≡ None
    → RestsOnRequest (known_at s h d) d r (call_steps.Read dom frame off len) → Justified s h d r (call_steps.Read dom frame off len)
read-justified s h xs d r dom frame off len st none (inl (handle, is, mapped)) =
    let o = opens (known_at s h d) d (Load handle off len) (none-of (known_at s h d) d r (Load handle off len) is none) in
    access-mapped s h xs d r Read handle dom frame off len st mapped (λ w. absurd (cc)) o.range (subst (MayAsk s h d) (sym is))
read-justified s h xs d r dom frame off len st none (inr (is, own)) =
    let o = opens (known_at s h d) d (Peek frame off len) (none-of (known_at s h d) d r (Peek frame off len) is none) in
    access-own s h d r Read dom frame off len own o.framed o.range (subst (MayAsk s h d) (sym is) tt)

pub write-justified : (s : Setting) (h : History) (xs : List State) (d : DomId) (r : OpenRequest) (dom : DomId) (frame off len : ℕ) → DomainsStand s h xs → begun (known_at s h d) d r ≡ None
    → RestsOnRequest (known_at s h d) d r (call_steps.Write dom frame off len) → Justified s h d r (call_steps.Write dom frame off len)
write-justified s h xs d r dom frame off len st none (inl (handle, is, mapped)) =
    let o = opens (known_at s h d) d (Store handle off len) (none-of (known_at s h d) d r (Store handle off len) is none) in
    let same : o.mapping ≡ mapped.mapping = same-held (known_at s h d) handle o.mapping mapped.mapping o.found mapped.found in
    access-mapped s h xs d r Write handle dom frame off len st mapped (λ w. ap (λ (m : HeldPin). m.dir) (sym same) ∙ o.writable) o.range (subst (MayAsk s h d) (sym is))
write-justified s h xs d r dom frame off len st none (inr (is, own)) =
    let o = opens (known_at s h d) d (Poke frame off len) (none-of (known_at s h d) d r (Poke frame off len) is none) in
    access-own s h d r Write dom frame off len own o.framed o.range (subst (MayAsk s h d) (sym is) tt)

-- a copy

-- the pin is the domain's
abbrev IsOwnPin : DomId → HeldPin → Pin → Type 0
IsOwnPin d m p = (p.actor ≡ d.0) × (p.held ≡ m)

leg-pin : (h : History) (d : DomId) (m : HeldPin) → IsHeldIn m (legs_at h d.0) → Any (IsOwnPin d m) (live h)
leg-pin h d m a = any-map (IsBy leg-keyed d.0 m) (IsOwnPin d m) (live h) (λ p b. (b.0, b.1)) (gathered-any by_leg leg-keyed d.0 m (live h) a)

via-may : (k : CallerKnowledge) (pair : DomId × DomId) (dom : DomId) → via_judged k pair dom ≡ None → IsAllowed k.may (rights_to_copy k pair.0 pair.1)
via-may k pair dom e = grind arith

reached-frame : (s : Setting) (h : History) (d : DomId) (granted : Bool) (end : End) (dir : Dir) (len : ℕ) (pair : DomId → DomId × DomId) (access_path : AccessPath) → IsReached (known_at s h d) d granted end dir len pair access_path → end.offset + len ≤ FRAME_SIZE
    → IsInFrame s (end_spot d end access_path) len
reached-frame s h d granted end dir len pair access_path a range = grind arith

reaches-by : (s : Setting) (h : History) (d judged : DomId) (dir : Dir) (off len : ℕ) (p : HeldPin) (q : Pin) → IsPermitted (known_at s h d) p judged dir off len → IsOwnPin d p q
    → Reaches d judged dir uses.Copy (record { frame = record { owner = p.dom; number = frame_of p.entry }; off = off }) len q
reaches-by s h d judged dir off len p q a own = grind arith

-- the pins of an access path are among these
abbrev HasAccessPath : List (ℕ × HeldPin) → AccessPath → Type 0
HasAccessPath legs Own = Unit {0}
HasAccessPath legs (Direct p) = IsHeldIn p legs
HasAccessPath legs (Through via p) = IsHeldIn via legs × IsHeldIn p legs

end-justified : (s : Setting) (h : History) (d : DomId) (granted : Bool) (end : End) (dir : Dir) (len : ℕ) (pair : DomId → DomId × DomId) (owners : DomId × DomId) (access_path : AccessPath) → HasAccessPath (legs_at h d.0) access_path
    → IsReached (known_at s h d) d granted end dir len pair access_path → ((p : HeldPin) (via : HeldPin) → access_path ≡ Through via p → pair p.dom ≡ owners)
    → EndIsJustified s h d granted dir (end_spot d end access_path) len (resolved d end.domid) owners
end-justified s h d granted end dir len pair owners Own has a same = inl (a.0, refl)
end-justified s h d granted end dir len pair owners (Direct p) has a same =
    inr (inl (a.0, a.1, any-map (IsOwnPin d p) (Reaches d d dir uses.Copy (end_spot d end (Direct p)) len) (live h) (λ q own. reaches-by s h d d dir end.offset len p q a.2 own) (leg-pin h d p has)))
end-justified s h d granted end dir len pair owners (Through via p) has a same = inr (inr (
  a.0,
  any-map (IsOwnPin d p) _ (live h)
      (λ q own. any-map (IsOwnPin d via) _ (live h) (λ v of_via. (forwards-by q own v of_via, reaches-by s h d (resolved d end.domid) dir end.offset len p q a.3 own)) (leg-pin h d via has.0))
      (leg-pin h d p has.1),
  subst (MayCopy s) (same p via refl) (via-may (known_at s h d) (pair p.dom) p.dom a.4),
)) where
  leads : (e : Entry) (m q : HeldPin) → m ≡ q → GivesHeld e m → GivesHeld e q
  leads e m q is b = subst (GivesHeld e) is b

  forwards-by : (q : Pin) → IsOwnPin d p q → (v : Pin) → IsOwnPin d via v → Forwards d dir (resolved d end.domid) q v
  forwards-by q own v of_via = record {
    of_actor = of_via.0;
    of_named = ap (λ (x : HeldPin). x.dom) of_via.1 ∙ a.1.named;
    forwarded = ap (λ (x : HeldPin). forwards x.entry d dir) of_via.1 ∙ a.1.forwarded;
    leads = subst (λ (x : HeldPin). GivesHeld x.entry q.held) (sym of_via.1) (leads via.entry p q.held (sym own.1) a.2);
    writes = λ w. ap (λ (x : HeldPin). x.dir) of_via.1 ∙ a.1.taken_for ∙ w;
  }

-- the pins of both access paths are held
access_paths-held : (a b : AccessPath) → let legs = numbered 0 (reverse (last_first (record { source = a; dest = b }))) in HasAccessPath legs a × HasAccessPath legs b
access_paths-held a b = grind arith

pub copy-justified : (s : Setting) (h : History) (d : DomId) (r : OpenRequest) (pins : CallPins) (from to : Spot) (len : ℕ) → begun (known_at s h d) d r ≡ None → legs_at h d.0 ≡ numbered 0 (reverse (last_first pins))
    → RestsOnWays (known_at s h d) d r pins from to len → CopyIsJustified s h d r from to len
copy-justified s h d r pins from to len none legs a = let k = known_at s h d in let c = a.copy in
    let has = subst (λ (l : List (ℕ × HeldPin)). HasAccessPath l pins.source × HasAccessPath l pins.dest) (sym legs) (access_paths-held pins.source pins.dest) in let o = opens k d (Copy c) (none-of k d r (Copy c) a.of_copy none) in
    let f = end_spot d c.source pins.source in let t = end_spot d c.dest pins.dest in
    let fits : CopyIsJustified s h d (Copy c) f t c.len = (
      reached-frame s h d (is_source_granted c) c.source Read c.len (source_pair d c) pins.source a.source_reached o.source_range,
      reached-frame s h d (is_dest_granted c) c.dest Write c.len (dest_pair d pins.source) pins.dest a.dest_reached o.dest_range,
      o.allowed,
      end-justified s h d (is_source_granted c) c.source Read c.len (source_pair d c) (f.frame.owner, resolved d c.dest.domid) pins.source has.0 a.source_reached
          (λ p via e. ap (λ (z : AccessPath). (owner_by d z, resolved d c.dest.domid)) (sym e)),
      end-justified s h d (is_dest_granted c) c.dest Write c.len (dest_pair d pins.source) (f.frame.owner, t.frame.owner) pins.dest has.1 a.dest_reached
          (λ p via e. ap (λ (z : AccessPath). (f.frame.owner, owner_by d z)) (sym e)),
    ) in subst (λ (z : OpenRequest). CopyIsJustified s h d z from to len) (sym a.of_copy)
    (subst (λ (z : Spot). CopyIsJustified s h d (Copy c) z to len) (sym a.from_is)
    (subst (λ (z : Spot). CopyIsJustified s h d (Copy c) f z len) (sym a.to_is)
    (subst (λ (n : ℕ). CopyIsJustified s h d (Copy c) f t n) (sym a.len_is) fits)))
