-- No earlier pin reaches what an owner has taken back.
use Rattle.gt_core.proofs.Words.{Event, Element, LegalAfter, grown, history_after, slice_index_or, ◌≡◌, ◌≢◌, ◌+◌, ◌⊎◌}
use Rattle.gt_core.proofs.Words.{inl, inr, ℕ, refl, Bool, true, false, List, [], ◌∷◌, ◌++◌, Option, Some, None, cond}
use Rattle.gt_core.proofs.Words.{sym, ap, ◌∙◌, subst, arith, All, Any, count_by, sum_by-cons, eq-eqb, false≢true}
use Rattle.gt_core.proofs.Words.{All-nil, All-cons, All-head, All-tail, DomId, Dir, Read, Write, Entry, Page, Sub}
use Rattle.gt_core.proofs.Words.{Invalid, Via, permits, frame_of, EntryChange, Publish, Observation, Taken, Step}
use Rattle.gt_core.proofs.Words.{Exchange, Unpin, Spot, OpenRequest, Copy, Answer, ItemEvent, Stepped, Item, History}
use Rattle.gt_core.proofs.Words.{Setting, Pin, entry_at, live, pinned_by, unpinned_by, is_pin_on, same_dir, reads_at}
use Rattle.gt_core.proofs.Words.{writes_at, IsRight, IsSafeChange, StepsRightIn, EndIsJustified, CopyIsJustified}
use Rattle.gt_core.proofs.Words.{Justified, Forwards, IsLegalHistory, open_call, Underway, changed_entry_of}
use Rattle.gt_model.specs.declared.action.Step.TheVariants as call_steps
use Rattle.gt_model.specs.declared.change.EntryChange.TheVariants as changes
use Rattle.gt_types.specs.declared.Use.TheVariants as uses
use Rattle.gt_types.specs.declared.Use.{Use}
use Rattle.gt_model.specs.Permits.{is_of_frame}
use Rattle.gt_model.specs.History.{with_ro, changed_entry}
use Rattle.gt_model.specs.Justified.{Reaches}
use Rattle.gt_core.specs.TakenBack.{EndsPinsOn, Grants, IsForeignAccess, IsPinOn, IsTakenBack}
unfoldable use Rattle.gt_core.specs.TakenBack.{IsTakenSince}
use Rattle.gt_core.proofs.{Playing.legal-grows, Entries.of-safe, Entries.at-change}
use Rattle.gt_model.proofs.Observers.{all-without, stepped, exchanged, exchanged-live, kept-entry}
use Rattle.std.proofs.lemmas.List.Elements.{All-append, All-weaker}

-- histories

legal-part : (s : Setting) (later h : History) → IsLegalHistory s (later ++ h) → IsLegalHistory s h
unfolding IsLegalHistory
legal-part s [] h legal = legal
legal-part s (i ∷ later) h legal = legal-part s later h legal.1

last-right : (s : Setting) (i : Item) (h : History) → IsLegalHistory s (i ∷ h) → IsRight s h i
unfolding IsLegalHistory
last-right s i h legal = legal.0

legal-before : (s : Setting) (i : Item) (h : History) → IsLegalHistory s (i ∷ h) → IsLegalHistory s h
unfolding IsLegalHistory
legal-before s i h legal = legal.1

-- the items of a legal trace, after those before it
after-legal : (s : Setting) (h : History) (events : List Event) (trace : List Element) → IsLegalHistory s h → LegalAfter s h events trace → IsLegalHistory s (history_after h trace)
after-legal s h [] [] was legal = was
after-legal s h (e ∷ es) (x ∷ xs) was legal = after-legal s (grown h x) es xs (legal-grows s h e x legal.0 was) legal.1
after-legal s h [] (x ∷ xs) was legal = absurd legal
after-legal s h (e ∷ es) [] was legal = absurd legal

pub trace-legal : (s : Setting) (events : List Event) (trace : List Element) → LegalAfter s [] events trace → IsLegalHistory s (history_after [] trace)
unfolding IsLegalHistory
trace-legal s events trace legal = after-legal s [] events trace tt legal

-- pins

-- what held for all pins holds for those that are left
unpinned-all : (P : Pin → Type 0) (d : DomId) (x : ItemEvent) (ps : List Pin) → All P ps → All P (unpinned_by d x ps)
unpinned-all P d (Stepped (Unpin p holder) seen) ps a = all-without P d.0 holder ps a
unpinned-all P d x ps a = a

-- an event takes at most one pin
pinned-one : (d : DomId) (x : ItemEvent) (a : Option Answer) (h : History) (ps : List Pin) → All (λ p. pinned_by d x a h ps ≡ p ∷ []) (pinned_by d x a h ps)
pinned-one d (Stepped (call_steps.Pin p) Taken) a h ps = let qs = pinned_by d (Stepped (call_steps.Pin p) Taken) a h ps in All-cons (λ q. qs ≡ q ∷ []) _ [] refl (All-nil (λ q. qs ≡ q ∷ []))
pinned-one d x a h ps = All-nil (λ q. [] ≡ q ∷ [])

-- the pins after one more item
live-all : (P : Pin → Type 0) (i : Item) (h : History) → All P (live h) → All P (pinned_by i.actor i.happened i.answer h (live h)) → All P (live (i ∷ h))
unfolding live
live-all P i h a b = All-append P (unpinned_by i.actor i.happened (live h)) (pinned_by i.actor i.happened i.answer h (live h)) (unpinned-all P i.actor i.happened (live h) a) b

same-kind : (dir : Dir) → same_dir dir dir ≡ true
same-kind Read = refl
same-kind Write = refl

on-counted : (t r : ℕ) (p : Pin) → IsPinOn t r p → is_pin_on t r p.held.dir p ≡ true
on-counted t r p on = let a = eq-eqb p.held.dom.0 t on.0 in let b = eq-eqb p.held.gref.0 r on.1 in let c = same-kind p.held.dir in cc

one-counted : (f : Pin → Bool) (p : Pin) (n : ℕ) → f p ≡ true → cond {A = ℕ} (f p) 1 0 + n ≡ 0 → ⊥
one-counted f p n y e = let d : 1 + n ≡ 0 = subst (λ (b : Bool). cond {A = ℕ} b 1 0 + n ≡ 0) y e in omega arith

-- if none is counted, there is none
none-counted : (f : Pin → Bool) (ps : List Pin) → count_by f ps ≡ 0 → All (λ p. f p ≡ true → ⊥) ps
none-counted f [] e = All-nil (λ p. f p ≡ true → ⊥)
none-counted f (p ∷ ps) e = let c : count_by f (p ∷ ps) ≡ cond {A = ℕ} (f p) 1 0 + count_by f ps = sum_by-cons (λ (q : Pin). cond (f q) 1 0) p ps in
    All-cons (λ q. f q ≡ true → ⊥) p ps (λ y. one-counted f p (count_by f ps) y (let n : cond {A = ℕ} (f p) 1 0 + count_by f ps ≡ 0 = sym c ∙ e in n)) (none-counted f ps (omega arith))

refuted : (t r : ℕ) (p : Pin) → (is_pin_on t r Read p ≡ true → ⊥) → (is_pin_on t r Write p ≡ true → ⊥) → IsPinOn t r p → ⊥
refuted t r p a b on = by p.held.dir (on-counted t r p on) where
  by : (dir : Dir) → is_pin_on t r dir p ≡ true → ⊥
  by Read e = a e
  by Write e = b e

none-on : (h : History) (t r : ℕ) → reads_at h t r ≡ 0 → writes_at h t r ≡ 0 → All (λ p. IsPinOn t r p → ⊥) (live h)
none-on h t r reads writes = λ k d lt.
    refuted t r (slice_index_or (live h) k d) (none-counted (is_pin_on t r Read) (live h) reads k d lt) (none-counted (is_pin_on t r Write) (live h) writes k d lt)

-- pins of an earlier record

-- at a revocation and at a publication no pin is live
ended-by : (s : Setting) (h : History) (d : DomId) (x : ItemEvent) (a : Option Answer) (t r : ℕ) → let i : Item = record { actor = d; happened = x; answer = a } in
    IsRight s h i → EndsPinsOn t r i → (reads_at h t r ≡ 0) × (writes_at h t r ≡ 0)
ended-by s h d (Stepped (Exchange gref looked changes.Revoke) Taken) a t r right ends =
    let safe = of-safe s h (exchanged d gref looked changes.Revoke a) _ _ (open_call h d.0) right in
    subst (λ (u : ℕ). (reads_at h u r ≡ 0) × (writes_at h u r ≡ 0)) ends.0 (subst (λ (g : ℕ). (reads_at h d.0 g ≡ 0) × (writes_at h d.0 g ≡ 0)) ends.1 safe)
ended-by s h d (Stepped (Exchange gref looked (Publish entry)) Taken) a t r right ends =
    let safe = of-safe s h (exchanged d gref looked (Publish entry) a) _ _ (open_call h d.0) right in
    subst (λ (u : ℕ). (reads_at h u r ≡ 0) × (writes_at h u r ≡ 0)) ends.0 (subst (λ (g : ℕ). (reads_at h d.0 g ≡ 0) × (writes_at h d.0 g ≡ 0)) ends.1 (safe.2, safe.3))
ended-by s h d x a t r right ends = absurd ends.1

-- nor does it take one
ended-live : (d : DomId) (x : ItemEvent) (a : Option Answer) (h : History) (t r : ℕ) → let i : Item = record { actor = d; happened = x; answer = a } in EndsPinsOn t r i → live (i ∷ h) ≡ live h
ended-live d (Stepped (Exchange gref looked changes.Revoke) Taken) a h t r ends = exchanged-live h d gref looked changes.Revoke a
ended-live d (Stepped (Exchange gref looked (Publish entry)) Taken) a h t r ends = exchanged-live h d gref looked (Publish entry) a
ended-live d x a h t r ends = absurd ends.1

-- a pin that is on the entry was taken since
abbrev IsSince : ℕ → ℕ → History → History → Pin → Type 0
IsSince t r later base p = IsPinOn t r p → IsTakenSince later base p

since : (t r : ℕ) (later base : History) → All (λ p. IsPinOn t r p → ⊥) (live base) → All (IsSince t r later base) (live (later ++ base))
unfolding IsTakenSince
since t r [] base none = none
since t r (i ∷ later) base none = live-all (IsSince t r (i ∷ later) base) i (later ++ base)
    (All-weaker (IsSince t r later base) (IsSince t r (i ∷ later) base) (λ p f on. inr (f on)) (live (later ++ base)) (since t r later base none))
    (All-weaker (λ p. pinned_by i.actor i.happened i.answer (later ++ base) (live (later ++ base)) ≡ p ∷ []) (IsSince t r (i ∷ later) base) (λ p e on. inl e) _
    (pinned-one i.actor i.happened i.answer (later ++ base) (live (later ++ base))))

pub taken-since : (s : Setting) (later before : History) (i : Item) (t r : ℕ) → IsLegalHistory s (later ++ i ∷ before) → EndsPinsOn t r i
    → All (λ p. IsPinOn t r p → IsTakenSince later (i ∷ before) p) (live (later ++ i ∷ before))
taken-since s later before i t r legal ends =
    let counts = ended-by s before i.actor i.happened i.answer t r (last-right s i before (legal-part s later (i ∷ before) legal)) ends in
    since t r later (i ∷ before) (subst (All (λ p. IsPinOn t r p → ⊥)) (sym (ended-live i.actor i.happened i.answer before t r ends)) (none-on before t r counts.0 counts.1))

-- pages

ro-frame : (ro : Bool) (e : Entry) (f : ℕ) → is_of_frame (with_ro ro e) f ≡ is_of_frame e f
ro-frame ro e f = grind arith

ro-valid : (ro : Bool) (e : Entry) → with_ro ro e ≢ Invalid → e ≢ Invalid
ro-valid ro e valid = grind arith

-- a pin on an entry that is not invalid is on the same frame
abbrev IsOfEntry : Pin → Entry → Type 0
IsOfEntry p e = e ≢ Invalid → (f : ℕ) → is_of_frame p.held.entry f ≡ is_of_frame e f

abbrev Fits : History → Pin → Type 0
Fits h p = IsOfEntry p (entry_at h p.held.dom.0 p.held.gref.0)

-- after a change of the entry
change-fits : (h : History) (u g : ℕ) (change : EntryChange) (p : Pin) → IsSafeChange h u g change → (reads_at h u g ≡ 0 → writes_at h u g ≡ 0 → IsPinOn u g p → ⊥) → IsPinOn u g p
    → IsOfEntry p (entry_at h u g) → IsOfEntry p (changed_entry change (entry_at h u g))
change-fits h u g (Publish entry) p safe none on was = λ valid f. absurd (none safe.2 safe.3 on)
change-fits h u g changes.Revoke p safe none on was = λ valid f. absurd (valid refl)
change-fits h u g changes.Withdraw p safe none on was = λ valid f. absurd (valid refl)
change-fits h u g change p safe none on was = λ valid f. was (ro-valid _ (entry_at h u g) valid) f ∙ sym (ro-frame _ (entry_at h u g) f)

kept-fits : (s : Setting) (h : History) (d : DomId) (x : ItemEvent) (a : Option Answer) → let i : Item = record { actor = d; happened = x; answer = a } in IsRight s h i
    → All (Fits h) (live h) → All (Fits (i ∷ h)) (live h)
unfolding entry_at
kept-fits s h d (Stepped (Exchange gref looked change) Taken) a right was = λ k b lt. let p = slice_index_or (live h) k b in
    at-change (λ (u g : ℕ) (c : Option EntryChange). IsPinOn u g p → IsOfEntry p (changed_entry_of c (entry_at h u g))) d.0 gref.0 change p.held.dom.0 p.held.gref.0
    (λ on. change-fits h d.0 gref.0 change p (of-safe s h (exchanged d gref looked change a) _ _ (open_call h d.0) right) (λ reads writes. none-on h d.0 gref.0 reads writes k b lt) on
    (subst (λ (u : ℕ). IsOfEntry p (entry_at h u gref.0)) on.0 (subst (λ (g : ℕ). IsOfEntry p (entry_at h p.held.dom.0 g)) on.1 (was k b lt))))
    (λ on. was k b lt) (refl, refl)
kept-fits s h d x a right was = let i : Item = record { actor = d; happened = x; answer = a } in
    λ k b lt. let p = slice_index_or (live h) k b in subst (IsOfEntry p) (sym (kept-entry i h p.held.dom.0 p.held.gref.0 (λ r. refl))) (was k b lt)

-- a new pin is on the present entry
new-fits : (d : DomId) (x : ItemEvent) (a : Option Answer) (h : History) → let i : Item = record { actor = d; happened = x; answer = a } in All (Fits (i ∷ h)) (pinned_by d x a h (live h))
new-fits d (Stepped (call_steps.Pin p) Taken) a h = let i : Item = record { actor = d; happened = Stepped (call_steps.Pin p) Taken; answer = a } in
    All-cons (Fits (i ∷ h)) _ [] (λ valid f. ap (λ (e : Entry). is_of_frame e f) (sym (kept-entry i h p.dom.0 p.gref.0 (λ r. refl)))) (All-nil (Fits (i ∷ h)))
new-fits d x a h = let i : Item = record { actor = d; happened = x; answer = a } in All-nil (Fits (i ∷ h))

fits : (s : Setting) (h : History) → IsLegalHistory s h → All (Fits h) (live h)
unfolding live
fits s [] legal = All-nil (Fits [])
fits s (i ∷ h) legal =
    live-all (Fits (i ∷ h)) i h (kept-fits s h i.actor i.happened i.answer (last-right s i h legal) (fits s h (legal-before s i h legal))) (new-fits i.actor i.happened i.answer h)

-- the frame f of domain t is out of reach: no entry grants it, and no live pin reaches it
abbrev IsApart : ℕ → ℕ → Pin → Type 0
IsApart t f p = p.held.dom.0 ≡ t → is_of_frame p.held.entry f ≡ false

pub record IsOut (h : History) (t f : ℕ) : Type 0 where
  pub entries : (r : ℕ) → is_of_frame (entry_at h t r) f ≡ false
  pub pins : All (IsApart t f) (live h)

is-invalid : (e : Entry) → (e ≡ Invalid) ⊎ (e ≢ Invalid)
is-invalid e = grind arith

out-first : (s : Setting) (h : History) (t f : ℕ) → IsLegalHistory s h → IsTakenBack h t f → IsOut h t f
out-first s h t f legal back = record { entries = λ r. (back r).0; pins = pins } where
  pins : All (IsApart t f) (live h)
  pins k b lt is = let p = slice_index_or (live h) k b in by (is-invalid (entry_at h t p.held.gref.0)) where
    by : (entry_at h t (slice_index_or (live h) k b).held.gref.0 ≡ Invalid) ⊎ (entry_at h t (slice_index_or (live h) k b).held.gref.0 ≢ Invalid)
        → is_of_frame (slice_index_or (live h) k b).held.entry f ≡ false
    by (inl e) = let r = (slice_index_or (live h) k b).held.gref.0 in let c = (back r).1 e in absurd (none-on h t r c.0 c.1 k b lt (is, refl))
    by (inr n) = let p = slice_index_or (live h) k b in
        subst (λ (u : ℕ). IsOfEntry p (entry_at h u p.held.gref.0)) is (fits s h legal k b lt) n f ∙ (back p.held.gref.0).0

not-true : (b : Bool) → (b ≡ true → ⊥) → b ≡ false
not-true true n = absurd (n refl)
not-true false n = refl

change-out : (change : EntryChange) (e : Entry) (f : ℕ) → ((entry : Entry) → change ≡ Publish entry → is_of_frame entry f ≡ false) → is_of_frame e f ≡ false → is_of_frame (changed_entry change e) f ≡ false
change-out (Publish entry) e f silent was = silent entry refl
change-out changes.Revoke e f silent was = refl
change-out changes.Withdraw e f silent was = refl
change-out change e f silent was = ro-frame _ e f ∙ was

-- no entry grants the frame after one more item
entries-out : (d : DomId) (x : ItemEvent) (a : Option Answer) (h : History) (t f r : ℕ) → let i : Item = record { actor = d; happened = x; answer = a } in
    (Grants t f i → ⊥) → ((r : ℕ) → is_of_frame (entry_at h t r) f ≡ false) → is_of_frame (entry_at (i ∷ h) t r) f ≡ false
unfolding entry_at
entries-out d (Stepped (Exchange gref looked change) Taken) a h t f r silent was =
    at-change (λ (u g : ℕ) (c : Option EntryChange). u ≡ t → is_of_frame (changed_entry_of c (entry_at h u g)) f ≡ false) d.0 gref.0 change t r
    (λ own. change-out change (entry_at h d.0 gref.0) f (granted change silent own) (subst (λ (u : ℕ). is_of_frame (entry_at h u gref.0) f ≡ false) (sym own) (was gref.0)))
    (λ own. was r) refl
  where
    granted : (c : EntryChange) → (Grants t f (exchanged d gref looked c a) → ⊥) → d.0 ≡ t → (entry : Entry) → c ≡ Publish entry → is_of_frame entry f ≡ false
    granted c quiet own entry e = not-true (is_of_frame entry f) (λ y. subst (λ (b : EntryChange). Grants t f (exchanged d gref looked b a) → ⊥) e quiet (own, y))
entries-out d x a h t f r silent was = let i : Item = record { actor = d; happened = x; answer = a } in
    ap (λ (e : Entry). is_of_frame e f) (kept-entry i h t r (λ r. refl)) ∙ was r

new-out : (d : DomId) (x : ItemEvent) (a : Option Answer) (h : History) (t f : ℕ) → ((r : ℕ) → is_of_frame (entry_at h t r) f ≡ false) → All (IsApart t f) (pinned_by d x a h (live h))
new-out d (Stepped (call_steps.Pin p) Taken) a h t f was = All-cons (IsApart t f) _ [] (λ is. subst (λ (u : ℕ). is_of_frame (entry_at h u p.gref.0) f ≡ false) (sym is) (was p.gref.0)) (All-nil (IsApart t f))
new-out d x a h t f was = All-nil (IsApart t f)

stays-out : (later before : History) (t f : ℕ) → All (λ j. Grants t f j → ⊥) later → IsOut before t f → IsOut (later ++ before) t f
stays-out [] before t f silent out = out
stays-out (i ∷ later) before t f silent out = let P : Item → Type 0 = λ j. Grants t f j → ⊥ in let was = stays-out later before t f (All-tail P i later silent) out in
    record {
      entries = λ r. entries-out i.actor i.happened i.answer (later ++ before) t f r (All-head P i later silent) was.entries;
      pins = live-all (IsApart t f) i (later ++ before) was.pins (new-out i.actor i.happened i.answer (later ++ before) t f was.entries);
    }

-- accesses

permits-frame : (e : Entry) (d : DomId) (dir : Dir) (purpose : Use) (off len f : ℕ) → permits e d dir purpose off len ≡ true → frame_of e ≡ f → is_of_frame e f ≡ true
permits-frame (Page dom ro frame) d dir purpose off len f y e = eq-eqb frame f e
permits-frame (Sub dom ro frame start size) d dir purpose off len f y e = eq-eqb frame f e
permits-frame Invalid d dir purpose off len f y e = absurd (false≢true y)
permits-frame (Via dom ro dom2 gref) d dir purpose off len f y e = absurd (false≢true y)

-- no live pin that is out of reach reaches the frame
no-reach : (d judged : DomId) (dir : Dir) (purpose : Use) (at : Spot) (len t f : ℕ) (p : Pin) → at.frame.owner.0 ≡ t → at.frame.number ≡ f → IsApart t f p → Reaches d judged dir purpose at len p → ⊥
no-reach d judged dir purpose at len t f p own is apart reach =
    false≢true (sym (apart (reach.of_owner ∙ own)) ∙ permits-frame p.held.entry judged dir purpose at.off len f reach.permitted (reach.of_frame ∙ is))

all-none : {X : Type 0} (P Q : X → Type 0) (xs : List X) → All P xs → ((x : X) → P x → Q x → ⊥) → Any Q xs → ⊥
all-none P Q xs all apart any = apart any.1 (subst P any.3 (all any.0 any.1 any.2)) any.4

end-out : (s : Setting) (h : History) (d : DomId) (granted : Bool) (dir : Dir) (at : Spot) (len : ℕ) (named : DomId) (owners : DomId × DomId) (t f : ℕ)
    → IsOut h t f → d.0 ≢ t → at.frame.owner.0 ≡ t → at.frame.number ≡ f → EndIsJustified s h d granted dir at len named owners → ⊥
end-out s h d granted dir at len named owners t f out other own is (inl e) = other (sym (ap (λ (d : DomId). d.0) e.1) ∙ own)
end-out s h d granted dir at len named owners t f out other own is (inr (inl e)) =
    all-none (IsApart t f) (Reaches d d dir uses.Copy at len) (live h) out.pins (λ p. no-reach d d dir uses.Copy at len t f p own is) e.2
end-out s h d granted dir at len named owners t f out other own is (inr (inr e)) =
    all-none (IsApart t f) (λ p. Any (λ via. Forwards d dir named p via × Reaches d named dir uses.Copy at len p) (live h)) (live h) out.pins
    (λ p apart any. no-reach d named dir uses.Copy at len t f p own is apart any.4.1) e.1

copy-out : (s : Setting) (h : History) (d : DomId) (request : OpenRequest) (from to : Spot) (len t f : ℕ) → IsOut h t f → d.0 ≢ t → CopyIsJustified s h d request from to len
    → ((from.frame.owner.0 ≡ t) × (from.frame.number ≡ f)) ⊎ ((to.frame.owner.0 ≡ t) × (to.frame.number ≡ f)) → ⊥
copy-out s h d (Copy c) from to len t f out other just (inl e) = end-out s h d _ Read from len _ _ t f out other e.0 e.1 just.3
copy-out s h d (Copy c) from to len t f out other just (inr e) = end-out s h d _ Write to len _ _ t f out other e.0 e.1 just.4
copy-out s h d request from to len t f out other just touched = absurd just

range-out : (h : History) (d : DomId) (dir : Dir) (at : Spot) (len t f : ℕ) → IsOut h t f → d.0 ≢ t → at.frame.owner.0 ≡ t → at.frame.number ≡ f → (at.frame.owner.0 ≡ d.0) ⊎ Any (Reaches d d dir uses.Map at len) (live h) → ⊥
range-out h d dir at len t f out other own is (inl e) = other (sym e ∙ own)
range-out h d dir at len t f out other own is (inr e) = all-none (IsApart t f) (Reaches d d dir uses.Map at len) (live h) out.pins (λ p. no-reach d d dir uses.Map at len t f p own is) e

just-out : (s : Setting) (h : History) (d : DomId) (request : OpenRequest) (step : Step) (seen : Observation) (a : Option Answer) (t f : ℕ) → IsOut h t f → Justified s h d request step → IsForeignAccess t f (stepped d step seen a) → ⊥
just-out s h d request (call_steps.Read dom frame off len) seen a t f out just foreign = range-out h d Read (record { frame = record { owner = dom; number = frame }; off = off }) len t f out foreign.0 foreign.1.0 foreign.1.1 just.1
just-out s h d request (call_steps.Write dom frame off len) seen a t f out just foreign = range-out h d Write (record { frame = record { owner = dom; number = frame }; off = off }) len t f out foreign.0 foreign.1.0 foreign.1.1 just.1
just-out s h d request (call_steps.Copy from to len) seen a t f out just foreign = copy-out s h d request from to len t f out foreign.0 just foreign.1
just-out s h d request step seen a t f out just foreign = absurd foreign.1

step-out : (s : Setting) (h : History) (d : DomId) (step : Step) (seen : Observation) (a : Option Answer) (t f : ℕ) (c : Option Underway) → IsOut h t f → StepsRightIn s h (stepped d step seen a) step seen c → IsForeignAccess t f (stepped d step seen a) → ⊥
step-out s h d step seen a t f None out right foreign = absurd right
step-out s h d step seen a t f (Some c) out right foreign = just-out s h d c.request step seen a t f out right.justified foreign

item-out : (s : Setting) (h : History) (d : DomId) (x : ItemEvent) (a : Option Answer) (t f : ℕ) → let i : Item = record { actor = d; happened = x; answer = a } in IsOut h t f → IsRight s h i → IsForeignAccess t f i → ⊥
item-out s h d (Stepped step seen) a t f out right foreign = step-out s h d step seen a t f (open_call h d.0) out right foreign
item-out s h d x a t f out right foreign = absurd foreign.1

pub out-of-reach : (s : Setting) (later before : History) (i : Item) (t f : ℕ) → IsLegalHistory s (i ∷ (later ++ before)) → IsTakenBack before t f → All (λ j. Grants t f j → ⊥) later → IsForeignAccess t f i → ⊥
out-of-reach s later before i t f legal back silent foreign =
    let was = legal-before s i (later ++ before) legal in
    let out = stays-out later before t f silent (out-first s before t f (legal-part s later before was) back) in
    item-out s (later ++ before) i.actor i.happened i.answer t f out (last-right s i (later ++ before) legal) foreign
