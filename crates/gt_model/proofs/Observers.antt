-- What an item leaves of the entries, words, pins and mappings, and of the other domains.
use Rattle.std.proofs.Common.{◌≡◌, ◌+◌, ℕ, refl, Bool, true, false, List, [], ◌∷◌, ◌++◌, Option, None, cond, ap, ◌∙◌}
use Rattle.std.proofs.Common.{arith, Some, length}
use Rattle.std.proofs.lemmas.Bool.{cond_both}
use Rattle.std.proofs.lemmas.List.{append-nil, append_assoc}
use Rattle.std.proofs.lemmas.List.Elements.{All-cons, All-head, All-tail}
use Rattle.std.proofs.lemmas.List.Sums.{sum_by_push}
use Rattle.std.specs.Prelude.{◌==◌, ◌&&◌, All, count_by}
use Rattle.gt_model.specs.History.{History, Setting, entry_at, changed_entry_of, raises_at, raise_after, live, Pin}
use Rattle.gt_model.specs.History.{pinned_by, unpinned_by, change_at, change_of, maps_answered_at, one_if_mapped}
use Rattle.gt_model.specs.History.{known_at, mappings_at, gather, mapping_named, legs_at, by_leg, header_stored}
use Rattle.gt_model.specs.History.{header_or, table_at, or_else, stored_at, body_at, without, is_holder, holder_after}
use Rattle.gt_model.specs.History.{is_pin_on}
use Rattle.gt_model.specs.declared.action.Observation.{Observation}
use Rattle.gt_model.specs.declared.action.Observation.TheVariants.{Taken}
use Rattle.gt_model.specs.declared.action.Step.{Step}
use Rattle.gt_model.specs.declared.action.Step.TheVariants.{Exchange, Unpin}
use Rattle.gt_model.specs.declared.action.Step.TheVariants as call_steps
use Rattle.gt_model.specs.declared.change.BodyWord.{BodyWord}
use Rattle.gt_model.specs.declared.change.EntryChange.{EntryChange}
use Rattle.gt_model.specs.declared.handle.Handle.{Handle}
use Rattle.gt_model.specs.declared.header.Header.{Header}
use Rattle.gt_model.specs.declared.held.HeldPin.{HeldPin}
use Rattle.gt_model.specs.declared.request.PinHolder.{PinHolder}
use Rattle.gt_model.specs.declared.request.PinHolder.TheVariants as holders
use Rattle.gt_model.specs.declared.trace.Answer.{Answer}
use Rattle.gt_model.specs.declared.trace.Item.{Item}
use Rattle.gt_model.specs.declared.trace.ItemEvent.TheVariants.{Stepped}
use Rattle.gt_types.specs.declared.Dir.{Dir}
use Rattle.gt_types.specs.declared.DomId.{DomId}
use Rattle.gt_types.specs.declared.GrantRef.{GrantRef}

-- the item changes no entry, pin or mapping
pub record KeepsKnown (i : Item) : Type 0 where
  pub changes : (r : ℕ) → change_at i.happened r ≡ None
  pub pins : (before : History) (ps : List Pin) → pinned_by i.actor i.happened i.answer before ps ≡ []
  pub unpins : (pins : List Pin) → unpinned_by i.actor i.happened pins ≡ pins
  pub maps : one_if_mapped i.answer ≡ 0

pub cond-same : {A : Type 0} (b : Bool) (x : A) → cond b x x ≡ x
cond-same b x = grind arith

pub cond-apart : {A : Type 0} (a b : Bool) (x y z : A) → (a ≡ true → b ≡ true → ⊥) → cond a x (cond b y z) ≡ cond b y (cond a x z)
cond-apart a b x y z h = grind arith

-- the item changes no entry
abbrev pub KeepsAll : Item → Type 0
KeepsAll i = (r : ℕ) → change_at i.happened r ≡ None

no-change : (i : Item) (t r : ℕ) → KeepsAll i → change_of i t r ≡ None
no-change i t r q = ap (λ (c : Option EntryChange). cond (i.actor.0 == t) c None) (q r) ∙ cond-same (i.actor.0 == t) None

pub kept-entry : (i : Item) (h : History) (t r : ℕ) → KeepsAll i → entry_at (i ∷ h) t r ≡ entry_at h t r
unfolding entry_at
kept-entry i h t r q = ap (λ (c : Option EntryChange). changed_entry_of c (entry_at h t r)) (no-change i t r q)

pub kept-raises : (i : Item) (h : History) (t r : ℕ) → KeepsAll i → raises_at (i ∷ h) t r ≡ raises_at h t r
unfolding raises_at
kept-raises i h t r q = ap (λ (c : Option EntryChange). raises_at h t r + raise_after c) (no-change i t r q) ∙ omega arith

pub unstored : (i : Item) (h : History) (t r : ℕ) (which : BodyWord) → stored_at i.happened r which ≡ None → body_at (i ∷ h) t r which ≡ body_at h t r which
unfolding body_at
unstored i h t r which e = ap (λ (o : Option ℕ). or_else o (body_at h t r which)) (ap (λ (o : Option ℕ). cond (i.actor.0 == t) o None) e ∙ cond-same (i.actor.0 == t) None)

pub kept-live : (i : Item) (h : History) → KeepsKnown i → live (i ∷ h) ≡ live h
unfolding live
kept-live i h q = ap (λ (ps : List Pin). unpinned_by i.actor i.happened (live h) ++ ps) (q.pins h (live h)) ∙ append-nil (unpinned_by i.actor i.happened (live h)) ∙ q.unpins (live h)

pub answered-stays : (h : History) (i : Item) (d : ℕ) → one_if_mapped i.answer ≡ 0 → maps_answered_at (i ∷ h) d ≡ maps_answered_at h d
unfolding maps_answered_at
answered-stays h i d m = ap (λ (n : ℕ). n + maps_answered_at h d) (ap (λ (n : ℕ). cond (i.actor.0 == d) n 0) m ∙ cond-same (i.actor.0 == d) 0) ∙ omega arith

pub kept-table : (s : Setting) (i : Item) (h : History) (t : DomId) → header_stored i.happened ≡ None → table_at s (i ∷ h) t ≡ table_at s h t
unfolding table_at
kept-table s i h t e = ap (λ (o : Option Header). header_or o (table_at s h t)) (ap (λ (o : Option Header). cond (i.actor.0 == t.0) o None) e ∙ cond-same (i.actor.0 == t.0) None)

-- a domain knows the same if its entries, table and mappings are the same
pub known-as : (s : Setting) (h new : History) (d : DomId) → ((r : ℕ) → entry_at new d.0 r ≡ entry_at h d.0 r) → ((r : ℕ) → raises_at new d.0 r ≡ raises_at h d.0 r) → table_at s new d ≡ table_at s h d
    → mappings_at new d.0 ≡ mappings_at h d.0 → maps_answered_at new d.0 ≡ maps_answered_at h d.0 → known_at s new d ≡ known_at s h d
known-as s h new d entries raises table maps answered = grind arith

pub kept-known : (s : Setting) (i : Item) (h : History) (d : DomId) → KeepsKnown i → header_stored i.happened ≡ None → known_at s (i ∷ h) d ≡ known_at s h d
kept-known s i h d q e = grind (arith, known-as, kept-entry, kept-raises, kept-table, kept-live, answered-stays)

-- the pins that a domain's call holds are the same
pub kept-legs : (i : Item) (h : History) (d : ℕ) → KeepsKnown i → legs_at (i ∷ h) d ≡ legs_at h d
kept-legs i h d q = ap (λ (ps : List Pin). gather by_leg d ps) (kept-live i h q)

pub other-entry : (i : Item) (h : History) (t r : ℕ) → (i.actor.0 == t) ≡ false → entry_at (i ∷ h) t r ≡ entry_at h t r
unfolding entry_at
other-entry i h t r apart = ap (λ (b : Bool). changed_entry_of (cond b (change_at i.happened r) None) (entry_at h t r)) apart

pub other-raises : (i : Item) (h : History) (t r : ℕ) → (i.actor.0 == t) ≡ false → raises_at (i ∷ h) t r ≡ raises_at h t r
unfolding raises_at
other-raises i h t r apart = ap (λ (b : Bool). raises_at h t r + raise_after (cond b (change_at i.happened r) None)) apart ∙ omega arith

pub other-body : (i : Item) (h : History) (t r : ℕ) (which : BodyWord) → (i.actor.0 == t) ≡ false → body_at (i ∷ h) t r which ≡ body_at h t r which
unfolding body_at
other-body i h t r which apart = ap (λ (b : Bool). or_else (cond b (stored_at i.happened r which) None) (body_at h t r which)) apart

pub other-maps : (i : Item) (h : History) (d : ℕ) → (i.actor.0 == d) ≡ false → maps_answered_at (i ∷ h) d ≡ maps_answered_at h d
unfolding maps_answered_at
other-maps i h d apart = ap (λ (b : Bool). cond b (one_if_mapped i.answer) 0 + maps_answered_at h d) apart ∙ omega arith

pub other-table : (s : Setting) (i : Item) (h : History) (d : DomId) → (i.actor.0 == d.0) ≡ false → table_at s (i ∷ h) d ≡ table_at s h d
unfolding table_at
other-table s i h d apart = ap (λ (b : Bool). header_or (cond b (header_stored i.happened) None) (table_at s h d)) apart

pub gather-append : {A : Type 0} (give : PinHolder → HeldPin → List A) (d : ℕ) (ps qs : List Pin) → gather give d (ps ++ qs) ≡ gather give d ps ++ gather give d qs
unfolding gather
gather-append give d [] qs = refl
gather-append give d (p ∷ ps) qs = grind (arith, gather-append give d ps qs, append_assoc)

-- a pin that is released, if it gave nothing to this domain
pub without-kept : {A : Type 0} (give : PinHolder → HeldPin → List A) (d actor : ℕ) (holder : PinHolder) (ps : List Pin)
    → ((p : Pin) → p.actor ≡ actor → is_holder p.holder holder ≡ true → cond (p.actor == d) (give p.holder p.held) [] ≡ []) → gather give d (without actor holder ps) ≡ gather give d ps
unfolding gather without
without-kept give d actor holder [] none = refl
without-kept {A} give d actor holder (p ∷ ps) none = grind (arith, without-kept give d actor holder ps none)

-- what held for all pins holds for those that are left
pub all-without : (P : Pin → Type 0) (d : ℕ) (holder : PinHolder) (ps : List Pin) → All P ps → All P (without d holder ps)
unfolding without
all-without P d holder [] a = a
all-without P d holder (p ∷ ps) a = cond_both ((p.actor == d) && is_holder p.holder holder) ps (p ∷ without d holder ps) (All P) (λ e. All-tail P p ps a)
    (λ e. All-cons P p (without d holder ps) (All-head P p ps a) (all-without P d holder ps (All-tail P p ps a)))

-- no domain but the actor holds other pins than before
pub other-pins : {A : Type 0} (give : PinHolder → HeldPin → List A) (i : Item) (h : History) (d : ℕ) → (i.actor.0 == d) ≡ false → gather give d (live (i ∷ h)) ≡ gather give d (live h)
unfolding gather live
other-pins give i h d apart = grind (arith, gather-append, append-nil, without-kept)

-- what each domain but the actor knows by itself stays
pub other-known : (s : Setting) (i : Item) (h : History) (d : DomId) → (i.actor.0 == d.0) ≡ false → known_at s (i ∷ h) d ≡ known_at s h d
other-known s i h d apart = grind (arith, known-as, other-entry, other-raises, other-table, other-pins, other-maps)

-- a function of a conditional is the conditional of the function
pub pulled : {A B : Type 0} (f : A → B) (b : Bool) (x y : A) → f (cond b x y) ≡ cond b (f x) (f y)
pulled f b x y = grind arith

-- a function that gives pins by keys: each holder gives under one key, or nothing
abbrev pub listed : {K : Type 0} → Option K → HeldPin → List (K × HeldPin)
listed None p = []
listed (Some k) p = (k, p) ∷ []

pub record IsKeyed {K : Type 0} (give : PinHolder → HeldPin → List (K × HeldPin)) : Type 0 where
  pub key : PinHolder → Option K
  pub gives : (x : PinHolder) (p : HeldPin) → give x p ≡ listed (key x) p

abbrev pub mapping-keyed : IsKeyed mapping_named
mapping-keyed = record { key = key; gives = gives } where
  key : PinHolder → Option Handle
  key (holders.Mapping k) = Some k
  key (holders.Leg n) = None

  gives : (x : PinHolder) (p : HeldPin) → mapping_named x p ≡ listed (key x) p
  gives (holders.Mapping k) p = refl
  gives (holders.Leg n) p = refl

abbrev pub leg-keyed : IsKeyed by_leg
leg-keyed = record { key = key; gives = gives } where
  key : PinHolder → Option ℕ
  key (holders.Mapping k) = None
  key (holders.Leg n) = Some n

  gives : (x : PinHolder) (p : HeldPin) → by_leg x p ≡ listed (key x) p
  gives (holders.Mapping k) p = refl
  gives (holders.Leg n) p = refl

-- the items of steps

-- the item of a step
abbrev pub stepped : DomId → Step → Observation → Option Answer → Item
stepped d step seen answer = record { actor = d; happened = Stepped step seen; answer = answer }

-- the pin that is held after a step that took it
abbrev pub new_pin : History → DomId → HeldPin → Option Answer → Pin
new_pin h d p answer = record { actor = d.0; holder = holder_after answer (length (gather by_leg d.0 (live h))); held = record p { entry = entry_at h p.dom.0 p.gref.0 } }

-- the item of a pin that was taken
abbrev pub pins : DomId → HeldPin → Option Answer → Item
pins d p answer = stepped d (call_steps.Pin p) Taken answer

pub pinned-live : (h : History) (d : DomId) (p : HeldPin) (answer : Option Answer) → live (pins d p answer ∷ h) ≡ live h ++ new_pin h d p answer ∷ []
unfolding live
pinned-live h d p answer = refl

abbrev pub pins_at : History → ℕ → ℕ → Dir → ℕ
pins_at h t r dir = count_by (is_pin_on t r dir) (live h)

-- the item of an unpin
abbrev pub unpins : DomId → HeldPin → PinHolder → Observation → Option Answer → Item
unpins d p holder seen answer = stepped d (Unpin p holder) seen answer

pub unpinned-live : (h : History) (d : DomId) (p : HeldPin) (holder : PinHolder) (seen : Observation) (answer : Option Answer) → live (unpins d p holder seen answer ∷ h) ≡ without d.0 holder (live h)
unfolding live
unpinned-live h d p holder seen answer = append-nil (without d.0 holder (live h))

-- the item of an exchange that was taken
abbrev pub exchanged : DomId → GrantRef → ℕ → EntryChange → Option Answer → Item
exchanged d gref looked change answer = stepped d (Exchange gref looked change) Taken answer

pub exchanged-entry : (h : History) (i : Item) (t r : ℕ) → entry_at (i ∷ h) t r ≡ changed_entry_of (change_of i t r) (entry_at h t r)
unfolding entry_at
exchanged-entry h i t r = refl

pub exchanged-raises : (h : History) (i : Item) (t r : ℕ) → raises_at (i ∷ h) t r ≡ raises_at h t r + raise_after (change_of i t r)
unfolding raises_at
exchanged-raises h i t r = refl

pub exchanged-live : (h : History) (d : DomId) (gref : GrantRef) (looked : ℕ) (change : EntryChange) (answer : Option Answer) → live (exchanged d gref looked change answer ∷ h) ≡ live h
unfolding live
exchanged-live h d gref looked change answer = append-nil (live h)

-- a history that has one more pin

abbrev pub Grows : History → Item → Pin → Type 0
Grows h i p = live (i ∷ h) ≡ live h ++ p ∷ []

pub grown-count : (h : History) (i : Item) (p : Pin) (t r : ℕ) (k : Dir) → Grows h i p
    → pins_at (i ∷ h) t r k ≡ pins_at h t r k + cond (is_pin_on t r k p) 1 0
grown-count h i p t r k e = ap (λ (ps : List Pin). count_by (is_pin_on t r k) ps) e ∙ sum_by_push (λ (x : Pin). cond (is_pin_on t r k x) 1 0) (live h) p

-- what holds for a pin
pub at-place : (P : ℕ → ℕ → Dir → Type 0) (p : Pin) (t r : ℕ) (k : Dir) → P p.held.dom.0 p.held.gref.0 p.held.dir → is_pin_on t r k p ≡ true → P t r k
at-place P p t r k a e = grind arith
