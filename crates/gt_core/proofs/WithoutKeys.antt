-- What a history leaves is the same without keys.
use Rattle.gt_core.proofs.Words.{◌≡◌, ◌+◌, ◌⊎◌, inl, inr, ℕ, refl, Bool, true, false, List, [], ◌∷◌, ◌++◌, map, Option}
use Rattle.gt_core.proofs.Words.{Some, None, cond, sym, ap, ◌∙◌, ◌==◌, option_map, fun_ext, DomId, Entry, Header}
use Rattle.gt_core.proofs.Words.{EntryChange, BodyWord, asked, bytes_given_by, Request, OpenRequest, Unmap, Release}
use Rattle.gt_core.proofs.Words.{Load, Store, Observation, Step, Unpin, Answer, ItemEvent, Began, Stepped, Item, Patch}
use Rattle.gt_core.proofs.Words.{written, History, Setting, Underway, WriteMade, entry_at, changed_entry_of, change_at}
use Rattle.gt_core.proofs.Words.{change_of, raises_at, raise_after, body_at, or_else, stored_at, table_at, header_or}
use Rattle.gt_core.proofs.Words.{header_stored, open_call, underway_with, underway_after, maps_answered_at}
use Rattle.gt_core.proofs.Words.{one_if_mapped, contents_at, patches_by, patches_at, written_by, given_in, values}
use Rattle.gt_core.proofs.Words.{bare_handle, bare_request, bare_step, bare_happened, keyless_answer, keyless_item}
use Rattle.gt_core.proofs.Words.{keyless_items, KeylessItem, SameHistory, HeldPin, Handle, arith}
use Rattle.gt_model.specs.declared.request.PinHolder.TheVariants as holders
use Rattle.gt_model.specs.declared.trace.Answer.TheVariants.{Done}

-- an answer with this value, whatever its bytes are
abbrev pub answer_from : Answer ⊎ List ℕ → Answer
answer_from (inl answer) = answer
answer_from (inr bytes) = Done

abbrev pub item_from : KeylessItem → Item
item_from t = record { actor = t.actor; happened = t.happened; answer = option_map answer_from t.answer }

unfoldable pub items_from : List KeylessItem → History
items_from [] = []
items_from (t ∷ ts) = item_from t ∷ items_from ts

-- the history without keys
unfoldable pub bare : History → History
bare [] = []
bare (i ∷ h) = item_from (keyless_item i) ∷ bare h

pub bare-told : (h : History) → bare h ≡ items_from (keyless_items h)
unfolding bare items_from keyless_items
bare-told [] = refl
bare-told (i ∷ h) = ap (λ (l : History). item_from (keyless_item i) ∷ l) (bare-told h)

-- histories that are equal except for keys have the same one
pub bare-same : (g h : History) → SameHistory g h → bare g ≡ bare h
bare-same g h same = bare-told g ∙ ap items_from same ∙ sym (bare-told h)

-- entries and tables

-- what distinguishes neither requests nor handles is the same for the event without its key
happened-bare : {A : Type 0} (f : ItemEvent → A) → ((p : HeldPin) (a b : Handle) (seen : Observation) → f (Stepped (Unpin p (holders.Mapping a)) seen) ≡ f (Stepped (Unpin p (holders.Mapping b)) seen)) → ((q r : Request) → f (Began q) ≡ f (Began r))
    → (x : ItemEvent) → f (bare_happened x) ≡ f x
happened-bare f steps begins x = grind arith

pub mapped-bare : (a : Option Answer) → one_if_mapped (option_map answer_from (option_map keyless_answer a)) ≡ one_if_mapped a
mapped-bare a = grind arith

-- calls

-- the request without the key of a handle
abbrev pub bare_asked : OpenRequest → OpenRequest
bare_asked (Unmap handle) = Unmap (bare_handle handle)
bare_asked (Release handle) = Release (bare_handle handle)
bare_asked (Load handle off len) = Load (bare_handle handle) off len
bare_asked (Store handle off len) = Store (bare_handle handle) off len
bare_asked request = request

abbrev pub bare_steps : List (Step × Observation) → List (Step × Observation)
bare_steps [] = []
bare_steps (p ∷ ps) = (bare_step p.0, p.1) ∷ bare_steps ps

abbrev pub bare_call : Underway → Underway
bare_call c = record { request = bare_asked c.request; given = c.given; steps = bare_steps c.steps }

pub asked-bare : (request : Request) → asked (bare_request request) ≡ bare_asked (asked request)
asked-bare request = grind arith

pub given-bare : (request : Request) → bytes_given_by (bare_request request) ≡ bytes_given_by request
given-bare request = grind arith

steps-more : (ps qs : List (Step × Observation)) → bare_steps ps ++ bare_steps qs ≡ bare_steps (ps ++ qs)
steps-more [] qs = refl
steps-more (p ∷ ps) qs = ap (λ (l : List (Step × Observation)). (bare_step p.0, p.1) ∷ l) (steps-more ps qs)

with-bare : (x : ItemEvent) (c : Option Underway) → underway_with (bare_happened x) (option_map bare_call c) ≡ option_map bare_call (underway_with x c)
with-bare (Began request) c =
    ap (λ (r : OpenRequest). Some (record { request = r; given = bytes_given_by (bare_request request); steps = [] })) (asked-bare request)
    ∙ ap (λ (bytes : List ℕ). Some (record { request = bare_asked (asked request); given = bytes; steps = [] })) (given-bare request)
with-bare (Stepped step seen) None = refl
with-bare (Stepped step seen) (Some c) =
    ap (λ (l : List (Step × Observation)). Some (record { request = bare_asked c.request; given = c.given; steps = l })) (steps-more c.steps ((step, seen) ∷ []))

after-bare : (i : Item) (c : Option Underway) → underway_after (item_from (keyless_item i)) (option_map bare_call c) ≡ option_map bare_call (underway_after i c)
after-bare i c = by i.answer where
  by : (a : Option Answer) → underway_after (item_from (keyless_item (record i { answer = a }))) (option_map bare_call c) ≡ option_map bare_call (underway_after (record i { answer = a }) c)
  by None = with-bare i.happened c
  by (Some answer) = refl

pub values-bare : (c : Underway) → values (bare_call c) ≡ values c
values-bare c = by c.steps where
  by : (ps : List (Step × Observation)) → map (λ (p : Step × Observation). p.1) (bare_steps ps) ≡ map (λ (p : Step × Observation). p.1) ps
  by [] = refl
  by (p ∷ ps) = ap (λ (l : List Observation). p.1 ∷ l) (by ps)

-- bytes

given-in-bare : (c : Option Underway) → given_in (option_map bare_call c) ≡ given_in c
given-in-bare c = grind arith

cond-map : {A B : Type 0} (f : A → B) (b : Bool) (x y : B) (p q : A) → x ≡ f p → y ≡ f q → cond b x y ≡ f (cond b p q)
cond-map f true x y p q e g = e
cond-map f false x y p q e g = g

-- what the history leaves, without keys
pub record Bared (h : History) : Type 0 where
  pub entry : (t r : ℕ) → entry_at (bare h) t r ≡ entry_at h t r
  pub raises : (t r : ℕ) → raises_at (bare h) t r ≡ raises_at h t r
  pub body : (t r : ℕ) (which : BodyWord) → body_at (bare h) t r which ≡ body_at h t r which
  pub table : (s : Setting) (t : DomId) → table_at s (bare h) t ≡ table_at s h t
  pub maps : (d : ℕ) → maps_answered_at (bare h) d ≡ maps_answered_at h d
  pub open_calls : (d : ℕ) → open_call (bare h) d ≡ option_map bare_call (open_call h d)
  pub patches : (t f : ℕ) → patches_at (bare h) t f ≡ patches_at h t f

pub bared : (h : History) → Bared h
unfolding entry_at raises_at body_at table_at maps_answered_at open_call patches_at bare
bared [] = record { entry = λ t r. refl; raises = λ t r. refl; body = λ t r which. refl; table = λ s t. refl; maps = λ d. refl; open_calls = λ d. refl; patches = λ t f. refl }
bared (i ∷ h) = let b = bared h in let x = i.happened in let given = given_in (open_call h i.actor.0) in record {
  entry = λ t r. ap (λ (c : Option EntryChange). changed_entry_of (cond (i.actor.0 == t) c None) (entry_at (bare h) t r)) (happened-bare (λ z. change_at z r) (λ p a b seen. refl) (λ q r. refl) x) ∙ ap (λ (e : Entry). changed_entry_of (change_of i t r) e) (b.entry t r);
  raises = λ t r. ap (λ (c : Option EntryChange). raises_at (bare h) t r + raise_after (cond (i.actor.0 == t) c None)) (happened-bare (λ z. change_at z r) (λ p a b seen. refl) (λ q r. refl) x) ∙ ap (λ (n : ℕ). n + raise_after (change_of i t r)) (b.raises t r);
  body = λ t r which. ap (λ (o : Option ℕ). or_else (cond (i.actor.0 == t) o None) (body_at (bare h) t r which)) (happened-bare (λ z. stored_at z r which) (λ p a b seen. refl) (λ q r. refl) x)
      ∙ ap (λ (n : ℕ). or_else (cond (i.actor.0 == t) (stored_at x r which) None) n) (b.body t r which);
  table = λ s t. ap (λ (o : Option Header). header_or (cond (i.actor.0 == t.0) o None) (table_at s (bare h) t)) (happened-bare header_stored (λ p a b seen. refl) (λ q r. refl) x) ∙ ap (λ (z : Header). header_or (cond (i.actor.0 == t.0) (header_stored x) None) z) (b.table s t);
  maps = λ d. ap (λ (n : ℕ). cond (i.actor.0 == d) n 0 + maps_answered_at (bare h) d) (mapped-bare i.answer) ∙ ap (λ (n : ℕ). cond (i.actor.0 == d) (one_if_mapped i.answer) 0 + n) (b.maps d);
  open_calls = λ d. cond-map (option_map bare_call) (i.actor.0 == d) (underway_after (item_from (keyless_item i)) (open_call (bare h) d)) (open_call (bare h) d) (underway_after i (open_call h d)) (open_call h d)
      (ap (underway_after (item_from (keyless_item i))) (b.open_calls d) ∙ after-bare i (open_call h d)) (b.open_calls d);
  patches = λ t f. ap (λ (w : Option WriteMade). patches_at (bare h) t f ++ patches_by w t f)
      (happened-bare (λ z. written_by z (given_in (open_call (bare h) i.actor.0)) (λ u g. written (patches_at (bare h) u g))) (λ p a b seen. refl) (λ q r. refl) x
      ∙ ap (λ (bytes : List ℕ). written_by x bytes (λ u g. written (patches_at (bare h) u g))) (ap given_in (b.open_calls i.actor.0) ∙ given-in-bare (open_call h i.actor.0))
      ∙ ap (λ (k : ℕ → ℕ → List ℕ). written_by x given k) (fun_ext (λ u. fun_ext (λ g. ap written (b.patches u g)))))
      ∙ ap (λ (ps : List Patch). ps ++ patches_by (written_by x given (λ u g. written (patches_at h u g))) t f) (b.patches t f);
}

pub contents-bare : (h : History) (t f : ℕ) → contents_at (bare h) t f ≡ contents_at h t f
contents-bare h t f = ap written ((bared h).patches t f)
