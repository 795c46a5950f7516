-- What an owner has taken back: no earlier pin reaches the entry, and no other domain reaches the page.
use Rattle.std.specs.Prelude.{◌≡◌, ◌≢◌, ◌⊎◌, ℕ, true, false, List, [], ◌∷◌, ◌++◌, All}
use Rattle.gt_model.specs.declared.entry.Entry.TheVariants.{Invalid}
use Rattle.gt_model.specs.Permits.{is_of_frame}
use Rattle.gt_model.specs.declared.change.EntryChange.TheVariants.{Publish}
use Rattle.gt_model.specs.declared.change.EntryChange.TheVariants as changes
use Rattle.gt_model.specs.declared.action.Step.TheVariants.{Exchange}
use Rattle.gt_model.specs.declared.action.Step.TheVariants as call_steps
use Rattle.gt_model.specs.declared.action.Observation.TheVariants.{Taken}
use Rattle.gt_model.specs.declared.trace.Element.{Element}
use Rattle.gt_model.specs.declared.trace.Event.{Event}
use Rattle.gt_model.specs.declared.trace.Item.{Item}
use Rattle.gt_model.specs.declared.trace.ItemEvent.{ItemEvent}
use Rattle.gt_model.specs.declared.trace.ItemEvent.TheVariants.{Stepped}
use Rattle.gt_model.specs.History.{History, Setting, Pin, entry_at, live, pinned_by, reads_at, writes_at}
use Rattle.gt_model.specs.Legal.{IsLegalHistory, Legal, history_after}

-- the items of a legal trace are a legal history, so what holds for each legal history holds for each run that is
-- played
abbrev pub LegalTracesAreHistories : Type 0
LegalTracesAreHistories =
    (s : Setting) (events : List Event) (trace : List Element) → Legal s events trace
    → IsLegalHistory s (history_after [] trace)

-- pins of an earlier record

-- the item revokes entry r of domain t, or publishes it
abbrev pub EndsPinsOn : ℕ → ℕ → Item → Type 0
EndsPinsOn t r i = (i.actor.0 ≡ t) × ends i.happened
  where
    ends : ItemEvent → Type 0
    ends (Stepped (Exchange gref looked changes.Revoke) Taken) = gref.0 ≡ r
    ends (Stepped (Exchange gref looked (Publish entry)) Taken) = gref.0 ≡ r
    ends _ = ⊥

-- the pin is on entry r of domain t
abbrev pub IsPinOn : ℕ → ℕ → Pin → Type 0
IsPinOn t r p = (p.held.dom.0 ≡ t) × (p.held.gref.0 ≡ r)

-- one of the later items took the pin, after the items `base`, with the entry just before it
unfoldable pub IsTakenSince : History → History → Pin → Type 0
IsTakenSince [] base p = ⊥
IsTakenSince (i ∷ later) base p =
    (pinned_by i.actor i.happened i.answer (later ++ base) (live (later ++ base)) ≡ p ∷ []) ⊎ IsTakenSince later base p

-- after a revocation or a publication of an entry, each live pin on that entry was taken later; so no pin of an
-- earlier record of that entry justifies an access
abbrev pub PinsAreTakenSince : Type 0
PinsAreTakenSince =
    (s : Setting) (later before : History) (i : Item) (t r : ℕ) → IsLegalHistory s (later ++ i ∷ before)
    → EndsPinsOn t r i → All (λ p. IsPinOn t r p → IsTakenSince later (i ∷ before) p) (live (later ++ i ∷ before))

-- pages

-- domain t has taken its frame f back: none of its entries grants that frame, and none of its invalid entries has a
-- live pin
abbrev pub IsTakenBack : History → ℕ → ℕ → Type 0
IsTakenBack h t f =
    (r : ℕ) → (is_of_frame (entry_at h t r) f ≡ false)
    × (entry_at h t r ≡ Invalid → (reads_at h t r ≡ 0) × (writes_at h t r ≡ 0))

-- the item publishes an entry of frame f of domain t
abbrev pub Grants : ℕ → ℕ → Item → Type 0
Grants t f i = (i.actor.0 ≡ t) × grants i.happened
  where
    grants : ItemEvent → Type 0
    grants (Stepped (Exchange gref looked (Publish entry)) Taken) = is_of_frame entry f ≡ true
    grants _ = ⊥

-- the item is an access of another domain to frame f of domain t: it reads or writes bytes of it
abbrev pub IsForeignAccess : ℕ → ℕ → Item → Type 0
IsForeignAccess t f i = (i.actor.0 ≢ t) × touches i.happened
  where
    touches : ItemEvent → Type 0
    touches (Stepped (call_steps.Read dom frame off len) seen) = (dom.0 ≡ t) × (frame ≡ f)
    touches (Stepped (call_steps.Write dom frame off len) seen) = (dom.0 ≡ t) × (frame ≡ f)
    touches (Stepped (call_steps.Copy from to len) seen) =
        ((from.frame.owner.0 ≡ t) × (from.frame.number ≡ f)) ⊎ ((to.frame.owner.0 ≡ t) × (to.frame.number ≡ f))
    touches _ = ⊥

-- after an owner takes a page back, no other domain reads or writes it until the owner grants it again
abbrev pub PagesTakenBackAreOutOfReach : Type 0
PagesTakenBackAreOutOfReach =
    (s : Setting) (later before : History) (i : Item) (t f : ℕ) → IsLegalHistory s (i ∷ (later ++ before))
    → IsTakenBack before t f → All (λ j. ¬ Grants t f j) later → ¬ IsForeignAccess t f i
