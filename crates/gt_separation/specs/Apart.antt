-- Separation: high domains with which no low domain shares. Any domains may be high here, and not only all of a type:
-- all others are low.
use Rattle.std.specs.Prelude.{◌≡◌, ◌⊎◌, ℕ, Bool, true, false, [], ◌∷◌, Option, Some, None}
use Rattle.gt_types.specs.Copies.{is_dest_granted, is_source_granted}
use Rattle.gt_types.specs.Names.{resolved}
use Rattle.gt_types.specs.declared.DomId.{DomId}
use Rattle.gt_types.specs.declared.copies.CopyArgs.{CopyArgs}
use Rattle.gt_model.specs.declared.action.Observation.TheVariants.{Taken}
use Rattle.gt_model.specs.declared.action.Step.TheVariants as call_steps
use Rattle.gt_model.specs.declared.change.BodyWord.{BodyWord}
use Rattle.gt_model.specs.declared.entry.Entry.{Entry}
use Rattle.gt_model.specs.declared.entry.Entry.TheVariants.{Invalid, Page, Sub, Via}
use Rattle.gt_model.specs.declared.request.OpenRequest.{OpenRequest}
use Rattle.gt_model.specs.declared.request.OpenRequest.TheVariants.{Copy, Probe}
use Rattle.gt_model.specs.History.{History, Setting, Underway, body_at, contents_at, entry_at, open_call, table_at}
use Rattle.gt_model.specs.History.{word_at}
use Rattle.gt_model.specs.Legal.{IsLegalHistory}
use Rattle.gt_model.specs.declared.trace.Item.{Item}
use Rattle.gt_model.specs.declared.trace.ItemEvent.{ItemEvent}
use Rattle.gt_model.specs.declared.trace.ItemEvent.TheVariants.{Stepped}

-- the entry names no high domain: as the one that it permits, or as the owner of the entry that a Via leads to
abbrev pub NamesLow : (DomId → Bool) → Entry → Type 0
NamesLow high Invalid = Unit {0}
NamesLow high (Page dom ro frame) = high dom ≡ false
NamesLow high (Sub dom ro frame off len) = high dom ≡ false
NamesLow high (Via dom ro dom2 gref) = (high dom ≡ false) × (high dom2 ≡ false)

-- no entry of a low domain names a high one
abbrev pub SharesNothing : (DomId → Bool) → History → Type 0
SharesNothing high h = (t : DomId) (r : ℕ) → high t ≡ false → NamesLow high (entry_at h t.0 r)

-- each end of a copy of domain d that a reference names is one of a high domain
abbrev pub EndsAreHigh : (DomId → Bool) → DomId → CopyArgs → Type 0
EndsAreHigh high d c =
    (is_source_granted c ≡ true → high (resolved d c.source.domid) ≡ true)
    × (is_dest_granted c ≡ true → high (resolved d c.dest.domid) ≡ true)

-- a copy, or a probe of one, has such ends
abbrev pub CopiesHigh : (DomId → Bool) → DomId → OpenRequest → Type 0
CopiesHigh high d (Copy c) = EndsAreHigh high d c
CopiesHigh high d (Probe c) = EndsAreHigh high d c
CopiesHigh high d request = Unit {0}

-- the same of a call, if there is one
abbrev pub CallCopiesHigh : (DomId → Bool) → DomId → Option Underway → Type 0
CallCopiesHigh high d None = Unit {0}
CallCopiesHigh high d (Some c) = CopiesHigh high d c.request

-- no open copy of a high domain has an end at an entry of a low one
abbrev pub CopiesApart : (DomId → Bool) → History → Type 0
CopiesApart high h = (d : DomId) → high d ≡ true → CallCopiesHigh high d (open_call h d.0)

-- Up to now no entry of a low domain named a high one, and no copy of a high domain an entry of a low one. The caller
-- of a copy is not asked, so a policy alone does not keep it away.
unfoldable pub StaysApart : (DomId → Bool) → History → Type 0
StaysApart high [] = SharesNothing high [] × CopiesApart high []
StaysApart high (i ∷ before) =
    (SharesNothing high (i ∷ before) × CopiesApart high (i ∷ before)) × StaysApart high before

-- what low domains have is the same after both histories: the words of their tables, and the bytes of their frames
pub record LowDomainsKeep (s : Setting) (high : DomId → Bool) (g h : History) : Type 0 where
  pub words : (t : DomId) (r : ℕ) → high t ≡ false → word_at s g t.0 r ≡ word_at s h t.0 r
  pub bodies : (t : DomId) (r : ℕ) (which : BodyWord) → high t ≡ false
      → body_at g t.0 r which ≡ body_at h t.0 r which
  pub tables : (t : DomId) → high t ≡ false → table_at s g t ≡ table_at s h t
  pub frames : (t : DomId) (f : ℕ) → high t ≡ false → contents_at g t.0 f ≡ contents_at h t.0 f

-- Local respect, after Rushby. A legal history in which no low domain shared with a high one goes on with an item of a
-- high domain, of any call. Then all words of low domains, their pin counts too, and all bytes of their frames are what
-- they were.
abbrev pub HighItemsLeaveLow : Type 0
HighItemsLeaveLow =
    (s : Setting) (high : DomId → Bool) (before : History) (i : Item)
    → IsLegalHistory s (i ∷ before) → StaysApart high before → high i.actor ≡ true
    → LowDomainsKeep s high (i ∷ before) before

-- the item takes a pin, or releases one
abbrev pub TakesOrReleasesPin : ItemEvent → Type 0
TakesOrReleasesPin (Stepped (call_steps.Pin p) Taken) = Unit {0}
TakesOrReleasesPin (Stepped (call_steps.Unpin p holder) seen) = Unit {0}
TakesOrReleasesPin _ = ⊥

-- What low domains may see of an item of a high domain in the words of their own tables, if they do share with it: a
-- pin that it takes or releases, and nothing else.
abbrev pub HighItemsShowOnlyPins : Type 0
HighItemsShowOnlyPins =
    (s : Setting) (high : DomId → Bool) (before : History) (i : Item) (t : DomId)
    → high i.actor ≡ true → high t ≡ false
    → ((r : ℕ) → (word_at s (i ∷ before) t.0 r ≡ word_at s before t.0 r) ⊎ TakesOrReleasesPin i.happened)
    × ((r : ℕ) (which : BodyWord) → body_at (i ∷ before) t.0 r which ≡ body_at before t.0 r which)
    × (table_at s (i ∷ before) t ≡ table_at s before t)
