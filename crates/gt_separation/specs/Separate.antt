-- Separation of runs: what low domains do is what they do without the high ones, if neither looks at the other. Any
-- domains may be high here, as in `Apart`.
use Rattle.std.specs.Prelude.{◌≡◌, Bool, true, false, if◌then◌else◌, List, [], ◌∷◌}
use Rattle.gt_types.specs.Config.{IsWithinLimits}
use Rattle.gt_types.specs.Copies.{is_dest_granted, is_source_granted}
use Rattle.gt_types.specs.Names.{resolved}
use Rattle.gt_types.specs.declared.DomId.{DomId}
use Rattle.gt_types.specs.declared.TypeId.{TypeId}
use Rattle.gt_types.specs.declared.config.Config.{Config}
use Rattle.gt_types.specs.declared.copies.CopyArgs.{CopyArgs}
use Rattle.gt_types.specs.declared.perms.Perms.{Perms}
use Rattle.gt_model.specs.Asking.{FitsAsked, asked}
use Rattle.gt_model.specs.declared.request.OpenRequest.{OpenRequest}
use Rattle.gt_model.specs.declared.request.OpenRequest.TheVariants.{Copy, GetVersion, Grant, Map, Probe}
use Rattle.gt_model.specs.declared.request.OpenRequest.TheVariants.{QuerySize}
use Rattle.gt_model.specs.declared.action.Step.{Step}
use Rattle.gt_model.specs.declared.action.Step.TheVariants.{LookBody, LookControl, LookHeader}
use Rattle.gt_model.specs.declared.action.Step.TheVariants as call_steps
use Rattle.gt_model.specs.History.{History, Setting, setting_of}
use Rattle.gt_model.specs.Legal.{Legal, actor_of, history_after}
use Rattle.gt_model.specs.declared.trace.Element.{Element}
use Rattle.gt_model.specs.declared.trace.Event.{Event}
use Rattle.gt_model.specs.declared.trace.Event.TheVariants.{Begin, Tick}
use Rattle.gt_model.specs.declared.trace.ItemEvent.{ItemEvent}
use Rattle.gt_model.specs.declared.trace.ItemEvent.TheVariants.{Began, Stepped}
use Rattle.gt_separation.specs.Apart.{CopiesApart, CopiesHigh, LowDomainsKeep, NamesLow, StaysApart}
use Rattle.gt_flow.specs.Low.{NamesKnown}
use Rattle.gt_flow.specs.Purged.{SameElements, SameEvents}

-- the step is no look at a table of a high domain, and no pin on an entry of one
abbrev pub IsAtLow : (DomId → Bool) → Step → Type 0
IsAtLow high (LookHeader dom) = high dom ≡ false
IsAtLow high (LookControl dom gref) = high dom ≡ false
IsAtLow high (LookBody dom gref body_word) = high dom ≡ false
IsAtLow high (call_steps.Pin p) = high p.dom ≡ false
IsAtLow high step = Unit {0}

-- the same of an event of a call: a beginning looks at no table but the caller's
abbrev pub HappensAtLow : (DomId → Bool) → ItemEvent → Type 0
HappensAtLow high (Began request) = Unit {0}
HappensAtLow high (Stepped step seen) = IsAtLow high step

-- up to now no low domain looked at a table of a high one, nor took a pin there
unfoldable pub LooksApart : (DomId → Bool) → History → Type 0
LooksApart high [] = Unit {0}
LooksApart high (i ∷ before) =
    (high i.actor ≡ false → HappensAtLow high i.happened) × LooksApart high before

-- the events of low domains
abbrev pub low_events : (DomId → Bool) → List Event → List Event
low_events high [] = []
low_events high (e ∷ es) =
    if high (actor_of e) then low_events high es else e ∷ low_events high es

-- what the events of low domains did
abbrev pub low_elements : (DomId → Bool) → List Event → List Element → List Element
low_elements high (e ∷ es) (x ∷ xs) =
    if high (actor_of e) then low_elements high es xs else x ∷ low_elements high es xs
low_elements high _ _ = []

-- Separation, for whole runs. In a legal trace no low domain shared with a high one, and none looked at a table of one.
-- Then the events of low domains alone, with what they did, are a legal trace too: with the same steps, answers, bytes
-- and handles. After it each word, table and frame of low domains is the same. So high domains are as if they were not
-- there.
abbrev pub LowPartsAreLegal : Type 0
LowPartsAreLegal =
    (s : Setting) (high : DomId → Bool) (es : List Event) (xs : List Element)
    → Legal s es xs → StaysApart high (history_after [] xs) → LooksApart high (history_after [] xs)
    → Legal s (low_events high es) (low_elements high es xs)
    × LowDomainsKeep s high (history_after [] xs) (history_after [] (low_elements high es xs))

-- each end of a copy of domain d that a reference names is one of a low domain
abbrev pub EndsAreLow : (DomId → Bool) → DomId → CopyArgs → Type 0
EndsAreLow high d c =
    (is_source_granted c ≡ true → high (resolved d c.source.domid) ≡ false)
    × (is_dest_granted c ≡ true → high (resolved d c.dest.domid) ≡ false)

-- the request of domain d names no high domain: not in an entry that it grants, and not as the owner of an entry or a
-- table
abbrev pub AsksLow : (DomId → Bool) → DomId → OpenRequest → Type 0
AsksLow high d (Grant gref entry) = NamesLow high entry
AsksLow high d (Map dom gref flags) = high (resolved d dom) ≡ false
AsksLow high d (Copy c) = EndsAreLow high d c
AsksLow high d (Probe c) = EndsAreLow high d c
AsksLow high d (QuerySize dom) = high (resolved d dom) ≡ false
AsksLow high d (GetVersion dom) = high (resolved d dom) ≡ false
AsksLow high d request = Unit {0}

-- The request of a low domain names no high one, and the numbers of an entry that it grants fit their types, as in each
-- value of the program. The request of a high domain may be anything but a copy with an end at an entry of a low one.
abbrev pub AsksApart : (DomId → Bool) → DomId → OpenRequest → Type 0
AsksApart high d request =
    (high d ≡ false → AsksLow high d request × FitsAsked request)
    × (high d ≡ true → CopiesHigh high d request)

-- each of the events that begins a call has such a request
abbrev pub AllAskApart : (DomId → Bool) → List Event → Type 0
AllAskApart high [] = Unit {0}
AllAskApart high (Begin d request ∷ es) = AsksApart high d (asked request) × AllAskApart high es
AllAskApart high (Tick d ∷ es) = AllAskApart high es

-- Requests are enough: if they keep apart, no entry of a low domain names a high one at any time, and no low domain
-- looks at a table of a high one, not by the second entry behind a Via either.
abbrev pub RequestsKeepApart : Type 0
RequestsKeepApart =
    (config : Config) (may : TypeId → TypeId → Perms → Bool) (high : DomId → Bool)
    (es : List Event) (xs : List Element)
    → let s = setting_of config may in IsWithinLimits config → Legal s es xs → AllAskApart high es
    → NamesKnown [] (low_events high es) (low_elements high es xs)
    → StaysApart high (history_after [] xs) × LooksApart high (history_after [] xs)

-- up to now no open copy of a high domain had an end at an entry of a low one
unfoldable pub CopiesStayApart : (DomId → Bool) → History → Type 0
CopiesStayApart high [] = CopiesApart high []
CopiesStayApart high (i ∷ before) = CopiesApart high (i ∷ before) × CopiesStayApart high before

-- Separation, for two runs. The events of low domains are the same in two legal traces: all calls of high domains may
-- be made or not, at any time. In the first trace no low domain shared with a high one, and none looked at a table of
-- one; in the second no copy of a high domain named an entry of a low one. Then what the events of low domains did is
-- the same, answers and bytes included, and so is each word, table and frame of low domains. Keys of handles may
-- differ.
abbrev pub HighCallsMakeNoDifference : Type 0
HighCallsMakeNoDifference =
    (s : Setting) (high : DomId → Bool) (es fs : List Event) (xs ys : List Element)
    → Legal s es xs → Legal s fs ys
    → NamesKnown [] (low_events high es) (low_elements high es xs)
    → NamesKnown [] (low_events high fs) (low_elements high fs ys)
    → SameEvents (low_events high es) (low_events high fs)
    → StaysApart high (history_after [] xs) → LooksApart high (history_after [] xs)
    → CopiesStayApart high (history_after [] ys)
    → SameElements (low_elements high es xs) (low_elements high fs ys)
    × LowDomainsKeep s high (history_after [] xs) (history_after [] ys)

-- The same by what domains ask. No request of a low domain names a high one: not in an entry that it grants, and not as
-- the owner of an entry or a table. No copy of a high domain names an entry of a low one. Then all calls of high
-- domains may be made or not, at any time. So a guest with which nobody shares is as if it were not there.
abbrev pub UnsharedDomainsMakeNoDifference : Type 0
UnsharedDomainsMakeNoDifference =
    (config : Config) (may : TypeId → TypeId → Perms → Bool) (high : DomId → Bool)
    (es fs : List Event) (xs ys : List Element)
    → let s = setting_of config may in IsWithinLimits config → Legal s es xs → Legal s fs ys
    → AllAskApart high es → AllAskApart high fs
    → NamesKnown [] (low_events high es) (low_elements high es xs)
    → NamesKnown [] (low_events high fs) (low_elements high fs ys)
    → SameEvents (low_events high es) (low_events high fs)
    → SameElements (low_elements high es xs) (low_elements high fs ys)
    × LowDomainsKeep s high (history_after [] xs) (history_after [] ys)
