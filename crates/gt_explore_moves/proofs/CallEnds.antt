-- A domain of a state whose open call is over: where the run has brought it.
use Rattle.std.proofs.Common.{◌≡◌, ◌+◌, ◌<◌, ◌≤◌, ◌⊎◌, inl, inr, ℕ, zero, suc, refl, true, false, Bool, cond, List}
use Rattle.std.proofs.Common.{[], ◌∷◌, ◌++◌, length, map, drop, Option, Some, None, sym, ap, ◌∙◌, arith, subst}
use Rattle.std.specs.Prelude.{◌&&◌, ◌↔◌, bytes_eq, slice_get}
use Rattle.std.proofs.lemmas.Bool.{eq-eqb, true≢false}
use Rattle.std.proofs.lemmas.List.{length-map, map-append}
use Rattle.std.proofs.lemmas.Option.{none-some, same_Some, slice_get_within}
use Rattle.std.proofs.lemmas.Slice.Eq.{bytes_eq-Decides}
use Rattle.gt_types.specs.declared.DomId.{DomId}
use Rattle.gt_model.specs.declared.entry.Entry.{Entry}
use Rattle.gt_model.specs.declared.handle.Handle.{Handle}
use Rattle.gt_model.specs.declared.action.Observation.{Observation}
use Rattle.gt_model.specs.declared.action.Observation.TheVariants.{Taken}
use Rattle.gt_model.specs.declared.action.Step.{Step}
use Rattle.gt_model.specs.declared.action.Step.TheVariants.{Exchange, Unpin}
use Rattle.gt_model.specs.declared.action.Step.TheVariants as call_steps
use Rattle.gt_model.specs.declared.held.HeldPin.{HeldPin}
use Rattle.gt_model.specs.declared.request.PinHolder.TheVariants as holders
use Rattle.gt_core.specs.Alike.{IsRun}
use Rattle.gt_model.specs.History.{History, Pin, Setting, Underway, entry_at, gather, holder_after, legs_at, live}
use Rattle.gt_model.specs.History.{mapping_named, mappings_at, maps_answered_at, one_if_mapped, open_call}
use Rattle.gt_model.specs.History.{underway_after}
use Rattle.gt_model.specs.declared.trace.Answer.{Answer}
use Rattle.gt_model.specs.declared.trace.Answer.TheVariants.{Mapped}
use Rattle.gt_model.specs.declared.trace.Item.{Item}
use Rattle.gt_core.proofs.AgreementKept.{open_call-own}
use Rattle.gt_model.proofs.Observers.{answered-stays, exchanged-live, gather-append, kept-live, new_pin, pinned-live}
use Rattle.gt_model.proofs.Observers.{stepped}
use Rattle.gt_core.proofs.Steps.Pin.{leg-maps}
use Rattle.gt_core.proofs.Steps.Unpin.{leg-mappings}
use Rattle.gt_script_runs.specs.Runs.{Named, handle_labelled, with_name}
use Rattle.gt_explore_replay.specs.Abreast.{HaveAnswered}
use Rattle.gt_explore_replay.specs.Courses.{Course, resting}
use Rattle.gt_explore_replay.specs.Orders.{handles_without}
use Rattle.gt_script.specs.Lists.{RunTask}
use Rattle.gt_explore_moves.specs.Calls.{LabelsShow, SerialsRise, ShowsCalls, ShowsOpen, handles_at, pins_mapped_at}
use Rattle.gt_explore_moves.specs.Mappings.{apart_from, labels_of, mapping_pins, label_bytes, unless_given}
use Rattle.gt_explore_moves.specs.declared.actor.Actor.{Actor}
use Rattle.gt_explore_moves.specs.declared.actor.LabelledMapping.{LabelledMapping}
use Rattle.gt_explore_moves.specs.declared.actor.ActorCall.{ActorCall}
use Rattle.gt_explore_moves.proofs.MappingFound.{rise-below}
use Rattle.gt_explore_moves.proofs.NextSerial.{maps-one, named-below}
use Rattle.gt_explore_moves.proofs.GivingBack.{without-place}
use Rattle.gt_explore_moves.proofs.OneLess.{but, labels-but, less-is, map-but, mappings-less, rise-but}

-- what a domain is then
abbrev pub over_course : Course → List Named → List Handle → List ℕ → Course
over_course k named held text = record k { opened = resting; named = named; held = held; text = text }

-- a domain with nothing open is there, if its mappings are those that the run then has
pub shows-over : (s : Setting) (h : History) (i : Item) (tasks : List RunTask) (k : Course) (a b : Actor) (named : List Named) (held : List Handle) (text : List ℕ) (answer : Answer) → i.actor ≡ k.dom → i.answer ≡ Some answer → ShowsCalls s h tasks k a → b.next ≡ a.next
    → b.«open» ≡ None → held ≡ handles_at (i ∷ h) k.dom → maps_answered_at (i ∷ h) k.dom.0 ≤ a.next → SerialsRise 0 (handles_at (i ∷ h) k.dom) (maps_answered_at (i ∷ h) k.dom.0) → mapping_pins b.mappings.items ≡ pins_mapped_at (i ∷ h) k.dom
    → LabelsShow named k.dom (handles_at (i ∷ h) k.dom) (labels_of b.mappings.items) → ShowsCalls s (i ∷ h) tasks (over_course k named held text) b
shows-over s h i tasks k a b named held text answer own answered show next none all few rising pins labels =
    let closed : open_call (i ∷ h) k.dom.0 ≡ None = ap (λ (d : DomId). open_call (i ∷ h) d.0) (sym own) ∙ open_call-own i h ∙ by i.answer answered in record {
      left = show.left ∙ ap (λ (n : ℕ). drop n tasks) (sym next);
      begun = subst (λ (n : ℕ). n ≤ length tasks) (sym next) show.begun;
      few = subst (λ (n : ℕ). maps_answered_at (i ∷ h) k.dom.0 + 0 ≤ n) (sym next) (omega arith);
      rising = rising;
      pins = pins;
      labels = labels;
      opens = subst (λ (o : Option ActorCall). ShowsOpen s (i ∷ h) tasks (over_course k named held text) b.next resting (open_call (i ∷ h) k.dom.0) o) (sym none)
          (subst (λ (c : Option Underway). ShowsOpen s (i ∷ h) tasks (over_course k named held text) b.next resting c None) (sym closed) all);
    }
  where
    by : (o : Option Answer) → o ≡ Some answer → underway_after (record i { answer = o }) (open_call h i.actor.0) ≡ None
    by None e = absurd (none-some answer e)
    by (Some y) e = refl

-- the domain's mappings are the same

-- the step gives up no mapping
abbrev pub GivesNone : Step → Type 0
GivesNone (Unpin p (holders.Mapping handle)) = ⊥
GivesNone z = Unit {0}

leg-held : (answer : Answer) (n : ℕ) → one_if_mapped (Some answer) ≡ 0 → holder_after (Some answer) n ≡ holders.Leg n
leg-held answer n none = grind arith

kept-mappings : (h : History) (d : DomId) (z : Step) (seen : Observation) (answer : Answer) → GivesNone z → one_if_mapped (Some answer) ≡ 0 → mappings_at (stepped d z seen (Some answer) ∷ h) d.0 ≡ mappings_at h d.0
kept-mappings h d (call_steps.Pin p) Taken answer gives none = leg-maps h d p (Some answer) (leg-held answer (length (legs_at h d.0)) none)
kept-mappings h d (Unpin p (holders.Leg n)) seen answer gives none = leg-mappings h d p n seen (Some answer)
kept-mappings h d (Unpin p (holders.Mapping handle)) seen answer gives none = absurd gives
kept-mappings h d (Exchange gref looked change) Taken answer gives none = ap (λ (ps : List Pin). gather mapping_named d.0 ps) (exchanged-live h d gref looked change (Some answer))
kept-mappings h d z seen answer gives none = ap (λ (ps : List Pin). gather mapping_named d.0 ps)
    (kept-live (stepped d z seen (Some answer)) h (record { changes = λ r. refl; pins = λ before ps. refl; unpins = λ pins. refl; maps = none }))

-- so it is after a call that gives it no mapping and takes none
pub shows-kept : (s : Setting) (h : History) (tasks : List RunTask) (k : Course) (a b : Actor) (z : Step) (seen : Observation) (text : List ℕ) (answer : Answer) → ShowsCalls s h tasks k a → k.held ≡ handles_at h k.dom → GivesNone z → one_if_mapped (Some answer) ≡ 0 → b.next ≡ a.next
    → b.«open» ≡ None → b.mappings.items ≡ a.mappings.items → ShowsCalls s (stepped k.dom z seen (Some answer) ∷ h) tasks (over_course k k.named k.held text) b
shows-kept s h tasks k a b z seen text answer show all gives none next closed same =
    let d = k.dom in let i = stepped d z seen (Some answer) in
    let maps : mappings_at (i ∷ h) d.0 ≡ mappings_at h d.0 = kept-mappings h d z seen answer gives none in
    let hs : handles_at (i ∷ h) d ≡ handles_at h d = ap (λ (ms : List (Handle × HeldPin)). map (λ (m : Handle × HeldPin). m.0) ms) maps in
    let count : maps_answered_at (i ∷ h) d.0 ≡ maps_answered_at h d.0 = answered-stays h i d.0 none in
    let few = show.few in
    shows-over s h i tasks k a b k.named k.held text answer refl refl show next closed (all ∙ sym hs) (omega arith)
    (subst (λ (m : ℕ). SerialsRise 0 (handles_at (i ∷ h) d) m) (sym count) (subst (λ (l : List Handle). SerialsRise 0 l (maps_answered_at h d.0)) (sym hs) show.rising))
    (ap mapping_pins same ∙ show.pins ∙ ap (λ (ms : List (Handle × HeldPin)). map (λ (m : Handle × HeldPin). m.1) ms) (sym maps))
    (subst (λ (l : List Handle). LabelsShow k.named d l (labels_of b.mappings.items)) (sym hs) (subst (λ (ms : List LabelledMapping). LabelsShow k.named d (handles_at h d) (labels_of ms)) (sym same) show.labels))

-- the domain gives up a mapping

pub shows-less : (s : Setting) (h : History) (tasks : List RunTask) (k : Course) (a b : Actor) (p : HeldPin) (handle place : Handle) (seen : Observation) (held : List Handle) (text : List ℕ) (answer : Answer) → ShowsCalls s h tasks k a → held ≡ handles_without handle (handles_at h k.dom)
    → slice_get (handles_at h k.dom) place.serial ≡ Some handle → one_if_mapped (Some answer) ≡ 0 → b.next ≡ a.next → b.«open» ≡ None → b.mappings.items ≡ but place.serial a.mappings.items
    → ShowsCalls s (stepped k.dom (Unpin p (holders.Mapping handle)) seen (Some answer) ∷ h) tasks (over_course k k.named held text) b
shows-less s h tasks k a b p handle place seen held text answer show all there none next closed same =
    let d = k.dom in let i = stepped d (Unpin p (holders.Mapping handle)) seen (Some answer) in let n = place.serial in
    let maps : mappings_at (i ∷ h) d.0 ≡ but n (mappings_at h d.0) = mappings-less h d p handle seen (Some answer) ∙ less-is n 0 (mappings_at h d.0) (maps_answered_at h d.0) handle show.rising there in
    let hs : handles_at (i ∷ h) d ≡ but n (handles_at h d) = ap (λ (ms : List (Handle × HeldPin)). map (λ (m : Handle × HeldPin). m.0) ms) maps ∙ map-but (λ (m : Handle × HeldPin). m.0) n (mappings_at h d.0) in
    let ps : pins_mapped_at (i ∷ h) d ≡ but n (pins_mapped_at h d) = ap (λ (ms : List (Handle × HeldPin)). map (λ (m : Handle × HeldPin). m.1) ms) maps ∙ map-but (λ (m : Handle × HeldPin). m.1) n (mappings_at h d.0) in
    let count : maps_answered_at (i ∷ h) d.0 ≡ maps_answered_at h d.0 = answered-stays h i d.0 none in
    let few = show.few in
    shows-over s h i tasks k a b k.named held text answer refl refl show next closed
    (all ∙ sym (without-place 0 (handles_at h d) (maps_answered_at h d.0) n handle show.rising there) ∙ sym hs) (omega arith)
    (subst (λ (m : ℕ). SerialsRise 0 (handles_at (i ∷ h) d) m) (sym count) (subst (λ (l : List Handle). SerialsRise 0 l (maps_answered_at h d.0)) (sym hs) (rise-but n 0 (handles_at h d) (maps_answered_at h d.0) show.rising)))
    (ap mapping_pins same ∙ map-but (λ (m : LabelledMapping). m.held) n a.mappings.items ∙ ap (but n) show.pins ∙ sym ps)
    (subst (λ (l : List Handle). LabelsShow k.named d l (labels_of b.mappings.items)) (sym hs)
    (subst (λ (ls : List (Option (List ℕ))). LabelsShow k.named d (but n (handles_at h d)) ls) (sym (ap labels_of same ∙ map-but (λ (m : LabelledMapping). label_bytes m.label) n a.mappings.items))
    (labels-but k.named d n (handles_at h d) (labels_of a.mappings.items) show.labels)))

-- the domain has a mapping more

-- an element of a list with one more at its end
abbrev AtPush : {A : Type 0} → List A → A → ℕ → A → Type 0
AtPush xs x at y = (slice_get xs at ≡ Some y) ⊎ ((at ≡ length xs) × (x ≡ y))

at-push : {A : Type 0} (xs : List A) (x : A) (at : ℕ) (y : A) → slice_get (xs ++ x ∷ []) at ≡ Some y → AtPush xs x at y
at-push [] x zero y e = inr (refl, same_Some x y e)
at-push [] x (suc at) y e = absurd (none-some y e)
at-push (z ∷ xs) x zero y e = inl e
at-push (z ∷ xs) x (suc at) y e = by (at-push xs x at y e) where
  by : AtPush xs x at y → AtPush (z ∷ xs) x (suc at) y
  by (inl f) = inl f
  by (inr f) = inr (ap (λ (n : ℕ). suc n) f.0, f.1)

rise-push : (low : ℕ) (hs : List Handle) (high : ℕ) (handle : Handle) → SerialsRise low hs high → handle.serial ≡ high → SerialsRise low (hs ++ handle ∷ []) (1 + high)
rise-push low [] high handle r e = (omega arith, omega arith)
rise-push low (x ∷ hs) high handle r e = (r.0, rise-push (suc x.serial) hs high handle r.1 e)

at-map : {A B : Type 0} (f : A → B) (xs : List A) (at : ℕ) (y : B) → slice_get (map f xs) at ≡ Some y → (x : A) × (slice_get xs at ≡ Some x) × (f x ≡ y)
at-map f [] at y e = absurd (none-some y e)
at-map f (x ∷ xs) zero y e = (x, refl, same_Some (f x) y e)
at-map f (x ∷ xs) (suc at) y e = at-map f xs at y e

-- what a label names once this handle was given to that label
named-now : (named : List Named) (d : DomId) (given label : List ℕ) (handle : Handle) (b : Bool) → bytes_eq given label ≡ b
    → handle_labelled (record { dom = d; label = given; handle = handle } ∷ named) d.0 label ≡ cond b (Some handle) (handle_labelled named d.0 label)
named-now named d given label handle b e = ap (λ (x : Bool). cond (x && bytes_eq given label) (Some handle) (handle_labelled named d.0 label)) (eq-eqb d.0 d.0 refl) ∙ ap (λ (y : Bool). cond y (Some handle) (handle_labelled named d.0 label)) e

-- an older mapping has another handle, and not that label any more
old-label : (named : List Named) (d : DomId) (given label : List ℕ) (handle old : Handle) (was now : Option (List ℕ)) → old.serial < handle.serial → unless_given (Some given) was ≡ now → ((was ≡ Some label) ↔ (handle_labelled named d.0 label ≡ Some old))
    → (now ≡ Some label) ↔ (handle_labelled (record { dom = d; label = given; handle = handle } ∷ named) d.0 label ≡ Some old)
old-label named d given label handle old was now lt is before = by (bytes_eq given label) refl where
  apart : bytes_eq given label ≡ true → (w : Option (List ℕ)) → unless_given (Some given) w ≡ Some label → ⊥
  apart e None f = none-some label f
  apart e (Some l) f = go (bytes_eq l given) refl f where
    go : (b : Bool) → bytes_eq l given ≡ b → cond b None (Some l) ≡ Some label → ⊥
    go true g k = none-some label k
    go false g k = true≢false (sym ((bytes_eq-Decides l given).1 (same_Some l label k ∙ sym ((bytes_eq-Decides given label).0 e))) ∙ g)

  same : bytes_eq given label ≡ false → (w : Option (List ℕ)) → (unless_given (Some given) w ≡ Some label → w ≡ Some label) × (w ≡ Some label → unless_given (Some given) w ≡ Some label)
  same e None = (λ f. f, λ f. f)
  same e (Some l) = go (bytes_eq l given) refl where
    go : (b : Bool) → bytes_eq l given ≡ b → (cond b None (Some l) ≡ Some label → Some l ≡ Some label) × (Some l ≡ Some label → cond b None (Some l) ≡ Some label)
    go true g = (
      λ f. absurd (none-some label f),
      λ f. absurd (true≢false (sym ((bytes_eq-Decides given label).1 (sym ((bytes_eq-Decides l given).0 g) ∙ same_Some l label f)) ∙ e)),
    )
    go false g = (λ f. f, λ f. f)

  by : (b : Bool) → bytes_eq given label ≡ b → (now ≡ Some label) ↔ (handle_labelled (record { dom = d; label = given; handle = handle } ∷ named) d.0 label ≡ Some old)
  by true e = (
    λ f. absurd (apart e was (is ∙ f)),
    λ f. let same-handle : handle ≡ old = same_Some handle old (sym (named-now named d given label handle true e) ∙ f) in
        let serials : handle.serial ≡ old.serial = ap (λ (z : Handle). z.serial) same-handle in absurd (omega arith),
  )
  by false e = let s = same e was in (
    λ f. named-now named d given label handle false e ∙ before.0 (s.0 (is ∙ f)),
    λ f. sym is ∙ s.1 (before.1 (sym (named-now named d given label handle false e) ∙ f)),
  )

-- the new mapping has that label, which names its handle
new-label : (named : List Named) (d : DomId) (given label : List ℕ) (handle : Handle) → ((l : List ℕ) → handle_labelled named d.0 l ≡ Some handle → ⊥)
    → (◌≡◌ {A = Option (List ℕ)} (Some given) (Some label)) ↔ (handle_labelled (record { dom = d; label = given; handle = handle } ∷ named) d.0 label ≡ Some handle)
new-label named d given label handle fresh = by (bytes_eq given label) refl where
  by : (b : Bool) → bytes_eq given label ≡ b → (◌≡◌ {A = Option (List ℕ)} (Some given) (Some label)) ↔ (handle_labelled (record { dom = d; label = given; handle = handle } ∷ named) d.0 label ≡ Some handle)
  by true e = (λ f. named-now named d given label handle true e, λ f. ap (λ (l : List ℕ). Some l) ((bytes_eq-Decides given label).0 e))
  by false e = (
    λ f. absurd (true≢false (sym ((bytes_eq-Decides given label).1 (same_Some given label f)) ∙ e)),
    λ f. absurd (fresh label (sym (named-now named d given label handle false e) ∙ f)),
  )

labels-push : (named : List Named) (d : DomId) (hs : List Handle) (labels : List (Option (List ℕ))) (high : ℕ) (given : List ℕ) (handle : Handle) → length hs ≡ length labels → SerialsRise 0 hs high → handle.serial ≡ high → ((l : List ℕ) → handle_labelled named d.0 l ≡ Some handle → ⊥)
    → LabelsShow named d hs labels → LabelsShow (record { dom = d; label = given; handle = handle } ∷ named) d (hs ++ handle ∷ []) (apart_from (Some given) labels ++ Some given ∷ [])
labels-push named d hs labels high given handle long rise serial fresh show at old has label there is =
    by (at-push hs handle at old there) (at-push (apart_from (Some given) labels) (Some given) at has is) where
      many : length (apart_from (Some given) labels) ≡ length labels
      many = length-map labels (unless_given (Some given))

      by : AtPush hs handle at old → AtPush (apart_from (Some given) labels) (Some given) at has → (has ≡ Some label) ↔ (handle_labelled (record { dom = d; label = given; handle = handle } ∷ named) d.0 label ≡ Some old)
      by (inl f) (inl g) = let m = at-map (unless_given (Some given)) labels at has g in
          let lt = rise-below 0 hs high at old rise f in
          old-label named d given label handle old m.0 has (omega arith) m.2 (show at old m.0 label f m.1)
      by (inl f) (inr g) = absurd (let lt = slice_get_within hs at old f in let here : at ≡ length (apart_from (Some given) labels) = g.0 in omega (arith, many))
      by (inr f) (inl g) = absurd (let lt = slice_get_within (apart_from (Some given) labels) at has g in let here : at ≡ length hs = f.0 in omega (arith, many))
      by (inr f) (inr g) = subst (λ (z : Handle). (has ≡ Some label) ↔ (handle_labelled (record { dom = d; label = given; handle = handle } ∷ named) d.0 label ≡ Some z)) f.1
          (subst (λ (z : Option (List ℕ)). (z ≡ Some label) ↔ (handle_labelled (record { dom = d; label = given; handle = handle } ∷ named) d.0 label ≡ Some handle)) g.1 (new-label named d given label handle fresh))

gather-one : (h : History) (d : DomId) (p : HeldPin) (handle : Handle) → gather mapping_named d.0 (new_pin h d p (Some (Mapped handle)) ∷ []) ≡ (handle, record p { entry = entry_at h p.dom.0 p.gref.0 }) ∷ []
unfolding gather
gather-one h d p handle = ap (λ (b : Bool). cond b ((handle, record p { entry = entry_at h p.dom.0 p.gref.0 }) ∷ []) [] ++ []) (eq-eqb d.0 d.0 refl)

mappings-more : (h : History) (d : DomId) (p : HeldPin) (handle : Handle) → entry_at h p.dom.0 p.gref.0 ≡ p.entry → mappings_at (stepped d (call_steps.Pin p) Taken (Some (Mapped handle)) ∷ h) d.0 ≡ mappings_at h d.0 ++ (handle, p) ∷ []
mappings-more h d p handle same = ap (gather mapping_named d.0) (pinned-live h d p (Some (Mapped handle)))
    ∙ gather-append mapping_named d.0 (live h) (new_pin h d p (Some (Mapped handle)) ∷ [])
    ∙ ap (λ (l : List (Handle × HeldPin)). mappings_at h d.0 ++ l) (gather-one h d p handle ∙ ap (λ (e : Entry). (handle, record p { entry = e }) ∷ []) same)

pub shows-more : (s : Setting) (h : History) (tasks : List RunTask) (k : Course) (a b : Actor) (p : HeldPin) (handle : Handle) (given : List ℕ) (text : List ℕ) → ShowsCalls s h tasks k a → k.held ≡ handles_at h k.dom → IsRun s h → HaveAnswered h k.named
    → handle.serial ≡ maps_answered_at h k.dom.0 → entry_at h p.dom.0 p.gref.0 ≡ p.entry → maps_answered_at h k.dom.0 + 1 ≤ a.next → b.next ≡ a.next → b.«open» ≡ None → mapping_pins b.mappings.items ≡ mapping_pins a.mappings.items ++ p ∷ []
    → labels_of b.mappings.items ≡ apart_from (Some given) (labels_of a.mappings.items) ++ Some given ∷ []
    → ShowsCalls s (stepped k.dom (call_steps.Pin p) Taken (Some (Mapped handle)) ∷ h) tasks (over_course k (with_name k.named k.dom (Some given) (Some handle)) (k.held ++ handle ∷ []) text) b
shows-more s h tasks k a b p handle given text show all run named serial entry few next closed pins labels =
    let d = k.dom in let i = stepped d (call_steps.Pin p) Taken (Some (Mapped handle)) in
    let maps : mappings_at (i ∷ h) d.0 ≡ mappings_at h d.0 ++ (handle, p) ∷ [] = mappings-more h d p handle entry in
    let hs : handles_at (i ∷ h) d ≡ handles_at h d ++ handle ∷ [] = ap (λ (ms : List (Handle × HeldPin)). map (λ (m : Handle × HeldPin). m.0) ms) maps ∙ map-append (λ (m : Handle × HeldPin). m.0) (mappings_at h d.0) ((handle, p) ∷ []) in
    let ps : pins_mapped_at (i ∷ h) d ≡ pins_mapped_at h d ++ p ∷ [] = ap (λ (ms : List (Handle × HeldPin)). map (λ (m : Handle × HeldPin). m.1) ms) maps ∙ map-append (λ (m : Handle × HeldPin). m.1) (mappings_at h d.0) ((handle, p) ∷ []) in
    let count : maps_answered_at (i ∷ h) d.0 ≡ 1 + maps_answered_at h d.0 = maps-one i h d.0 handle refl refl in
    let long : length (handles_at h d) ≡ length (labels_of a.mappings.items) = length-map (mappings_at h d.0) (λ (m : Handle × HeldPin). m.0) ∙ sym (length-map (mappings_at h d.0) (λ (m : Handle × HeldPin). m.1))
    ∙ ap (λ (l : List HeldPin). length l) (sym show.pins) ∙ length-map a.mappings.items (λ (m : LabelledMapping). m.held) ∙ sym (length-map a.mappings.items (λ (m : LabelledMapping). label_bytes m.label)) in
    shows-over s h i tasks k a b (with_name k.named d (Some given) (Some handle)) (k.held ++ handle ∷ []) text (Mapped handle) refl refl show next closed
    (ap (λ (l : List Handle). l ++ handle ∷ []) all ∙ sym hs) (omega arith)
    (subst (λ (m : ℕ). SerialsRise 0 (handles_at (i ∷ h) d) m) (sym count) (subst (λ (l : List Handle). SerialsRise 0 l (1 + maps_answered_at h d.0)) (sym hs) (rise-push 0 (handles_at h d) (maps_answered_at h d.0) handle show.rising serial)))
    (pins ∙ ap (λ (l : List HeldPin). l ++ p ∷ []) show.pins ∙ sym ps)
    (subst (λ (l : List Handle). LabelsShow (with_name k.named d (Some given) (Some handle)) d l (labels_of b.mappings.items)) (sym hs)
    (subst (λ (ls : List (Option (List ℕ))). LabelsShow (with_name k.named d (Some given) (Some handle)) d (handles_at h d ++ handle ∷ []) ls) (sym labels)
    (labels-push k.named d (handles_at h d) (labels_of a.mappings.items) (maps_answered_at h d.0) given handle long show.rising serial
    (λ l e. let lt = named-below s h d.0 k.named l handle run named e in absurd (omega arith)) show.labels)))
