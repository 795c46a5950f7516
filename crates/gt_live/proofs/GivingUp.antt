-- A call that is refused by N18 made just four tries, each of which was missed.
use Rattle.std.proofs.Common.{◌≡◌, ◌≢◌, ◌⊎◌, inl, inr, ⊎_elim, ◌==◌, ℕ, zero, suc, Bool, true, false, if◌then◌else◌}
use Rattle.std.proofs.Common.{not, nat_lt, refl, sym, ap, ◌∙◌, subst, List, [], ◌∷◌, ◌++◌, map, length, Option, Some}
use Rattle.std.proofs.Common.{None, append_assoc, eq-eqb, ne_eqb, arith}
use Rattle.std.specs.Prelude.{nat_le}
use Rattle.gt_types.specs.declared.DomId.{DomId}
use Rattle.gt_types.specs.declared.GrantRef.{GrantRef}
use Rattle.gt_types.specs.declared.TypeId.{TypeId}
use Rattle.gt_types.specs.declared.perms.Perms.{Perms}
use Rattle.gt_types.specs.declared.rights.Triple.{Triple}
use Rattle.gt_types.specs.declared.Dir.TheVariants.{Read, Write}
use Rattle.gt_types.specs.declared.denial.Denial.{Denial}
use Rattle.gt_types.specs.declared.denial.Field.{Field}
use Rattle.gt_types.specs.declared.denial.Rule.{Rule}
use Rattle.gt_types.specs.declared.denial.Rule.TheVariants.{N5, N6, N9, N18, N19, N20, N22, N25}
use Rattle.gt_types.specs.declared.denial.Facts.TheVariants as facts
use Rattle.gt_types.specs.Denial.{denial_of}
use Rattle.gt_model.specs.declared.change.EntryChange.{EntryChange}
use Rattle.gt_model.specs.declared.change.EntryChange.TheVariants.{Publish}
use Rattle.gt_model.specs.declared.change.EntryChange.TheVariants as changes
use Rattle.gt_model.specs.declared.change.BodyWord.TheVariants as body_words
use Rattle.gt_model.specs.declared.control.Control.{Control}
use Rattle.gt_model.specs.declared.control.EntryKind.TheVariants as kinds
use Rattle.gt_model.specs.declared.entry.Entry.{Entry}
use Rattle.gt_model.specs.declared.entry.Entry.TheVariants.{Invalid, Page, Sub, Via}
use Rattle.gt_model.specs.Bytes.{first_refused}
use Rattle.gt_model.specs.Spelling.{entry_of}
use Rattle.gt_model.specs.Words.{control_of, header_of, is_kind, pins_of, size_of}
use Rattle.gt_types.specs.declared.limits.TheConstants.{LAST_GENERATION}
use Rattle.gt_word_history.specs.History.{StepHistory, Moment}
use Rattle.gt_word_history.specs.Rule.{Layout, position_in}
use Rattle.gt_word_history.specs.Steps.{on_entry, on_header}
use Rattle.gt_word_history.specs.Views.{with_step}
use Rattle.gt_word_history.specs.declared.view.EntryRecord.{EntryRecord}
use Rattle.gt_word_history.specs.declared.view.EntryStep.{EntryStep}
use Rattle.gt_word_history.specs.declared.view.EntryStep.TheVariants.{ChangeMissed, Changed, Looked, PinMissed}
use Rattle.gt_word_history.specs.declared.view.EntryStep.TheVariants.{Pinned, ReadBody, Unpinned}
use Rattle.gt_word_history.specs.declared.view.HeaderStep.TheVariants as header
use Rattle.gt_word_history.specs.declared.view.SeatStep.{SeatStep}
use Rattle.gt_word_history.specs.declared.view.View.{View}
use Rattle.gt_model.specs.declared.action.Action.{Action}
use Rattle.gt_model.specs.declared.action.Action.TheVariants.{Done}
use Rattle.gt_model.specs.declared.action.Action.TheVariants as actions
use Rattle.gt_model.specs.declared.action.Observation.{Observation}
use Rattle.gt_model.specs.declared.action.Observation.TheVariants.{Missed, Nothing, Taken, Word}
use Rattle.gt_model.specs.declared.action.Step.{Step}
use Rattle.gt_model.specs.declared.action.Step.TheVariants.{Exchange, LookBody, LookControl, LookHeader, Pin, StoreBody}
use Rattle.gt_model.specs.declared.action.Step.TheVariants.{StoreHeader, Unpin}
use Rattle.gt_model.specs.declared.action.Step.TheVariants as call_steps
use Rattle.gt_model.specs.declared.action.CallResult.{CallResult}
use Rattle.gt_model.specs.declared.action.CallResult.TheVariants.{Granted, Mapped, Refused}
use Rattle.gt_model.specs.declared.held.HeldPin.{HeldPin}
use Rattle.gt_model.specs.declared.held.AccessPath.{AccessPath}
use Rattle.gt_model.specs.declared.held.AccessPath.TheVariants.{Direct, Own, Through}
use Rattle.gt_model.specs.declared.leg.Leg.{Leg}
use Rattle.gt_model.specs.declared.bounds.TheConstants.{MORE_TRIES}
use Rattle.gt_model.specs.declared.request.OpenRequest.{OpenRequest}
use Rattle.gt_model.specs.declared.request.OpenRequest.TheVariants as asks
use Rattle.gt_types.specs.declared.copies.CopyArgs.{CopyArgs}
use Rattle.gt_model.specs.declared.request.PinHolder.TheVariants as holders
use Rattle.gt_model.specs.declared.request.Request.{Request}
use Rattle.gt_model.specs.Asking.{asked, begun_by, begun_of, bytes_of, field_refused, plainly_asked}
use Rattle.gt_model.specs.Holding.{held_by}
use Rattle.gt_model.specs.Path.{AfterPin, AfterRefusal, Continuation, accesses, after_beginning, after_first}
use Rattle.gt_model.specs.Path.{at_first_look, beyond, by_mapping, copies, dest_pair, end_leg, ended, entry_refusal}
use Rattle.gt_model.specs.Path.{exchanges, exchanges_once, give_back, held_of, is_stopped, last_step, leg, looks}
use Rattle.gt_model.specs.Path.{makes, map_leg, path_of, pins, reaches, reads_body, reads_second, refused_at}
use Rattle.gt_model.specs.Path.{refused_holding, rule_of_try, second_leg, source_pair, steps_of, to_dest, tries}
use Rattle.gt_model.specs.Path.{try_pin, turn, turns, unless_refused}
use Rattle.gt_model.specs.Rules.{CallerKnowledge, before_pin, begun, denied, first, first_look, copy_begun}
use Rattle.gt_model.specs.Rules.{granted_when, has_own_ends, refused_when, stands, via_judged, is_invalid}
use Rattle.gt_types.specs.Copies.{is_dest_granted, is_source_granted}
use Rattle.gt_calls.specs.Probing.{IsProbe}
use Rattle.gt_live.specs.Tries.{AreReads, AreUnpins, BeginsTries, FourTriesWereMissed, FoundAnother, GaveUp}
use Rattle.gt_live.specs.Tries.{IsMissedTry, MissedTries, in_order}
use Rattle.gt_live.specs.Walks.{IsWalk, Made, MakesStep, view_after, all_shown, shown_by, seen_in_step}
use Rattle.gt_live.proofs.Walking.{after-position}

-- lists
append-none : {A : Type 0} (xs : List A) → xs ++ [] ≡ xs
append-none [] = refl
append-none (x ∷ xs) = ap (λ (zs : List _). x ∷ zs) (append-none xs)

map-snoc : (xs : List SeatStep) (x : SeatStep) → map seen_in_step (xs ++ x ∷ []) ≡ map seen_in_step xs ++ seen_in_step x ∷ []
map-snoc [] x = refl
map-snoc (y ∷ ys) x = ap (λ (zs : List Observation). seen_in_step y ∷ zs) (map-snoc ys x)

shown-in-order : (xs : List Moment) → all_shown xs ≡ map seen_in_step (in_order xs)
shown-in-order [] = refl
shown-in-order (x ∷ xs) = ap (λ (zs : List Observation). zs ++ shown_by x ∷ []) (shown-in-order xs) ∙ sym (map-snoc (in_order xs) x.1)

-- the rules at a beginning, and after the pin of a Via, are others than N18

abbrev Not18 : Option CallResult → Type 0
Not18 o = (den : Denial) → o ≡ Some (Refused den) → den.rule ≢ N18

not-denied : (may : TypeId → TypeId → Perms → Bool) (ts : List Triple) → Not18 (denied may ts)
not-denied may [] = λ den e. cc
not-denied may (t ∷ ts) = by (not-denied may ts) (may t.source t.target t.perm)
  where
    by : Not18 (denied may ts) → (b : Bool) → Not18 (if b then denied may ts else Some (Refused (denial_of N5 (facts.Policy t.source t.target t.perm))))
    by rest true = rest
    by rest false = λ den e is. let same : denial_of N5 (facts.Policy t.source t.target t.perm) ≡ den = cc in let rule : N5 ≡ N18 = ap (λ (z : Denial). z.rule) same ∙ is in absurd (cc)

not-field : (o : Option Field) → Not18 (field_refused o)
not-field None = λ den e. cc
not-field (Some f) = λ den e is. let same : denial_of N25 (facts.Field f) ≡ den = cc in let rule : N25 ≡ N18 = ap (λ (z : Denial). z.rule) same ∙ is in absurd (cc)

not-via : (c : CallerKnowledge) (pair : DomId × DomId) (dom : DomId) → Not18 (via_judged c pair dom)
not-via c pair dom den e is = grind (arith, not-denied)

not-copy : (c : CallerKnowledge) (caller : DomId) (args : CopyArgs) → Not18 (copy_begun c caller args)
not-copy c caller args den e is = grind (arith, not-denied)

-- a probe that is refused at its beginning is refused as its copy
refused-first : (o : Option CallResult) (b : Bool) (den : Denial) → first (o ∷ granted_when b ∷ []) ≡ Some (Refused den) → o ≡ Some (Refused den)
refused-first (Some verdict) b den e = e
refused-first None true den e = cc
refused-first None false den e = cc

not-begun : (c : CallerKnowledge) (caller : DomId) (request : OpenRequest) → Not18 (begun c caller request)
not-begun c caller (asks.Copy args) den e is = not-copy c caller args den e is
not-begun c caller (asks.Probe args) den e is = not-copy c caller args den (refused-first (copy_begun c caller args) (has_own_ends args) den e) is
not-begun c caller request den e is = grind (arith, not-denied)

plain-rule : (rule : Rule) → rule ≢ N18 → Not18 (Some (Refused (denial_of rule facts.None)))
plain-rule rule n den e is = n (let same : denial_of rule facts.None ≡ den = cc in ap (λ (z : Denial). z.rule) same ∙ is)

not-bytes : (a b c : Bool) (o : Option CallResult) → Not18 o → Not18 (first (refused_when a N9 ∷ (refused_when b N20 ∷ (refused_when c N22 ∷ (o ∷ [])))))
not-bytes true b c o n = plain-rule N9 (λ e. cc)
not-bytes false true c o n = plain-rule N20 (λ e. cc)
not-bytes false false true o n = plain-rule N22 (λ e. cc)
not-bytes false false false None n = λ den e is. cc
not-bytes false false false (Some verdict) n = n

not-begun-by : (c : CallerKnowledge) (caller : DomId) (request : Request) (o : Option (GrantRef × List ℕ)) → Not18 (begun_by c caller request o)
not-begun-by c caller request None = not-begun c caller (plainly_asked request)
not-begun-by c caller request (Some b) = not-bytes (nat_le (size_of c.header) b.0.0) (not (is_invalid (c.entry b.0.0))) (c.generation b.0.0 == LAST_GENERATION) (field_refused (first_refused c.header.version b.1)) (not-field (first_refused c.header.version b.1))

-- what a step of a call is among the steps of its seat, which stands at the position p

abbrev first_step : SeatStep → List SeatStep → SeatStep
first_step x [] = x
first_step x (y ∷ ys) = y

module _ (k : Layout) (p : ℕ) where
  abbrev Is : Step → SeatStep → Type 0
  Is (LookHeader d) x = (n : ℕ) × (x ≡ on_header (position_in k.ids d) (header.Looked n))
  Is (LookControl d q) x = (n : ℕ) × (x ≡ on_entry (position_in k.ids d) q.0 (Looked n))
  Is (LookBody d q body_word) x = (n : ℕ) × (x ≡ on_entry (position_in k.ids d) q.0 (ReadBody body_word n))
  Is (Pin h) x = ((y : EntryRecord) × (x ≡ on_entry (position_in k.ids h.dom) h.gref.0 (Pinned h.dir h.word y)))
      ⊎ ((f : ℕ) × (n : ℕ) × (x ≡ on_entry (position_in k.ids h.dom) h.gref.0 (PinMissed h.dir h.word f n)) × (n ≢ h.word))
  Is (Unpin h holder) x = (g : ℕ) × (x ≡ on_entry (position_in k.ids h.dom) h.gref.0 (Unpinned h.dir g))
  Is (Exchange q looked c) x = ((n : ℕ) × (y : EntryRecord) × (x ≡ on_entry p q.0 (Changed c looked n y)))
      ⊎ ((f : ℕ) × (n : ℕ) × (x ≡ on_entry p q.0 (ChangeMissed c looked f n)) × (n ≢ looked))
  Is (StoreBody q body_word n) x = Unit {0}
  Is (StoreHeader version frames) x = Unit {0}
  Is (call_steps.Read dom frame off len) x = ⊥
  Is (call_steps.Write dom frame off len) x = ⊥
  Is (call_steps.Copy from to len) x = ⊥

  module _ (v w : View) (at : v.position ≡ p) (past : StepHistory) (x : SeatStep) (view : w ≡ with_step past x v) where
    same : (y : SeatStep) (g : StepHistory) → w ≡ with_step g y v → x ≡ y
    same y g e = ap (λ (u : View). first_step x u.steps) (sym view ∙ e)

    own : (q : ℕ) (m : EntryStep) → x ≡ on_entry v.position q m → x ≡ on_entry p q m
    own q m e = e ∙ ap (λ (t : ℕ). on_entry t q m) at

    made-is : (s : Step) (seen : Observation) → Made k s seen v w → Is s x
    made-is (LookHeader d) (Word n) m = (n, same _ _ m.steps.adds.view)
    made-is (LookControl d q) (Word n) m = (n, same _ _ m.0.steps.adds.view)
    made-is (LookBody d q body_word) (Word n) m = (n, same _ _ m.steps.adds.view)
    made-is (Pin h) Taken m = inl (_, same _ _ m.steps.adds.view)
    made-is (Pin h) (Missed n) m = inr (_, n, same _ _ m.steps.adds.view, m.another)
    made-is (Unpin h holder) Nothing m = (_, same _ _ m.steps.adds.view)
    made-is (StoreBody q body_word n) Nothing m = tt
    made-is (StoreHeader version frames) Nothing m = tt
    made-is (Exchange q looked (Publish e)) Taken m = inl (_, _, own _ _ (same _ _ m.changes.steps.adds.view))
    made-is (Exchange q looked (Publish e)) (Missed n) m = inr (_, n, own _ _ (same _ _ m.missed.steps.adds.view), m.missed.another)
    made-is (Exchange q looked changes.Revoke) Taken m = inl (_, _, own _ _ (same _ _ m.changes.steps.adds.view))
    made-is (Exchange q looked changes.Revoke) (Missed n) m = inr (_, n, own _ _ (same _ _ m.missed.steps.adds.view), m.missed.another)
    made-is (Exchange q looked changes.Withdraw) Taken m = inl (_, _, own _ _ (same _ _ m.steps.adds.view))
    made-is (Exchange q looked changes.Withdraw) (Missed n) m = inr (_, n, own _ _ (same _ _ m.steps.adds.view), m.another)
    made-is (Exchange q looked changes.Demote) Taken m = inl (_, _, own _ _ (same _ _ m.changes.steps.adds.view))
    made-is (Exchange q looked changes.Demote) (Missed n) m = inr (_, n, own _ _ (same _ _ m.steps.adds.view), m.another)
    made-is (Exchange q looked changes.Promote) Taken m = inl (_, _, own _ _ (same _ _ m.steps.adds.view))
    made-is (Exchange q looked changes.Promote) (Missed n) m = inr (_, n, own _ _ (same _ _ m.steps.adds.view), m.another)
    made-is _ _ m = absurd m

  -- the steps in their order are those of a way
  abbrev IsNext : Option Action → SeatStep → Type 0
  IsNext (Some (actions.Step s)) x = Is s x
  IsNext (Some (Done verdict)) x = ⊥
  IsNext None x = ⊥

  abbrev Goes : Continuation → List SeatStep → Type 0
  Goes way [] = Unit {0}
  Goes way (x ∷ xs) = IsNext (way []) x × Goes (λ vs. way (seen_in_step x ∷ vs)) xs

  goes-more : (way : Continuation) (ys : List SeatStep) (x : SeatStep) → Goes way ys → IsNext (way (map seen_in_step ys)) x → Goes way (ys ++ x ∷ [])
  goes-more way [] x g next = (next, tt)
  goes-more way (y ∷ ys) x g next = (g.0, goes-more (λ vs. way (seen_in_step y ∷ vs)) ys x g.1 next)

  goes : (way : Continuation) (v : View) (xs : List Moment) → v.position ≡ p → IsWalk k way v xs → Goes way (in_order xs)
  goes way v [] at walk = tt
  goes way v (x ∷ xs) at walk =
      let next : IsNext (way (map seen_in_step (in_order xs))) x.1 = subst (λ (zs : List Observation). IsNext (way zs) x.1) (shown-in-order xs) (by (way (all_shown xs)) walk.0) in
      goes-more way (in_order xs) x.1 (goes way v xs at walk.1) next
    where
      by : (o : Option Action) → MakesStep k o (shown_by x) (view_after xs v) (view_after (x ∷ xs) v) → IsNext o x.1
      by (Some (actions.Step s)) m = made-is (view_after xs v) (view_after (x ∷ xs) v) (after-position xs v ∙ at) x.0 x.1 refl s (shown_by x) m
      by (Some (Done verdict)) m = absurd m
      by None m = absurd m

  -- a call that ends in this refusal, which is N18
  module _ (d : Denial) (is18 : d.rule ≡ N18) where
    -- these are the steps of this way, which ends so
    abbrev Ends : Continuation → List SeatStep → Type 0
    Ends way ys = Goes way ys × (way (map seen_in_step ys) ≡ Some (Done (Refused d)))

    no-end : (s : Step) → Some (actions.Step s) ≡ Some (Done (Refused d)) → ⊥
    no-end s e = cc

    none-ends : None ≡ Some (Done (Refused d)) → ⊥
    none-ends e = cc

    is-refused : (verdict : CallResult) → Some (Done verdict) ≡ Some (Done (Refused d)) → verdict ≡ Refused d
    is-refused verdict e = cc

    same-denial : (den : Denial) → Refused den ≡ Refused d → d ≡ den
    same-denial den e = cc

    -- another rule
    other : (den : Denial) → d ≡ den → den.rule ≢ N18 → ⊥
    other den e n = n (ap (λ (z : Denial). z.rule) (sym e) ∙ is18)

    -- the combinators of a way

    looks-on : (step : Step) (follows : ℕ → Continuation) (shape : ℕ → SeatStep) → ((x : SeatStep) → Is step x → (n : ℕ) × (x ≡ shape n)) → ((n : ℕ) → seen_in_step (shape n) ≡ Word n) → (ys : List SeatStep) → Ends (looks step follows) ys
        → (n : ℕ) × (zs : List SeatStep) × (ys ≡ shape n ∷ zs) × Ends (follows n) zs
    looks-on step follows shape look shows [] e = absurd (no-end step e.1)
    looks-on step follows shape look shows (x ∷ zs) e = let is = look x e.0.0 in let word = ap seen_in_step is.1 ∙ shows is.0 in
        (is.0, zs, (λ i. is.1 i ∷ zs), subst (λ (s : Observation). Goes (λ vs. looks step follows (s ∷ vs)) zs × (looks step follows (s ∷ map seen_in_step zs) ≡ Some (Done (Refused d)))) word (e.0.1, e.1))

    -- a way that never ends so
    abbrev Never : Continuation → Type 0
    Never way = (ys : List SeatStep) → way (map seen_in_step ys) ≡ Some (Done (Refused d)) → ⊥

    never-ended : (verdict : CallResult) → (verdict ≡ Refused d → ⊥) → Never (ended verdict)
    never-ended verdict n [] e = n (is-refused verdict e)
    never-ended verdict n (x ∷ xs) e = none-ends e

    never-refused : (den : Denial) → den.rule ≢ N18 → Never (ended (Refused den))
    never-refused den n = never-ended (Refused den) (λ e. other den (same-denial den e) n)

    never-makes : (step : Step) (follows : Continuation) → Never follows → Never (makes step follows)
    never-makes step follows n [] e = no-end step e
    never-makes step follows n (x ∷ xs) e = by (seen_in_step x) e
      where
        by : (s : Observation) → makes step follows (s ∷ map seen_in_step xs) ≡ Some (Done (Refused d)) → ⊥
        by Nothing q = n xs q
        by (Word w) q = none-ends q
        by Taken q = none-ends q
        by (Missed w) q = none-ends q

    never-looks : (step : Step) (follows : ℕ → Continuation) → ((w : ℕ) → Never (follows w)) → Never (looks step follows)
    never-looks step follows n [] e = no-end step e
    never-looks step follows n (x ∷ xs) e = by (seen_in_step x) e
      where
        by : (s : Observation) → looks step follows (s ∷ map seen_in_step xs) ≡ Some (Done (Refused d)) → ⊥
        by (Word w) q = n w xs q
        by Nothing q = none-ends q
        by Taken q = none-ends q
        by (Missed w) q = none-ends q

    never-exchanges : (step : Step) (looked : ℕ) (taken : Continuation) (missed : ℕ → Continuation) → Never taken → ((w : ℕ) → Never (missed w)) → Never (exchanges step looked taken missed)
    never-exchanges step looked taken missed n m [] e = no-end step e
    never-exchanges step looked taken missed n m (x ∷ xs) e = by (seen_in_step x) e
      where
        either-way : (w : ℕ) (b : Bool) → (if b then None else missed w (map seen_in_step xs)) ≡ Some (Done (Refused d)) → ⊥
        either-way w true q = none-ends q
        either-way w false q = m w xs q

        by : (s : Observation) → exchanges step looked taken missed (s ∷ map seen_in_step xs) ≡ Some (Done (Refused d)) → ⊥
        by Taken q = n xs q
        by (Missed w) q = either-way w (w == looked) q
        by Nothing q = none-ends q
        by (Word w) q = none-ends q

    granted-never : Granted ≡ Refused d → ⊥
    granted-never e = cc

    never-back : (ps : List HeldPin) (verdict : CallResult) → (verdict ≡ Refused d → ⊥) → Never (give_back ps verdict)
    never-back [] verdict n = never-ended verdict n
    never-back (h ∷ hs) verdict n = never-makes (Unpin h (holders.Leg (length hs))) (give_back hs verdict) (never-back hs verdict n)

    -- the end of a refused leg
    gives-back : (ps : List HeldPin) (verdict : CallResult) (ys : List SeatStep) → Ends (give_back ps verdict) ys → (verdict ≡ Refused d) × AreUnpins ys
    gives-back [] verdict [] e = (is-refused verdict e.1, tt)
    gives-back [] verdict (y ∷ ys) e = absurd (none-ends e.1)
    gives-back (h ∷ hs) verdict [] e = absurd (no-end (Unpin h (holders.Leg (length hs))) e.1)
    gives-back (h ∷ hs) verdict (y ∷ ys) e =
        let is = e.0.0 in let none : seen_in_step y ≡ Nothing = ap seen_in_step is.1 in
        let rest = gives-back hs verdict ys (subst (λ (s : Observation). Goes (λ vs. give_back (h ∷ hs) verdict (s ∷ vs)) ys × (give_back (h ∷ hs) verdict (s ∷ map seen_in_step ys) ≡ Some (Done (Refused d)))) none (e.0.1, e.1)) in
        (rest.0, ((position_in k.ids h.dom, h.gref.0, is.0, h.dir, is.1), rest.1))

    -- a refusal gives all pins back
    abbrev GivesBack : AfterRefusal → Type 0
    GivesBack refused = (den : Denial) (ys : List SeatStep) → Ends (refused den) ys → (d ≡ den) × AreUnpins ys

    holding : (held : List HeldPin) → GivesBack (refused_holding held)
    holding held den ys e = let b = gives-back held (Refused den) ys e in (same-denial den b.0, b.1)

    -- the words that four tries found, and what came before them

    abbrev last_word : List ℕ → ℕ
    last_word [] = 0
    last_word (w ∷ []) = w
    last_word (w ∷ (v ∷ ws)) = last_word (v ∷ ws)

    -- so many tries of this entry were missed, and the pins held went back
    record Tried (dom : DomId) (gref : GrantRef) (t : ℕ) (n : ℕ) (ys : List SeatStep) : Type 0 where
      words : List ℕ
      many : length words ≡ n
      tries : List SeatStep
      back : List SeatStep
      all : ys ≡ tries ++ back
      missed : MissedTries t gref.0 words tries
      given_back : AreUnpins back
      denial : d ≡ entry_refusal dom gref N18 (last_word words)

    -- four tries of a leg were
    record LegTried (ys : List SeatStep) : Type 0 where
      dom : DomId
      gref : GrantRef
      way : List SeatStep
      header_at : ℕ
      header_word : ℕ
      rest : List SeatStep
      all : ys ≡ way ++ (on_header header_at (header.Looked header_word) ∷ rest)
      tried : Tried dom gref (position_in k.ids dom) 4 rest

    later : (xs : List SeatStep) (ys : List SeatStep) → LegTried ys → LegTried (xs ++ ys)
    later xs ys l = record {
      dom = l.dom;
      gref = l.gref;
      way = xs ++ l.way;
      header_at = l.header_at;
      header_word = l.header_word;
      rest = l.rest;
      all = ap (λ (zs : List SeatStep). xs ++ zs) l.all ∙ sym (append_assoc xs l.way (on_header l.header_at (header.Looked l.header_word) ∷ l.rest));
      tried = l.tried;
    }

    -- one try was missed, and this follows
    abbrev OneMissed : ℕ → ℕ → (ℕ → Continuation) → List SeatStep → Type 0
    OneMissed t r missed ys = (w : ℕ) × (one : List SeatStep) × (rest : List SeatStep) × (ys ≡ one ++ rest) × IsMissedTry t r one w × Ends (missed w) rest

    -- a try, and more of them
    one-more : (dom : DomId) (gref : GrantRef) (t n : ℕ) (missed : ℕ → Continuation) (ys : List SeatStep) → (o : OneMissed t gref.0 missed ys) → Tried dom gref t (suc n) o.2 → Tried dom gref t (suc (suc n)) ys
    one-more dom gref t n missed ys o tried = record {
      words = o.0 ∷ tried.words;
      many = ap suc tried.many;
      tries = o.1 ++ tried.tries;
      back = tried.back;
      all = o.3 ∙ (ap (λ (zs : List SeatStep). o.1 ++ zs) tried.all ∙ sym (append_assoc o.1 tried.tries tried.back));
      missed = (o.1, tried.tries, refl, o.4, tried.missed);
      given_back = tried.given_back;
      denial = tried.denial ∙ last-is tried.words tried.many;
    }
      where
        last-is : (ws : List ℕ) → length ws ≡ suc n → entry_refusal dom gref N18 (last_word ws) ≡ entry_refusal dom gref N18 (last_word (o.0 ∷ ws))
        last-is [] e = absurd (omega arith)
        last-is (w ∷ ws) e = refl

    last-one : (dom : DomId) (gref : GrantRef) (t : ℕ) (missed : ℕ → Continuation) (ys : List SeatStep) → (o : OneMissed t gref.0 missed ys) → (d ≡ entry_refusal dom gref N18 o.0) × AreUnpins o.2 → Tried dom gref t 1 ys
    last-one dom gref t missed ys o b = record {
      words = o.0 ∷ [];
      many = refl;
      tries = o.1;
      back = o.2;
      all = o.3;
      missed = (o.1, [], sym (append-none o.1), o.4, refl);
      given_back = b.1;
      denial = b.0;
    }

    -- the rules of a try are others
    first-look18 : (l : Leg) (c : Control) → first_look l c ≡ Some N18 → ⊥
    first-look18 l c e = grind arith

    before-pin18 : (l : Leg) (entry : Entry) (n : ℕ) → before_pin l entry n ≡ Some N18 → ⊥
    before-pin18 l entry n e = grind arith

    -- a leg's try
    module _ (l : Leg) (refused : AfterRefusal) (back : GivesBack refused) (pinned : AfterPin) (on : (h : HeldPin) (ys : List SeatStep) → Ends (pinned h) ys → LegTried ys) where
      abbrev t : ℕ
      t = position_in k.ids l.dom

      abbrev r : ℕ
      r = l.gref.0

      no-refusal : (rule : Rule) (word : ℕ) (ys : List SeatStep) → (Some rule ≡ Some N18 → ⊥) → Ends (refused (entry_refusal l.dom l.gref rule word)) ys → ⊥
      no-refusal rule word ys n e = other (entry_refusal l.dom l.gref rule word) (back (entry_refusal l.dom l.gref rule word) ys e).0 (λ q. n (ap (λ (z : Rule). Some z) q))

      module _ (missed : ℕ → Continuation) where
        abbrev After : List SeatStep → Type 0
        After ys = OneMissed t r missed ys ⊎ LegTried ys

        -- the try ends with this step, which found another word
        ends-missed : (looked : ℕ) (reads : List SeatStep) (bodies : AreReads t r reads) (m : EntryStep) (found : ℕ) (ys : List SeatStep) → FoundAnother m looked found → Ends (missed found) ys
            → After (on_entry t r (Looked looked) ∷ (reads ++ on_entry t r m ∷ ys))
        ends-missed looked reads bodies m found ys another e =
            inl (found, on_entry t r (Looked looked) ∷ (reads ++ on_entry t r m ∷ []), ys, (λ i. on_entry t r (Looked looked) ∷ sym (append_assoc reads (on_entry t r m ∷ []) ys) i), record { looked = looked; reads = reads; last = m; made = refl; bodies = bodies; another = another }, e)

        last-found : (looked : ℕ) (reads : List SeatStep) (bodies : AreReads t r reads) (h : HeldPin) → h.word ≡ looked → h.dom ≡ l.dom → h.gref ≡ l.gref → (o : Option Rule) → (o ≡ Some N18 → ⊥) → (ys : List SeatStep) → Ends (last_step l h o refused missed pinned) ys
            → After (on_entry t r (Looked looked) ∷ (reads ++ ys))
        last-found looked reads bodies h word dom gref None n [] e = absurd (no-end (Pin h) e.1)
        last-found looked reads bodies h word dom gref None n (x ∷ xs) e = ⊎_elim taken missed-pin e.0.0
          where
            Way : Observation → Type 0
            Way s = Goes (λ vs. pins h missed pinned (s ∷ vs)) xs × (pins h missed pinned (s ∷ map seen_in_step xs) ≡ Some (Done (Refused d)))

            taken : (y : EntryRecord) × (x ≡ on_entry (position_in k.ids h.dom) h.gref.0 (Pinned h.dir h.word y)) → After (on_entry t r (Looked looked) ∷ (reads ++ x ∷ xs))
            taken is = inr (later (on_entry t r (Looked looked) ∷ reads) (x ∷ xs) (later (x ∷ []) xs (on h xs (subst Way (ap seen_in_step is.1) (e.0.1, e.1)))))

            missed-pin : (f : ℕ) × (n : ℕ) × (x ≡ on_entry (position_in k.ids h.dom) h.gref.0 (PinMissed h.dir h.word f n)) × (n ≢ h.word) → After (on_entry t r (Looked looked) ∷ (reads ++ x ∷ xs))
            missed-pin is = let found : ℕ = is.1 in let w = subst Way (ap seen_in_step is.2) (e.0.1, e.1) in
                let here : x ≡ on_entry t r (PinMissed h.dir h.word is.0 found) = is.2 ∙ (λ i. on_entry (position_in k.ids (dom i)) (gref i).0 (PinMissed h.dir h.word is.0 found)) in
                subst (λ (y : SeatStep). After (on_entry t r (Looked looked) ∷ (reads ++ y ∷ xs))) (sym here)
                (ends-missed looked reads bodies (PinMissed h.dir h.word is.0 found) found xs (word, refl, λ q. is.3 (q ∙ sym word))
                (subst (λ (b : Bool). Goes (λ vs. if b then None else missed found vs) xs × ((if b then None else missed found (map seen_in_step xs)) ≡ Some (Done (Refused d)))) (ne_eqb found h.word is.3) w))
        last-found looked reads bodies h word dom gref (Some rule) n ys e =
            let on_look = looks-on (LookControl l.dom l.gref) (λ found. if found == h.word then refused (entry_refusal l.dom l.gref rule h.word) else missed found) (λ m. on_entry t r (Looked m)) (λ x is. is) (λ m. refl) ys e in
            by on_look.0 on_look.1 on_look.2 (on_look.0 == h.word) refl on_look.3
          where
            by : (m : ℕ) (zs : List SeatStep) → ys ≡ on_entry t r (Looked m) ∷ zs → (b : Bool) → (m == h.word) ≡ b → Ends (if b then refused (entry_refusal l.dom l.gref rule h.word) else missed m) zs → After (on_entry t r (Looked looked) ∷ (reads ++ ys))
            by m zs is true q f = absurd (no-refusal rule h.word zs n f)
            by m zs is false q f = subst (λ (us : List SeatStep). After (on_entry t r (Looked looked) ∷ (reads ++ us))) (sym is)
                (ends-missed looked reads bodies (Looked m) m zs (refl, λ z. not-true (m == h.word) q (eq-true m h.word (z ∙ sym word))) f)
              where
                not-true : (b : Bool) → b ≡ false → b ≡ true → ⊥
                not-true true e1 e2 = cc
                not-true false e1 e2 = cc

                eq-true : (a b : ℕ) → a ≡ b → (a == b) ≡ true
                eq-true a b z = eq-eqb a b z

        body-found : (looked : ℕ) (ys : List SeatStep) → Ends (reads_body l looked refused missed pinned) ys → After (on_entry t r (Looked looked) ∷ ys)
        body-found looked ys e =
            let a = looks-on (LookBody l.dom l.gref body_words.First) (λ body. if is_kind (control_of looked).kind kinds.Sub then reads_second l looked body refused missed pinned else last_step l (held_of l looked body 0) (rule_of_try l looked body 0) refused missed pinned) (λ m. on_entry t r (ReadBody body_words.First m)) (λ x is. is) (λ m. refl) ys e in
            subst (λ (us : List SeatStep). After (on_entry t r (Looked looked) ∷ us)) (sym a.2) (by a.0 a.1 (is_kind (control_of looked).kind kinds.Sub) a.3)
          where
            second : (body : ℕ) (zs : List SeatStep) → Ends (reads_second l looked body refused missed pinned) zs → After (on_entry t r (Looked looked) ∷ (on_entry t r (ReadBody body_words.First body) ∷ zs))
            second body zs f =
                let b = looks-on (LookBody l.dom l.gref body_words.Second) (λ sec. last_step l (held_of l looked body sec) (rule_of_try l looked body sec) refused missed pinned) (λ m. on_entry t r (ReadBody body_words.Second m)) (λ x is. is) (λ m. refl) zs f in
                subst (λ (us : List SeatStep). After (on_entry t r (Looked looked) ∷ (on_entry t r (ReadBody body_words.First body) ∷ us))) (sym b.2)
                (last-found looked (on_entry t r (ReadBody body_words.First body) ∷ (on_entry t r (ReadBody body_words.Second b.0) ∷ [])) ((body_words.First, body, refl), ((body_words.Second, b.0, refl), tt)) (held_of l looked body b.0) refl refl refl (rule_of_try l looked body b.0) (before-pin18 l (entry_of (control_of looked) body b.0) (pins_of l.dir (control_of looked))) b.1 b.3)

            by : (body : ℕ) (zs : List SeatStep) (b : Bool) → Ends (if b then reads_second l looked body refused missed pinned else last_step l (held_of l looked body 0) (rule_of_try l looked body 0) refused missed pinned) zs → After (on_entry t r (Looked looked) ∷ (on_entry t r (ReadBody body_words.First body) ∷ zs))
            by body zs true f = second body zs f
            by body zs false f = last-found looked (on_entry t r (ReadBody body_words.First body) ∷ []) ((body_words.First, body, refl), tt) (held_of l looked body 0) refl refl refl (rule_of_try l looked body 0) (before-pin18 l (entry_of (control_of looked) body 0) (pins_of l.dir (control_of looked))) zs f

        try-found : (ys : List SeatStep) → Ends (try_pin l refused missed pinned) ys → After ys
        try-found ys e =
            let a = looks-on (LookControl l.dom l.gref) (λ word. at_first_look l word (first_look l (control_of word)) refused (reads_body l word refused missed pinned)) (λ m. on_entry t r (Looked m)) (λ x is. is) (λ m. refl) ys e in
            subst After (sym a.2) (by a.0 a.1 (first_look l (control_of a.0)) (first-look18 l (control_of a.0)) a.3)
          where
            by : (word : ℕ) (zs : List SeatStep) (o : Option Rule) → (o ≡ Some N18 → ⊥) → Ends (at_first_look l word o refused (reads_body l word refused missed pinned)) zs → After (on_entry t r (Looked word) ∷ zs)
            by word zs None n f = body-found word zs f
            by word zs (Some rule) n f = absurd (no-refusal rule word zs n f)

      tries-found : (n : ℕ) (ys : List SeatStep) → Ends (tries l n refused pinned) ys → Tried l.dom l.gref t (suc n) ys ⊎ LegTried ys
      unfolding tries
      tries-found zero ys e = ⊎_elim (λ (o : OneMissed t r (λ found. refused (entry_refusal l.dom l.gref N18 found)) ys). inl (last-one l.dom l.gref t (λ found. refused (entry_refusal l.dom l.gref N18 found)) ys o (back (entry_refusal l.dom l.gref N18 o.0) o.2 o.5)))
          (λ (g : LegTried ys). inr g) (try-found (λ found. refused (entry_refusal l.dom l.gref N18 found)) ys e)
      tries-found (suc n) ys e = ⊎_elim (λ (o : OneMissed t r (λ found. tries l n refused pinned) ys). ⊎_elim (λ (g : Tried l.dom l.gref t (suc n) o.2). inl (one-more l.dom l.gref t n (λ found. tries l n refused pinned) ys o g))
          (λ (g : LegTried o.2). inr (subst LegTried (sym o.3) (later o.1 o.2 g))) (tries-found n o.2 o.5))
          (λ (g : LegTried ys). inr g) (try-found (λ found. tries l n refused pinned) ys e)

      leg-found : (ys : List SeatStep) → Ends (leg l refused pinned) ys → LegTried ys
      leg-found ys e =
          let a = looks-on (LookHeader l.dom) (λ word. if nat_lt l.gref.0 (size_of (header_of word)) then tries l MORE_TRIES refused pinned else refused (denial_of N9 (facts.Header l.dom word))) (λ m. on_header t (header.Looked m)) (λ x is. is) (λ m. refl) ys e in
          subst LegTried (sym a.2) (by a.0 a.1 (nat_lt l.gref.0 (size_of (header_of a.0))) a.3)
        where
          by : (word : ℕ) (zs : List SeatStep) (b : Bool) → Ends (if b then tries l MORE_TRIES refused pinned else refused (denial_of N9 (facts.Header l.dom word))) zs → LegTried (on_header t (header.Looked word) ∷ zs)
          by word zs true f = ⊎_elim (λ (g : Tried l.dom l.gref t 4 zs). record { dom = l.dom; gref = l.gref; way = []; header_at = t; header_word = word; rest = zs; all = refl; tried = g })
              (λ (g : LegTried zs). later (on_header t (header.Looked word) ∷ []) zs g) (tries-found MORE_TRIES zs f)
          by word zs false f = absurd (other (denial_of N9 (facts.Header l.dom word)) (back (denial_of N9 (facts.Header l.dom word)) zs f).0 (λ q. cc))

    -- the calls with legs

    map-found : (c : CallerKnowledge) (caller dom : DomId) (gref : GrantRef) (flags : ℕ) (ys : List SeatStep) → Ends (steps_of c caller (asks.Map dom gref flags)) ys → LegTried ys
    map-found c caller dom gref flags ys e = leg-found (map_leg c caller dom gref flags) (refused_holding []) (holding []) (λ h. ended (Mapped h)) (λ h zs f. absurd (never-ended (Mapped h) (λ q. cc) zs f.1)) ys e

    via-refused : (c : CallerKnowledge) (pair : DomId × DomId) (dom : DomId) (o : Option CallResult) → via_judged c pair dom ≡ o → (held : List HeldPin) (goes_on : Continuation) (ys : List SeatStep) → (Ends goes_on ys → LegTried ys) → Ends (unless_refused o held goes_on) ys → LegTried ys
    via-refused c pair dom None is held goes_on ys rest e = rest e
    via-refused c pair dom (Some verdict) is held goes_on ys rest e = let b = gives-back held verdict ys e in
        absurd (not-via c pair dom d (is ∙ ap (λ (v : CallResult). Some v) b.0) is18)

    module _ (c : CallerKnowledge) (pair : DomId → DomId × DomId) (held : List HeldPin) (reached : AccessPath → Continuation) (on : (access_path : AccessPath) (ys : List SeatStep) → Ends (reached access_path) ys → LegTried ys) where
      beyond-found : (l : Leg) (h : HeldPin) (entry : Entry) (ys : List SeatStep) → Ends (beyond c l pair held reached h entry) ys → LegTried ys
      beyond-found l h (Via dom ro dom2 gref) ys e = via-refused c (pair dom2) dom2 (via_judged c (pair dom2) dom2) refl (h ∷ held) (leg (second_leg c l dom2 gref) (refused_holding (h ∷ held)) (λ q. reached (Through h q))) ys
          (λ f. leg-found (second_leg c l dom2 gref) (refused_holding (h ∷ held)) (holding (h ∷ held)) (λ q. reached (Through h q)) (λ q zs g. on (Through h q) zs g) ys f) e
      beyond-found l h Invalid ys e = on (Direct h) ys e
      beyond-found l h (Page dom ro frame) ys e = on (Direct h) ys e
      beyond-found l h (Sub dom ro frame off len) ys e = on (Direct h) ys e

      reaches-found : (granted : Bool) (l : Leg) (ys : List SeatStep) → Ends (reaches c granted l pair held reached) ys → LegTried ys
      reaches-found false l ys e = on Own ys e
      reaches-found true l ys e = leg-found l (refused_holding held) (holding held) (λ h. beyond c l pair held reached h h.entry) (λ h zs f. beyond-found l h h.entry zs f) ys e

    copy-found : (c : CallerKnowledge) (caller : DomId) (args : CopyArgs) (ys : List SeatStep) → Ends (copies c caller args) ys → LegTried ys
    copy-found c caller args ys e = reaches-found c (source_pair caller args) [] (to_dest c caller args)
        (λ source zs f. reaches-found c (dest_pair caller source) (held_by source) (accesses caller args source) (λ dest us g. absurd (never-makes _ _ (never-back _ Granted granted-never) us g.1)) (is_dest_granted args) (end_leg c caller args.dest Write args.len) zs f)
        (is_source_granted args) (end_leg c caller args.source Read args.len) ys e

    -- the changes that are tried
    module _ (caller : DomId) (gref : GrantRef) (stands : p ≡ position_in k.ids caller) where
      abbrev at : ℕ
      at = position_in k.ids caller

      turn-found : (change : EntryChange) (missed : ℕ → Continuation) (ys : List SeatStep) → Ends (turn change caller gref missed) ys → OneMissed at gref.0 missed ys
      turn-found change missed ys e =
          let a = looks-on (LookControl caller gref) (λ word. if is_stopped change (control_of word) then refused_at caller gref N19 word else exchanges (Exchange gref word change) word (ended Granted) missed) (λ m. on_entry at gref.0 (Looked m)) (λ x is. is) (λ m. refl) ys e in
          subst (OneMissed at gref.0 missed) (sym a.2) (by a.0 a.1 (is_stopped change (control_of a.0)) a.3)
        where
          exchange : (word : ℕ) (zs : List SeatStep) → Ends (exchanges (Exchange gref word change) word (ended Granted) missed) zs → OneMissed at gref.0 missed (on_entry at gref.0 (Looked word) ∷ zs)
          exchange word [] f = absurd (no-end (Exchange gref word change) f.1)
          exchange word (x ∷ xs) f = ⊎_elim (λ (is : (n : ℕ) × (y : EntryRecord) × (x ≡ on_entry p gref.0 (Changed change word n y))). absurd (never-ended Granted granted-never xs (subst Way (ap seen_in_step is.2) (f.0.1, f.1)).1)) another f.0.0
            where
              Way : Observation → Type 0
              Way s = Goes (λ vs. exchanges (Exchange gref word change) word (ended Granted) missed (s ∷ vs)) xs × (exchanges (Exchange gref word change) word (ended Granted) missed (s ∷ map seen_in_step xs) ≡ Some (Done (Refused d)))

              another : (g : ℕ) × (n : ℕ) × (x ≡ on_entry p gref.0 (ChangeMissed change word g n)) × (n ≢ word) → OneMissed at gref.0 missed (on_entry at gref.0 (Looked word) ∷ (x ∷ xs))
              another is = let found : ℕ = is.1 in let w = subst Way (ap seen_in_step is.2) (f.0.1, f.1) in let m : EntryStep = ChangeMissed change word is.0 found in
                  let here : x ≡ on_entry at gref.0 m = is.2 ∙ ap (λ (t : ℕ). on_entry t gref.0 m) stands in
                  subst (λ (y : SeatStep). OneMissed at gref.0 missed (on_entry at gref.0 (Looked word) ∷ (y ∷ xs))) (sym here) (
                    found,
                    on_entry at gref.0 (Looked word) ∷ (on_entry at gref.0 m ∷ []),
                    xs,
                    refl,
                    record { looked = word; reads = []; last = m; made = refl; bodies = tt; another = (refl, refl, is.3) },
                    subst (λ (b : Bool). Goes (λ vs. if b then None else missed found vs) xs × ((if b then None else missed found (map seen_in_step xs)) ≡ Some (Done (Refused d)))) (ne_eqb found word is.3) w,
                  )

          by : (word : ℕ) (zs : List SeatStep) (b : Bool) → Ends (if b then refused_at caller gref N19 word else exchanges (Exchange gref word change) word (ended Granted) missed) zs → OneMissed at gref.0 missed (on_entry at gref.0 (Looked word) ∷ zs)
          by word zs true f = absurd (never-refused (entry_refusal caller gref N19 word) (λ q. cc) zs f.1)
          by word zs false f = exchange word zs f

      turns-found : (change : EntryChange) (n : ℕ) (ys : List SeatStep) → Ends (turns change caller gref n) ys → Tried caller gref at (suc n) ys
      unfolding turns
      turns-found change zero ys e = let o = turn-found change (refused_at caller gref N18) ys e in let b = gives-back [] (Refused (entry_refusal caller gref N18 o.0)) o.2 o.5 in
          last-one caller gref at (refused_at caller gref N18) ys o (same-denial (entry_refusal caller gref N18 o.0) b.0, b.1)
      turns-found change (suc n) ys e = let o = turn-found change (λ found. turns change caller gref n) ys e in
          one-more caller gref at n (λ found. turns change caller gref n) ys o (turns-found change n o.2 o.5)

    -- every call

    never-once : (caller : DomId) (gref : GrantRef) (looked : ℕ) (change : EntryChange) → Never (exchanges_once caller gref looked change)
    never-once caller gref looked change = never-exchanges (Exchange gref looked change) looked (ended Granted) (refused_at caller gref N19) (never-ended Granted granted-never) (λ w. never-refused (entry_refusal caller gref N19 w) (λ q. cc))

    never-grants : (c : CallerKnowledge) (caller : DomId) (gref : GrantRef) (entry e : Entry) → Never (after_first c caller gref e)
    never-grants c caller gref entry Invalid = never-once caller gref _ _
    never-grants c caller gref entry (Page dom ro frame) = never-once caller gref _ _
    never-grants c caller gref entry (Sub dom ro frame off len) = never-makes _ _ (never-once caller gref _ _)
    never-grants c caller gref entry (Via dom ro dom2 r) = never-once caller gref _ _

    never-mapping : (o : Option HeldPin) (step : HeldPin → Step) → Never (by_mapping o step)
    never-mapping None step = never-refused (denial_of N6 facts.None) (λ q. cc)
    never-mapping (Some m) step = never-makes (step m) (ended Granted) (never-ended Granted granted-never)

    abbrev Found : DomId → List SeatStep → Type 0
    Found caller ys = LegTried ys ⊎ ((gref : GrantRef) × Tried caller gref (position_in k.ids caller) 4 ys)

    found : (c : CallerKnowledge) (caller : DomId) (request : OpenRequest) → (IsProbe request → ⊥) → p ≡ position_in k.ids caller → (ys : List SeatStep) → Ends (steps_of c caller request) ys → Found caller ys
    found c caller (asks.Grant gref entry) plain stands ys e = absurd (never-makes _ _ (never-grants c caller gref entry entry) ys e.1)
    found c caller (asks.Revoke gref) plain stands ys e = absurd (never-once caller gref _ _ ys e.1)
    found c caller (asks.Withdraw gref) plain stands ys e = inr (gref, turns-found caller gref stands changes.Withdraw MORE_TRIES ys e)
    found c caller (asks.Demote gref) plain stands ys e = inr (gref, turns-found caller gref stands changes.Demote MORE_TRIES ys e)
    found c caller (asks.Promote gref) plain stands ys e = inr (gref, turns-found caller gref stands changes.Promote MORE_TRIES ys e)
    found c caller (asks.Map dom gref flags) plain stands ys e = inl (map-found c caller dom gref flags ys e)
    found c caller (asks.Unmap handle) plain stands ys e = absurd (never-mapping (c.mapping handle) _ ys e.1)
    found c caller (asks.Release handle) plain stands ys e = absurd (never-mapping (c.mapping handle) _ ys e.1)
    found c caller (asks.Load handle off len) plain stands ys e = absurd (never-mapping (c.mapping handle) _ ys e.1)
    found c caller (asks.Store handle off len) plain stands ys e = absurd (never-mapping (c.mapping handle) _ ys e.1)
    found c caller (asks.Peek frame off len) plain stands ys e = absurd (never-makes _ _ (never-ended Granted granted-never) ys e.1)
    found c caller (asks.Poke frame off len) plain stands ys e = absurd (never-makes _ _ (never-ended Granted granted-never) ys e.1)
    found c caller (asks.Copy a) plain stands ys e = inl (copy-found c caller a ys e)
    found c caller (asks.Probe a) plain stands ys e = absurd (plain tt)
    found c caller (asks.SetVersion version) plain stands ys e = absurd (never-makes _ _ (never-ended Granted granted-never) ys e.1)
    found c caller (asks.SetupTable frames) plain stands ys e = absurd (never-makes _ _ (never-ended _ (λ q. cc)) ys e.1)
    found c caller (asks.QuerySize dom) plain stands ys e = absurd (never-looks _ _ (λ w. never-ended _ (λ q. cc)) ys e.1)
    found c caller (asks.GetVersion dom) plain stands ys e = absurd (never-looks _ _ (λ w. never-ended _ (λ q. cc)) ys e.1)

    found-of : (c : CallerKnowledge) (caller : DomId) (request : Request) → (IsProbe (asked request) → ⊥) → p ≡ position_in k.ids caller → (ys : List SeatStep) (o : Option CallResult) → begun_of c caller request ≡ o → Ends (after_beginning o (steps_of c caller (asked request))) ys → Found caller ys
    found-of c caller request plain stands ys None is e = found c caller (asked request) plain stands ys e
    found-of c caller request plain stands ys (Some verdict) is e =
        absurd (never-ended verdict (λ q. not-begun-by c caller request (bytes_of request) d (is ∙ ap (λ (v : CallResult). Some v) q) is18) ys e.1)

    -- the four words
    four : (ws : List ℕ) → length ws ≡ 4 → (a : ℕ) × (b : ℕ) × (c : ℕ) × (e : ℕ) × (ws ≡ a ∷ (b ∷ (c ∷ (e ∷ []))))
    four [] q = absurd (omega arith)
    four (a ∷ []) q = absurd (omega arith)
    four (a ∷ (b ∷ [])) q = absurd (omega arith)
    four (a ∷ (b ∷ (c ∷ []))) q = absurd (omega arith)
    four (a ∷ (b ∷ (c ∷ (e ∷ [])))) q = (a, b, c, e, refl)
    four (a ∷ (b ∷ (c ∷ (e ∷ (f ∷ ws))))) q = absurd (omega arith)

    gives-up : (dom : DomId) (gref : GrantRef) (before ys rest : List SeatStep) → ys ≡ before ++ rest → BeginsTries before → (tried : Tried dom gref (position_in k.ids dom) 4 rest) → GaveUp k dom gref (last_word tried.words) ys
    gives-up dom gref before ys rest is begins tried = let f = four tried.words tried.many in record {
      before = before;
      tries = tried.tries;
      back = tried.back;
      all = is ∙ ap (λ (zs : List SeatStep). before ++ zs) tried.all;
      begins = begins;
      first = f.0;
      second = f.1;
      third = f.2;
      missed = subst (λ (ws : List ℕ). MissedTries (position_in k.ids dom) gref.0 ws tried.tries) (f.4 ∙ (λ i. f.0 ∷ (f.1 ∷ (f.2 ∷ (sym (ap last_word f.4) i ∷ []))))) tried.missed;
      given_back = tried.given_back;
    }

    recorded-so : (caller : DomId) (ys : List SeatStep) → Found caller ys → (dom : DomId) × (gref : GrantRef) × (word : ℕ) × (d ≡ entry_refusal dom gref N18 word) × GaveUp k dom gref word ys
    recorded-so caller ys (inl g) = let before : List SeatStep = g.way ++ on_header g.header_at (header.Looked g.header_word) ∷ [] in
        (g.dom, g.gref, last_word g.tried.words, g.tried.denial, gives-up g.dom g.gref before ys g.rest (g.all ∙ sym (append_assoc g.way (on_header g.header_at (header.Looked g.header_word) ∷ []) g.rest)) (inr (g.way, g.header_at, g.header_word, refl)) g.tried)
    recorded-so caller ys (inr g) = (caller, g.0, last_word g.1.words, g.1.denial, gives-up caller g.0 [] ys ys refl (inl refl) g.1)

pub four-missed : FourTriesWereMissed
four-missed k c caller request denial v w plain at called is18 = let p : ℕ = v.position in let way : Continuation = path_of c caller request in let ys : List SeatStep = in_order called.steps in
    recorded-so k p denial is18 caller ys
    (found-of k p denial is18 c caller request plain at ys (begun_of c caller request) refl (goes k p way v called.steps refl called.walked, ap way (sym (shown-in-order called.steps)) ∙ called.answered))
