-- A domain that closes its table.
use Rattle.std.proofs.Common.{◌≡◌, ℕ, ◌+◌, ◌<◌, ◌∙◌, Bool, true, false, refl, sym, ap, subst, List, [], ◌∷◌, ◌++◌}
use Rattle.std.proofs.Common.{length, get_or, Option, None, inl, inr, ◌⊎◌, arith, cond, add-zero, zero-add, suc}
use Rattle.std.proofs.Common.{add-one}
use Rattle.std.proofs.lemmas.List.Sums.{sum_by-append}
use lib.ListN.{get_or-append}
use Rattle.std.specs.List.{count_by}
use Rattle.std.specs.Prelude.{slice_get, slice_index_or, HoldsAt, Result, Ok, Err, OnOk, OnErr, is_some}
use Rattle.std.proofs.lemmas.Bool.{cases_eq}
use Rattle.gt_types.specs.declared.GrantRef.{GrantRef}
use Rattle.gt_types.specs.declared.denial.Denial.{Denial}
use Rattle.gt_model.specs.declared.change.EntryChange.TheVariants.{Withdraw}
use Rattle.gt_model.specs.declared.entry.Entry.{Entry}
use Rattle.gt_model.specs.declared.entry.Entry.TheVariants.{Invalid, Page, Sub, Via}
use Rattle.gt_handles.specs.Handles.{HandleMap, IsEmpty, under}
use Rattle.gt_handles.specs.declared.handles.HandleSlot.{HandleSlot}
use Rattle.gt_words.specs.Conditions.{IsWordOf}
use Rattle.gt_word_history.specs.History.{Moment}
use Rattle.gt_word_history.specs.Rule.{Layout}
use Rattle.gt_word_history.specs.declared.view.View.{View}
use Rattle.gt_model.specs.Path.{Continuation}
use Rattle.gt_calls.specs.Known.{entry_in, row_entry}
use Rattle.gt_model.specs.declared.action.Observation.TheVariants.{Word}
use Rattle.gt_model.specs.declared.action.Step.TheVariants.{LookControl}
use Rattle.gt_model.specs.declared.action.CallResult.{CallResult}
use Rattle.gt_model.specs.declared.action.CallResult.TheVariants.{Granted, Given, Mapped, Refused}
use Rattle.gt_model.specs.declared.held.HeldPin.{HeldPin}
use Rattle.gt_calls.specs.declared.known.OwnerEntry.{OwnerEntry}
use Rattle.gt_model.specs.declared.request.OpenRequest.TheVariants as asks
use Rattle.gt_live.specs.Closing.{AreRefused, AsksWithdrawal, ClosesRow, ClosesRows, GoesOn, IsInvalidOrInUse}
use Rattle.gt_live.specs.Closing.{StaysQuiet}
use Rattle.gt_live.specs.Closing.{is_in_use, is_used}
use Rattle.gt_live.specs.Domains.{AllowRelation, IsUnsettled, done_by}
use Rattle.gt_live.specs.Ending.{IsAtOnce}
use Rattle.gt_live.specs.Mappings.{KeepsMappings}
use Rattle.gt_live.specs.Rows.{row_changed}
use Rattle.gt_live.specs.Walks.{Called, Made, view_after}
use Rattle.gt_live.specs.declared.domain.Domain.{Domain}
use Rattle.gt_live.specs.declared.monitor.Monitor.{Monitor}
use Rattle.gt_live.proofs.Making.{look-same, made-gains, same_seat-then, same_seat-self}
use Rattle.gt_live.proofs.RowsKept.{row-here, row-there}

view-append : (xs ys : List Moment) (v : View) → view_after (xs ++ ys) v ≡ view_after xs (view_after ys v)
view-append [] ys v = refl
view-append (x ∷ xs) ys v = ap (λ (u : View). view_after (x ∷ []) u) (view-append xs ys v)

pub goes-self : (v : View) → GoesOn v v
goes-self v = ([], refl)

pub goes-then : (u v w : View) → GoesOn u v → GoesOn v w → GoesOn u w
goes-then u v w a b = (b.0 ++ a.0, b.1 ∙ ap (λ (x : View). view_after b.0 x) a.1 ∙ sym (view-append b.0 a.0 u))

pub quiet-self : (d : Domain) → StaysQuiet d d
quiet-self d =
    record {
      seat = same_seat-self d.seat;
      pinned = (record { slots = refl; given = refl }, λ t r. refl);
      trail = refl;
      goes_on = goes-self d.seat.view;
    }

pub quiet-then : (d e f : Domain) → StaysQuiet d e → StaysQuiet e f → StaysQuiet d f
quiet-then d e f a b =
    record {
      seat = same_seat-then d.seat e.seat f.seat a.seat b.seat;
      pinned = (
        record { slots = b.pinned.0.slots ∙ a.pinned.0.slots; given = b.pinned.0.given ∙ a.pinned.0.given },
        λ t r. b.pinned.1 t r ∙ a.pinned.1 t r,
      );
      trail = b.trail ∙ a.trail;
      goes_on = goes-then d.seat.view e.seat.view f.seat.view a.goes_on b.goes_on;
    }

-- one withdrawal more was refused
pub one-more-refused : {P : Type 0} (may : P → AllowRelation) (m : Monitor P) (d c e : Domain) (gref : GrantRef) (n : ℕ) (denial : Denial)
    → AreRefused may m d gref n c → AsksWithdrawal may m c gref (Err denial) e → AreRefused may m d gref (n + 1) e
one-more-refused may m d c e gref n denial before last =
    subst (λ (k : ℕ). AreRefused may m d gref k e) (sym (add-one n)) (c, denial, before, last)

-- a row that was withdrawn is Invalid
pub row-shut : (own new : List OwnerEntry) (r : ℕ) → r < length own → new ≡ row_changed own r Withdraw → entry_in new r ≡ Invalid
row-shut own new r lt e =
    let x = row-there own r lt in
    ap (λ (os : List OwnerEntry). entry_in os r) e ∙ ap (λ (o : Option OwnerEntry). row_entry o) (row-here own r x.0 Withdraw x.1)

-- the word of a valid entry says that it is in use
pub valid-used : (e : Entry) (generation word : ℕ) → IsWordOf (record { entry = e; generation = generation }) word → (e ≡ Invalid) ⊎ (is_in_use word ≡ true)
valid-used Invalid g word is = inl refl
valid-used (Page to ro frame) g word is = inr (ap is_used is.control)
valid-used (Sub to ro frame off len) g word is = inr (ap is_used is.control)
valid-used (Via to ro dom gref) g word is = inr (ap is_used is.control)

-- what is answered to a withdrawal at its beginning is a refusal
pub once-refused : (gref : GrantRef) (v : CallResult) (P : Type 0) → IsAtOnce (asks.Withdraw gref) v → OnOk (done_by v) P
once-refused gref (Refused denial) P is = tt
once-refused gref Granted P is = absurd is
once-refused gref (Given value) P is = absurd is
once-refused gref (Mapped p) P is = absurd is

-- what follows from a fact of a refusal
pub on-err : {X E : Type 0} (r : Result X E) (P Q : Type 0) → (P → Q) → OnErr r P → OnErr r Q
on-err (Ok x) P Q f p = tt
on-err (Err e) P Q f p = f p

-- a fact that is there is there after any refusal
pub after-refusal : {X E : Type 0} (r : Result X E) (P : Type 0) → P → OnErr r P
after-refusal (Ok x) P p = tt
after-refusal (Err e) P p = p

-- a call's steps are some steps more
pub called-goes : {k : Layout} {way : Continuation} {verdict : CallResult} {v w : View} → Called k way verdict v w → GoesOn v w
called-goes c = (c.steps, c.view)

-- a look that kept all but the view
pub look-quiet : (k : Layout) (d e : Domain) (r word : ℕ) → IsUnsettled d e → Made k (LookControl d.seat.dom (record { 0 = r })) (Word word) d.seat.view e.seat.view
    → StaysQuiet d e
look-quiet k d e r word kept made =
    let gains = made-gains k (LookControl d.seat.dom (record { 0 = r })) (Word word) d.seat.view e.seat.view made in
    record {
      seat = kept.seat;
      pinned = (
        record {
          slots = ap (λ (z : HandleMap HeldPin). z.slots) kept.mappings;
          given = ap (λ (z : HandleMap HeldPin). z.given) kept.mappings;
        },
        (look-same k (LookControl d.seat.dom (record { 0 = r })) (Word word) d.seat.view e.seat.view made tt).pins,
      );
      trail = kept.trail;
      goes_on = (gains.step ∷ [], gains.view);
    }

-- the entries are empty still, if the mappings are as they were
pub empty-still : (old new : HandleMap HeldPin) → KeepsMappings old new → IsEmpty old → IsEmpty new
empty-still old new kept none =
    record {
      count = ap (λ (xs : List (Option (HandleSlot HeldPin))). count_by is_some xs) kept.slots ∙ none.count;
      none = λ h. ap (λ (xs : List (Option (HandleSlot HeldPin))). under h.serial (slice_index_or xs h.key None)) kept.slots ∙ none.none h;
    }

-- the entries that were closed so far, and the next one
pub rows-end : {P : Type 0} (may : P → AllowRelation) (m : Monitor P) (d e f : Domain) (r : ℕ) (words : List ℕ) (word : ℕ)
    → ClosesRows may m d r words e → ClosesRow may m e (record { 0 = r + length words }) word f
    → ClosesRows may m d r (words ++ word ∷ []) f
rows-end may m d e f r [] word same last = (
  f,
  subst (λ (x : Domain). ClosesRow may m x (record { 0 = r }) word f) same
      (subst (λ (n : ℕ). ClosesRow may m e (record { 0 = n }) word f) (add-zero r) last),
  refl,
)
rows-end may m d e f r (x ∷ xs) word (c, first, rest) last =
    let further : r + suc (length xs) ≡ suc r + length xs = omega arith in
    (c, first, rows-end may m c e f (suc r) xs word rest (subst (λ (n : ℕ). ClosesRow may m e (record { 0 = n }) word f) further last))

-- one more word at the end
last-word : (xs : List ℕ) (x d : ℕ) → get_or (xs ++ x ∷ []) (length xs) d ≡ x
last-word [] x d = refl
last-word (y ∷ xs) x d = last-word xs x d

pub count-more : (p : ℕ → Bool) (xs : List ℕ) (x : ℕ) → count_by p (xs ++ x ∷ []) ≡ count_by p xs + cond (p x) 1 0
count-more p xs x =
    sum_by-append (λ (y : ℕ). cond (p y) 1 0) xs (x ∷ []) ∙ ap (λ (n : ℕ). count_by p xs + n) (zero-add (cond (p x) 1 0))

-- one more of which the test holds, or not
pub count-yes : (p : ℕ → Bool) (xs : List ℕ) (x n : ℕ) → n ≡ count_by p xs → p x ≡ true → n + 1 ≡ count_by p (xs ++ x ∷ [])
count-yes p xs x n e is = ap (λ (k : ℕ). k + 1) e ∙ sym (count-more p xs x ∙ ap (λ (b : Bool). count_by p xs + cond b 1 0) is)

pub count-no : (p : ℕ → Bool) (xs : List ℕ) (x n : ℕ) → n ≡ count_by p xs → p x ≡ false → n ≡ count_by p (xs ++ x ∷ [])
count-no p xs x n e is =
    e ∙ sym (count-more p xs x ∙ ap (λ (b : Bool). count_by p xs + cond b 1 0) is ∙ add-zero (count_by p xs))

-- the entries that were counted so far, and the next one
pub counted-more : (e f : Domain) (words : List ℕ) (at word : ℕ) → length words ≡ at
    → ((q : ℕ) → (at ≡ q → ⊥) → slice_get f.own.items q ≡ slice_get e.own.items q)
    → ((r : ℕ) → r < at → HoldsAt (IsInvalidOrInUse e r) words r) → IsInvalidOrInUse f at word
    → (r : ℕ) → r < at + 1 → HoldsAt (IsInvalidOrInUse f r) (words ++ word ∷ []) r
counted-more e f words at word len others rows new r lt default =
    elim (cases_eq r at) [
      | inl same ↦
          let here : get_or (words ++ word ∷ []) r default ≡ word =
          ap (λ (n : ℕ). get_or (words ++ word ∷ []) n default) (same ∙ sym len) ∙ last-word words word default in
          subst (λ (w : ℕ). IsInvalidOrInUse f r w) (sym here) (subst (λ (n : ℕ). IsInvalidOrInUse f n word) (sym same) new)
      | inr ne ↦
          let low : r < at = omega (arith, lt, ne) in
          let here : get_or (words ++ word ∷ []) r default ≡ get_or words r default =
          get_or-append words (word ∷ []) default r (omega (arith, low, len)) in
          let entry : entry_in f.own.items r ≡ entry_in e.own.items r = ap row_entry (others r (λ e. ne (sym e))) in
          subst (λ (w : ℕ). IsInvalidOrInUse f r w) (sym here)
          (elim (rows r low default) [ inl none ↦ inl (entry ∙ none) | inr used ↦ inr used ])
    ]
