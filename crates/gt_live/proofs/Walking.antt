-- What the steps of a call showed, found again among the steps of its seat.
use Rattle.std.proofs.Common.{◌≡◌, ℕ, ◌*◌, ◌<◌, ◌≤◌, Bool, true, false, cond, refl, sym, ap, ◌∙◌, subst, List, []}
use Rattle.std.proofs.Common.{◌∷◌, ◌++◌, Option, Some, None, arith, append_assoc}
use Rattle.gt_types.specs.declared.limits.TheConstants.{ENTRIES_V1, ENTRIES_V2, MAX_TABLE_FRAMES, TABLE_ENTRIES}
use Rattle.gt_types.specs.declared.DomId.{DomId}
use Rattle.gt_types.specs.declared.GrantRef.{GrantRef}
use Rattle.gt_model.specs.declared.control.EntryKind.TheVariants as kinds
use Rattle.gt_model.specs.Words.{control_of, header_of, size_of}
use Rattle.gt_word_history.specs.Rule.{Layout, position_in}
use Rattle.gt_word_history.specs.Views.{Seen as Looks, seen, steps_on, with_body}
use Rattle.gt_model.specs.declared.change.BodyWord.TheVariants.{First}
use Rattle.gt_word_history.specs.History.{Moment}
use Rattle.gt_word_history.specs.declared.view.View.{View}
use Rattle.gt_model.specs.declared.action.Action.{Action}
use Rattle.gt_model.specs.declared.action.Action.TheVariants as actions
use Rattle.gt_model.specs.declared.action.Observation.{Observation}
use Rattle.gt_model.specs.declared.action.Observation.TheVariants.{Word}
use Rattle.gt_model.specs.declared.action.Step.{Step}
use Rattle.gt_model.specs.declared.action.Step.TheVariants.{LookHeader, LookControl, LookBody}
use Rattle.gt_model.specs.Path.{Continuation}
use Rattle.gt_calls.specs.Resting.{HasRead, HasSeenTable}
use Rattle.gt_model.specs.Rules.{is_kind}
use Rattle.gt_live.specs.Walks.{IsWalk, Made, MakesStep, view_after, all_shown, shown_by}

module _ {A : Type 0} where
  pub never : (xs : List A) (a : A) (ys : List A) → [] ≡ xs ++ a ∷ ys → ⊥
  never [] a ys e = cc
  never (x ∷ xs) a ys e = cc

  pub snoc-inj : (xs ys : List A) (a b : A) → xs ++ a ∷ [] ≡ ys ++ b ∷ [] → (xs ≡ ys) × (a ≡ b)
  snoc-inj [] [] a b e = (refl, cc)
  snoc-inj [] (y ∷ ys) a b e = let tail : [] ≡ ys ++ b ∷ [] = cc in absurd (never ys b [] tail)
  snoc-inj (x ∷ xs) [] a b e = let tail : [] ≡ xs ++ a ∷ [] = cc in absurd (never xs a [] tail)
  snoc-inj (x ∷ xs) (y ∷ ys) a b e =
      let head : x ≡ y = cc in let tail : xs ++ a ∷ [] ≡ ys ++ b ∷ [] = cc in let more = snoc-inj xs ys a b tail in
      (ap (λ (z : A). z ∷ xs) head ∙ ap (λ (zs : List A). y ∷ zs) more.0, more.1)

  -- the last of some, and those before it
  pub unsnoc : (a : A) (bs : List A) → (zs : List A) × (y : A) × (a ∷ bs ≡ zs ++ y ∷ [])
  unsnoc a [] = ([], a, refl)
  unsnoc a (b ∷ bs) = let more = unsnoc b bs in (a ∷ more.0, more.1, ap (λ (zs : List A). a ∷ zs) more.2)

-- a seat stays at its position
pub after-position : (xs : List Moment) (v : View) → (view_after xs v).position ≡ v.position
after-position [] v = refl
after-position (x ∷ xs) v = after-position xs v

-- the last step of a walk, which the call made after these values and which showed this
pub record MadeLast (k : Layout) (way : Continuation) (v : View) (steps : List Moment) (before : List Observation) (x : Observation) (s : Step) : Type 0 where
  pub rest : List Moment
  pub walked : IsWalk k way v rest
  pub shown_is : all_shown rest ≡ before
  pub made : Made k s x (view_after rest v) (view_after steps v)

pub made-last : (k : Layout) (way : Continuation) (v : View) (steps : List Moment) (before : List Observation) (x : Observation) (s : Step) → IsWalk k way v steps → all_shown steps ≡ before ++ x ∷ [] → way before ≡ Some (actions.Step s)
    → MadeLast k way v steps before x s
made-last k way v [] before x s walk e f = absurd (never before x [] e)
made-last k way v (y ∷ rest) before x s walk e f =
    let i = snoc-inj (all_shown rest) before (shown_by y) x e in
    let m : Made k s (shown_by y) (view_after rest v) (view_after (y ∷ rest) v) =
    subst (λ (o : Option Action). MakesStep k o (shown_by y) (view_after rest v) (view_after (y ∷ rest) v)) (ap way i.0 ∙ f) walk.0 in
    record { rest = rest; walked = walk.1; shown_is = i.0; made = subst (λ (z : Observation). Made k s z (view_after rest v) (view_after (y ∷ rest) v)) i.1 m }

-- a header that was shown has no larger table than there is room for
shown-header : (k : Layout) (way : Continuation) (v : View) (steps : List Moment) (before : List Observation) (word : ℕ) (later : List Observation) (dom : DomId) → IsWalk k way v steps → all_shown steps ≡ before ++ Word word ∷ later
    → way before ≡ Some (actions.Step (LookHeader dom)) → size_of (header_of word) ≤ TABLE_ENTRIES
shown-header k way v [] before word later dom walk e f = absurd (never before (Word word) later e)
shown-header k way v (y ∷ rest) before word [] dom walk e f = (made-last k way v (y ∷ rest) before (Word word) (LookHeader dom) walk e f).made.size
shown-header k way v (y ∷ rest) before word (a ∷ bs) dom walk e f =
    let u = unsnoc a bs in
    let split : before ++ Word word ∷ (a ∷ bs) ≡ (before ++ Word word ∷ u.0) ++ u.1 ∷ [] =
    ap (λ (zs : List Observation). before ++ Word word ∷ zs) u.2 ∙ sym (append_assoc before (Word word ∷ u.0) (u.1 ∷ [])) in
    shown-header k way v rest before word u.0 dom walk.1 (snoc-inj (all_shown rest) (before ++ Word word ∷ u.0) (shown_by y) u.1 (e ∙ split)).0 f

-- a table within the limit of frames has no more entries than there is room for
pub few-entries : (b : Bool) (f : ℕ) → f ≤ MAX_TABLE_FRAMES → f * cond b ENTRIES_V2 ENTRIES_V1 ≤ TABLE_ENTRIES
few-entries true f h = omega arith
few-entries false f h = omega arith

-- a reference in a table seen is one that there is room for
pub in-seen-table : (k : Layout) (way : Continuation) (v : View) (steps : List Moment) (dom : DomId) (gref : GrantRef) → IsWalk k way v steps → HasSeenTable way dom gref (all_shown steps) → gref.0 < TABLE_ENTRIES
in-seen-table k way v steps dom gref walk t =
    let size = shown-header k way v steps t.before t.word t.after dom walk t.shown_is t.looked in let lt = t.inside in omega (arith, size, lt)

-- the words of an entry that was read, and is no sub-page, are those that the seat saw last of it
pub read-page : (k : Layout) (way : Continuation) (v : View) (steps : List Moment) (dom : DomId) (gref : GrantRef) (word body second : ℕ) → IsWalk k way v steps → HasRead way dom gref word body second (all_shown steps)
    → is_kind (control_of word).kind kinds.Sub ≡ false → seen (steps_on (position_in k.ids dom) gref.0 (view_after steps v)) ≡ Some (record { word = word; first = Some body; second = None })
read-page k way v steps dom gref word body second walk r page =
    let at = position_in k.ids dom in
    let split : all_shown steps ≡ (r.before ++ Word word ∷ []) ++ Word body ∷ [] =
    r.shown_is ∙ (ap (λ (b : Bool). r.before ++ Word word ∷ Word body ∷ cond b (Word second ∷ []) []) page ∙ sym (append_assoc r.before (Word word ∷ []) (Word body ∷ []))) in
    let two = made-last k way v steps (r.before ++ Word word ∷ []) (Word body) (LookBody dom gref First) walk split r.first_read in
    let one = made-last k way v two.rest r.before (Word word) (LookControl dom gref) two.walked two.shown_is r.looked in
    ap seen two.made.steps.adds.here ∙ ap (λ (o : Option Looks). with_body First body o) (ap seen one.made.0.steps.adds.here)
