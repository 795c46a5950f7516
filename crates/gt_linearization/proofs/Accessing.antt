-- A call with an access is a call of a run: its access is one of its steps, if it could be made.
use Rattle.std.proofs.Common.{◌≡◌, inr, ℕ, List, [], ◌∷◌, ◌++◌, length, Option, Some, None, refl, sym, ap, ◌∙◌, subst}
use Rattle.std.proofs.Common.{append_assoc}
use Rattle.gt_word_history.specs.History.{Moment}
use Rattle.gt_word_history.specs.Rule.{Layout, position_in}
use Rattle.gt_word_history.specs.Views.{with_step}
use Rattle.gt_word_history.specs.declared.view.FrameStep.TheVariants as frame_steps
use Rattle.gt_word_history.specs.declared.view.SeatStep.TheVariants.{Frame}
use Rattle.gt_word_history.specs.declared.view.View.{View}
use Rattle.gt_model.specs.Asking.{asked, begun_of, bytes_given_by}
use Rattle.gt_model.specs.Path.{Continuation, after_beginning, by_mapping, ended, makes, path_of}
use Rattle.gt_model.specs.declared.action.Action.{Action}
use Rattle.gt_model.specs.declared.action.Action.TheVariants.{Done}
use Rattle.gt_model.specs.declared.action.Observation.{Observation}
use Rattle.gt_model.specs.declared.action.Observation.TheVariants.{Missed, Nothing, Taken, Word}
use Rattle.gt_model.specs.declared.action.Step.{Step}
use Rattle.gt_model.specs.declared.action.Step.TheVariants as call_steps
use Rattle.gt_model.specs.declared.action.CallResult.{CallResult}
use Rattle.gt_model.specs.declared.action.CallResult.TheVariants.{Granted}
use Rattle.gt_model.specs.declared.held.HeldPin.{HeldPin}
use Rattle.gt_model.specs.declared.request.Request.{Request}
use Rattle.gt_model.specs.declared.request.Request.TheVariants as requests
use Rattle.gt_live.specs.Accesses.{EndsAfterAccess, IsAccess, IsCopiedBy, IsReadBy, IsUnmade, IsWrittenBy, onward}
use Rattle.gt_live.specs.Accesses.{writ_by}
use Rattle.gt_live.specs.Domains.{AllowRelation, knowledge}
use Rattle.gt_live.specs.Ending.{IsOfMapping}
use Rattle.gt_live.specs.Walks.{IsWalk, Made, MakesStep, all_shown, shown_by, view_after}
use Rattle.gt_live.specs.declared.domain.Domain.{Domain}
use Rattle.gt_live.specs.declared.monitor.Monitor.{Monitor}
use Rattle.gt_words.specs.Frames.{AccessesFrame}
use Rattle.gt_linearization.proofs.Walks.{as-turn, as-walk}
use Rattle.gt_linearization.specs.Calling.{CopiesAreMade, IsLoadOrPeek, IsSingle, IsStoring, LostAccessesAreMade, ReadsAreMade}
use Rattle.gt_linearization.specs.Calling.{WasMade, WritesAreMade}
use Rattle.gt_linearization.specs.Runs.{FitsTypes, IsCallWalk, MakesAccess, MakesTurn}
use Rattle.gt_linearization.specs.Runs.CallOutcome.{Read, Written}

-- walks one after another

pub view-append : (xs ys : List Moment) (v : View) → view_after (xs ++ ys) v ≡ view_after xs (view_after ys v)
view-append [] ys v = refl
view-append (x ∷ xs) ys v = ap (with_step x.0 x.1) (view-append xs ys v)

pub shown-append : (xs ys : List Moment) → all_shown (xs ++ ys) ≡ all_shown ys ++ all_shown xs
shown-append [] ys = sym (none (all_shown ys))
  where
    none : (vs : List Observation) → vs ++ [] ≡ vs
    none [] = refl
    none (v ∷ vs) = ap (λ (z : List Observation). v ∷ z) (none vs)
shown-append (x ∷ xs) ys = ap (λ (z : List Observation). z ++ shown_by x ∷ []) (shown-append xs ys) ∙ append_assoc (all_shown ys) (all_shown xs) (shown_by x ∷ [])

walk-on : (k : Layout) (given : List ℕ) (way : Continuation) (v : View) (ys : List Moment) → IsCallWalk k given way v ys → (xs : List Moment) → IsWalk k (onward way (all_shown ys)) (view_after ys v) xs → IsCallWalk k given way v (xs ++ ys)
walk-on k given way v ys base [] walk = base
walk-on k given way v ys base (x ∷ xs) walk = (
  subst (λ (u : View). MakesTurn k given (way (all_shown (xs ++ ys))) (shown_by x) u (with_step x.0 x.1 u)) (sym (view-append xs ys v))
      (subst (λ (vs : List Observation). MakesTurn k given (way vs) (shown_by x) (view_after xs (view_after ys v)) (view_after (x ∷ xs) (view_after ys v))) (sym (shown-append xs ys))
      (as-turn k given (way (all_shown ys ++ all_shown xs)) (shown_by x) (view_after xs (view_after ys v)) (view_after (x ∷ xs) (view_after ys v)) walk.0)),
  walk-on k given way v ys base xs walk.1,
)

-- the newest of some steps
newest : (xs ys : List Moment) (y : Moment) → (x : Moment) × (before : List Moment) × (xs ++ y ∷ ys ≡ x ∷ before)
newest [] ys y = (y, ys, refl)
newest (x ∷ xs) ys y = (x, xs ++ y ∷ ys, refl)

-- the moment of an access that was made
record IsMoment (k : Layout) (given : List ℕ) (access : Step) (v w : View) (x : Moment) : Type 0 where
  made : MakesAccess k given access v w
  view : w ≡ with_step x.0 x.1 v
  shows : shown_by x ≡ Nothing

-- a call whose access was made, and which went on to its end
whole : (k : Layout) (given : List ℕ) (way : Continuation) (access : Step) (does : View → View → Type 0) (v w : View) (a : EndsAfterAccess k way access does v w) (x : Moment) → IsMoment k given access a.at a.after x
    → (steps : List Moment) × (last : Moment) × (before : List Moment) × (steps ≡ last ∷ before) × (w ≡ view_after steps v) × IsCallWalk k given way v steps × (way (all_shown steps) ≡ Some (Done Granted))
whole k given way access does v w a x m =
    let ys = x ∷ a.comes.steps in
    let shown : all_shown ys ≡ all_shown a.comes.steps ++ Nothing ∷ [] = ap (λ (z : Observation). all_shown a.comes.steps ++ z ∷ []) m.shows in
    let at : a.after ≡ view_after ys v = m.view ∙ ap (with_step x.0 x.1) a.comes.view in
    let turn : MakesTurn k given (way (all_shown a.comes.steps)) (shown_by x) (view_after a.comes.steps v) (view_after ys v) =
    subst (λ (o : Option Action). MakesTurn k given o (shown_by x) (view_after a.comes.steps v) (view_after ys v)) (sym a.comes.next)
    (inr (m.shows, subst (λ (q : View × View). MakesAccess k given access q.0 q.1) (λ j. (a.comes.view j, at j)) m.made)) in
    let base : IsCallWalk k given way v ys = (turn, as-walk k given way v a.comes.steps a.comes.walked) in
    let walked : IsWalk k (onward way (all_shown ys)) (view_after ys v) a.ends.steps =
    subst (λ (q : List Observation × View). IsWalk k (onward way q.0) q.1 a.ends.steps) (λ j. (sym shown j, at j)) a.ends.walked in
    let n = newest a.ends.steps a.comes.steps x in (
      a.ends.steps ++ ys,
      n.0,
      n.1,
      n.2,
      a.ends.view ∙ (ap (view_after a.ends.steps) at ∙ sym (view-append a.ends.steps ys v)),
      walk-on k given way v ys base a.ends.steps walked,
      ap way (shown-append a.ends.steps ys ∙ ap (λ (z : List Observation). z ++ all_shown a.ends.steps) shown) ∙ a.ends.answered,
    )

-- a store or a poke
pub writes-made : {P : Type 0} (may : P → AllowRelation) (m : Monitor P) → WritesAreMade may m
writes-made may m d e request r stays is answered kept = by answered.0 answered.1
  where
    k : Layout
    k = m.words.layout

    way : Continuation
    way = path_of (knowledge m.config (may m.rights) d) d.seat.dom request

    fits : (q : Request) → IsStoring q → FitsTypes q
    fits (requests.Store handle off bytes) is = (tt, tt)
    fits (requests.Poke frame off bytes) is = (tt, tt)
    fits q is = absurd is

    plain : (q : Request) → IsStoring q → IsOfMapping (asked q) → ⊥
    plain (requests.Store handle off bytes) is a = a
    plain (requests.Poke frame off bytes) is a = a
    plain q is a = absurd is

    by : (access : Step) → EndsAfterAccess k way access (IsWrittenBy k d request access r) d.seat.view e.seat.view → (steps : List Moment) × WasMade may m request Written steps d e
    by (call_steps.Write dom frame off len) a =
        let u = writ_by d.seat.dom a.did.0 in let f = a.did.2.2 in
        let x : Moment = (f.past, Frame (position_in k.ids dom) frame (frame_steps.Wrote (record { writ = u; off = off; bytes = bytes_given_by request }))) in
        let z = whole k (bytes_given_by request) way (call_steps.Write dom frame off len) _ d.seat.view e.seat.view a x (record { made = (u, f); view = f.view; shows = refl }) in (
          z.0,
          record {
            before = stays.before;
            afterwards = stays.afterwards;
            seat = stays.seat;
            fits = fits request is;
            answered = (record { other = plain request is; last = z.1; before = z.2; all = z.3; view = z.4; walked = z.5; done = z.6 }, kept.0);
          },
        )
    by access a = absurd a.did

-- a copy
pub copies-made : {P : Type 0} (may : P → AllowRelation) (m : Monitor P) → CopiesAreMade may m
copies-made may m d e args r stays fits answered kept = by answered.0 answered.1
  where
    k : Layout
    k = m.words.layout

    way : Continuation
    way = path_of (knowledge m.config (may m.rights) d) d.seat.dom (requests.Copy args)

    by : (access : Step) → EndsAfterAccess k way access (IsCopiedBy (knowledge m.config (may m.rights) d) k d args access r) d.seat.view e.seat.view → (steps : List Moment) × WasMade may m (requests.Copy args) Written steps d e
    by (call_steps.Copy from to len) a =
        let u = writ_by d.seat.dom a.did.0.dest in let c = a.did.2.3 in
        let x : Moment = (
          c.3.past,
          Frame (position_in k.ids to.frame.owner) to.frame.number
              (frame_steps.Copied (position_in k.ids from.frame.owner) from.frame.number from.off (record { writ = u; off = to.off; bytes = c.1 })),
        ) in
        let z = whole k [] way (call_steps.Copy from to len) _ d.seat.view e.seat.view a x (record { made = (u, c); view = c.3.view; shows = refl }) in (
          z.0,
          record {
            before = stays.before;
            afterwards = stays.afterwards;
            seat = stays.seat;
            fits = fits;
            answered = (record { other = λ q. q; last = z.1; before = z.2; all = z.3; view = z.4; walked = z.5; done = z.6 }, kept.0);
          },
        )
    by access a = absurd a.did

-- a way with one step, which is an access

no-step : (k : Layout) (step : Step) (seen : Observation) (u w : View) → IsAccess step → Made k step seen u w → ⊥
no-step k (call_steps.Read dom frame off len) (Word n) u w is made = absurd made
no-step k (call_steps.Read dom frame off len) Taken u w is made = absurd made
no-step k (call_steps.Read dom frame off len) (Missed n) u w is made = absurd made
no-step k (call_steps.Read dom frame off len) Nothing u w is made = absurd made
no-step k (call_steps.Write dom frame off len) (Word n) u w is made = absurd made
no-step k (call_steps.Write dom frame off len) Taken u w is made = absurd made
no-step k (call_steps.Write dom frame off len) (Missed n) u w is made = absurd made
no-step k (call_steps.Write dom frame off len) Nothing u w is made = absurd made
no-step k (call_steps.Copy from to len) (Word n) u w is made = absurd made
no-step k (call_steps.Copy from to len) Taken u w is made = absurd made
no-step k (call_steps.Copy from to len) (Missed n) u w is made = absurd made
no-step k (call_steps.Copy from to len) Nothing u w is made = absurd made
no-step k step seen u w is made = absurd is

-- no step on the words is made after these values
abbrev pub MakesNone : Layout → Continuation → List Observation → Type 0
MakesNone k way vs = (seen : Observation) (u w : View) → MakesStep k (way vs) seen u w → ⊥

abbrev pub IsOneAccess : Layout → Continuation → Type 0
IsOneAccess k way = MakesNone k way [] × MakesNone k way (Nothing ∷ [])

pub one-access : (k : Layout) (step : Step) → IsAccess step → IsOneAccess k (makes step (ended Granted))
one-access k step is = (λ seen u w made. no-step k step seen u w is made, λ seen u w made. made)

by-mapping : (k : Layout) (o : Option HeldPin) (step : HeldPin → Step) → ((m : HeldPin) → IsAccess (step m)) → IsOneAccess k (by_mapping o step)
by-mapping k None step is = (λ seen u w made. made, λ seen u w made. made)
by-mapping k (Some m) step is = one-access k (step m) (is m)

begun-so : (k : Layout) (o : Option CallResult) (way : Continuation) → IsOneAccess k way → IsOneAccess k (after_beginning o way)
begun-so k None way one = one
begun-so k (Some verdict) way one = (λ seen u w made. made, λ seen u w made. made)

no-walk : (k : Layout) (way : Continuation) (v : View) (xs : List Moment) → MakesNone k way [] → IsWalk k way v xs → xs ≡ []
no-walk k way v [] none walk = refl
no-walk k way v (x ∷ []) none walk = absurd (none _ _ _ walk.0)
no-walk k way v (x ∷ (y ∷ ys)) none walk = let e = no-walk k way v (y ∷ ys) none walk.1 in cc

single-way : {P : Type 0} (may : P → AllowRelation) (m : Monitor P) (d : Domain) (request : Request) → IsSingle request → IsOneAccess m.words.layout (path_of (knowledge m.config (may m.rights) d) d.seat.dom request)
single-way may m d (requests.Store handle off bytes) is = begun-so m.words.layout (begun_of (knowledge m.config (may m.rights) d) d.seat.dom (requests.Store handle off bytes)) _
    (by-mapping m.words.layout ((knowledge m.config (may m.rights) d).mapping handle) _ (λ p. tt))
single-way may m d (requests.Load handle off len) is = begun-so m.words.layout (begun_of (knowledge m.config (may m.rights) d) d.seat.dom (requests.Load handle off len)) _
    (by-mapping m.words.layout ((knowledge m.config (may m.rights) d).mapping handle) _ (λ p. tt))
single-way may m d (requests.Poke frame off bytes) is = begun-so m.words.layout (begun_of (knowledge m.config (may m.rights) d) d.seat.dom (requests.Poke frame off bytes)) _ (one-access m.words.layout (call_steps.Write d.seat.dom frame off (length bytes.now)) tt)
single-way may m d (requests.Peek frame off len) is = begun-so m.words.layout (begun_of (knowledge m.config (may m.rights) d) d.seat.dom (requests.Peek frame off len)) _ (one-access m.words.layout (call_steps.Read d.seat.dom frame off len) tt)
single-way may m d request is = absurd is

fits-single : (request : Request) → IsSingle request → FitsTypes request
fits-single (requests.Store handle off bytes) is = (tt, tt)
fits-single (requests.Load handle off len) is = (tt, tt)
fits-single (requests.Poke frame off bytes) is = (tt, tt)
fits-single (requests.Peek frame off len) is = (tt, tt)
fits-single request is = absurd is

-- a call of one access made no step on the words
pub record IsAlone (k : Layout) (way : Continuation) (access : Step) (does : View → View → Type 0) (v w : View) (a : EndsAfterAccess k way access does v w) : Type 0 where
  pub first : a.comes.steps ≡ []
  pub last : a.ends.steps ≡ []
  pub at : a.at ≡ v
  pub end : w ≡ a.after

pub alone : (k : Layout) (way : Continuation) (access : Step) (does : View → View → Type 0) (v w : View) → IsOneAccess k way → (a : EndsAfterAccess k way access does v w) → IsAlone k way access does v w a
alone k way access does v w one a =
    let first = no-walk k way v a.comes.steps one.0 a.comes.walked in
    let none : MakesNone k (onward way (all_shown a.comes.steps ++ Nothing ∷ [])) [] =
    λ seen u z made. one.1 seen u z (subst (λ (xs : List Moment). MakesStep k (way ((all_shown xs ++ Nothing ∷ []) ++ [])) seen u z) first made) in
    let last = no-walk k (onward way (all_shown a.comes.steps ++ Nothing ∷ [])) a.after a.ends.steps none a.ends.walked in
    record { first = first; last = last; at = a.comes.view ∙ ap (λ (xs : List Moment). view_after xs v) first; end = a.ends.view ∙ ap (λ (xs : List Moment). view_after xs a.after) last }

pub lost-made : {P : Type 0} (may : P → AllowRelation) (m : Monitor P) → LostAccessesAreMade may m
lost-made may m d e request access stays is a kept =
    let u = alone m.words.layout (path_of (knowledge m.config (may m.rights) d) d.seat.dom request) access IsUnmade d.seat.view e.seat.view (single-way may m d request is) a in
    record { before = stays.before; afterwards = stays.afterwards; seat = stays.seat; fits = fits-single request is; answered = (refl, u.end ∙ (a.did ∙ u.at), kept.0) }

-- a load or a peek
pub reads-made : {P : Type 0} (may : P → AllowRelation) (m : Monitor P) → ReadsAreMade may m
reads-made may m d e request r bytes stays is same answered kept = by answered.0 answered.1
  where
    k : Layout
    k = m.words.layout

    way : Continuation
    way = path_of (knowledge m.config (may m.rights) d) d.seat.dom request

    single : (q : Request) → IsLoadOrPeek q → IsSingle q
    single (requests.Load handle off len) is = tt
    single (requests.Peek frame off len) is = tt
    single q is = absurd is

    by : (access : Step) → EndsAfterAccess k way access (IsReadBy k access r) d.seat.view e.seat.view → (steps : List Moment) × WasMade may m request (Read bytes) steps d e
    by (call_steps.Read dom frame off len) a =
        let u = alone k way (call_steps.Read dom frame off len) _ d.seat.view e.seat.view (single-way may m d request (single request is)) a in
        let f : AccessesFrame k (position_in k.ids dom) frame (frame_steps.Read off bytes.bytes.items) d.seat.view e.seat.view =
        subst (λ (q : View × View). AccessesFrame k (position_in k.ids dom) frame (frame_steps.Read off bytes.bytes.items) q.0 q.1) (λ j. (u.at j, sym u.end j))
        (subst (λ (ys : List ℕ). AccessesFrame k (position_in k.ids dom) frame (frame_steps.Read off ys) a.at a.after) (sym same) a.did.1) in (
          (f.past, Frame (position_in k.ids dom) frame (frame_steps.Read off bytes.bytes.items)) ∷ [],
          record {
            before = stays.before;
            afterwards = stays.afterwards;
            seat = stays.seat;
            fits = fits-single request (single request is);
            answered = (
              record {
                dom = dom;
                frame = frame;
                off = off;
                len = len;
                next = ap (λ (xs : List Moment). way (all_shown xs)) (sym u.first) ∙ a.comes.next;
                done = (λ i. way ((all_shown (sym u.first i) ++ Nothing ∷ []) ++ all_shown (sym u.last i))) ∙ a.ends.answered;
                made = f;
                step = refl;
                length_is = ap (λ (ys : List ℕ). length ys) same ∙ a.did.0.len_is;
              },
              kept.0,
            );
          },
        )
    by access a = absurd a.did
