-- A copy that reached its access and could not make it made the steps of its probe.
use Rattle.std.proofs.Common.{◌≡◌, ℕ, Bool, true, false, not, ◌&&◌, List, [], ◌∷◌, ◌++◌, Option, Some, None, refl}
use Rattle.std.proofs.Common.{sym, ap, ◌∙◌, subst, append_assoc}
use Rattle.std.proofs.lemmas.Bool.{false≢true}
use Rattle.std.proofs.lemmas.List.{append-nil}
use Rattle.gt_types.specs.declared.places.Spot.{Spot}
use Rattle.gt_model.specs.declared.request.OpenRequest.TheVariants as asks
use Rattle.gt_types.specs.Copies.{is_dest_granted, is_source_granted}
use Rattle.gt_types.specs.declared.DomId.{DomId}
use Rattle.gt_types.specs.declared.Dir.TheVariants as dirs
use Rattle.gt_types.specs.declared.copies.CopyArgs.{CopyArgs}
use Rattle.gt_handles.specs.Handles.{HandleMap}
use Rattle.gt_word_history.specs.Events.{TookPlace}
use Rattle.gt_word_history.specs.History.{Moment, part_of}
use Rattle.gt_word_history.specs.Rule.{Layout}
use Rattle.gt_word_history.specs.Views.{with_step}
use Rattle.gt_word_history.specs.declared.view.View.{View}
use Rattle.gt_model.specs.Path.{Continuation, accesses, after_beginning, copies, dest_pair, end_leg, ended}
use Rattle.gt_model.specs.Path.{is_copy_access, path_of, end_spot, reaches, source_pair, to_dest}
unfoldable use Rattle.gt_model.specs.Path.{without_access}
use Rattle.gt_model.specs.Holding.{held_by}
use Rattle.gt_model.specs.Rules.{CallerKnowledge, begun, first, granted_when, has_own_ends}
use Rattle.gt_model.specs.declared.action.Action.{Action}
use Rattle.gt_model.specs.declared.action.Action.TheVariants.{Done}
use Rattle.gt_model.specs.declared.action.Action.TheVariants as actions
use Rattle.gt_model.specs.declared.action.CallResult.{CallResult}
use Rattle.gt_model.specs.declared.action.CallResult.TheVariants.{Granted}
use Rattle.gt_model.specs.declared.action.Observation.{Observation}
use Rattle.gt_model.specs.declared.action.Observation.TheVariants.{Missed, Nothing, Taken, Word}
use Rattle.gt_model.specs.declared.action.Step.{Step}
use Rattle.gt_model.specs.declared.action.Step.TheVariants as call_steps
use Rattle.gt_model.specs.declared.held.AccessPath.TheVariants.{Own}
use Rattle.gt_model.specs.declared.held.HeldPin.{HeldPin}
use Rattle.gt_model.specs.declared.request.Request.TheVariants as requests
use Rattle.gt_calls.proofs.Probing.{here, on, past, same}
use Rattle.gt_live.specs.Accesses.{EndsAfterAccess, IsAccess, IsUnmade, onward}
use Rattle.gt_live.specs.Copies.{pending_call, pending_from, pending_to}
use Rattle.gt_live.specs.Domains.{AllowRelation, knowledge}
use Rattle.gt_live.specs.Walks.{AreMoments, Called, IsWalk, MakesStep, all_shown, shown_by, view_after}
use Rattle.gt_live.specs.declared.monitor.Monitor.{Monitor}
use Rattle.gt_live.proofs.Copied.{whole-copy}
use Rattle.gt_live.proofs.Making.{same_seat-then}
use Rattle.gt_live.proofs.Walking.{after-position}
use Rattle.gt_linearization.proofs.Accessing.{IsOneAccess, alone, one-access, shown-append, view-append}
use Rattle.gt_linearization.proofs.KeptFrames.{IsToFrames, copies-so}
use Rattle.gt_linearization.specs.Calling.{HalvesAreMade, LostCopiesAreMade}

-- a step that was made on the words is no access
words-only : (k : Layout) (o : Option Action) (seen : Observation) (v w : View) → MakesStep k o seen v w → is_copy_access o ≡ false
words-only k (Some (actions.Step (call_steps.Copy from to len))) (Word n) v w made = absurd made
words-only k (Some (actions.Step (call_steps.Copy from to len))) Taken v w made = absurd made
words-only k (Some (actions.Step (call_steps.Copy from to len))) (Missed n) v w made = absurd made
words-only k (Some (actions.Step (call_steps.Copy from to len))) Nothing v w made = absurd made
words-only k (Some (actions.Step s)) seen v w made = refl
words-only k (Some (Done r)) seen v w made = refl
words-only k None seen v w made = refl

-- the moments of walks one after another
moments-on : (k : Layout) (v : View) (ys : List Moment) → AreMoments k v ys → (xs : List Moment) → AreMoments k (view_after ys v) xs → AreMoments k v (xs ++ ys)
moments-on k v ys base [] more = base
moments-on k v ys base (x ∷ xs) more = (
  subst (λ (p : ℕ). TookPlace k p x) (after-position ys v) more.0,
  subst (λ (p : ℕ). part_of p x.0 ≡ (view_after (xs ++ ys) v).steps) (after-position ys v) (more.1 ∙ ap (λ (u : View). u.steps) (sym (view-append xs ys v))),
  moments-on k v ys base xs more.2,
)

module _ (k : Layout) (way : Continuation) (v : View) where
  -- up to here the path without the access is the path itself
  skips : (xs : List Moment) → IsWalk k way v xs → (ws : List Observation) → without_access way (all_shown xs ++ ws) ≡ without_access (onward way (all_shown xs)) ws
  skips [] walk ws = refl
  skips (x ∷ xs) walk ws =
      ap (without_access way) (append_assoc (all_shown xs) (shown_by x ∷ []) ws)
      ∙ (skips xs walk.1 (shown_by x ∷ ws)
      ∙ (on (onward way (all_shown xs)) (shown_by x) ws (ap (λ (vs : List Observation). is_copy_access (way vs)) (append-nil (all_shown xs)) ∙ words-only k (way (all_shown xs)) (shown_by x) _ _ walk.0)
      ∙ same (λ (later : List Observation). onward way (all_shown xs) (shown_by x ∷ later)) (onward way (all_shown (x ∷ xs))) (λ later. ap way (sym (append_assoc (all_shown xs) (shown_by x ∷ []) later))) ws))

  before : (xs : List Moment) → IsWalk k way v xs → is_copy_access (way (all_shown xs)) ≡ false → without_access way (all_shown xs) ≡ way (all_shown xs)
  before xs walk none =
      ap (without_access way) (sym (append-nil (all_shown xs)))
      ∙ (skips xs walk []
      ∙ (here (onward way (all_shown xs)) (ap (λ (vs : List Observation). is_copy_access (way vs)) (append-nil (all_shown xs)) ∙ none)
      ∙ ap way (append-nil (all_shown xs))))

  -- and from the access on it is what follows it
  beyond : (ys : List Moment) → IsWalk k way v ys → is_copy_access (way (all_shown ys)) ≡ true → (ws : List Observation) → without_access way (all_shown ys ++ ws) ≡ onward way (all_shown ys ++ Nothing ∷ []) ws
  beyond ys walk access ws =
      skips ys walk ws
      ∙ (past (onward way (all_shown ys)) ws (ap (λ (vs : List Observation). is_copy_access (way vs)) (append-nil (all_shown ys)) ∙ access)
      ∙ ap way (sym (append_assoc (all_shown ys) (Nothing ∷ []) ws)))

  walk-before : (xs : List Moment) → IsWalk k way v xs → IsWalk k (without_access way) v xs
  walk-before [] walk = tt
  walk-before (x ∷ xs) walk = (
    subst (λ (o : Option Action). MakesStep k o (shown_by x) (view_after xs v) (view_after (x ∷ xs) v)) (sym (before xs walk.1 (words-only k (way (all_shown xs)) (shown_by x) _ _ walk.0))) walk.0,
    walk-before xs walk.1,
  )

  walk-beyond : (ys : List Moment) → IsWalk k way v ys → is_copy_access (way (all_shown ys)) ≡ true → (xs : List Moment)
      → IsWalk k (onward way (all_shown ys ++ Nothing ∷ [])) (view_after ys v) xs → IsWalk k (without_access way) v (xs ++ ys)
  walk-beyond ys walk access [] more = walk-before ys walk
  walk-beyond ys walk access (x ∷ xs) more = (
    subst (λ (u : View). MakesStep k (without_access way (all_shown (xs ++ ys))) (shown_by x) u (with_step x.0 x.1 u)) (sym (view-append xs ys v))
        (subst (λ (o : Option Action). MakesStep k o (shown_by x) (view_after xs (view_after ys v)) (view_after (x ∷ xs) (view_after ys v)))
        (sym (ap (without_access way) (shown-append xs ys) ∙ beyond ys walk access (all_shown xs))) more.0),
    walk-beyond ys walk access xs more.1,
  )

  -- a copy whose access could not be made
  pub probed : (from to : Spot) (len : ℕ) (w : View) → EndsAfterAccess k way (call_steps.Copy from to len) IsUnmade v w → Called k (without_access way) Granted v w
  probed from to len w a =
      let access : is_copy_access (way (all_shown a.comes.steps)) ≡ true = ap is_copy_access a.comes.next in
      let mid : a.after ≡ view_after a.comes.steps v = a.did ∙ a.comes.view in
      let walked : IsWalk k (onward way (all_shown a.comes.steps ++ Nothing ∷ [])) (view_after a.comes.steps v) a.ends.steps =
      subst (λ (u : View). IsWalk k (onward way (all_shown a.comes.steps ++ Nothing ∷ [])) u a.ends.steps) mid a.ends.walked in
      let moments : AreMoments k (view_after a.comes.steps v) a.ends.steps = subst (λ (u : View). AreMoments k u a.ends.steps) mid a.ends.moments in record {
        steps = a.ends.steps ++ a.comes.steps;
        view = a.ends.view ∙ (ap (view_after a.ends.steps) mid ∙ sym (view-append a.ends.steps a.comes.steps v));
        walked = walk-beyond a.comes.steps a.comes.walked access a.ends.steps walked;
        moments = moments-on k v a.comes.steps a.comes.moments a.ends.steps moments;
        answered = ap (without_access way) (shown-append a.ends.steps a.comes.steps) ∙ (beyond a.comes.steps a.comes.walked access (all_shown a.ends.steps) ∙ a.ends.answered);
        carried = tt;
      }

-- a copy between two frames of the caller's own
own-ways : (c : CallerKnowledge) (k : Layout) (caller : DomId) (args : CopyArgs) → is_source_granted args ≡ false → is_dest_granted args ≡ false → IsOneAccess k (copies c caller args)
own-ways c k caller args source dest =
    subst (λ (b : Bool). IsOneAccess k (reaches c b (end_leg c caller args.source dirs.Read args.len) (source_pair caller args) [] (to_dest c caller args))) (sym source)
    (subst (λ (b : Bool). IsOneAccess k (reaches c b (end_leg c caller args.dest dirs.Write args.len) (dest_pair caller Own) (held_by Own) (accesses caller args Own))) (sym dest)
    (one-access k (call_steps.Copy (end_spot caller args.source Own) (end_spot caller args.dest Own) args.len) tt))

both-own : (a b : Bool) → (not a && not b) ≡ true → (a ≡ false) × (b ≡ false)
both-own false false e = (refl, refl)
both-own true b e = cc
both-own false true e = cc

no-end : (verdict : CallResult) (vs : List Observation) (s : Step) → ended verdict vs ≡ Some (actions.Step s) → ⊥
no-end verdict [] s e = cc
no-end verdict (v ∷ vs) s e = cc

-- by whether a rule, or that there is nothing to pin, answers the probe at its beginning
module _ (c : CallerKnowledge) (k : Layout) (caller : DomId) (args : CopyArgs) (v w : View) where
  granted : (from to : Spot) (len : ℕ) (b : Bool) → has_own_ends args ≡ b → EndsAfterAccess k (copies c caller args) (call_steps.Copy from to len) IsUnmade v w
      → Called k (after_beginning (first (None ∷ granted_when b ∷ [])) (without_access (copies c caller args))) Granted v w
  granted from to len false is a = probed k (copies c caller args) v from to len w a
  granted from to len true is a =
      let own = both-own (is_source_granted args) (is_dest_granted args) is in
      let u = alone k (copies c caller args) (call_steps.Copy from to len) IsUnmade v w (own-ways c k caller args own.0 own.1) a in
      record { steps = []; view = u.end ∙ (a.did ∙ u.at); walked = tt; moments = tt; answered = refl; carried = tt }

  -- the only access of a copy is a copy
  by-access : (access : Step) → IsToFrames c false access → IsAccess access → EndsAfterAccess k (copies c caller args) access IsUnmade v w
      → Called k (after_beginning (first (None ∷ granted_when (has_own_ends args) ∷ [])) (without_access (copies c caller args))) Granted v w
  by-access (call_steps.Copy from to len) frames is a = granted from to len (has_own_ends args) refl a
  by-access (call_steps.Read dom frame off len) frames is a = absurd (false≢true frames.0)
  by-access (call_steps.Write dom frame off len) frames is a = absurd (false≢true frames.0)
  by-access access frames is a = absurd is

  by-rules : (access : Step) (o : Option CallResult) → begun c caller (asks.Copy args) ≡ o → EndsAfterAccess k (after_beginning o (copies c caller args)) access IsUnmade v w
      → Called k (after_beginning (first (o ∷ granted_when (has_own_ends args) ∷ [])) (without_access (copies c caller args))) Granted v w
  by-rules access None is a = by-access access ((copies-so c false caller args is).each (all_shown a.comes.steps) access a.comes.next) a.comes.is_access a
  by-rules access (Some verdict) is a = absurd (no-end verdict (all_shown a.comes.steps) access a.comes.next)

pub lost-copies : {P : Type 0} (may : P → AllowRelation) (m : Monitor P) → LostCopiesAreMade may m
lost-copies may m d e args access stays a kept =
    let c = knowledge m.config (may m.rights) d in
    let called : Called m.words.layout (path_of c d.seat.dom (requests.Probe args)) Granted d.seat.view e.seat.view =
    by-rules c m.words.layout d.seat.dom args d.seat.view e.seat.view access (begun c d.seat.dom (asks.Copy args)) refl a in
    (called.steps, record { before = stays.before; afterwards = stays.afterwards; seat = stays.seat; fits = (tt, tt); answered = (tt, (called, refl), kept.0) })

pub body_words-made : {P : Type 0} (may : P → AllowRelation) (m : Monitor P) → HalvesAreMade may m
body_words-made may m d mid e args h before comes ends afterwards =
    let c = knowledge m.config (may m.rights) d in let k = m.words.layout in let from = pending_from h in let to = pending_to h in
    let access = call_steps.Copy from to h.copy.len in
    let whole = whole-copy c k (pending_call h) from to h.copy.len d.seat.view mid.seat.view e.seat.view comes.access ends.gives in
    let way : EndsAfterAccess k (path_of c d.seat.dom (requests.Copy args)) access IsUnmade d.seat.view e.seat.view =
    subst (λ (y : Continuation). EndsAfterAccess k y access IsUnmade d.seat.view e.seat.view) (sym comes.way) whole.0 in
    let mappings : e.mappings ≡ d.mappings = ends.mappings ∙ comes.kept.mappings in
    let seat = same_seat-then d.seat mid.seat e.seat comes.kept.seat ends.seat in
    lost-copies may m d e args access (record { before = before; afterwards = afterwards; seat = seat }) way
    (record { slots = ap (λ (x : HandleMap HeldPin). x.slots) mappings; given = ap (λ (x : HandleMap HeldPin). x.given) mappings }, whole.1)
