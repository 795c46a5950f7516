-- A copy at its access: what its access paths reach, what the policy allows of it, and how it is answered.
use Rattle.gt_live.proofs.Moments.{only-access, walk-moments}
use Rattle.std.proofs.Common.{◌≡◌, ◌+◌, ◌≤◌, ℕ, Bool, true, false, cond, refl, sym, ap, ◌∙◌, subst, List, [], ◌∷◌}
use Rattle.std.proofs.Common.{◌++◌, Option, Some, None, inl, inr, arith}
use Rattle.std.specs.Prelude.{IfErr, IfOk, OnErr, Result, Ok, Err, is_none}
use Rattle.gt_types.specs.declared.DomId.{DomId}
use Rattle.gt_types.specs.declared.TypeId.{TypeId}
use Rattle.gt_types.specs.declared.perms.Perms.{Perms}
use Rattle.gt_types.specs.declared.denial.Rule.TheVariants.{N1, N5}
use Rattle.gt_types.specs.declared.denial.Facts.TheVariants.{Policy}
use Rattle.gt_types.specs.Denial.{denial_of}
use Rattle.gt_types.specs.declared.rights.Triple.{Triple}
use Rattle.gt_types.specs.declared.Dir.{Dir}
use Rattle.gt_types.specs.declared.Dir.TheVariants.{Read, Write}
use Rattle.gt_types.specs.declared.Use.TheVariants as uses
use Rattle.gt_types.specs.declared.denial.Denial.{Denial}
use Rattle.gt_types.specs.Names.{copy as copying, domain_of, resolved}
use Rattle.gt_model.specs.Permits.{permits}
use Rattle.gt_words.specs.Conditions.{Board, KeepsPins, SeatOf}
use Rattle.gt_word_history.specs.Rule.{Layout}
use Rattle.gt_word_history.specs.Views.{IsAmong}
use Rattle.gt_word_history.specs.declared.view.View.{View}
use Rattle.gt_frames.specs.Receipts.{Copying}
use Rattle.gt_live.specs.AccessPaths.{MayCopyBy, MayCopyEach, ReachesBy, named_by, pair_beyond}
use Rattle.gt_types.specs.declared.places.Spot.{Spot}
use Rattle.gt_model.specs.declared.action.Step.TheVariants as call_steps
use Rattle.gt_model.specs.declared.action.CallResult.{CallResult}
use Rattle.gt_model.specs.declared.action.CallResult.TheVariants.{Granted, Refused}
use Rattle.gt_calls.specs.declared.call.Call.{Call}
use Rattle.gt_model.specs.declared.held.HeldPin.{HeldPin}
use Rattle.gt_model.specs.declared.held.CallPins.{CallPins}
use Rattle.gt_model.specs.declared.held.AccessPath.{AccessPath}
use Rattle.gt_model.specs.declared.held.AccessPath.TheVariants.{Own, Direct, Through}
use Rattle.gt_types.specs.declared.copies.CopyArgs.{CopyArgs}
use Rattle.gt_types.specs.declared.copies.End.{End}
use Rattle.gt_model.specs.Holding.{frame_by, held_by, last_first, owner_by}
use Rattle.gt_model.specs.Rules.{IsAllowed, CallerKnowledge, begun, copy_begun, denied, first, label_of, refused_when}
use Rattle.gt_model.specs.Rules.{rights_to_copy, via_judged}
use Rattle.gt_calls.specs.Opening.{IsOwnEnd, OpensCopy, opens}
use Rattle.gt_model.specs.Path.{Continuation, dest_pair, give_back, path, end_spot, source_pair}
use Rattle.gt_model.specs.declared.action.Observation.TheVariants.{Nothing}
use Rattle.gt_model.specs.declared.request.OpenRequest.{OpenRequest}
use Rattle.gt_model.specs.declared.request.OpenRequest.TheVariants as asks
use Rattle.gt_calls.specs.declared.call.Phase.TheVariants.{Accessing}
use Rattle.gt_live.specs.Copies.{copy_call}
use Rattle.gt_calls.specs.Resting.{IsReached, RestsOnWays}
use Rattle.gt_types.specs.Copies.{is_dest_granted, is_source_granted}
use Rattle.gt_calls.specs.Standing.{pins_by_call}
use Rattle.gt_live.specs.Accesses.{EndsAfterAccess, AnsweredAtAccess, CameBy, CopiesBetween, IsCopiedBy, IsIfOneMissing}
use Rattle.gt_live.specs.Accesses.{IsOfAccess, IsUnmade, frame_named, onward}
use Rattle.gt_live.specs.declared.domain.Domain.{Domain}
use Rattle.gt_live.specs.Driving.{IsSame}
use Rattle.gt_live.specs.Underway.{AreOfRun, AtAccess, GivesBack, HasTaken}
use Rattle.gt_live.specs.Walks.{Called, all_shown}
use Rattle.gt_live.proofs.Accessing.{of-its-frame, serves}
use Rattle.gt_live.proofs.Taking.{has-pin}

pub in-dest : {A : Type 0} (a : A) (xs ys : List A) → IsAmong a xs → IsAmong a (xs ++ ys)
in-dest a [] ys is = absurd is
in-dest a (x ∷ xs) ys (inl e) = inl e
in-dest a (x ∷ xs) ys (inr more) = inr (in-dest a xs ys more)

pub in-source : {A : Type 0} (a : A) (xs ys : List A) → IsAmong a ys → IsAmong a (xs ++ ys)
in-source a [] ys is = is
in-source a (x ∷ xs) ys is = inr (in-source a xs ys is)

-- the access path to an end reaches its range
pub reaches-end : (c : CallerKnowledge) (k : Layout) (s : SeatOf) (granted : Bool) (end : End) (dir : Dir) (len : ℕ) (pair : DomId → DomId × DomId) (access_path : AccessPath) (taken : List HeldPin) (v : View) → IsReached c s.dom granted end dir len pair access_path → HasTaken k taken v s.view
    → AreOfRun k taken → ((p : HeldPin) → IsAmong p (held_by access_path) → IsAmong p taken) → ReachesBy k s dir uses.Copy (frame_named (owner_by s.dom access_path) (frame_by end.ptr access_path)) end.offset len access_path
reaches-end c k s granted end dir len pair Own taken v r x all among = refl
reaches-end c k s granted end dir len pair (Direct p) taken v r x all among = record {
  pin = has-pin k taken v s.view p x all (among p (inl refl));
  serves = serves p dir (λ e. r.2.taken_for ∙ e);
  owner_is = refl;
  of_frame = of-its-frame p.entry s.dom dir uses.Copy end.offset len r.2.permitted;
  permitted = r.2.permitted;
}
reaches-end c k s granted end dir len pair (Through via p) taken v r x all among =
    let may : permits p.entry via.dom dir uses.Copy end.offset len ≡ true = ap (λ (d : DomId). permits p.entry d dir uses.Copy end.offset len) r.1.named ∙ r.3.permitted in (
      refl,
      record { pin = has-pin k taken v s.view via x all (among via (inr (inl refl))); serves = serves via dir (λ e. r.1.taken_for ∙ e); forwarded = r.1.forwarded; leads = r.2 },
      record {
        pin = has-pin k taken v s.view p x all (among p (inl refl));
        serves = serves p dir (λ e. r.3.taken_for ∙ e);
        owner_is = refl;
        of_frame = of-its-frame p.entry via.dom dir uses.Copy end.offset len may;
        permitted = may;
      },
    )

-- the domain that an end names
names-end : (c : CallerKnowledge) (caller : DomId) (granted : Bool) (end : End) (dir : Dir) (len : ℕ) (pair : DomId → DomId × DomId) (access_path : AccessPath) → IsReached c caller granted end dir len pair access_path → (granted ≡ false → IsOwnEnd c caller end) → named_by caller access_path ≡ resolved caller end.domid
names-end c caller granted end dir len pair Own r own = ap numbered (sym (own r.0).owned)
  where
    numbered : ℕ → DomId
    numbered n = record { 0 = n }
names-end c caller granted end dir len pair (Direct p) r own = r.1
names-end c caller granted end dir len pair (Through via p) r own = r.1.named

-- where no rule stands past a Via, the policy allows the pair
one-allowed : (may : TypeId → TypeId → Perms → Bool) (t : Triple) → denied may (t ∷ []) ≡ None → IsAllowed may (t ∷ [])
one-allowed may t e = by (may t.source t.target t.perm) refl e
  where
    by : (b : Bool) → may t.source t.target t.perm ≡ b → cond b None (Some (Refused (denial_of N5 (Policy t.source t.target t.perm)))) ≡ None → (may t.source t.target t.perm ≡ true) × Unit {0}
    by true is f = (is, tt)
    by false is f = cc

last-none : (o : Option CallResult) → first (o ∷ []) ≡ None → o ≡ None
last-none None e = refl
last-none (Some verdict) e = cc

via-allowed : (c : CallerKnowledge) (pair : DomId × DomId) (dom : DomId) → via_judged c pair dom ≡ None → IsAllowed c.may (rights_to_copy c pair.0 pair.1)
via-allowed c pair dom e = one-allowed c.may (record { source = label_of c.domains pair.0; target = label_of c.domains pair.1; perm = copying }) (last-none _ (by (is_none (domain_of c.domains dom)) e))
  where
    by : (b : Bool) → first (refused_when b N1 ∷ denied c.may (rights_to_copy c pair.0 pair.1) ∷ []) ≡ None → first (denied c.may (rights_to_copy c pair.0 pair.1) ∷ []) ≡ None
    by true f = cc
    by false f = f

abbrev pub Allows : CallerKnowledge → DomId × DomId → Type 0
Allows c pair = IsAllowed c.may (rights_to_copy c pair.0 pair.1)

beyond-source : (c : CallerKnowledge) (caller : DomId) (granted : Bool) (a : CopyArgs) (dir : Dir) (len : ℕ) (access_path : AccessPath) (to : DomId) (rest : List (DomId × DomId)) → IsReached c caller granted a.source dir len (source_pair caller a) access_path → to ≡ resolved caller a.dest.domid
    → MayCopyEach c.domains c.may rest → MayCopyEach c.domains c.may (pair_beyond access_path (owner_by caller access_path, to) ++ rest)
beyond-source c caller granted a dir len Own to rest r named more = more
beyond-source c caller granted a dir len (Direct p) to rest r named more = more
beyond-source c caller granted a dir len (Through via p) to rest r named more =
    (subst (λ (d : DomId). Allows c (p.dom, d)) (sym named) (via-allowed c (p.dom, resolved caller a.dest.domid) p.dom r.4), more)

beyond-dest : (c : CallerKnowledge) (caller : DomId) (granted : Bool) (end : End) (dir : Dir) (len : ℕ) (source access_path : AccessPath) → IsReached c caller granted end dir len (dest_pair caller source) access_path
    → MayCopyEach c.domains c.may (pair_beyond access_path (owner_by caller source, owner_by caller access_path))
beyond-dest c caller granted end dir len source Own r = tt
beyond-dest c caller granted end dir len source (Direct p) r = tt
beyond-dest c caller granted end dir len source (Through via p) r = (via-allowed c (owner_by caller source, p.dom) p.dom r.4, tt)

-- the policy allows a copy whose ends are reached
pub may-copy : (c : CallerKnowledge) (caller : DomId) (a : CopyArgs) (pins : CallPins) → OpensCopy c caller a → IsReached c caller (is_source_granted a) a.source Read a.len (source_pair caller a) pins.source
    → IsReached c caller (is_dest_granted a) a.dest Write a.len (dest_pair caller pins.source) pins.dest → MayCopyBy c.domains c.may caller pins
may-copy c caller a pins opens source dest =
    let from = names-end c caller (is_source_granted a) a.source Read a.len (source_pair caller a) pins.source source opens.own_source in
    let to = names-end c caller (is_dest_granted a) a.dest Write a.len (dest_pair caller pins.source) pins.dest dest opens.own_dest in (
      subst (λ (d : DomId). Allows c (d, named_by caller pins.dest)) (sym from) (subst (λ (d : DomId). Allows c (resolved caller a.source.domid, d)) (sym to) opens.allowed),
      beyond-source c caller (is_source_granted a) a Read a.len pins.source (named_by caller pins.dest) _ source to (beyond-dest c caller (is_dest_granted a) a.dest Write a.len pins.source pins.dest dest),
    )

-- a copy that came to its access and gave its pins back is whole
pub copy-whole : (c : CallerKnowledge) (k : Layout) (call : Call) (from to : Spot) (len : ℕ) (does : View → View → Type 0) (v at mid w : View) → AtAccess c k call from to len v at → does at mid → GivesBack k (pins_by_call call) mid w
    → EndsAfterAccess k (path c call.caller call.request) (call_steps.Copy from to len) does v w
copy-whole c k call from to len does v at mid w a did g =
    let way = path c call.caller call.request in
    let ends : Called k (onward way (all_shown a.comes.steps ++ Nothing ∷ [])) Granted mid w =
    subst (λ (y : Continuation). Called k y Granted mid w) (sym a.ends)
    (record { steps = g.steps; view = g.view; walked = g.walked; moments = walk-moments k (give_back (last_first (pins_by_call call)) Granted) mid g.steps g.walked; answered = g.ended; carried = tt }) in
    record { at = at; after = mid; comes = a.comes; did = did; ends = ends; only = only-access k way (call_steps.Copy from to len) v at mid w a.comes ends }

-- a copy in two halves is whole
pub whole-copy : (c : CallerKnowledge) (k : Layout) (call : Call) (from to : Spot) (len : ℕ) (v mid w : View) → AtAccess c k call from to len v mid → GivesBack k (pins_by_call call) mid w
    → EndsAfterAccess k (path c call.caller call.request) (call_steps.Copy from to len) IsUnmade v w × KeepsPins v w
whole-copy c k call from to len v mid w a g = (copy-whole c k call from to len IsUnmade v mid mid w a refl g, (g.back v a.taken).pins)

-- a copy of this caller at its access, with these pins
abbrev pub at_access : DomId → CopyArgs → CallPins → Call
at_access caller copy pins = copy_call caller copy (Accessing copy pins.source pins.dest)

-- a copy that came to its access by these access paths and gave its pins back
pub made-whole : (c : CallerKnowledge) (b : Board) (d : Domain) (copy : CopyArgs) (pins : CallPins) (from to : Spot) (len : ℕ) (at mid w : View) (way : Continuation) (result : Result Copying Denial) → AtAccess c b.layout (at_access d.seat.dom copy pins) from to len d.seat.view at → GivesBack b.layout pins mid w
    → way ≡ path c d.seat.dom (asks.Copy copy) → IfOk result (λ (r : Copying). CopiesBetween b.layout from to len d.seat.dom pins r at mid) → OnErr result (mid ≡ at) → IfErr result IsOfAccess → IfErr result (IsIfOneMissing b from.frame to.frame)
    → AnsweredAtAccess b way (IsCopiedBy c b.layout d copy) result d.seat.view w
made-whole c b d copy pins from to len at mid w way result a g same ok kept err cause = subst (λ (y : Continuation). AnsweredAtAccess b y (IsCopiedBy c b.layout d copy) result d.seat.view w) (sym same) (by result ok kept err cause)
  where
    call : Call
    call = at_access d.seat.dom copy pins

    came : CameBy c b.layout d.seat.dom copy from to len pins d.seat.view at
    came = record { ends = a.rests; taken = a.taken }

    by : (r : Result Copying Denial) → IfOk r (λ (x : Copying). CopiesBetween b.layout from to len d.seat.dom pins x at mid) → OnErr r (mid ≡ at) → IfErr r IsOfAccess → IfErr r (IsIfOneMissing b from.frame to.frame)
        → AnsweredAtAccess b (path c d.seat.dom (asks.Copy copy)) (IsCopiedBy c b.layout d copy) r d.seat.view w
    by (Ok r) o n e x = (call_steps.Copy from to len, copy-whole c b.layout call from to len (IsCopiedBy c b.layout d copy (call_steps.Copy from to len) r) d.seat.view at mid w a (pins, came, o) g)
    by (Err denial) o n e x = inr (call_steps.Copy from to len, copy-whole c b.layout call from to len IsUnmade d.seat.view at mid w a n g, e, x)

-- the pins that a copy took are there after its access
pub taken-still : (k : Layout) (taken : List HeldPin) (v at mid : View) → HasTaken k taken v at → IsSame at mid → HasTaken k taken v mid
taken-still k taken v at mid x same = record {
  pins = λ t r. same.pins t r ∙ x.pins t r;
  records = λ r. same.records r ∙ x.records r;
  seen = λ t r. let one = x.seen t r in let two = same.seen t r in omega (arith, one, two);
  position = same.position ∙ x.position;
  ids = same.ids ∙ x.ids;
}

-- what the access paths to both ends reach
pub reaches-source : (c : CallerKnowledge) (k : Layout) (s : SeatOf) (request : OpenRequest) (pins : CallPins) (from to : Spot) (len : ℕ) (v : View) → RestsOnWays c s.dom request pins from to len → HasTaken k (last_first pins) v s.view → AreOfRun k (last_first pins)
    → ReachesBy k s Read uses.Copy from.frame from.off len pins.source
reaches-source c k s request pins from to len v r x all =
    let at = reaches-end c k s (is_source_granted r.copy) r.copy.source Read r.copy.len (source_pair s.dom r.copy) pins.source (last_first pins) v r.source_reached x all (λ p is. in-source p (held_by pins.dest) (held_by pins.source) is) in
    subst (λ (n : ℕ). ReachesBy k s Read uses.Copy from.frame from.off n pins.source) (sym r.len_is)
    (subst (λ (p : Spot). ReachesBy k s Read uses.Copy p.frame p.off r.copy.len pins.source) (sym r.from_is) at)

pub reaches-dest : (c : CallerKnowledge) (k : Layout) (s : SeatOf) (request : OpenRequest) (pins : CallPins) (from to : Spot) (len : ℕ) (v : View) → RestsOnWays c s.dom request pins from to len → HasTaken k (last_first pins) v s.view → AreOfRun k (last_first pins)
    → ReachesBy k s Write uses.Copy to.frame to.off len pins.dest
reaches-dest c k s request pins from to len v r x all =
    let at = reaches-end c k s (is_dest_granted r.copy) r.copy.dest Write r.copy.len (dest_pair s.dom pins.source) pins.dest (last_first pins) v r.dest_reached x all (λ p is. in-dest p (held_by pins.dest) (held_by pins.source) is) in
    subst (λ (n : ℕ). ReachesBy k s Write uses.Copy to.frame to.off n pins.dest) (sym r.len_is)
    (subst (λ (p : Spot). ReachesBy k s Write uses.Copy p.frame p.off r.copy.len pins.dest) (sym r.to_is) at)

abbrev pub Access : CallerKnowledge → Layout → DomId → CopyArgs → CallPins → View → View → Type 0
Access c k caller copy pins v w =
    AtAccess c k (at_access caller copy pins)
    (end_spot caller copy.source pins.source) (end_spot caller copy.dest pins.dest) copy.len v w

module _ (c : CallerKnowledge) (k : Layout) (s : SeatOf) (caller : DomId) (copy : CopyArgs) (pins : CallPins) (v : View)
    (me : s.dom ≡ caller) (a : Access c k caller copy pins v s.view) where
  abbrev pub from_place : Spot
  from_place = end_spot caller copy.source pins.source

  abbrev pub to_place : Spot
  to_place = end_spot caller copy.dest pins.dest

  access-rests : RestsOnWays c s.dom (asks.Copy copy) pins from_place to_place copy.len
  access-rests =
      subst (λ (x : DomId). RestsOnWays c x (asks.Copy copy) pins from_place to_place copy.len) (sym me) a.rests

  pub access-source : (at : Spot) → at ≡ from_place
      → ReachesBy k s Read uses.Copy at.frame at.off copy.len pins.source
  access-source at e =
      subst (λ (p : Spot). ReachesBy k s Read uses.Copy p.frame p.off copy.len pins.source) (sym e)
      (reaches-source c k s (asks.Copy copy) pins from_place to_place copy.len v access-rests a.taken a.of_run)

  pub access-dest : (at : Spot) → at ≡ to_place
      → ReachesBy k s Write uses.Copy at.frame at.off copy.len pins.dest
  access-dest at e =
      subst (λ (p : Spot). ReachesBy k s Write uses.Copy p.frame p.off copy.len pins.dest) (sym e)
      (reaches-dest c k s (asks.Copy copy) pins from_place to_place copy.len v access-rests a.taken a.of_run)

  pub access-may : copy_begun c caller copy ≡ None → MayCopyBy c.domains c.may s.dom pins
  access-may none =
      let r = access-rests in
      let here : begun c s.dom (asks.Copy r.copy) ≡ None =
      subst (λ (x : DomId). begun c x (asks.Copy r.copy) ≡ None) (sym me)
      (subst (λ (x : OpenRequest). begun c caller x ≡ None) r.of_copy none) in
      may-copy c s.dom r.copy pins (opens c s.dom (asks.Copy r.copy) here) r.source_reached r.dest_reached

  pub access-source-range : (at : Spot) → at ≡ from_place → at.off + copy.len ≤ 4096
  access-source-range at e =
      let r = access-rests in subst (λ (p : Spot). p.off + copy.len ≤ 4096) (sym (e ∙ r.from_is)) r.source_range

  pub access-dest-range : (at : Spot) → at ≡ to_place → at.off + copy.len ≤ 4096
  access-dest-range at e =
      let r = access-rests in subst (λ (p : Spot). p.off + copy.len ≤ 4096) (sym (e ∙ r.to_is)) r.dest_range
