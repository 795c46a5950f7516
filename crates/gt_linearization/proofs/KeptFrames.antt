-- An access that comes next in a call is to frames of the configuration, so a table with all of them is missing none.
use Rattle.std.proofs.Common.{◌≡◌, ◌<◌, ◌==◌, ◌+◌, ℕ, zero, suc, Bool, true, false, cond, List, [], ◌∷◌, length, map}
use Rattle.std.proofs.Common.{Option, Some, None, refl, sym, ◌∙◌, subst, arith, nat_lt, not, get_or}
use Rattle.std.specs.Prelude.{nat_le, unwrap_or}
use Rattle.gt_words.specs.Laws.{length-ids}
use Rattle.gt_words.specs.Prelude.{position_or_len}
use Rattle.std.proofs.lemmas.Bool.Decides.{nat_tests}
use Rattle.gt_types.specs.Copies.{is_dest_granted, is_source_granted}
use Rattle.gt_types.specs.Denial.{denial_of}
use Rattle.gt_types.specs.Names.{domain_of}
use Rattle.gt_types.specs.declared.Dir.{Dir}
use Rattle.gt_types.specs.declared.Dir.TheVariants.{Read, Write}
use Rattle.gt_types.specs.declared.DomId.{DomId}
use Rattle.gt_types.specs.declared.GrantRef.{GrantRef}
use Rattle.gt_types.specs.declared.config.DomainConfig.{DomainConfig}
use Rattle.gt_types.specs.declared.copies.CopyArgs.{CopyArgs}
use Rattle.gt_types.specs.declared.copies.End.{End}
use Rattle.gt_types.specs.declared.denial.Denial.{Denial}
use Rattle.gt_types.specs.declared.denial.Facts.TheVariants as facts
use Rattle.gt_types.specs.declared.denial.Rule.{Rule}
use Rattle.gt_types.specs.declared.denial.Rule.TheVariants.{N16}
use Rattle.gt_types.specs.declared.places.FrameName.{FrameName}
use Rattle.gt_model.specs.Words.{control_of}
use Rattle.gt_model.specs.declared.change.BodyWord.TheVariants as body_words
use Rattle.gt_model.specs.declared.control.EntryKind.TheVariants as kinds
use Rattle.gt_model.specs.declared.entry.Entry.{Entry}
use Rattle.gt_model.specs.declared.entry.Entry.TheVariants.{Invalid, Page, Sub, Via}
use Rattle.gt_handles.specs.Handles.{value_of}
use Rattle.gt_model.specs.declared.handle.Handle.{Handle}
use Rattle.gt_calls.proofs.Shown.{lets}
use Rattle.gt_model.specs.Asking.{begun_of}
use Rattle.gt_model.specs.Holding.{frame_by, frame_of, held_by, owner_by}
use Rattle.gt_calls.specs.Opening.{OpensCopy, OpensOwn, opens}
use Rattle.gt_model.specs.Path.{AfterPin, AfterRefusal, Continuation, accesses, after_beginning, at_first_look}
use Rattle.gt_model.specs.Path.{beyond, by_mapping, copies, dest_pair, end_leg, ended, entry_refusal, exchanges}
use Rattle.gt_model.specs.Path.{give_back, held_of, last_step, leg, looks, makes, path_of, end_spot, reaches}
use Rattle.gt_model.specs.Path.{reads_body, refused_holding, rule_of_try, second_leg, source_pair, to_dest, tries}
use Rattle.gt_model.specs.Path.{try_pin, unless_refused}
use Rattle.gt_calls.specs.Resting.{Lets}
use Rattle.gt_model.specs.Rules.{CallerKnowledge, begun, first_look, frame_count_of, frames_in, is_kind, via_judged}
use Rattle.gt_model.specs.declared.action.Action.TheVariants as actions
use Rattle.gt_model.specs.declared.action.CallResult.{CallResult}
use Rattle.gt_model.specs.declared.action.CallResult.TheVariants.{Granted}
use Rattle.gt_model.specs.declared.action.Observation.{Observation}
use Rattle.gt_model.specs.declared.action.Observation.TheVariants.{Missed, Nothing, Taken, Word}
use Rattle.gt_model.specs.declared.action.Step.{Step}
use Rattle.gt_model.specs.declared.action.Step.TheVariants.{LookBody, LookControl, LookHeader, Pin, Unpin}
use Rattle.gt_model.specs.declared.action.Step.TheVariants as call_steps
use Rattle.gt_model.specs.declared.held.AccessPath.{AccessPath}
use Rattle.gt_model.specs.declared.held.AccessPath.TheVariants.{Direct, Own, Through}
use Rattle.gt_model.specs.declared.held.HeldPin.{HeldPin}
use Rattle.gt_model.specs.declared.leg.Leg.{Leg}
use Rattle.gt_model.specs.declared.bounds.TheConstants.{MORE_TRIES}
use Rattle.gt_model.specs.declared.request.OpenRequest.TheVariants as asks
use Rattle.gt_model.specs.declared.request.PinHolder.TheVariants as holders
use Rattle.gt_model.specs.declared.request.Request.{Request}
use Rattle.gt_model.specs.declared.request.Request.TheVariants as requests
use Rattle.gt_shared_table.specs.Words.{frames_kept}
use Rattle.gt_word_history.specs.Rule.{Layout, layout_of, position_in}
use Rattle.gt_word_history.specs.declared.view.View.{View}
use Rattle.gt_words.specs.Frames.{KeepsFrame}
use Rattle.gt_live.specs.Accesses.{EndsAfterAccess, HasCause, IsAccess, IsUnmade, frame_named}
use Rattle.gt_live.specs.Domains.{AllowRelation, BelongsTo, known_on}
use Rattle.gt_live.specs.Walks.{all_shown}
use Rattle.gt_live.specs.declared.domain.Domain.{Domain}
use Rattle.gt_live.specs.declared.monitor.Monitor.{Monitor}

-- paths whose accesses are to frames of the run

module _ (k : CallerKnowledge) (reads : Bool) where
  -- the domain has this frame
  abbrev pub Has : DomId → ℕ → Type 0
  Has dom frame = frame < frame_count_of k.domains dom

  -- the frames of an access are of the run; it may be other than a copy only if `reads`
  abbrev pub IsToFrames : Step → Type 0
  IsToFrames (call_steps.Read dom frame off len) = (reads ≡ true) × Has dom frame
  IsToFrames (call_steps.Write dom frame off len) = (reads ≡ true) × Has dom frame
  IsToFrames (call_steps.Copy from to len) = Has from.frame.owner from.frame.number × Has to.frame.owner to.frame.number
  IsToFrames step = Unit {0}

  -- so are those of each access on the path
  pub record AreToFrames (way : Continuation) : Type 0 where
    pub each : (vs : List Observation) (s : Step) → way vs ≡ Some (actions.Step s) → IsToFrames s

  ended-so : (verdict : CallResult) → AreToFrames (ended verdict)
  ended-so verdict = record { each = each }
    where
      each : (vs : List Observation) (s : Step) → ended verdict vs ≡ Some (actions.Step s) → IsToFrames s
      each [] s e = absurd (cc)
      each (v ∷ vs) s e = absurd (cc)

  makes-so : (step : Step) (follows : Continuation) → IsToFrames step → AreToFrames follows → AreToFrames (makes step follows)
  makes-so step follows is rest = record { each = each }
    where
      each : (vs : List Observation) (s : Step) → makes step follows vs ≡ Some (actions.Step s) → IsToFrames s
      each [] s e = let same : step ≡ s = cc in subst IsToFrames same is
      each (Nothing ∷ vs) s e = rest.each vs s e
      each (Word w ∷ vs) s e = absurd (cc)
      each (Taken ∷ vs) s e = absurd (cc)
      each (Missed w ∷ vs) s e = absurd (cc)

  looks-so : (step : Step) (follows : ℕ → Continuation) → IsToFrames step → ((w : ℕ) → AreToFrames (follows w)) → AreToFrames (looks step follows)
  looks-so step follows is rest = record { each = each }
    where
      each : (vs : List Observation) (s : Step) → looks step follows vs ≡ Some (actions.Step s) → IsToFrames s
      each [] s e = let same : step ≡ s = cc in subst IsToFrames same is
      each (Word w ∷ vs) s e = (rest w).each vs s e
      each (Nothing ∷ vs) s e = absurd (cc)
      each (Taken ∷ vs) s e = absurd (cc)
      each (Missed w ∷ vs) s e = absurd (cc)

  exchanges-so : (step : Step) (looked : ℕ) (taken : Continuation) (missed : ℕ → Continuation) → IsToFrames step → AreToFrames taken → ((w : ℕ) → AreToFrames (missed w)) → AreToFrames (exchanges step looked taken missed)
  exchanges-so step looked taken missed is one other = record { each = each }
    where
      by : (b : Bool) (w : ℕ) (vs : List Observation) (s : Step) → cond b None (missed w vs) ≡ Some (actions.Step s) → IsToFrames s
      by true w vs s e = absurd (cc)
      by false w vs s e = (other w).each vs s e

      each : (vs : List Observation) (s : Step) → exchanges step looked taken missed vs ≡ Some (actions.Step s) → IsToFrames s
      each [] s e = let same : step ≡ s = cc in subst IsToFrames same is
      each (Taken ∷ vs) s e = one.each vs s e
      each (Missed w ∷ vs) s e = by (w == looked) w vs s e
      each (Nothing ∷ vs) s e = absurd (cc)
      each (Word w ∷ vs) s e = absurd (cc)

  either-so : (b : Bool) (one other : Continuation) → AreToFrames one → AreToFrames other → AreToFrames (cond b one other)
  either-so true one other x y = x
  either-so false one other x y = y

  give-back-so : (held : List HeldPin) (verdict : CallResult) → AreToFrames (give_back held verdict)
  give-back-so [] verdict = ended-so verdict
  give-back-so (p ∷ ps) verdict = makes-so (Unpin p (holders.Leg (length ps))) (give_back ps verdict) tt (give-back-so ps verdict)

  -- a leg
  module _ (l : Leg) (refused : AfterRefusal) (pinned : AfterPin) (refuses : (d : Denial) → AreToFrames (refused d)) (goes-on : (p : HeldPin) → p.dom ≡ l.dom → Lets l p.entry → AreToFrames (pinned p)) where
    last-so : (p : HeldPin) (o : Option Rule) (missed : ℕ → Continuation) → p.dom ≡ l.dom → (o ≡ None → Lets l p.entry) → ((w : ℕ) → AreToFrames (missed w)) → AreToFrames (last_step l p o refused missed pinned)
    last-so p None missed dom pins misses = exchanges-so (Pin p) p.word (pinned p) missed tt (goes-on p dom (pins refl)) misses
    last-so p (Some rule) missed dom pins misses =
        looks-so (LookControl l.dom l.gref) (λ found. cond (found == p.word) (refused (entry_refusal l.dom l.gref rule p.word)) (missed found)) tt
        (λ found. either-so (found == p.word) (refused (entry_refusal l.dom l.gref rule p.word)) (missed found) (refuses (entry_refusal l.dom l.gref rule p.word)) (misses found))

    body-so : (word : ℕ) (missed : ℕ → Continuation) → first_look l (control_of word) ≡ None → ((w : ℕ) → AreToFrames (missed w)) → AreToFrames (reads_body l word refused missed pinned)
    body-so word missed none misses =
        looks-so (LookBody l.dom l.gref body_words.First)
        (λ body. cond (is_kind (control_of word).kind kinds.Sub) (looks (LookBody l.dom l.gref body_words.Second) (λ second. last_step l (held_of l word body second) (rule_of_try l word body second) refused missed pinned)) (last_step l (held_of l word body 0) (rule_of_try l word body 0) refused missed pinned))
        tt
        (λ body. either-so (is_kind (control_of word).kind kinds.Sub) (looks (LookBody l.dom l.gref body_words.Second) (λ second. last_step l (held_of l word body second) (rule_of_try l word body second) refused missed pinned)) (last_step l (held_of l word body 0) (rule_of_try l word body 0) refused missed pinned)
        (looks-so (LookBody l.dom l.gref body_words.Second) (λ second. last_step l (held_of l word body second) (rule_of_try l word body second) refused missed pinned) tt (λ second. ends body second)) (ends body 0))
      where
        ends : (body second : ℕ) → AreToFrames (last_step l (held_of l word body second) (rule_of_try l word body second) refused missed pinned)
        ends body second = last-so (held_of l word body second) (rule_of_try l word body second) missed refl (λ last. lets l (control_of word) body second none last) misses

    first-so : (word : ℕ) (o : Option Rule) (missed : ℕ → Continuation) → first_look l (control_of word) ≡ o → ((w : ℕ) → AreToFrames (missed w)) → AreToFrames (at_first_look l word o refused (reads_body l word refused missed pinned))
    first-so word None missed is misses = body-so word missed is misses
    first-so word (Some rule) missed is misses = refuses (entry_refusal l.dom l.gref rule word)

    try-so : (missed : ℕ → Continuation) → ((w : ℕ) → AreToFrames (missed w)) → AreToFrames (try_pin l refused missed pinned)
    try-so missed misses = looks-so (LookControl l.dom l.gref) (λ word. at_first_look l word (first_look l (control_of word)) refused (reads_body l word refused missed pinned)) tt
        (λ word. first-so word (first_look l (control_of word)) missed refl misses)

    tries-so : (more : ℕ) → AreToFrames (tries l more refused pinned)
    unfolding tries
    tries-so zero = try-so _ (λ found. refuses _)
    tries-so (suc more) = try-so _ (λ found. tries-so more)

    pub leg-so : AreToFrames (leg l refused pinned)
    leg-so = looks-so (LookHeader l.dom) _ tt (λ word. either-so _ (tries l MORE_TRIES refused pinned) _ (tries-so MORE_TRIES) (refuses _))

  below : (i n : ℕ) → nat_le n i ≡ false → i < n
  below i n e = grind (arith, nat_tests)

  -- an entry that a leg may pin is of a frame of its owner, or a Via
  its-frame : (l : Leg) (e : Entry) → ((dom : DomId) (ro : Bool) (dom2 : DomId) (gref : GrantRef) → e ≡ Via dom ro dom2 gref → ⊥) → Lets l e → frame_of e < l.frames
  its-frame l Invalid not may = absurd may
  its-frame l (Page dom ro frame) not may = below frame l.frames may.1
  its-frame l (Sub dom ro frame off len) not may = below frame l.frames may.1
  its-frame l (Via dom ro dom2 gref) not may = absurd (not dom ro dom2 gref refl)

  no-via : (l : Leg) (e : Entry) → l.beyond_via ≡ true → Lets l e → (dom : DomId) (ro : Bool) (dom2 : DomId) (gref : GrantRef) → e ≡ Via dom ro dom2 gref → ⊥
  no-via l e second may dom ro dom2 gref is = let v : Lets l (Via dom ro dom2 gref) = subst (Lets l) is may in let no = sym second ∙ v.2 in cc

  -- an end of a copy
  module _ (caller : DomId) (end : End) (dir : Dir) (len : ℕ) (pair : DomId → DomId × DomId) (held : List HeldPin) (reached : AccessPath → Continuation)
      (goes-on : (access_path : AccessPath) → Has (owner_by caller access_path) (frame_by end.ptr access_path) → AreToFrames (reached access_path)) where
    abbrev l : Leg
    l = end_leg k caller end dir len

    second-so : (p : HeldPin) (dom2 : DomId) (gref : GrantRef) → AreToFrames (leg (second_leg k l dom2 gref) (refused_holding (p ∷ held)) (λ q. reached (Through p q)))
    second-so p dom2 gref =
        leg-so (second_leg k l dom2 gref) (refused_holding (p ∷ held)) (λ q. reached (Through p q)) (λ d. give-back-so (p ∷ held) _)
        (λ q dom may. goes-on (Through p q) (subst (λ (z : DomId). Has z (frame_of q.entry)) (sym dom) (its-frame (second_leg k l dom2 gref) q.entry (no-via (second_leg k l dom2 gref) q.entry refl may) may)))

    judged-so : (o : Option CallResult) (held' : List HeldPin) (way : Continuation) → AreToFrames way → AreToFrames (unless_refused o held' way)
    judged-so None held' way so = so
    judged-so (Some verdict) held' way so = give-back-so held' verdict

    direct-so : (p : HeldPin) → p.dom ≡ l.dom → Lets l p.entry → ((dom : DomId) (ro : Bool) (dom2 : DomId) (gref : GrantRef) → p.entry ≡ Via dom ro dom2 gref → ⊥) → AreToFrames (reached (Direct p))
    direct-so p dom may not = goes-on (Direct p) (subst (λ (z : DomId). Has z (frame_of p.entry)) (sym dom) (its-frame l p.entry not may))

    beyond-so : (p : HeldPin) (e : Entry) → p.entry ≡ e → p.dom ≡ l.dom → Lets l p.entry → AreToFrames (beyond k l pair held reached p e)
    beyond-so p (Via dom ro dom2 gref) is own may = judged-so (via_judged k (pair dom2) dom2) (p ∷ held) _ (second-so p dom2 gref)
    beyond-so p Invalid is own may = direct-so p own may (λ d r d2 g v. let no = sym is ∙ v in cc)
    beyond-so p (Page dom ro frame) is own may = direct-so p own may (λ d r d2 g v. let no = sym is ∙ v in cc)
    beyond-so p (Sub dom ro frame off size) is own may = direct-so p own may (λ d r d2 g v. let no = sym is ∙ v in cc)

    pub reaches-so : (granted : Bool) → (granted ≡ false → Has caller end.ptr) → AreToFrames (reaches k granted l pair held reached)
    reaches-so false own = goes-on Own (own refl)
    reaches-so true own = leg-so l (refused_holding held) (λ p. beyond k l pair held reached p p.entry) (λ d. give-back-so held _) (λ p dom may. beyond-so p p.entry refl dom may)

  pub copies-so : (caller : DomId) (c : CopyArgs) → begun k caller (asks.Copy c) ≡ None → AreToFrames (copies k caller c)
  copies-so caller c none =
      reaches-so caller c.source Read c.len (source_pair caller c) [] (to_dest k caller c)
      (λ source there. reaches-so caller c.dest Write c.len (dest_pair caller source) (held_by source) (accesses caller c source)
      (λ dest also. makes-so (call_steps.Copy (end_spot caller c.source source) (end_spot caller c.dest dest) c.len) _ (there, also) (give-back-so _ Granted))
      (is_dest_granted c) (λ own. (o.own_dest own).framed))
      (is_source_granted c) (λ own. (o.own_source own).framed)
    where
      o : OpensCopy k caller c
      o = opens k caller (asks.Copy c) none

  begun-so : (o : Option CallResult) (way : Continuation) → (o ≡ None → AreToFrames way) → AreToFrames (after_beginning o way)
  begun-so None way so = so refl
  begun-so (Some verdict) way so = ended-so verdict

  pub mapped-so : (o : Option HeldPin) (step : HeldPin → Step) → ((p : HeldPin) → o ≡ Some p → IsToFrames (step p)) → AreToFrames (by_mapping o step)
  mapped-so None step is = ended-so _
  mapped-so (Some p) step is = makes-so (step p) (ended Granted) (is p refl) (ended-so Granted)

-- the table's frames

-- the place of the domain among these
abbrev first_at : List DomainConfig → DomId → ℕ
first_at ds d = position_or_len (λ (y : DomId). y.0 == d.0) (map (λ (x : DomainConfig). x.id) ds)

at-first : (ds : List DomainConfig) (d : DomId) (n : ℕ) → n < frame_count_of ds d → (first_at ds d < length ds) × (n < get_or (map (λ (x : DomainConfig). x.frames) ds) (first_at ds d) 0)
at-first [] d n l = absurd (omega (arith, l))
at-first (x ∷ xs) d n l = by (at-first xs d n) (x.id.0 == d.0) l
  where
    by : (n < frame_count_of xs d → (first_at xs d < length xs) × (n < get_or (map (λ (y : DomainConfig). y.frames) xs) (first_at xs d) 0)) → (b : Bool) → n < frames_in (cond b (Some x) (domain_of xs d)) → (cond (not b) (1 + first_at xs d) 0 < suc (length xs)) × (n < get_or (x.frames ∷ map (λ (y : DomainConfig). y.frames) xs) (cond (not b) (1 + first_at xs d) 0) 0)
    by others true l = (omega arith, l)
    by others false l =
        let rest = others l in let within = rest.0 in let e : suc (first_at xs d) ≡ 1 + first_at xs d = omega arith in
        (omega (arith, within), subst (λ (i : ℕ). n < get_or (x.frames ∷ map (λ (y : DomainConfig). y.frames) xs) i 0) e rest.1)

placed : (i len : ℕ) → i < len → unwrap_or (cond (nat_lt i len) (Some i) None) len ≡ i
placed i len inside = grind (arith, nat_tests)

-- a frame of the configuration by its owner's position
at-position : (ds : List DomainConfig) (d : DomId) (n : ℕ) → n < frame_count_of ds d
    → (position_in (map (λ (x : DomainConfig). x.id) ds) d < length ds) × (n < get_or (map (λ (x : DomainConfig). x.frames) ds) (position_in (map (λ (x : DomainConfig). x.id) ds) d) 0)
at-position ds d n l =
    let at = at-first ds d n l in
    let many : length (map (λ (x : DomainConfig). x.id) ds) ≡ length ds = length-ids ds in
    let e : position_in (map (λ (x : DomainConfig). x.id) ds) d ≡ first_at ds d = placed (first_at ds d) (length (map (λ (x : DomainConfig). x.id) ds)) (let within = at.0 in omega (arith, within, many)) in
    subst (λ (i : ℕ). (i < length ds) × (n < get_or (map (λ (x : DomainConfig). x.frames) ds) i 0)) (sym e) at

-- a request that may make an access
abbrev pub MakesOne : Request → Type 0
MakesOne (requests.Load handle off len) = Unit {0}
MakesOne (requests.Store handle off bytes) = Unit {0}
MakesOne (requests.Peek frame off len) = Unit {0}
MakesOne (requests.Poke frame off bytes) = Unit {0}
MakesOne (requests.Copy args) = Unit {0}
MakesOne request = ⊥

module _ {P : Type 0} (may : P → AllowRelation) (m : Monitor P) (all : m.words.frames ≡ frames_kept m.config) where
  kept : (name : FrameName) → name.number < frame_count_of m.config.domains.items name.owner → KeepsFrame m.words name
  kept name has = subst (λ (k : Layout). (position_in k.ids name.owner < k.domains) × (name.number < get_or m.words.frames (position_in k.ids name.owner) 0)) (sym m.same_run)
      (subst (λ (fs : List ℕ). (position_in (layout_of m.config).ids name.owner < (layout_of m.config).domains) × (name.number < get_or fs (position_in (layout_of m.config).ids name.owner) 0)) (sym all)
      (at-position m.config.domains.items name.owner name.number has))

  -- an access to frames of the run was not refused with N16
  not-missing : (k : CallerKnowledge) → k.domains ≡ m.config.domains.items → (access : Step) (denial : Denial) → IsToFrames k true access → HasCause m.words access denial → denial ≡ denial_of N16 facts.None → IsAccess access → ⊥
  not-missing k same (call_steps.Read dom frame off len) denial has cause is a = cause is (kept (frame_named dom frame) (subst (λ (ds : List DomainConfig). frame < frame_count_of ds dom) same has.1))
  not-missing k same (call_steps.Write dom frame off len) denial has cause is a = cause is (kept (frame_named dom frame) (subst (λ (ds : List DomainConfig). frame < frame_count_of ds dom) same has.1))
  not-missing k same (call_steps.Copy from to len) denial has cause is a =
      cause is (kept from.frame (subst (λ (ds : List DomainConfig). from.frame.number < frame_count_of ds from.frame.owner) same has.0)) (kept to.frame (subst (λ (ds : List DomainConfig). to.frame.number < frame_count_of ds to.frame.owner) same has.1))
  not-missing k same access denial has cause is a = absurd a

  module _ (d : Domain) (mine : BelongsTo may m d) where
    abbrev know : CallerKnowledge
    know = known_on may m d

    mapped : (handle : Handle) (p : HeldPin) → value_of d.mappings handle ≡ Some p → frame_of p.entry < frame_count_of m.config.domains.items p.dom
    mapped handle p is = below know true (frame_of p.entry) (frame_count_of m.config.domains.items p.dom) (mine.mapped handle p is).in_frames

    path-so : (request : Request) → MakesOne request → AreToFrames know true (path_of know d.seat.dom request)
    path-so (requests.Load handle off len) one = begun-so know true (begun_of know d.seat.dom (requests.Load handle off len)) _
        (λ none. mapped-so know true (know.mapping handle) (λ p. call_steps.Read p.dom (frame_of p.entry) off len) (λ p is. (refl, mapped handle p is)))
    path-so (requests.Store handle off bytes) one = begun-so know true (begun_of know d.seat.dom (requests.Store handle off bytes)) _
        (λ none. mapped-so know true (know.mapping handle) (λ p. call_steps.Write p.dom (frame_of p.entry) off (length bytes.now)) (λ p is. (refl, mapped handle p is)))
    path-so (requests.Peek frame off len) one = begun-so know true (begun_of know d.seat.dom (requests.Peek frame off len)) _
        (λ none. let o : OpensOwn know d.seat.dom frame off len = opens know d.seat.dom (asks.Peek frame off len) none in makes-so know true (call_steps.Read d.seat.dom frame off len) (ended Granted) (refl, o.framed) (ended-so know true Granted))
    path-so (requests.Poke frame off bytes) one = begun-so know true (begun_of know d.seat.dom (requests.Poke frame off bytes)) _
        (λ none. let o : OpensOwn know d.seat.dom frame off (length bytes.now) = opens know d.seat.dom (asks.Poke frame off (length bytes.now)) none in makes-so know true (call_steps.Write d.seat.dom frame off (length bytes.now)) (ended Granted) (refl, o.framed) (ended-so know true Granted))
    path-so (requests.Copy args) one = begun-so know true (begun_of know d.seat.dom (requests.Copy args)) _ (λ none. copies-so know true d.seat.dom args none)
    path-so request one = absurd one

    -- an access of the domain's call that was not made was not refused with N16, since the table has all frames
    pub never-missing : (request : Request) → MakesOne request → (access : Step) (denial : Denial) (v w : View) (a : EndsAfterAccess m.words.layout (path_of know d.seat.dom request) access IsUnmade v w) → HasCause m.words access denial
        → denial ≡ denial_of N16 facts.None → ⊥
    never-missing request one access denial v w a cause is =
        not-missing know refl access denial ((path-so request one).each (all_shown a.comes.steps) access a.comes.next) cause is a.comes.is_access
