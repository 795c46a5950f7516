-- An owner's change of an entry on the words, step by step.
use Rattle.std.proofs.Common.{◌≡◌, ℕ, ◌-◌, ◌<◌, Bool, true, false, arith, refl, sym, ap, subst, None}
use Rattle.std.proofs.lemmas.Bool.{lt-ltb}
use Rattle.std.specs.Prelude.{Result, Ok, Err, if◌then◌else◌}
use Rattle.gt_types.specs.declared.DomId.{DomId}
use Rattle.gt_types.specs.declared.GrantRef.{GrantRef}
use Rattle.gt_types.specs.declared.denial.Denial.{Denial}
use Rattle.gt_types.specs.declared.denial.Rule.TheVariants.{N18, N19}
use Rattle.gt_model.specs.Words.{control_of}
use Rattle.gt_model.specs.Spelling.{first_body, second_body}
use Rattle.gt_model.specs.declared.entry.Entry.{Entry}
use Rattle.gt_model.specs.declared.entry.Entry.TheVariants.{Invalid, Page, Sub, Via}
use Rattle.gt_model.specs.declared.change.BodyWord.TheVariants.{First, Second}
use Rattle.gt_model.specs.declared.change.EntryChange.{EntryChange}
use Rattle.gt_model.specs.declared.change.EntryChange.TheVariants.{Publish, Revoke, Withdraw, Demote, Promote}
use Rattle.gt_word_history.specs.Rule.{Layout}
use Rattle.gt_word_history.specs.declared.view.View.{View}
use Rattle.gt_calls.specs.Machine.{action_at, after_own_miss, after_store, publishing, refused_as}
use Rattle.gt_model.specs.Path.{entry_refusal, idle_word, is_stopped, path}
use Rattle.gt_model.specs.Rules.{CallerKnowledge, begun}
use Rattle.gt_model.specs.declared.action.Action.TheVariants as actions
use Rattle.gt_model.specs.declared.action.Observation.TheVariants.{Word, Taken, Missed}
use Rattle.gt_model.specs.declared.action.Observation.TheVariants as observations
use Rattle.gt_model.specs.declared.action.Step.{Step}
use Rattle.gt_model.specs.declared.action.Step.TheVariants.{Exchange, LookControl, StoreBody}
use Rattle.gt_model.specs.declared.action.CallResult.{CallResult}
use Rattle.gt_model.specs.declared.action.CallResult.TheVariants.{Granted, Refused}
use Rattle.gt_calls.specs.declared.call.Phase.{Phase}
use Rattle.gt_calls.specs.declared.call.Phase.TheVariants.{Exchanging, Looking, Changing, Storing, StoringSecond}
use Rattle.gt_model.specs.declared.bounds.TheConstants.{MORE_TRIES}
use Rattle.gt_model.specs.declared.request.OpenRequest.TheVariants.{Grant}
use Rattle.gt_live.specs.declared.driving.Effect.{Effect}
use Rattle.gt_live.specs.declared.driving.Effect.TheVariants.{Nothing, Changed}
use Rattle.gt_live.specs.Domains.{verdict_of}
use Rattle.gt_live.specs.Driving.{CanMake, Knows, Leaves}
use Rattle.gt_live.specs.Ending.{WaitsForNobody}
use Rattle.gt_live.specs.Owning.{ChangesOnce, IsInTurns, asks_change, change_effect}
use Rattle.gt_live.specs.Walks.{Called, Made}
use Rattle.gt_live.proofs.Advancing.{makes-next}
use Rattle.gt_live.proofs.Stepping.{IsIn, PhaseLaw, call_in, can-only, further, over, starts}

pub waits-not : (gref : GrantRef) (change : EntryChange) → WaitsForNobody (asks_change gref change)
waits-not gref (Publish entry) = tt
waits-not gref Revoke = tt
waits-not gref Withdraw = tt
waits-not gref Demote = tt
waits-not gref Promote = tt

-- what follows the first store of a grant
sub-next : (c : CallerKnowledge) (gref : GrantRef) (entry : Entry) (dom : DomId) (ro : Bool) (frame off len : ℕ) → entry ≡ Sub dom ro frame off len
    → after_store c gref entry ≡ StoringSecond gref entry
sub-next c gref entry dom ro frame off len e = subst (λ (x : Entry). after_store c gref x ≡ StoringSecond gref x) (sym e) refl

other-next : (c : CallerKnowledge) (gref : GrantRef) (entry : Entry) → ((dom : DomId) (ro : Bool) (frame off len : ℕ) → entry ≡ Sub dom ro frame off len → ⊥)
    → after_store c gref entry ≡ publishing c gref entry
other-next c gref Invalid other = refl
other-next c gref (Page dom ro frame) other = refl
other-next c gref (Sub dom ro frame off len) other = absurd (other dom ro frame off len refl)
other-next c gref (Via dom ro dom2 r) other = refl

module _ (c : CallerKnowledge) (law : PhaseLaw c) (k : Layout) (v : View) (caller : DomId) (gref : GrantRef)
    (knows : Knows c k caller v) where
  -- the change was answered so, and did this
  abbrev pub ChangeEnds : EntryChange → CallResult → Effect → View → Type 0
  ChangeEnds change verdict effect w =
      Called k (path c caller (asks_change gref change)) verdict v w × Leaves c k caller (asks_change gref change) v w effect

  -- an exchange that is tried once
  once : (change : EntryChange) (looked : ℕ) (result : Result (Unit {0}) Denial) (u w : View)
      → IsIn c law k v caller (asks_change gref change) (Exchanging gref looked change) (Exchange gref looked change) u
      → ChangesOnce k caller gref looked change result u w
      → ChangeEnds change (verdict_of result) (change_effect gref change result) w
  once change looked (Ok x) u w g made =
      let e = over c law k v caller (asks_change gref change) (Exchanging gref looked change) (Exchange gref looked change)
      Taken Granted u w knows (waits-not gref change) g made refl in
      (e.called, e.left)
  once change looked (Err denial) u w g x =
      let e = over c law k v caller (asks_change gref change) (Exchanging gref looked change) (Exchange gref looked change)
      (Missed x.0) (Refused (entry_refusal caller gref N19 x.0)) u w knows (waits-not gref change) g x.2 refl in
      (subst (λ (d : Denial). Called k (path c caller (asks_change gref change)) (Refused d) v w) (sym x.1) e.called, e.left)

  -- a revocation
  pub revokes : (looked : ℕ) (result : Result (Unit {0}) Denial) (w : View) → begun c caller (asks_change gref Revoke) ≡ None
      → looked ≡ idle_word c gref → ChangesOnce k caller gref looked Revoke result v w
      → ChangeEnds Revoke (verdict_of result) (change_effect gref Revoke result) w
  revokes looked result w none is made =
      once Revoke (idle_word c gref) result v w
      (starts c law k v caller (asks_change gref Revoke) (Exchanging gref (idle_word c gref) Revoke)
      (Exchange gref (idle_word c gref) Revoke) none refl refl)
      (subst (λ (n : ℕ). ChangesOnce k caller gref n Revoke result v w) is made)

  pub can-revoke : (looked : ℕ) → begun c caller (asks_change gref Revoke) ≡ None → looked ≡ idle_word c gref
      → CanMake k v (Exchange gref looked Revoke)
  can-revoke looked none is =
      subst (λ (n : ℕ). CanMake k v (Exchange gref n Revoke)) (sym is)
      (makes-next c k Nothing v v (call_in caller (asks_change gref Revoke) (Exchanging gref (idle_word c gref) Revoke))
      (Exchange gref (idle_word c gref) Revoke) knows tt
      (starts c law k v caller (asks_change gref Revoke) (Exchanging gref (idle_word c gref) Revoke)
      (Exchange gref (idle_word c gref) Revoke) none refl refl))

  -- a grant before its exchange
  abbrev pub Publishes : Entry → View → Type 0
  Publishes entry w =
      IsIn c law k v caller (Grant gref entry) (publishing c gref entry) (Exchange gref (idle_word c gref) (Publish entry)) w

  -- a grant after the store of its first body word
  stored : (entry : Entry) (next : Phase) (n : Step) (word : ℕ) (w : View) → begun c caller (Grant gref entry) ≡ None
      → word ≡ first_body entry → Made k (StoreBody gref First word) observations.Nothing v w → after_store c gref entry ≡ next
      → action_at caller next ≡ actions.Step n → IsIn c law k v caller (Grant gref entry) next n w
  stored entry next n word w none word_is made is acts =
      further c law k v caller (Grant gref entry) (Storing gref entry) (StoreBody gref First (first_body entry)) observations.Nothing next n
      v w knows tt
      (starts c law k v caller (Grant gref entry) (Storing gref entry) (StoreBody gref First (first_body entry)) none refl refl)
      (subst (λ (m : ℕ). Made k (StoreBody gref First m) observations.Nothing v w) word_is made) is acts

  pub stored-sub : (entry : Entry) (dom : DomId) (ro : Bool) (frame off len word : ℕ) (w : View)
      → begun c caller (Grant gref entry) ≡ None → entry ≡ Sub dom ro frame off len → word ≡ first_body entry
      → Made k (StoreBody gref First word) observations.Nothing v w
      → IsIn c law k v caller (Grant gref entry) (StoringSecond gref entry) (StoreBody gref Second (second_body entry)) w
  stored-sub entry dom ro frame off len word w none is word_is made =
      stored entry (StoringSecond gref entry) (StoreBody gref Second (second_body entry)) word w none word_is made
      (sub-next c gref entry dom ro frame off len is) refl

  pub stored-other : (entry : Entry) (word : ℕ) (w : View) → begun c caller (Grant gref entry) ≡ None
      → ((dom : DomId) (ro : Bool) (frame off len : ℕ) → entry ≡ Sub dom ro frame off len → ⊥) → word ≡ first_body entry
      → Made k (StoreBody gref First word) observations.Nothing v w → Publishes entry w
  stored-other entry word w none other word_is made =
      stored entry (publishing c gref entry) (Exchange gref (idle_word c gref) (Publish entry)) word w none word_is made
      (other-next c gref entry other) refl

  -- and after the store of its second body word
  pub stored-second : (entry : Entry) (word : ℕ) (u w : View)
      → IsIn c law k v caller (Grant gref entry) (StoringSecond gref entry) (StoreBody gref Second (second_body entry)) u
      → word ≡ second_body entry → Made k (StoreBody gref Second word) observations.Nothing u w → Publishes entry w
  stored-second entry word u w g word_is made =
      further c law k v caller (Grant gref entry) (StoringSecond gref entry) (StoreBody gref Second (second_body entry)) observations.Nothing
      (publishing c gref entry) (Exchange gref (idle_word c gref) (Publish entry)) u w knows tt g
      (subst (λ (m : ℕ). Made k (StoreBody gref Second m) observations.Nothing u w) word_is made) refl refl

  -- it can make its stores
  pub can-store : (entry : Entry) (word : ℕ) → begun c caller (Grant gref entry) ≡ None → CanMake k v (StoreBody gref First word)
  can-store entry word none =
      can-only c law k v caller (Grant gref entry) (Storing gref entry) (StoreBody gref First (first_body entry)) knows tt none refl
      refl

  pub can-store-second : (entry : Entry) (word : ℕ) (u : View)
      → IsIn c law k v caller (Grant gref entry) (StoringSecond gref entry) (StoreBody gref Second (second_body entry)) u
      → CanMake k u (StoreBody gref Second word)
  can-store-second entry word u g =
      makes-next c k Nothing v u (call_in caller (Grant gref entry) (StoringSecond gref entry))
      (StoreBody gref Second (second_body entry)) knows tt g

  -- it can make its exchange, and ends by it
  pub can-publish : (entry : Entry) (looked : ℕ) (u : View) → looked ≡ idle_word c gref → Publishes entry u
      → CanMake k u (Exchange gref looked (Publish entry))
  can-publish entry looked u is g =
      subst (λ (n : ℕ). CanMake k u (Exchange gref n (Publish entry))) (sym is)
      (makes-next c k Nothing v u (call_in caller (Grant gref entry) (publishing c gref entry))
      (Exchange gref (idle_word c gref) (Publish entry)) knows tt g)

  pub publishes : (entry : Entry) (looked : ℕ) (result : Result (Unit {0}) Denial) (u w : View) → looked ≡ idle_word c gref
      → Publishes entry u → ChangesOnce k caller gref looked (Publish entry) result u w
      → ChangeEnds (Publish entry) (verdict_of result) (change_effect gref (Publish entry) result) w
  publishes entry looked result u w is g made =
      once (Publish entry) (idle_word c gref) result u w g
      (subst (λ (n : ℕ). ChangesOnce k caller gref n (Publish entry) result u w) is made)

  -- turns

  -- a change in turns before its look
  abbrev pub TurnsFrom : EntryChange → ℕ → View → Type 0
  TurnsFrom change more w =
      IsIn c law k v caller (asks_change gref change) (Looking gref change more) (LookControl caller gref) w

  -- and after it
  abbrev pub Turning : EntryChange → ℕ → ℕ → View → Type 0
  Turning change more word w =
      IsIn c law k v caller (asks_change gref change) (Changing gref change more word) (Exchange gref word change) w

  pub turns-start : (change : EntryChange) → IsInTurns change → begun c caller (asks_change gref change) ≡ None
      → TurnsFrom change MORE_TRIES v
  turns-start (Publish entry) is none = absurd is
  turns-start Revoke is none = absurd is
  turns-start Withdraw is none = starts c law k v caller (asks_change gref Withdraw) (Looking gref Withdraw MORE_TRIES) (LookControl caller gref) none refl refl
  turns-start Demote is none = starts c law k v caller (asks_change gref Demote) (Looking gref Demote MORE_TRIES) (LookControl caller gref) none refl refl
  turns-start Promote is none = starts c law k v caller (asks_change gref Promote) (Looking gref Promote MORE_TRIES) (LookControl caller gref) none refl refl

  pub turn-looked : (change : EntryChange) (more word : ℕ) (u w : View) → TurnsFrom change more u
      → Made k (LookControl caller gref) (Word word) u w → is_stopped change (control_of word) ≡ false
      → Turning change more word w
  turn-looked change more word u w g made on =
      further c law k v caller (asks_change gref change) (Looking gref change more) (LookControl caller gref) (Word word)
      (Changing gref change more word) (Exchange gref word change) u w knows (waits-not gref change) g made
      (ap (λ (b : Bool). if b then refused_as caller gref N19 word else Changing gref change more word) on) refl

  pub can-turn : (change : EntryChange) (more word : ℕ) (w : View) → Turning change more word w
      → CanMake k w (Exchange gref word change)
  can-turn change more word w g =
      makes-next c k Nothing v w (call_in caller (asks_change gref change) (Changing gref change more word))
      (Exchange gref word change) knows (waits-not gref change) g

  pub turn-stopped : (change : EntryChange) (more word : ℕ) (denial : Denial) (u w : View) → TurnsFrom change more u
      → Made k (LookControl caller gref) (Word word) u w → is_stopped change (control_of word) ≡ true
      → denial ≡ entry_refusal caller gref N19 word → ChangeEnds change (Refused denial) Nothing w
  turn-stopped change more word denial u w g made on is =
      let e = over c law k v caller (asks_change gref change) (Looking gref change more) (LookControl caller gref) (Word word)
      (Refused (entry_refusal caller gref N19 word)) u w knows (waits-not gref change) g made
      (ap (λ (b : Bool). if b then refused_as caller gref N19 word else Changing gref change more word) on) in
      (subst (λ (d : Denial). Called k (path c caller (asks_change gref change)) (Refused d) v w) (sym is) e.called, e.left)

  pub turn-taken : (change : EntryChange) (more word : ℕ) (u w : View) → Turning change more word u
      → Made k (Exchange gref word change) Taken u w → ChangeEnds change Granted (Changed gref change) w
  turn-taken change more word u w g made =
      let e = over c law k v caller (asks_change gref change) (Changing gref change more word) (Exchange gref word change)
      Taken Granted u w knows (waits-not gref change) g made refl in
      (e.called, e.left)

  pub turn-missed : (change : EntryChange) (more word found : ℕ) (u w : View) → Turning change more word u
      → Made k (Exchange gref word change) (Missed found) u w → (more ≡ 0 → ⊥) → TurnsFrom change (more - 1) w
  turn-missed change more word found u w g made some =
      let positive : 0 < more = omega (arith, some) in
      further c law k v caller (asks_change gref change) (Changing gref change more word) (Exchange gref word change)
      (Missed found) (Looking gref change (more - 1)) (LookControl caller gref) u w knows (waits-not gref change) g made
      (ap (λ (b : Bool). if b then Looking gref change (more - 1) else refused_as caller gref N18 found) (lt-ltb _ _ positive))
      refl

  pub turn-given-up : (change : EntryChange) (more word found : ℕ) (denial : Denial) (u w : View) → Turning change more word u
      → Made k (Exchange gref word change) (Missed found) u w → more ≡ 0 → denial ≡ entry_refusal caller gref N18 found
      → ChangeEnds change (Refused denial) Nothing w
  turn-given-up change more word found denial u w g made none is =
      let e = over c law k v caller (asks_change gref change) (Changing gref change more word) (Exchange gref word change)
      (Missed found) (Refused (entry_refusal caller gref N18 found)) u w knows (waits-not gref change) g made
      (ap (λ (n : ℕ). after_own_miss caller gref change n found) none) in
      (subst (λ (d : Denial). Called k (path c caller (asks_change gref change)) (Refused d) v w) (sym is) e.called, e.left)
