-- Calls of one access: how they are answered, and what lets a mapping through.
use Rattle.gt_live.proofs.Moments.{only-access}
use Rattle.std.proofs.Common.{◌≡◌, ℕ, true, refl, sym, ap, ◌∙◌, subst, List, [], ◌∷◌, Option, Some, None, inl, inr}
use Rattle.std.proofs.Common.{arith}
use Rattle.std.specs.Prelude.{IfErr, IfOk, OnErr, Result, Ok, Err}
use Rattle.std.proofs.lemmas.Bool.{eq-eqb}
use Rattle.std.proofs.lemmas.Bool.Decides.{nat_tests}
use Rattle.gt_types.specs.declared.DomId.{DomId}
use Rattle.gt_types.specs.declared.Dir.{Dir}
use Rattle.gt_types.specs.declared.Dir.TheVariants.{Read, Write}
use Rattle.gt_types.specs.declared.Use.{Use}
use Rattle.gt_types.specs.declared.Use.TheVariants as uses
use Rattle.gt_types.specs.declared.denial.Denial.{Denial}
use Rattle.gt_types.specs.declared.denial.Facts.{Facts}
use Rattle.gt_types.specs.declared.denial.Facts.TheVariants as facts
use Rattle.gt_types.specs.declared.config.DomainConfig.{DomainConfig}
use Rattle.gt_model.specs.declared.entry.Entry.{Entry}
use Rattle.gt_model.specs.declared.entry.Entry.TheVariants.{Invalid, Page, Sub, Via}
use Rattle.gt_model.specs.Entries.{frame_of}
use Rattle.gt_model.specs.Permits.{is_of_frame, permits}
use Rattle.gt_words.specs.Conditions.{Board, SeatOf}
use Rattle.gt_word_history.specs.Rule.{Layout}
use Rattle.gt_word_history.specs.History.{Moment}
use Rattle.gt_word_history.specs.declared.view.View.{View}
use Rattle.gt_live.specs.AccessPaths.{IsPinnedFor, ServesAccess}
use Rattle.gt_frames.specs.Receipts.{Writing}
use Rattle.gt_model.specs.declared.action.Observation.TheVariants.{Nothing}
use Rattle.gt_model.specs.declared.action.Step.{Step}
use Rattle.gt_model.specs.declared.action.Step.TheVariants as call_steps
use Rattle.gt_model.specs.declared.action.CallResult.{CallResult}
use Rattle.gt_model.specs.declared.action.CallResult.TheVariants.{Granted, Refused}
use Rattle.gt_model.specs.declared.held.AccessPath.{AccessPath}
use Rattle.gt_model.specs.declared.held.HeldPin.{HeldPin}
use Rattle.gt_model.specs.declared.request.Request.{Request}
use Rattle.gt_model.specs.declared.handle.Handle.{Handle}
use Rattle.gt_model.specs.declared.request.OpenRequest.TheVariants as asks
use Rattle.gt_model.specs.Asking.{asked, begun_of, bytes_given_by}
use Rattle.gt_calls.specs.Opening.{opens}
use Rattle.gt_model.specs.Path.{Continuation, after_beginning, by_mapping, ended, makes, path_of, steps_of}
use Rattle.gt_model.specs.Rules.{CallerKnowledge, begun}
use Rattle.gt_live.specs.Accesses.{EndsAfterAccess, AnsweredAtAccess, ComesTo, HasCause, IsAccess, IsOfAccess}
use Rattle.gt_live.specs.Accesses.{IsOfMissing}
use Rattle.gt_live.specs.Accesses.{IsUnmade, IsWrittenBy, NamesAccessPath, WritesFrame, frame_named, onward}
use Rattle.gt_live.specs.Domains.{IsRefused, IsRefusedWithoutMemory, AllowRelation, denial_in}
use Rattle.gt_live.specs.Prelude.{Domain, Monitor}
use Rattle.gt_live.specs.Ending.{IsAccessing, IsWordless}
use Rattle.gt_live.specs.Mappings.{IsMappingOf, ReachesItsFrame}
use Rattle.gt_live.specs.Walks.{Called, CarriesFound}
use Rattle.gt_live.proofs.AnsweredAtOnce.{refused-once}

-- what permits a mapping permits it any range
any-range : (e : Entry) (d : DomId) (dir : Dir) (off len : ℕ) → permits e d dir uses.Map 0 0 ≡ true → permits e d dir uses.Map off len ≡ true
any-range Invalid d dir off len is = is
any-range (Page dom ro frame) d dir off len is = is
any-range (Via dom ro dom2 gref) d dir off len is = is
any-range (Sub dom ro frame start size) d dir off len is = grind (arith, nat_tests)

-- what permits writing permits reading
to-read : (e : Entry) (d : DomId) (dir : Dir) (off len : ℕ) → permits e d dir uses.Map off len ≡ true → permits e d Read uses.Map off len ≡ true
to-read e d Read off len is = is
to-read Invalid d Write off len is = is
to-read (Page dom ro frame) d Write off len is = grind (arith, nat_tests)
to-read (Via dom ro dom2 gref) d Write off len is = is
to-read (Sub dom ro frame start size) d Write off len is = grind (arith, nat_tests)

-- what permits anybody is of its frame
pub of-its-frame : (e : Entry) (d : DomId) (dir : Dir) (purpose : Use) (off len : ℕ) → permits e d dir purpose off len ≡ true → is_of_frame e (frame_of e) ≡ true
of-its-frame Invalid d dir purpose off len is = cc
of-its-frame (Page dom ro frame) d dir purpose off len is = eq-eqb frame frame refl
of-its-frame (Sub dom ro frame start size) d dir purpose off len is = eq-eqb frame frame refl
of-its-frame (Via dom ro dom2 gref) d dir purpose off len is = cc

serving : (e : Entry) (d : DomId) (dir own : Dir) (off len : ℕ) → (dir ≡ Write → own ≡ Write) → permits e d own uses.Map off len ≡ true → permits e d dir uses.Map off len ≡ true
serving e d Read own off len so is = to-read e d own off len is
serving e d Write own off len so is = subst (λ (x : Dir). permits e d x uses.Map off len ≡ true) (so refl) is

pub serves : (p : HeldPin) (dir : Dir) → (dir ≡ Write → p.dir ≡ Write) → ServesAccess dir p
serves p Read so = tt
serves p Write so = so refl

-- a mapping reaches any range of its frame, to write where its pin is a write pin
pub reaches-mapped : (k : Layout) (ds : List DomainConfig) (may : AllowRelation) (s : SeatOf) (p : HeldPin) (dir : Dir) (number off len : ℕ) → IsMappingOf k ds may s.dom s.view p → (dir ≡ Write → p.dir ≡ Write) → number ≡ frame_of p.entry
    → IsPinnedFor k s s.dom dir uses.Map (frame_named p.dom number) off len p
reaches-mapped k ds may s p dir number off len is so frame =
    let some = any-range p.entry s.dom p.dir off len is.permitted in
    record {
      pin = is.pin;
      serves = serves p dir so;
      owner_is = refl;
      of_frame = ap (λ (n : ℕ). is_of_frame p.entry n) frame ∙ of-its-frame p.entry s.dom p.dir uses.Map off len some;
      permitted = serving p.entry s.dom dir p.dir off len so some;
    }

pub reaches-its-frame : (k : Layout) (ds : List DomainConfig) (may : AllowRelation) (s : SeatOf) (p : HeldPin) → IsMappingOf k ds may s.dom s.view p → ReachesItsFrame k s p
reaches-its-frame k ds may s p is = record {
  reads = λ (off len : ℕ). reaches-mapped k ds may s p Read (frame_of p.entry) off len is (λ (e : Read ≡ Write). cc) refl;
  writes = λ (writes : p.dir ≡ Write) (off len : ℕ). reaches-mapped k ds may s p Write (frame_of p.entry) off len is (λ (e : Write ≡ Write). writes) refl;
}

-- a refusal without a word tells none
pub wordless-found : (k : Layout) (v : View) (steps : List Moment) (f : Facts) → IsWordless f → CarriesFound k v steps f
wordless-found k v steps (facts.Entry dom gref word) is = absurd is
wordless-found k v steps (facts.Header dom word) is = absurd is
wordless-found k v steps facts.None is = tt
wordless-found k v steps (facts.Policy source target perm) is = tt
wordless-found k v steps (facts.Field field) is = tt

pub none-left : {A : Type 0} (o : Option A) → ((a : A) → o ≡ Some a → ⊥) → o ≡ None
none-left None not = refl
none-left (Some a) not = absurd (not a refl)

-- a refusal at the beginning, which carries no word
abbrev pub IsPlainly : CallResult → Type 0
IsPlainly verdict = (denial : Denial) × (verdict ≡ Refused denial) × IsWordless denial.facts

pub refuses : (c : CallerKnowledge) (caller : DomId) (request : Request) (verdict : CallResult) (denial : Denial)
    → IsPlainly verdict → begun_of c caller request ≡ Some verdict → denial ≡ denial_in verdict
    → IsRefused c caller request denial
refuses c caller request verdict denial is e said =
    let here : IsRefused c caller request is.0 =
    record { answered = e ∙ ap (λ (v : CallResult). Some v) is.1; wordless = is.2 } in
    let same : denial ≡ is.0 = said ∙ ap (λ (v : CallResult). denial_in v) is.1 in
    subst (λ (x : Denial). IsRefused c caller request x) (sym same) here

-- a call that is refused at its beginning
pub refused-called : (k : Layout) (c : CallerKnowledge) (caller : DomId) (request : Request) (denial : Denial) (v : View)
    → IsRefused c caller request denial → Called k (path_of c caller request) (Refused denial) v v
refused-called k c caller request denial v is = record {
  steps = [];
  view = refl;
  walked = tt;
  moments = tt;
  answered = ap (λ (o : Option CallResult). after_beginning o (steps_of c caller (asked request)) []) is.answered;
  carried = wordless-found k v [] denial.facts is.wordless;
}

pub refused-first : {R : Type 0} (b : Board) (c : CallerKnowledge) (caller : DomId) (request : Request)
    (tells : Step → R → View → View → Type 0) (denial : Denial) (v : View) → IsRefused c caller request denial
    → AnsweredAtAccess b (path_of c caller request) tells (Err denial) v v
refused-first b c caller request tells denial v is = inl (refused-called b.layout c caller request denial v is)

-- the refusal at the beginning of a call with an access
pub refused-plainly : (c : CallerKnowledge) (caller : DomId) (request : Request) (verdict : CallResult) (denial : Denial)
    → IsAccessing (asked request) → begun_of c caller request ≡ Some verdict → denial ≡ denial_in verdict
    → IsRefused c caller request denial
refused-plainly c caller request verdict denial is e said =
    refuses c caller request verdict denial (refused-once c caller request verdict is e) e said

-- a call with an access that is refused at its beginning, by the verdict there
pub refused-begun : (k : Layout) (c : CallerKnowledge) (caller : DomId) (request : Request) (verdict : CallResult)
    (denial : Denial) (v : View) → IsAccessing (asked request) → begun_of c caller request ≡ Some verdict
    → denial ≡ denial_in verdict → Called k (path_of c caller request) (Refused denial) v v
refused-begun k c caller request verdict denial v is e said =
    refused-called k c caller request denial v (refused-plainly c caller request verdict denial is e said)

-- the same of a call with an access, by the verdict at its beginning
pub refused-access : {R : Type 0} (b : Board) (c : CallerKnowledge) (caller : DomId) (request : Request)
    (tells : Step → R → View → View → Type 0) (verdict : CallResult) (denial : Denial) (v : View) → IsAccessing (asked request)
    → begun_of c caller request ≡ Some verdict → denial ≡ denial_in verdict
    → AnsweredAtAccess b (path_of c caller request) tells (Err denial) v v
refused-access b c caller request tells verdict denial v is e said =
    refused-first b c caller request tells denial v (refused-plainly c caller request verdict denial is e said)

-- the refusal of a call that allocates nothing, and whose frame the table does not keep
pub missing-access : {R : Type 0} (result : Result R Denial) → IfErr result IsOfMissing → IfErr result IsOfAccess
missing-access (Ok r) is = tt
missing-access (Err denial) is = inr is

pub missing-plainly : {P R : Type 0} (may : P → AllowRelation) (m : Monitor P) (d : Domain) (request : Request)
    (result : Result R Denial) → IfErr result IsOfMissing → IfErr result (IsRefusedWithoutMemory may m d request)
missing-plainly may m d request (Ok r) is = tt
missing-plainly may m d request (Err denial) is = inr is

-- a call of one access
whole : (k : Layout) (way : Continuation) (access : Step) (does : View → View → Type 0) (v w : View) → IsAccess access → way ≡ makes access (ended Granted) → does v w → EndsAfterAccess k way access does v w
whole k way access does v w is e did =
    let comes : ComesTo k way access v v = record { steps = []; view = refl; walked = tt; moments = tt; next = ap (λ (w : Continuation). w []) e; is_access = is } in
    let ends : Called k (onward way (Nothing ∷ [])) Granted w w = record { steps = []; view = refl; walked = tt; moments = tt; answered = ap (λ (w : Continuation). w (Nothing ∷ [])) e; carried = tt } in
    record { at = v; after = w; comes = comes; did = did; ends = ends; only = only-access k way access v v w w comes ends }

pub one-access : {R : Type 0} (b : Board) (way : Continuation) (access : Step) (tells : Step → R → View → View → Type 0) (result : Result R Denial) (v w : View) → IsAccess access → way ≡ makes access (ended Granted)
    → IfOk result (λ (r : R). tells access r v w) → OnErr result (w ≡ v) → IfErr result IsOfAccess → IfErr result (HasCause b access)
    → AnsweredAtAccess b way tells result v w
one-access b way access tells (Ok r) v w is e ok same err cause = (access, whole b.layout way access (tells access r) v w is e ok)
one-access b way access tells (Err denial) v w is e ok same err cause = inr (access, whole b.layout way access IsUnmade v w is e same, err, cause)

-- a write by the access path that its request names
pub named-access_path : (k : Layout) (d : Domain) (request : Request) (dom : DomId) (frame off len : ℕ) (access_path : AccessPath) (result : Result Writing Denial) (v w : View) → NamesAccessPath d request access_path
    → IfOk result (λ (r : Writing). WritesFrame k (frame_named dom frame) off (bytes_given_by request) d.seat.dom access_path r v w) → IfOk result (λ (r : Writing). IsWrittenBy k d request (call_steps.Write dom frame off len) r v w)
named-access_path k d request dom frame off len access_path (Ok r) v w named written = (access_path, named, written)
named-access_path k d request dom frame off len access_path (Err denial) v w named written = tt

-- the way of a call through a mapping
pub mapped-way : (k : CallerKnowledge) (caller : DomId) (request : Request) (handle : Handle) (p : HeldPin) (step : HeldPin → Step) → begun_of k caller request ≡ None → k.mapping handle ≡ Some p
    → steps_of k caller (asked request) ≡ by_mapping (k.mapping handle) step → path_of k caller request ≡ makes (step p) (ended Granted)
mapped-way k caller request handle p step none there is =
    ap (λ (o : Option CallResult). after_beginning o (steps_of k caller (asked request))) none ∙ (is ∙ ap (λ (o : Option HeldPin). by_mapping o step) there)

-- and of one to a frame of the caller's own
pub own-way : (k : CallerKnowledge) (caller : DomId) (request : Request) (access : Step) → begun_of k caller request ≡ None
    → steps_of k caller (asked request) ≡ makes access (ended Granted) → path_of k caller request ≡ makes access (ended Granted)
own-way k caller request access none is = ap (λ (o : Option CallResult). after_beginning o (steps_of k caller (asked request))) none ∙ is

-- a store goes through a mapping that lets write
pub writes-by : (k : CallerKnowledge) (caller : DomId) (handle : Handle) (off len : ℕ) (p : HeldPin) → begun k caller (asks.Store handle off len) ≡ None → k.mapping handle ≡ Some p → p.dir ≡ Write
writes-by k caller handle off len p none there =
    let o = opens k caller (asks.Store handle off len) none in let both : Some o.mapping ≡ Some p = sym o.found ∙ there in let same : o.mapping ≡ p = cc in
    sym (ap (λ (x : HeldPin). x.dir) same) ∙ o.writable
