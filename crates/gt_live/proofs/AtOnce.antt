-- Calls of an owner, and questions, that are answered at their beginning.
use Rattle.std.proofs.Common.{◌≡◌, ◌∙◌, ℕ, List, refl, sym, ap, subst, [], Option, Some, None}
use Rattle.std.specs.Prelude.{Result, Ok, Err, IfOk, IfErr}
use Rattle.gt_types.specs.declared.DomId.{DomId}
use Rattle.gt_types.specs.declared.GrantRef.{GrantRef}
use Rattle.gt_types.specs.declared.denial.Denial.{Denial}
use Rattle.gt_model.specs.declared.change.EntryChange.{EntryChange}
use Rattle.gt_model.specs.declared.change.EntryChange.TheVariants.{Publish, Revoke, Withdraw, Demote, Promote}
use Rattle.gt_model.specs.declared.entry.Entry.{Entry}
use Rattle.gt_model.specs.declared.header.Header.{Header}
use Rattle.gt_word_history.specs.Rule.{Layout}
use Rattle.gt_word_history.specs.declared.view.View.{View}
use Rattle.gt_calls.specs.Asking.{JudgesBytes}
use Rattle.gt_model.specs.Asking.{asked, begun_of, bytes_begun, entry_spelled}
use Rattle.gt_model.specs.Path.{after_beginning, idle_word, path, path_of, steps_of}
use Rattle.gt_model.specs.Rules.{CallerKnowledge, begun, control_with, grant_begun, query_begun}
use Rattle.gt_model.specs.Words.{control_word}
use Rattle.gt_model.specs.declared.action.CallResult.{CallResult}
use Rattle.gt_model.specs.declared.action.CallResult.TheVariants.{Given, Granted, Mapped, Refused}
use Rattle.gt_model.specs.declared.action.HeaderQuery.{HeaderQuery}
use Rattle.gt_model.specs.declared.action.HeaderQuery.TheVariants.{Size, Version}
use Rattle.gt_calls.specs.declared.known.OwnerEntry.{OwnerEntry}
use Rattle.gt_model.specs.declared.request.OpenRequest.TheVariants as asks
use Rattle.gt_model.specs.declared.request.Request.{Request}
use Rattle.gt_model.specs.declared.request.Request.TheVariants as requests
use Rattle.gt_live.specs.Domains.{denial_in, done_by, frames_granted, verdict_of, verdict_of_frames}
use Rattle.gt_live.specs.Ending.{IsAtOnce, IsWordless, WaitsForNobody}
use Rattle.gt_live.specs.Questions.{asks_question}
use Rattle.gt_live.specs.Owning.{IsRowOf, asks_change}
use Rattle.gt_live.specs.Walks.{Called}
use Rattle.gt_live.proofs.Accessing.{IsPlainly, refused-called, refuses}
use Rattle.gt_live.proofs.AnsweredAtOnce.{answered-once}
use Rattle.gt_live.proofs.Knowing.{IsPlain, at-once-answer, done-back, frames-back, once-tells}

-- a call that is answered at its beginning makes no step
pub once-called : (k : Layout) (c : CallerKnowledge) (caller : DomId) (request : Request) (verdict : CallResult) (v : View)
    → WaitsForNobody (asked request) → begun_of c caller request ≡ Some verdict
    → Called k (path_of c caller request) verdict v v
once-called k c caller request verdict v waits e = record {
  steps = [];
  view = refl;
  walked = tt;
  moments = tt;
  answered = ap (λ (o : Option CallResult). after_beginning o (steps_of c caller (asked request)) []) e;
  carried = once-tells k v (asked request) verdict (answered-once c caller request verdict waits e);
}

-- the same of one that is answered without a value, and of one that is answered how many frames a table has
pub once-done : (k : Layout) (c : CallerKnowledge) (caller : DomId) (request : Request) (verdict : CallResult) (v : View)
    → WaitsForNobody (asked request) → IsPlain (asked request) → begun_of c caller request ≡ Some verdict
    → Called k (path_of c caller request) (verdict_of (done_by verdict)) v v
once-done k c caller request verdict v waits plain e =
    subst (λ (x : CallResult). Called k (path_of c caller request) x v v)
    (done-back (asked request) verdict plain
    (at-once-answer (asked request) verdict (answered-once c caller request verdict waits e)))
    (once-called k c caller request verdict v waits e)

pub once-framed : (k : Layout) (c : CallerKnowledge) (caller : DomId) (n : ℕ) (verdict : CallResult) (v : View)
    → begun c caller (asks.SetupTable n) ≡ Some verdict
    → Called k (path c caller (asks.SetupTable n)) (verdict_of_frames (frames_granted verdict)) v v
once-framed k c caller n verdict v e =
    subst (λ (x : CallResult). Called k (path c caller (asks.SetupTable n)) x v v)
    (frames-back n verdict
    (at-once-answer (asks.SetupTable n) verdict (answered-once c caller (requests.SetupTable n) verdict tt e)))
    (once-called k c caller (requests.SetupTable n) verdict v tt e)

-- a question is refused at its beginning, if it is answered there
question-refused : (c : CallerKnowledge) (caller dom : DomId) (verdict : CallResult) → query_begun c caller dom ≡ Some verdict
    → IsPlainly verdict
question-refused c caller dom verdict e = by verdict (answered-once c caller (requests.QuerySize dom) verdict tt e)
  where
    by : (x : CallResult) → IsAtOnce (asks.QuerySize dom) x
        → (denial : Denial) × (x ≡ Refused denial) × IsWordless denial.facts
    by (Refused denial) at = (denial, refl, at)
    by Granted at = absurd at
    by (Given value) at = absurd at
    by (Mapped p) at = absurd at

pub once-asked : (k : Layout) (c : CallerKnowledge) (caller dom : DomId) (verdict : CallResult) (denial : Denial) (v : View)
    → query_begun c caller dom ≡ Some verdict → denial ≡ denial_in verdict → (question : HeaderQuery)
    → Called k (path c caller (asks_question dom question)) (Refused denial) v v
once-asked k c caller dom verdict denial v e said Size =
    refused-called k c caller (requests.QuerySize dom) denial v
    (refuses c caller (requests.QuerySize dom) verdict denial (question-refused c caller dom verdict e) e said)
once-asked k c caller dom verdict denial v e said Version =
    refused-called k c caller (requests.GetVersion dom) denial v
    (refuses c caller (requests.GetVersion dom) verdict denial (question-refused c caller dom verdict e) e said)

-- a change that is answered at its beginning
at-once : (c : CallerKnowledge) (caller : DomId) (gref : GrantRef) (change : EntryChange) (verdict : CallResult) → begun c caller (asks_change gref change) ≡ Some verdict
    → IsAtOnce (asks_change gref change) verdict
at-once c caller gref (Publish entry) verdict e = answered-once c caller (requests.Grant gref entry) verdict tt e
at-once c caller gref Revoke verdict e = answered-once c caller (requests.Revoke gref) verdict tt e
at-once c caller gref Withdraw verdict e = answered-once c caller (requests.Withdraw gref) verdict tt e
at-once c caller gref Demote verdict e = answered-once c caller (requests.Demote gref) verdict tt e
at-once c caller gref Promote verdict e = answered-once c caller (requests.Promote gref) verdict tt e

plain : (gref : GrantRef) (change : EntryChange) → IsPlain (asks_change gref change)
plain gref (Publish entry) = tt
plain gref Revoke = tt
plain gref Withdraw = tt
plain gref Demote = tt
plain gref Promote = tt

pub begun-called : (k : Layout) (c : CallerKnowledge) (caller : DomId) (gref : GrantRef) (change : EntryChange) (verdict : CallResult) (v : View) → begun c caller (asks_change gref change) ≡ Some verdict
    → Called k (path c caller (asks_change gref change)) (verdict_of (done_by verdict)) v v
begun-called k c caller gref change verdict v e =
    let r = asks_change gref change in let once = at-once c caller gref change verdict e in
    let called : Called k (path c caller r) verdict v v =
    record {
      steps = [];
      view = refl;
      walked = tt;
      moments = tt;
      answered = ap (λ (o : Option CallResult). after_beginning o (steps_of c caller r) []) e;
      carried = once-tells k v r verdict once;
    } in
    subst (λ (x : CallResult). Called k (path c caller r) x v v) (done-back r verdict (plain gref change) (at-once-answer r verdict once)) called

-- the owner's word of an entry, by its row
pub idle-by : (c : CallerKnowledge) (gref : GrantRef) (own : OwnerEntry) (word : ℕ) → IsRowOf c gref own
    → word ≡ control_word (control_with own.entry own.generation 0 0) → word ≡ idle_word c gref
idle-by c gref own word row is =
    is ∙ (ap (λ (e : Entry). control_word (control_with e own.generation 0 0)) row.entry
    ∙ ap (λ (n : ℕ). control_word (control_with (c.entry gref.0) n 0 0)) row.generation)

-- a grant by bytes, by the row of its entry

same-bytes : (c : CallerKnowledge) (header : Header) (own : OwnerEntry) (gref : GrantRef) (xs : List ℕ) → header ≡ c.header
    → IsRowOf c gref own
    → bytes_begun header own.entry own.generation gref.0 xs
    ≡ bytes_begun c.header (c.entry gref.0) (c.generation gref.0) gref.0 xs
same-bytes c header own gref xs is row =
    ap (λ (h : Header). bytes_begun h own.entry own.generation gref.0 xs) is
    ∙ (ap (λ (e : Entry). bytes_begun c.header e own.generation gref.0 xs) row.entry
    ∙ ap (λ (n : ℕ). bytes_begun c.header (c.entry gref.0) n gref.0 xs) row.generation)

same-grant : (c : CallerKnowledge) (header : Header) (own : OwnerEntry) (gref : GrantRef) (entry : Entry) → header ≡ c.header
    → IsRowOf c gref own
    → grant_begun header own.entry own.generation gref.0 entry
    ≡ grant_begun c.header (c.entry gref.0) (c.generation gref.0) gref.0 entry
same-grant c header own gref entry is row =
    ap (λ (h : Header). grant_begun h own.entry own.generation gref.0 entry) is
    ∙ (ap (λ (e : Entry). grant_begun c.header e own.generation gref.0 entry) row.entry
    ∙ ap (λ (n : ℕ). grant_begun c.header (c.entry gref.0) n gref.0 entry) row.generation)

pub bytes-refused : (c : CallerKnowledge) (header : Header) (own : OwnerEntry) (gref : GrantRef) (xs : List ℕ)
    (r : Result Entry Denial) → header ≡ c.header → IsRowOf c gref own
    → JudgesBytes header (bytes_begun header own.entry own.generation gref.0 xs) xs r
    → IfErr r (λ denial. bytes_begun c.header (c.entry gref.0) (c.generation gref.0) gref.0 xs ≡ Some (Refused denial))
bytes-refused c header own gref xs (Ok entry) is row judged = tt
bytes-refused c header own gref xs (Err denial) is row judged = sym (same-bytes c header own gref xs is row) ∙ judged

pub bytes-open : (c : CallerKnowledge) (header : Header) (own : OwnerEntry) (gref : GrantRef) (xs : List ℕ)
    (r : Result Entry Denial) → header ≡ c.header → IsRowOf c gref own
    → JudgesBytes header (bytes_begun header own.entry own.generation gref.0 xs) xs r
    → IfOk r (λ entry. grant_begun header own.entry own.generation gref.0 entry ≡ None)
    → IfOk r (λ entry. (bytes_begun c.header (c.entry gref.0) (c.generation gref.0) gref.0 xs ≡ None)
    × (asks.Grant gref entry ≡ asks.Grant gref (entry_spelled xs))
    × (grant_begun c.header (c.entry gref.0) (c.generation gref.0) gref.0 entry ≡ None))
bytes-open c header own gref xs (Err denial) is row judged none = tt
bytes-open c header own gref xs (Ok entry) is row judged none = (
  sym (same-bytes c header own gref xs is row) ∙ judged.0,
  ap (λ (e : Entry). asks.Grant gref e) judged.1,
  sym (same-grant c header own gref entry is row) ∙ none,
)
