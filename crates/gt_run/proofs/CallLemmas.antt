-- What the call of a line comes to.
use Rattle.std.proofs.Common.{◌≡◌, ◌++◌, ℕ, ◌+◌, ◌-◌, ◌^◌, Bool, true, false, List, [], ◌∷◌, length, map, min, Option}
use Rattle.std.proofs.Common.{None, Some, Result, Ok, Err, IfOk, refl, sym, subst, ap, ◌∙◌, inl, inr, arith}
use Rattle.std.specs.Prelude.{is_some, slice_get}
use Rattle.std.proofs.lemmas.Grind.{flat_map-append}
use Rattle.std.proofs.lemmas.List.{append-nil, map-append}
use Rattle.std.proofs.lemmas.List.Sums.{sum_by-append}
use Rattle.std.proofs.lemmas.Option.{slice_get_past}
use Rattle.gt_audit.specs.Trails.{TrailState, AppendsRecord, AppendsNumbered}
use Rattle.gt_audit.specs.declared.record.Record.{Record}
use Rattle.gt_model.specs.declared.request.Request.{Request}
use Rattle.gt_model.specs.declared.request.Request.TheVariants as requests
use Rattle.gt_model.specs.declared.trace.Answer.{Answer}
use Rattle.gt_script_runs.specs.Printing.{answer_line}
use Rattle.gt_script_runs.specs.Runs.{handle_given, label_given, with_name}
use Rattle.gt_script_runs.specs.declared.labels.Labels.{Labels}
use Rattle.gt_script_lines.specs.declared.calls.ScriptCall.{ScriptCall}
use Rattle.gt_live.specs.Domains.{AllowRelation}
use Rattle.gt_live.specs.declared.domain.Domain.{Domain}
use Rattle.gt_live.specs.declared.monitor.Monitor.{Monitor}
use Rattle.gt_types.specs.declared.DomId.{DomId}
use Rattle.gt_run.specs.Asking.{AnswersCall, Asks}
use Rattle.gt_types.specs.declared.GrantRef.{GrantRef}
use Rattle.gt_model.specs.declared.entry.Entry.{Entry}
use Rattle.gt_script_lines.specs.declared.calls.ScriptCall.TheVariants as script_calls
use Rattle.gt_run.specs.Serving.{ServesCall, FitsEntry, LogsOutcomes, MakesScriptCall, ListOutcome, Records}
use Rattle.gt_run.specs.Serving.{answer_lines, counted}
use Rattle.gt_run.specs.Serving.{is_logged, lost_in, record_made, logged_records}
use Rattle.gt_run.specs.Logging.{LogsNext, LogsTrail}
use Rattle.gt_run.specs.declared.lists.ThreadJob.{ThreadJob}
use Rattle.gt_run.specs.declared.logging.TrailLogger.{TrailLogger}

-- the trail has the record that a call makes, or counts it as lost; where it makes none, the trail is as it was
abbrev AddsRecord : Option Record → TrailState → TrailState → Type 0
AddsRecord None old new = new ≡ old
AddsRecord (Some r) old new = AppendsRecord old r new

adds : (d e : Domain) (request : Request) (answer recorded : Answer) → answer ≡ recorded
    → AddsRecord (record_made d.seat.dom d request recorded) d.trail e.trail → AddsRecord (record_made d.seat.dom d request answer) d.trail e.trail
adds d e request answer recorded is a = subst (λ (x : Answer). AddsRecord (record_made d.seat.dom d request x) d.trail e.trail) (sym is) a

-- the record that a call adds is that of what was asked and answered
adds_record : {P : Type 0} (may : P → AllowRelation) (m : Monitor P) (d : Domain) (request : Request) (answer : Answer) (e : Domain) → AnswersCall may m d request answer e
    → AddsRecord (record_made d.seat.dom d request answer) d.trail e.trail
adds_record may m d (requests.Map dom gref flags) answer e (Ok handle, is, answered, recorded) = adds d e (requests.Map dom gref flags) answer _ is recorded
adds_record may m d (requests.Map dom gref flags) answer e (Err denial, is, answered, recorded) = adds d e (requests.Map dom gref flags) answer _ is recorded
adds_record may m d (requests.Unmap handle) answer e (Ok done, is, answered, removed, refused, recorded) = adds d e (requests.Unmap handle) answer _ is recorded
adds_record may m d (requests.Unmap handle) answer e (Err denial, is, answered, removed, refused, recorded) = adds d e (requests.Unmap handle) answer _ is recorded
adds_record may m d (requests.Release handle) answer e (r, is, answered, removed, refused, silent) = silent
adds_record may m d (requests.SetVersion version) answer e (Ok done, is, (answered, kept, recorded)) = adds d e (requests.SetVersion version) answer _ is recorded
adds_record may m d (requests.SetVersion version) answer e (Err denial, is, (answered, kept, recorded)) = adds d e (requests.SetVersion version) answer _ is recorded
adds_record may m d (requests.SetupTable frames) answer e (Ok given, is, (answered, kept, recorded)) = adds d e (requests.SetupTable frames) answer _ is recorded
adds_record may m d (requests.SetupTable frames) answer e (Err denial, is, (answered, kept, recorded)) = adds d e (requests.SetupTable frames) answer _ is recorded
adds_record may m d (requests.QuerySize dom) answer e (Ok size, is, (answered, kept, recorded)) = adds d e (requests.QuerySize dom) answer _ is recorded
adds_record may m d (requests.QuerySize dom) answer e (Err denial, is, (answered, kept, recorded)) = adds d e (requests.QuerySize dom) answer _ is recorded
adds_record may m d (requests.GetVersion dom) answer e (Ok version, is, (answered, kept, recorded)) = adds d e (requests.GetVersion dom) answer _ is recorded
adds_record may m d (requests.GetVersion dom) answer e (Err denial, is, (answered, kept, recorded)) = adds d e (requests.GetVersion dom) answer _ is recorded
adds_record may m d (requests.Load handle off len) answer e (r, is, (accessed, kept, silent)) = silent
adds_record may m d (requests.Peek frame off len) answer e (r, is, (accessed, kept, silent)) = silent
adds_record may m d (requests.Store handle off bytes) answer e (r, is, (accessed, kept, silent)) = silent
adds_record may m d (requests.Poke frame off bytes) answer e (r, is, (accessed, kept, silent)) = silent
adds_record may m d (requests.Copy args) answer e (Ok copied, is, accessed, kept, recorded) = adds d e (requests.Copy args) answer _ is recorded
adds_record may m d (requests.Copy args) answer e (Err denial, is, accessed, kept, recorded) = adds d e (requests.Copy args) answer _ is recorded
adds_record may m d (requests.Grant gref entry) answer e (r, is, (answered, kept, silent)) = silent
adds_record may m d (requests.Probe args) answer e (r, is, (answered, kept, silent)) = silent
adds_record may m d (requests.GrantBytes gref bytes) answer e (r, is, (answered, kept, silent)) = silent
adds_record may m d (requests.Revoke gref) answer e (r, is, (answered, kept, silent)) = silent
adds_record may m d (requests.Withdraw gref) answer e (r, is, (answered, kept, silent)) = silent
adds_record may m d (requests.Demote gref) answer e (r, is, (answered, kept, silent)) = silent
adds_record may m d (requests.Promote gref) answer e (r, is, (answered, kept, silent)) = silent

-- counts

one_more : (most a b s : ℕ) → min (a + b) most ≡ min s most → min (min (a + 1) most + b) most ≡ min (s + 1) most
one_more most a b s e = omega (arith, e)

one_more_pushed : (most a b s : ℕ) → min (a + b) most ≡ min s most → min (a + min (b + 1) most) most ≡ min (s + 1) most
one_more_pushed most a b s e = omega (arith, e)

-- one outcome more
told_behind : (os : List ListOutcome) (o : ListOutcome) → logged_records (os ++ o ∷ []) ≡ logged_records os ++ o.recorded
told_behind os o = flat_map-append (λ (x : ListOutcome). x.recorded) os (o ∷ []) ∙ ap (λ (l : List Record). logged_records os ++ l) (append-nil o.recorded)

lost_behind : (os : List ListOutcome) (o : ListOutcome) → lost_in (os ++ o ∷ []) ≡ lost_in os + o.lost
lost_behind os o = sum_by-append (λ (x : ListOutcome). x.lost) os (o ∷ []) ∙ ap (λ (n : ℕ). lost_in os + n) (omega arith)

lines_behind : (names : List (List ℕ)) (dom : DomId) (os : List ListOutcome) (o : ListOutcome) → answer_lines names dom (os ++ o ∷ []) ≡ answer_lines names dom os ++ answer_line names o.line dom o.answer
lines_behind names dom os o =
    flat_map-append (λ (x : ListOutcome). answer_line names x.line dom x.answer) os (o ∷ []) ∙ ap (λ (l : List ℕ). answer_lines names dom os ++ l) (append-nil (answer_line names o.line dom o.answer))

-- the records behind those that were pushed
next_read : (records : List Record) (r : Record) → slice_get (records ++ r ∷ []) (length records) ≡ Some r
next_read [] r = refl
next_read (x ∷ records) r = next_read records r

none_next : (old new : List Record) (next : ℕ) → next ≡ length old → new ≡ old → slice_get new next ≡ None
none_next old new next n same = slice_get_past new next (omega (arith, n, ap length same))

-- what a call adds to what was pushed, and to what was lost
record Added (logged : Bool) (made : Option Record) (trail : TrailState) (logger : Option TrailLogger) (outcomes : List ListOutcome) : Type 0 where
  recorded : List Record
  lost : ℕ
  records : Records logged made recorded lost
  asked : is_some logger ≡ logged
  kept : (line : ℕ) (answer : Answer) → LogsOutcomes trail logger (outcomes ++ record { line = line; answer = answer; recorded = recorded; lost = lost } ∷ [])

-- one outcome more, of a record that went so
pushed_more : (recorded : List (ℕ × Record)) (more : List (ℕ × Record)) (records : List Record) (os : List ListOutcome) (o : ListOutcome)
    → map (λ (e : ℕ × Record). e.1) recorded ≡ logged_records os → map (λ (e : ℕ × Record). e.1) more ≡ o.recorded → map (λ (e : ℕ × Record). e.1) (recorded ++ more) ≡ logged_records (os ++ o ∷ [])
pushed_more recorded more records os o e f = map-append (λ (x : ℕ × Record). x.1) recorded more ∙ cc (e, f, told_behind os o)

-- nothing was pushed, and nothing lost
quiet : (trail : TrailState) (t : TrailLogger) (os : List ListOutcome) (o : ListOutcome) → o.recorded ≡ [] → o.lost ≡ 0 → LogsOutcomes trail (Some t) os → LogsOutcomes trail (Some t) (os ++ o ∷ [])
quiet trail t os o none zero i = (
  i.0,
  i.1 ∙ sym (told_behind os o ∙ ap (λ (l : List Record). logged_records os ++ l) none ∙ append-nil (logged_records os)),
  i.2 ∙ sym (ap counted (lost_behind os o ∙ omega (arith, zero))),
)

-- there is a record more to push
tells_one : (old new : TrailState) (r : Record) (t u : TrailLogger) (os : List ListOutcome) → new.records ≡ old.records ++ r ∷ [] → new.lost ≡ old.lost → LogsOutcomes old (Some t) os
    → LogsNext (slice_get new.records t.next) (length new.records) t u → Added true (Some r) new (Some u) os
tells_one old new r t u os grew same i tells =
    let at : slice_get new.records t.next ≡ Some r =
    ap (λ (l : List Record). slice_get l t.next) grew ∙ ap (λ (n : ℕ). slice_get (old.records ++ r ∷ []) n) i.0 ∙ next_read old.records r in
    let recorded : AppendsNumbered t.log t.next r u.log × (u.next ≡ length new.records) = subst (λ (x : Option Record). LogsNext x (length new.records) t u) at tells in
    elim recorded.0.1 [
      | inl kept ↦ record {
        recorded = r ∷ [];
        lost = 0;
        records = inl (refl, refl);
        asked = refl;
        kept = λ line answer. (
          recorded.1,
          ap (map (λ (e : ℕ × Record). e.1)) kept.0 ∙ pushed_more t.log.recorded ((t.next, r) ∷ []) old.records os (record { line = line; answer = answer; recorded = r ∷ []; lost = 0 }) i.1 refl,
          ap counted (omega (arith, same, kept.1)) ∙ i.2 ∙ sym (ap counted (lost_behind os (record { line = line; answer = answer; recorded = r ∷ []; lost = 0 }) ∙ omega arith)),
        );
      }
      | inr lost ↦ record {
        recorded = [];
        lost = 1;
        records = inr (refl, refl);
        asked = refl;
        kept = λ line answer. (
          recorded.1,
          ap (map (λ (e : ℕ × Record). e.1)) lost.0 ∙ i.1 ∙ sym (told_behind os (record { line = line; answer = answer; recorded = []; lost = 1 }) ∙ append-nil (logged_records os)),
          ap counted (ap (λ (n : ℕ). n + u.log.lost) same ∙ ap (λ (n : ℕ). old.lost + n) lost.1) ∙ one_more_pushed (2 ^ 64 - 1) old.lost t.log.lost (lost_in os) i.2
              ∙ sym (ap counted (lost_behind os (record { line = line; answer = answer; recorded = []; lost = 1 }))),
        );
      }
    ]

-- the trail lost the record
tells_lost : (old new : TrailState) (r : Record) (t u : TrailLogger) (os : List ListOutcome) → new.records ≡ old.records → new.lost ≡ counted (old.lost + 1) → LogsOutcomes old (Some t) os
    → LogsNext (slice_get new.records t.next) (length new.records) t u → Added true (Some r) new (Some u) os
tells_lost old new r t u os same lost i tells =
    let u_is : u ≡ t = subst (λ (x : Option Record). LogsNext x (length new.records) t u) (none_next old.records new.records t.next i.0 same) tells in
    subst (λ (x : TrailLogger). Added true (Some r) new (Some x) os) (sym u_is) (record {
      recorded = [];
      lost = 1;
      records = inr (refl, refl);
      asked = refl;
      kept = λ line answer. (
        i.0 ∙ sym (ap length same),
        i.1 ∙ sym (told_behind os (record { line = line; answer = answer; recorded = []; lost = 1 }) ∙ append-nil (logged_records os)),
        ap counted (ap (λ (n : ℕ). n + t.log.lost) lost) ∙ one_more (2 ^ 64 - 1) old.lost t.log.lost (lost_in os) i.2
            ∙ sym (ap counted (lost_behind os (record { line = line; answer = answer; recorded = []; lost = 1 }))),
      );
    })

-- the call made no record
tells_none : (old new : TrailState) (t u : TrailLogger) (os : List ListOutcome) → new ≡ old → LogsOutcomes old (Some t) os
    → LogsNext (slice_get new.records t.next) (length new.records) t u → Added true None new (Some u) os
tells_none old new t u os same i tells =
    let u_is : u ≡ t = subst (λ (x : Option Record). LogsNext x (length new.records) t u)
    (none_next old.records new.records t.next i.0 (ap (λ (x : TrailState). x.records) same)) tells in
    subst (λ (x : TrailLogger). Added true None new (Some x) os) (sym u_is) (record {
      recorded = [];
      lost = 0;
      records = (refl, refl);
      asked = refl;
      kept = λ line answer. quiet new t os (record { line = line; answer = answer; recorded = []; lost = 0 }) refl refl (subst (λ (x : TrailState). LogsOutcomes x (Some t) os) (sym same) i);
    })

-- what the next push came to, where there is a log
tells_some : (made : Option Record) (old new : TrailState) (t u : TrailLogger) (os : List ListOutcome) → AddsRecord made old new → LogsOutcomes old (Some t) os
    → LogsNext (slice_get new.records t.next) (length new.records) t u → Added true made new (Some u) os
tells_some None old new t u os same i tells = tells_none old new t u os same i tells
tells_some (Some r) old new t u os a i tells = elim a.recorded [
  | inl grew ↦ tells_one old new r t u os grew.0 grew.1 i tells
  | inr lost ↦ tells_lost old new r t u os lost.0 lost.1 i tells
]

unlogged : (made : Option Record) → Records false made [] 0
unlogged made = (refl, refl)

-- and without one
tells_where : (logged : Bool) (made : Option Record) (old new : TrailState) (t u : Option TrailLogger) (os : List ListOutcome) → is_some t ≡ logged → AddsRecord made old new → LogsOutcomes old t os
    → LogsTrail new t u → Added logged made new u os
tells_where logged made old new None u os asked a i is =
    subst (λ (b : Bool). Added b made new u os) asked (subst (λ (x : Option TrailLogger). Added false made new x os) (sym is) (record {
      recorded = [];
      lost = 0;
      records = unlogged made;
      asked = refl;
      kept = λ line answer.
          let o : ListOutcome = record { line = line; answer = answer; recorded = []; lost = 0 } in
          (told_behind os o ∙ append-nil (logged_records os) ∙ i.0, lost_behind os o ∙ omega (arith, i.1));
    }))
tells_where logged made old new (Some t) u os asked a i (next, is, tells) =
    subst (λ (b : Bool). Added b made new u os) asked
    (subst (λ (x : Option TrailLogger). Added true made new x os) (sym is) (tells_some made old new t next os a i tells))

-- a line that grants no entry
pub fits_other : (call : ScriptCall) → ((gref : GrantRef) (entry : Entry) → call ≡ script_calls.Grant gref entry → ⊥) → FitsEntry call
fits_other (script_calls.Grant gref entry) other = absurd (other gref entry refl)
fits_other call other = tt

-- the call of a line was made, its record was pushed, and its answer is printed
pub calls : {P : Type 0} (may : P → AllowRelation) (job : ThreadJob P) (line : ℕ) (call : ScriptCall) (d e : Domain) (before after : Labels) (t u : Option TrailLogger) (answer : Answer) (text : List ℕ)
    → MakesScriptCall may job call d e before after answer → LogsTrail e.trail t u → text ≡ answer_line job.part.types.now line job.part.dom answer
    → ServesCall may job line call d e before after t u text
calls may job line call d e before after t u answer text makes tells is = λ p kept.
    let made = makes.1 p.named kept.names in
    let own : AddsRecord (record_made job.part.dom d made.0 answer) d.trail e.trail =
    subst (λ (x : DomId). AddsRecord (record_made x d made.0 answer) d.trail e.trail) kept.own (adds_record may job.monitor.now d made.0 answer e made.2.1) in
    let added = tells_where (is_logged job) _ d.trail e.trail t u p.outcomes kept.asked own kept.recorded tells in
    let o : ListOutcome = record { line = line; answer = answer; recorded = added.recorded; lost = added.lost } in (
      record { domain = e; named = with_name p.named job.part.dom (label_given call) (handle_given answer); outcomes = p.outcomes ++ o ∷ [] },
      record {
        request = made.0;
        answer = answer;
        recorded = added.recorded;
        lost = added.lost;
        fits = makes.0;
        makes = made.1;
        asks = subst (λ (x : Domain). Asks may job.monitor.now x made.0 answer e) (sym kept.domain) made.2;
        records = subst (λ (x : Domain). Records (is_logged job) (record_made job.part.dom x made.0 answer) added.recorded added.lost) (sym kept.domain) added.records;
        named = refl;
        outcomes = refl;
      },
      record { domain = refl; own = made.2.0 ∙ kept.own; names = made.3; asked = added.asked; recorded = added.kept line answer },
      lines_behind job.part.types.now job.part.dom p.outcomes o ∙ ap (λ (l : List ℕ). answer_lines job.part.types.now job.part.dom p.outcomes ++ l) (sym is),
    )

-- the same of a call that may have had no memory, and had it
pub calls_of : {P E : Type 0} (may : P → AllowRelation) (job : ThreadJob P) (line : ℕ) (call : ScriptCall) (d e : Domain) (before after : Labels) (t u : Option TrailLogger) (r : Result Answer E) (answer : Answer) (none text : List ℕ)
    → r ≡ Ok answer → IfOk r (MakesScriptCall may job call d e before after) → LogsTrail e.trail t u → none ≡ [] → text ≡ none ++ answer_line job.part.types.now line job.part.dom answer
    → ServesCall may job line call d e before after t u text
calls_of may job line call d e before after t u r answer none text was made tells empty is =
    calls may job line call d e before after t u answer text (subst (λ (q : Result Answer _). IfOk q (MakesScriptCall may job call d e before after)) was made) tells
    (is ∙ ap (λ (l : List ℕ). l ++ answer_line job.part.types.now line job.part.dom answer) empty)
