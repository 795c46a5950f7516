-- The requests of a running domain, and their answers.
use Rattle.std.specs.Prelude.{◌≡◌, ℕ, List, MatchBool, Result, Ok, Err, OnOk, OnErr, nat_lt}
use Rattle.gt_run.specs.Prelude.{Size, Denial, Copying, Reading, Writing, Handle, AppendsRecord, HeldPin, Request}
use Rattle.gt_run.specs.Prelude.{Answer, Domain, Monitor, IsCopiedBy, IsReadBy, IsWrittenBy, AnswersWithAccess}
use Rattle.gt_run.specs.Prelude.{Answered}
use Rattle.gt_run.specs.Prelude.{KeepsPinned, MapAnswered, AllowRelation, mapping_reply, subject_of, record_of_copy}
use Rattle.gt_run.specs.Prelude.{record_of_result, verdict_of, verdict_of_frames, verdict_of_size, verdict_of_version}
use Rattle.gt_run.specs.Prelude.{Removes}
use Rattle.gt_live.specs.Domains.{AccessesQuietly, AnswersQuietly, AnswersRecorded, StaysIn, known_on}
use Rattle.gt_live.specs.Flags.{FlagStepped}
use Rattle.gt_word_history.specs.declared.view.FlagStep.{FlagStep}
use Rattle.gt_word_history.specs.declared.view.FlagStep.TheVariants.{Raised}
use Rattle.gt_audit.specs.declared.record.Hypercall.TheVariants as hypercalls
use Rattle.gt_model.specs.declared.request.Request.TheVariants as requests
use Rattle.gt_model.specs.declared.trace.Answer.TheVariants as answers
use Rattle.gt_live.specs.Parts.{mappings_of, seat_of, trail_of, words_of}

-- a domain with the monitor of its run
pub record Stand (P : Type 0) : Type 0 where
  pub monitor : Monitor P
  pub domain : Domain

-- the same domain on the same monitor, whatever it did in between
abbrev pub IsSameStand : {P : Type 0} → Stand P → Stand P → Type 0
IsSameStand s t = (t.monitor ≡ s.monitor) × ((seat_of t.domain).dom ≡ (seat_of s.domain).dom)

-- the domain made this step on the flag, and nothing else, and still belongs to the monitor
abbrev pub MakesFlagStep : {P : Type 0} → (P → AllowRelation) → Monitor P → ℕ → FlagStep → Domain → Domain → Type 0
MakesFlagStep may m flag kind d e = FlagStepped (words_of m).layout flag kind d e × StaysIn may m d e

-- a flag that the run has is raised by one step of the domain; any other flag leaves all
abbrev pub RaisesFlag : {P : Type 0} → (P → AllowRelation) → Monitor P → ℕ → Domain → Domain → Type 0
RaisesFlag may m flag d e = MatchBool (nat_lt flag (words_of m).flags) (MakesFlagStep may m flag Raised d e) (e ≡ d)

-- the answer of a call that gives no value
abbrev pub plain_answer : {R : Type 0} → Result R Denial → Answer
plain_answer (Ok done) = answers.Done
plain_answer (Err denial) = answers.Denied denial

-- the answer of a map: the handle of the mapping
abbrev pub mapped_answer : Result Handle Denial → Answer
mapped_answer (Ok handle) = answers.Mapped handle
mapped_answer (Err denial) = answers.Denied denial

-- the answer of a call that returns how many frames a table then has
abbrev pub frames_answer : Result ℕ Denial → Answer
frames_answer (Ok frames) = answers.Frames frames
frames_answer (Err denial) = answers.Denied denial

-- the answer of a call that returns a table's size
abbrev pub size_answer : Result Size Denial → Answer
size_answer (Ok size) = answers.Size size
size_answer (Err denial) = answers.Denied denial

-- the answer of a call that returns a table's version
abbrev pub version_answer : Result ℕ Denial → Answer
version_answer (Ok version) = answers.Version version
version_answer (Err denial) = answers.Denied denial

-- the answer has these bytes
abbrev pub HasBytes : List ℕ → Answer → Type 0
HasBytes bytes (answers.Bytes b) = b.bytes.items ≡ bytes
HasBytes bytes answer = ⊥

-- the answer of a call that reads: the bytes of its receipt
abbrev pub IsReadAnswer : Result Reading Denial → Answer → Type 0
IsReadAnswer (Ok r) answer = HasBytes r.bytes answer
IsReadAnswer (Err denial) answer = answer ≡ answers.Denied denial

-- The domain d got this request, gave this answer, and is e after it. The answer is that of the domain's own call of
-- that name, so it shows what the call did, also to its mappings and its records.
abbrev pub AnswersCall : {P : Type 0} → (P → AllowRelation) → Monitor P → Domain → Request → Answer → Domain → Type 0
AnswersCall may m d (requests.Map dom gref flags) answer e =
    (r : Result Handle Denial) × (answer ≡ mapped_answer r)
    × MapAnswered may m d (requests.Map dom gref flags) r e
    × AppendsRecord (trail_of d)
    (record { dom = (seat_of d).dom; call = hypercalls.Map dom gref flags; reply = mapping_reply r }) (trail_of e)
AnswersCall may m d (requests.Unmap handle) answer e =
    (r : Result (Unit {0}) Denial) × (answer ≡ plain_answer r)
    × Answered may m d (requests.Unmap handle) (verdict_of r) e
    × OnOk r ((p : HeldPin) × Removes (mappings_of d) (mappings_of e) handle p) × OnErr r (KeepsPinned d e)
    × AppendsRecord (trail_of d) (record_of_result d (hypercalls.Unmap (subject_of d handle)) (verdict_of r))
    (trail_of e)
AnswersCall may m d (requests.Release handle) answer e =
    (r : Result (Unit {0}) Denial) × (answer ≡ plain_answer r)
    × Answered may m d (requests.Release handle) (verdict_of r) e
    × OnOk r ((p : HeldPin) × Removes (mappings_of d) (mappings_of e) handle p) × OnErr r (KeepsPinned d e)
    × (trail_of e ≡ trail_of d)
AnswersCall may m d (requests.SetVersion version) answer e =
    (r : Result (Unit {0}) Denial) × (answer ≡ plain_answer r)
    × AnswersRecorded may m d (requests.SetVersion version) (hypercalls.SetVersion version) (verdict_of r) e
AnswersCall may m d (requests.SetupTable frames) answer e =
    (r : Result ℕ Denial) × (answer ≡ frames_answer r)
    × AnswersRecorded may m d (requests.SetupTable frames) (hypercalls.SetupTable frames) (verdict_of_frames r) e
AnswersCall may m d (requests.QuerySize dom) answer e =
    (r : Result Size Denial) × (answer ≡ size_answer r)
    × AnswersRecorded may m d (requests.QuerySize dom) (hypercalls.QuerySize dom) (verdict_of_size r) e
AnswersCall may m d (requests.GetVersion dom) answer e =
    (r : Result ℕ Denial) × (answer ≡ version_answer r)
    × AnswersRecorded may m d (requests.GetVersion dom) (hypercalls.GetVersion dom) (verdict_of_version r) e
AnswersCall may m d (requests.Load handle off len) answer e =
    (r : Result Reading Denial) × IsReadAnswer r answer
    × AccessesQuietly may m d (requests.Load handle off len) (IsReadBy (words_of m).layout) r e
AnswersCall may m d (requests.Peek frame off len) answer e =
    (r : Result Reading Denial) × IsReadAnswer r answer
    × AccessesQuietly may m d (requests.Peek frame off len) (IsReadBy (words_of m).layout) r e
AnswersCall may m d (requests.Store handle off bytes) answer e =
    (r : Result Writing Denial) × (answer ≡ plain_answer r)
    × AccessesQuietly may m d (requests.Store handle off bytes)
    (IsWrittenBy (words_of m).layout d (requests.Store handle off bytes)) r e
AnswersCall may m d (requests.Poke frame off bytes) answer e =
    (r : Result Writing Denial) × (answer ≡ plain_answer r)
    × AccessesQuietly may m d (requests.Poke frame off bytes)
    (IsWrittenBy (words_of m).layout d (requests.Poke frame off bytes)) r e
AnswersCall may m d (requests.Copy args) answer e =
    (r : Result Copying Denial) × (answer ≡ plain_answer r)
    × AnswersWithAccess may m d (requests.Copy args) (IsCopiedBy (known_on may m d) (words_of m).layout d args) r e
    × KeepsPinned d e × AppendsRecord (trail_of d) (record_of_copy d args r) (trail_of e)
AnswersCall may m d request answer e =
    (r : Result (Unit {0}) Denial) × (answer ≡ plain_answer r) × AnswersQuietly may m d request (verdict_of r) e

-- the same of a domain that keeps its number and its seat, and belongs to the monitor afterwards
abbrev pub Asks : {P : Type 0} → (P → AllowRelation) → Monitor P → Domain → Request → Answer → Domain → Type 0
Asks may m d request answer e =
    ((seat_of e).dom ≡ (seat_of d).dom) × AnswersCall may m d request answer e × StaysIn may m d e
