-- From what was read, found and written to what is advised.
use Rattle.std.proofs.Common.{◌≡◌, ℕ, ◌<◌, ◌≤◌, List, [], ◌∷◌, length, length-take, take, Option, Some}
use Rattle.std.proofs.Common.{Result, Ok, Err, Bool, true, false, not, refl, sym, subst, ◌∙◌, inl, inr, arith}
use Rattle.std.specs.List.{list_any}
use Rattle.std.specs.Io.KnownBytes.{Appends}
use Rattle.std.specs.Str.{IsUtf8}
use Rattle.gt_policy_check.specs.Check.{Judges, faulty, sound}
use Rattle.gt_findings.specs.Findings.{error_lines, is_error}
use Rattle.gt_policy_statements.specs.declared.asking.Explanation.{Explanation}
use Rattle.gt_findings.specs.declared.findings.Finding.{Finding}
use Rattle.gt_findings.specs.declared.report.ReportForm.{ReportForm}
use Rattle.gt_check_command.specs.Checking.{Checked, CheckedText, IsCleanText}
use Rattle.gt_check_command.specs.Explaining.{AnswersWhy, AskedOf, Explained, WritesAnswer, WritesLines, answer_for}
use Rattle.gt_check_command.specs.Explaining.{pairs_question, says_yes, why_text}
use Rattle.gt_check_command.specs.declared.explaining.WhyRequest.{WhyRequest}
use Rattle.gt_policy_questions.specs.Pairs.{ArePairsOf}
use Rattle.gt_policy_questions.specs.declared.asking.PairsReport.{PairsReport}
use Rattle.gt_check_command.specs.Reporting.{WritesFindings}
use Rattle.gt_policy_reasons.specs.declared.faults.WhyFault.{WhyFault}
use Rattle.gt_policy_reasons.specs.declared.faults.WhyFault.TheVariants.{Text, NoSource, NoTarget, NoPermission}
use Rattle.gt_policy_list.specs.Faults.{listing_fault_of, listing_read_fault}
use Rattle.gt_policy_list.specs.Reading.{IsNoText}
use Rattle.gt_policy_list.specs.declared.fault.ListingFault.{ListingFault}
use Rattle.gt_policy_list.specs.declared.fault.ListingFault.TheVariants as listing_faults
use Rattle.gt_policy.specs.Grammar.{at}
use Rattle.gt_policy.specs.Shown.{fault_shown}
use Rattle.gt_policy.specs.Whole.{ReadsAs, too_long}
use Rattle.gt_policy.specs.declared.fault.TokenFault.{TokenFault}
use Rattle.gt_policy.specs.declared.fault.TokenFaultKind.TheVariants.{Limit}
use Rattle.gt_policy.specs.declared.parse.PolicyFaultKind.{PolicyFaultKind}
use Rattle.gt_policy.specs.declared.parse.PolicyFaultKind.TheVariants as policy_fault_kinds
use Rattle.gt_text.specs.Laws.{keeps_same, of_any_input, take_whole}
use Rattle.gt_text.specs.Streams.{AppendsBeginning, OfInput}
use Rattle.gt_text.specs.declared.fault.ReadFault.{ReadFault}
use Rattle.gt_text.specs.declared.fault.ReadFault.TheVariants as read_faults

-- ---- a report that is written

pub went_out : (P : List ℕ → Type 0) (old new : Option (List ℕ)) (said lent : List ℕ) → P said → lent ≡ said → Appends old new lent → (report : List ℕ) × P report × Appends old new report
went_out P old new said lent is same went = (said, is, subst (λ (l : List ℕ). Appends old new l) same went)

pub began_out : (P : List ℕ → Type 0) (old new : Option (List ℕ)) (said lent : List ℕ) → P said → lent ≡ said → AppendsBeginning old new lent → (report : List ℕ) × P report × AppendsBeginning old new report
began_out P old new said lent is same began = (said, is, subst (λ (l : List ℕ). AppendsBeginning old new l) same began)

-- ---- a text that is checked

abbrev pub errs : List Finding → Bool
errs found = list_any (λ x. is_error x.kind) found

pub no_error : (found : List Finding) → error_lines found ≡ [] → errs found ≡ false
no_error [] none = refl
no_error (x ∷ xs) none = by (is_error x.kind) refl none (no_error xs)
  where
    by : (b : Bool) → is_error x.kind ≡ b → error_lines (x ∷ xs) ≡ [] → (error_lines xs ≡ [] → errs xs ≡ false) → errs (x ∷ xs) ≡ false
    by true e none later = absurd (cc (rw e at none))
    by false e none later = rw e (later (rw e at none))

pub some_error : (found : List Finding) (line : ℕ) → error_lines found ≡ line ∷ [] → errs found ≡ true
some_error [] line some = absurd (cc some)
some_error (x ∷ xs) line some = by (is_error x.kind) refl some (some_error xs line)
  where
    by : (b : Bool) → is_error x.kind ≡ b → error_lines (x ∷ xs) ≡ line ∷ [] → (error_lines xs ≡ line ∷ [] → errs xs ≡ true) → errs (x ∷ xs) ≡ true
    by true e some later = rw e refl
    by false e some later = rw e (later (rw e at some))

clean : (text : List ℕ) (found : List Finding) → Judges text found → IsCleanText text (not (errs found))
clean text found (faulty f _ says line _ _) = rw (some_error found f.line line) (f, says)
clean text found (sound m xs _ says lined none _ _ _) = rw (no_error found none) (m, says)

told : (form : ReportForm) (file text : List ℕ) (found : List Finding) (old new : Option (List ℕ)) (r : Result Bool ListingFault) → Judges text found → WritesFindings form file found old new r → CheckedText form file text old new r
told form file text found old new (Ok answer) judges (is, (report, printed, went)) = (report, (found, judges, printed), subst (IsCleanText text) (sym is) (clean text found judges), went)
told form file text found old new (Err listing_faults.Write) judges (report, printed, began) = (report, (found, judges, printed), began)
told form file text found old new (Err listing_faults.Memory) judges t = t
told form file text found old new (Err listing_faults.Read) judges t = absurd t
told form file text found old new (Err (listing_faults.Utf8 line)) judges t = absurd t
told form file text found old new (Err (listing_faults.Policy shown)) judges t = absurd t

-- the findings went out
pub checked_text : (form : ReportForm) (file text : List ℕ) (found given : List Finding) (old new : Option (List ℕ)) (r : Result Bool ListingFault) → Judges text found → given ≡ found → WritesFindings form file given old new r
    → CheckedText form file text old new r
checked_text form file text found given old new r judges same t = told form file text found old new r judges (subst (λ (l : List Finding). WritesFindings form file l old new r) same t)

take_shorter : (n : ℕ) (xs : List ℕ) → length (take n xs) ≤ length xs
take_shorter n xs = rw length-take (omega arith)

from_text : (form : ReportForm) (file bytes : List ℕ) (old new : Option (List ℕ)) (r : Result Bool ListingFault) → IsUtf8 bytes → CheckedText form file bytes old new r → Checked form file bytes old new r
from_text form file bytes old new (Ok answer) utf8 c = (utf8, c)
from_text form file bytes old new (Err listing_faults.Write) utf8 c = (utf8, c)
from_text form file bytes old new (Err listing_faults.Memory) utf8 c = c
from_text form file bytes old new (Err listing_faults.Read) utf8 c = absurd c
from_text form file bytes old new (Err (listing_faults.Utf8 line)) utf8 c = absurd c
from_text form file bytes old new (Err (listing_faults.Policy shown)) utf8 c = absurd c

pub whole_read : (all bytes : List ℕ) → bytes ≡ take 1048577 all → length bytes ≤ 1048576 → bytes ≡ all
whole_read all bytes read short =
    let few : length (take 1048577 all) ≤ 1048576 = subst (λ (l : List ℕ). length l ≤ 1048576) read short in
    read ∙ take_whole 1048576 all few

pub checked_bytes : (form : ReportForm) (file all bytes text : List ℕ) (old new : Option (List ℕ)) (r : Result Bool ListingFault) → bytes ≡ take 1048577 all → text ≡ bytes → length bytes ≤ 1048576 → IsUtf8 bytes
    → CheckedText form file text old new r → Checked form file all old new r
checked_bytes form file all bytes text old new r read same short utf8 c =
    subst (λ (l : List ℕ). Checked form file l old new r) (whole_read all bytes read short) (from_text form file bytes old new r utf8 (subst (λ (l : List ℕ). CheckedText form file l old new r) same c))

too_many : (all bytes : List ℕ) → bytes ≡ take 1048577 all → 1048576 < length bytes → 1048576 < length all
too_many all bytes read long =
    let many : 1048576 < length (take 1048577 all) = subst (λ (l : List ℕ). 1048576 < length l) read long in
    omega (arith, many, take_shorter 1048577 all)

pub checked_no : (form : ReportForm) (file all bytes : List ℕ) (fault : ListingFault) (old : Option (List ℕ)) → bytes ≡ take 1048577 all → IsNoText bytes fault → Checked form file all old old (Err fault)
checked_no form file all bytes (listing_faults.Utf8 line) old read h = subst (λ (l : List ℕ). Checked form file l old old (Err (listing_faults.Utf8 line))) (whole_read all bytes read h.0) (h, keeps_same old)
checked_no form file all bytes (listing_faults.Policy shown) old read h =
    let long = too_many all bytes read h.0 in (at 1 Limit, h.1, (inl long, too_long all long), keeps_same old)
checked_no form file all bytes listing_faults.Memory old read h = absurd h
checked_no form file all bytes listing_faults.Read old read h = absurd h
checked_no form file all bytes listing_faults.Write old read h = absurd h

unread : (form : ReportForm) (file all : List ℕ) (old : Option (List ℕ)) (error : ReadFault) → Checked form file all old old (Err (listing_read_fault error))
unread form file all old read_faults.Memory = keeps_same old
unread form file all old read_faults.Read = keeps_same old

pub checked_unread : (form : ReportForm) (file : List ℕ) (known old : Option (List ℕ)) (error : ReadFault) (fault : ListingFault) → fault ≡ listing_read_fault error → OfInput known (λ input. Checked form file input old old (Err fault))
checked_unread form file known old error fault is =
    of_any_input known (λ (input : List ℕ). Checked form file input old old (Err fault))
    (λ (input : List ℕ). subst (λ (f : ListingFault). Checked form file input old old (Err f)) (sym is) (unread form file input old error))

-- ---- a question

-- the text of an answer went out
pub answer-lines : (q : WhyRequest) (text lines : List ℕ) (e : Explanation) (allowed wanted : Bool) (report : PairsReport)
    (old new : Option (List ℕ)) (r : Result Bool WhyFault) → lines ≡ why_text q.each e.lines.items report
    → wanted ≡ says_yes q.each allowed report → ArePairsOf text (pairs_question q.question) report
    → WritesLines lines wanted old new r → WritesAnswer q text e allowed old new r
answer-lines q text lines e allowed wanted report old new (Ok answer) same is pairs (of, went) =
    (report, pairs, of ∙ is, subst (λ (l : List ℕ). Appends old new l) same went)
answer-lines q text lines e allowed wanted report old new (Err NoSource) same is pairs w = absurd w
answer-lines q text lines e allowed wanted report old new (Err NoTarget) same is pairs w = absurd w
answer-lines q text lines e allowed wanted report old new (Err NoPermission) same is pairs w = absurd w
answer-lines q text lines e allowed wanted report old new (Err (Text listing_faults.Write)) same is pairs w =
    (report, pairs, subst (λ (l : List ℕ). AppendsBeginning old new l) same w)
answer-lines q text lines e allowed wanted report old new (Err (Text listing_faults.Memory)) same is pairs w = absurd w
answer-lines q text lines e allowed wanted report old new (Err (Text listing_faults.Read)) same is pairs w = absurd w
answer-lines q text lines e allowed wanted report old new (Err (Text (listing_faults.Utf8 line))) same is pairs w = absurd w
answer-lines q text lines e allowed wanted report old new (Err (Text (listing_faults.Policy shown))) same is pairs w = absurd w

-- the policy is the one that was read, so its second reading has no fault but want of memory
answer-refused : (q : WhyRequest) (text : List ℕ) (e : Explanation) (allowed : Bool) (line : ℕ) (kind : PolicyFaultKind)
    (old : Option (List ℕ)) → ((f : TokenFault) → fault_shown (record { line = line; kind = kind }) ≡ Some f → ReadsAs text (Err f))
    → WritesAnswer q text e allowed old old (Err (Text (listing_fault_of line kind)))
answer-refused q text e allowed line policy_fault_kinds.Memory old says = keeps_same old
answer-refused q text e allowed line policy_fault_kinds.Syntax old says = (_, refl, says _ refl, keeps_same old)
answer-refused q text e allowed line (policy_fault_kinds.Unknown name) old says = (_, refl, says _ refl, keeps_same old)
answer-refused q text e allowed line (policy_fault_kinds.Twice name) old says = (_, refl, says _ refl, keeps_same old)
answer-refused q text e allowed line (policy_fault_kinds.Permission name) old says = (_, refl, says _ refl, keeps_same old)
answer-refused q text e allowed line (policy_fault_kinds.Outside word) old says = (_, refl, says _ refl, keeps_same old)
answer-refused q text e allowed line policy_fault_kinds.Limit old says = (_, refl, says _ refl, keeps_same old)

pub answer-no : (q : WhyRequest) (text : List ℕ) (e : Explanation) (allowed : Bool) (line : ℕ) (kind : PolicyFaultKind)
    (fault : ListingFault) (old : Option (List ℕ)) → fault ≡ listing_fault_of line kind
    → ((f : TokenFault) → fault_shown (record { line = line; kind = kind }) ≡ Some f → ReadsAs text (Err f))
    → WritesAnswer q text e allowed old old (Err (Text fault))
answer-no q text e allowed line kind fault old is says =
    subst (λ (f : ListingFault). WritesAnswer q text e allowed old old (Err (Text f))) (sym is)
    (answer-refused q text e allowed line kind old says)

-- the answer of the policy was written
pub asked-answer : (file text : List ℕ) (q : WhyRequest) (e : Explanation) (allowed : Bool) (old new : Option (List ℕ))
    (r : Result Bool WhyFault) → AnswersWhy file text q.question (answer_for allowed) e
    → WritesAnswer q text e allowed old new r → AskedOf file q text old new r
asked-answer file text q e allowed old new (Ok reply) is w = (allowed, e, is, w)
asked-answer file text q e allowed old new (Err NoSource) is w = absurd w
asked-answer file text q e allowed old new (Err NoTarget) is w = absurd w
asked-answer file text q e allowed old new (Err NoPermission) is w = absurd w
asked-answer file text q e allowed old new (Err (Text listing_faults.Write)) is w = (allowed, e, is, w)
asked-answer file text q e allowed old new (Err (Text listing_faults.Memory)) is w = w
asked-answer file text q e allowed old new (Err (Text listing_faults.Read)) is w = absurd w
asked-answer file text q e allowed old new (Err (Text (listing_faults.Utf8 line))) is w = absurd w
asked-answer file text q e allowed old new (Err (Text (listing_faults.Policy shown))) is w = w

-- the text is not a policy
refused : (file text : List ℕ) (q : WhyRequest) (line : ℕ) (kind : PolicyFaultKind) (old : Option (List ℕ)) → ((f : TokenFault) → fault_shown (record { line = line; kind = kind }) ≡ Some f → ReadsAs text (Err f))
    → AskedOf file q text old old (Err (Text (listing_fault_of line kind)))
refused file text q line policy_fault_kinds.Memory old says = keeps_same old
refused file text q line policy_fault_kinds.Syntax old says = (_, refl, says _ refl, keeps_same old)
refused file text q line (policy_fault_kinds.Unknown name) old says = (_, refl, says _ refl, keeps_same old)
refused file text q line (policy_fault_kinds.Twice name) old says = (_, refl, says _ refl, keeps_same old)
refused file text q line (policy_fault_kinds.Permission name) old says = (_, refl, says _ refl, keeps_same old)
refused file text q line (policy_fault_kinds.Outside word) old says = (_, refl, says _ refl, keeps_same old)
refused file text q line policy_fault_kinds.Limit old says = (_, refl, says _ refl, keeps_same old)

pub asked_no : (file text : List ℕ) (q : WhyRequest) (line : ℕ) (kind : PolicyFaultKind) (fault : ListingFault) (old : Option (List ℕ)) → fault ≡ listing_fault_of line kind
    → ((f : TokenFault) → fault_shown (record { line = line; kind = kind }) ≡ Some f → ReadsAs text (Err f)) → AskedOf file q text old old (Err (Text fault))
asked_no file text q line kind fault old is says = subst (λ (f : ListingFault). AskedOf file q text old old (Err (Text f))) (sym is) (refused file text q line kind old says)

answered_from : (file bytes : List ℕ) (q : WhyRequest) (old new : Option (List ℕ)) (r : Result Bool WhyFault) → IsUtf8 bytes → AskedOf file q bytes old new r → Explained file q bytes old new r
answered_from file bytes q old new (Ok answer) utf8 c = (utf8, c)
answered_from file bytes q old new (Err NoSource) utf8 c = (utf8, c)
answered_from file bytes q old new (Err NoTarget) utf8 c = (utf8, c)
answered_from file bytes q old new (Err NoPermission) utf8 c = (utf8, c)
answered_from file bytes q old new (Err (Text listing_faults.Write)) utf8 c = (utf8, c)
answered_from file bytes q old new (Err (Text listing_faults.Memory)) utf8 c = c
answered_from file bytes q old new (Err (Text listing_faults.Read)) utf8 c = absurd c
answered_from file bytes q old new (Err (Text (listing_faults.Utf8 line))) utf8 c = absurd c
answered_from file bytes q old new (Err (Text (listing_faults.Policy shown))) utf8 c = (c.0, c.1, (inr utf8, c.2), c.3)

pub explained_bytes : (file all bytes text : List ℕ) (q : WhyRequest) (old new : Option (List ℕ)) (r : Result Bool WhyFault) → bytes ≡ take 1048577 all → text ≡ bytes → length bytes ≤ 1048576 → IsUtf8 bytes
    → AskedOf file q text old new r → Explained file q all old new r
explained_bytes file all bytes text q old new r read same short utf8 c =
    subst (λ (l : List ℕ). Explained file q l old new r) (whole_read all bytes read short) (answered_from file bytes q old new r utf8 (subst (λ (l : List ℕ). AskedOf file q l old new r) same c))

pub explained_no : (file all bytes : List ℕ) (q : WhyRequest) (fault : ListingFault) (old : Option (List ℕ)) → bytes ≡ take 1048577 all → IsNoText bytes fault → Explained file q all old old (Err (Text fault))
explained_no file all bytes q (listing_faults.Utf8 line) old read h = subst (λ (l : List ℕ). Explained file q l old old (Err (Text (listing_faults.Utf8 line)))) (whole_read all bytes read h.0) (h, keeps_same old)
explained_no file all bytes q (listing_faults.Policy shown) old read h =
    let long = too_many all bytes read h.0 in (at 1 Limit, h.1, (inl long, too_long all long), keeps_same old)
explained_no file all bytes q listing_faults.Memory old read h = absurd h
explained_no file all bytes q listing_faults.Read old read h = absurd h
explained_no file all bytes q listing_faults.Write old read h = absurd h

unasked : (file all : List ℕ) (q : WhyRequest) (old : Option (List ℕ)) (error : ReadFault) → Explained file q all old old (Err (Text (listing_read_fault error)))
unasked file all q old read_faults.Memory = keeps_same old
unasked file all q old read_faults.Read = keeps_same old

pub explained_unread : (file : List ℕ) (q : WhyRequest) (known old : Option (List ℕ)) (error : ReadFault) (fault : ListingFault) → fault ≡ listing_read_fault error → OfInput known (λ input. Explained file q input old old (Err (Text fault)))
explained_unread file q known old error fault is =
    of_any_input known (λ (input : List ℕ). Explained file q input old old (Err (Text fault)))
    (λ (input : List ℕ). subst (λ (f : ListingFault). Explained file q input old old (Err (Text f))) (sym is) (unasked file input q old error))
