-- From what was read, found and written to what is answered.
use Rattle.std.proofs.Common.{◌≡◌, ℕ, ◌<◌, ◌≤◌, List, length, length-take, take, Option, Some, None, Result, Ok, Err, Bool, true, false}
use Rattle.std.proofs.Common.{refl, ap, sym, subst, ◌∙◌, inl, inr, arith}
use Rattle.std.specs.Io.KnownBytes.{Appends}
use Rattle.std.specs.Str.{IsUtf8}
use Rattle.gt_file_commands.specs.FlowAnswers.{Flowed, FlowsOf, PolicyHasAnswer, WritesFlow}
use Rattle.gt_policy_questions.specs.Asking.{flow_answer}
use Rattle.gt_fault_reasons.specs.Blocks.{policy_block}
use Rattle.gt_file_commands.specs.FlowBlocks.{FlowedAs, FlowedBlock, FlowedScript}
use Rattle.gt_policy_questions.specs.declared.flows.asking.FlowQuestion.{FlowQuestion}
use Rattle.gt_policy_questions.specs.declared.flows.asking.FlowReport.{FlowReport}
use Rattle.gt_policy_reasons.specs.declared.faults.FlowFault.{FlowFault}
use Rattle.gt_policy_reasons.specs.declared.faults.FlowFault.TheVariants.{NoBlock, NoSource, NoTarget, NoTrusted, Text}
use Rattle.gt_policy_list.specs.Faults.{listing_fault_of, listing_read_fault}
use Rattle.gt_policy_list.specs.Reading.{IsNoText}
use Rattle.gt_policy_list.specs.declared.fault.ListingFault.{ListingFault}
use Rattle.gt_policy_list.specs.declared.fault.ListingFault.TheVariants as listing_faults
use Rattle.gt_policy.specs.Grammar.{at}
use Rattle.gt_policy.specs.Shown.{fault_shown}
use Rattle.gt_policy.specs.Whole.{ReadsAs, too_long}
use Rattle.gt_policy.specs.declared.fault.TokenFault.{TokenFault}
use Rattle.gt_policy.specs.declared.fault.TokenFaultKind.TheVariants.{Limit}
use Rattle.gt_policy.specs.declared.parse.PolicyFaultKind.{PolicyFaultKind}
use Rattle.gt_policy.specs.declared.parse.PolicyFaultKind.TheVariants as policy_fault_kinds
use Rattle.gt_text.specs.Laws.{keeps_same, of_any_input, take_whole}
use Rattle.gt_text.specs.Streams.{AppendsBeginning, OfInput}
use Rattle.gt_text.specs.declared.fault.ReadFault.{ReadFault}
use Rattle.gt_text.specs.declared.fault.ReadFault.TheVariants as read_faults

-- the lines of an answer went out
pub flow-lines : (text lines : List ℕ) (q : FlowQuestion) (report : FlowReport) (has : Bool) (old new : Option (List ℕ))
    (r : Result Bool FlowFault) → lines ≡ report.lines.items → PolicyHasAnswer text q (flow_answer has) report
    → WritesFlow lines has old new r → FlowsOf q text old new r
flow-lines text lines q report has old new (Ok answer) same is (of, went) = (
  report,
  subst (λ (b : Bool). PolicyHasAnswer text q (flow_answer b) report) (sym of) is,
  subst (λ (l : List ℕ). Appends old new l) same went,
)
flow-lines text lines q report has old new (Err NoSource) same is w = absurd w
flow-lines text lines q report has old new (Err NoTarget) same is w = absurd w
flow-lines text lines q report has old new (Err (NoTrusted place)) same is w = absurd w
flow-lines text lines q report has old new (Err NoBlock) same is w = absurd w
flow-lines text lines q report has old new (Err (Text listing_faults.Write)) same is w =
    (has, report, is, subst (λ (l : List ℕ). AppendsBeginning old new l) same w)
flow-lines text lines q report has old new (Err (Text listing_faults.Memory)) same is w = absurd w
flow-lines text lines q report has old new (Err (Text listing_faults.Read)) same is w = absurd w
flow-lines text lines q report has old new (Err (Text (listing_faults.Utf8 line))) same is w = absurd w
flow-lines text lines q report has old new (Err (Text (listing_faults.Policy shown))) same is w = absurd w

-- the text is not a policy
refused : (text : List ℕ) (q : FlowQuestion) (line : ℕ) (kind : PolicyFaultKind) (old : Option (List ℕ))
    → ((f : TokenFault) → fault_shown (record { line = line; kind = kind }) ≡ Some f → ReadsAs text (Err f))
    → FlowsOf q text old old (Err (Text (listing_fault_of line kind)))
refused text q line policy_fault_kinds.Memory old says = keeps_same old
refused text q line policy_fault_kinds.Syntax old says = (_, refl, says _ refl, keeps_same old)
refused text q line (policy_fault_kinds.Unknown name) old says = (_, refl, says _ refl, keeps_same old)
refused text q line (policy_fault_kinds.Twice name) old says = (_, refl, says _ refl, keeps_same old)
refused text q line (policy_fault_kinds.Permission name) old says = (_, refl, says _ refl, keeps_same old)
refused text q line (policy_fault_kinds.Outside word) old says = (_, refl, says _ refl, keeps_same old)
refused text q line policy_fault_kinds.Limit old says = (_, refl, says _ refl, keeps_same old)

pub flow-no : (text : List ℕ) (q : FlowQuestion) (line : ℕ) (kind : PolicyFaultKind) (fault : ListingFault)
    (old : Option (List ℕ)) → fault ≡ listing_fault_of line kind
    → ((f : TokenFault) → fault_shown (record { line = line; kind = kind }) ≡ Some f → ReadsAs text (Err f))
    → FlowsOf q text old old (Err (Text fault))
flow-no text q line kind fault old is says =
    subst (λ (f : ListingFault). FlowsOf q text old old (Err (Text f))) (sym is) (refused text q line kind old says)

answered-from : (bytes : List ℕ) (q : FlowQuestion) (old new : Option (List ℕ)) (r : Result Bool FlowFault)
    → IsUtf8 bytes → FlowsOf q bytes old new r → Flowed q bytes old new r
answered-from bytes q old new (Ok answer) utf8 c = (utf8, c)
answered-from bytes q old new (Err NoSource) utf8 c = (utf8, c)
answered-from bytes q old new (Err NoTarget) utf8 c = (utf8, c)
answered-from bytes q old new (Err (NoTrusted place)) utf8 c = (utf8, c)
answered-from bytes q old new (Err NoBlock) utf8 c = absurd c
answered-from bytes q old new (Err (Text listing_faults.Write)) utf8 c = (utf8, c)
answered-from bytes q old new (Err (Text listing_faults.Memory)) utf8 c = c
answered-from bytes q old new (Err (Text listing_faults.Read)) utf8 c = absurd c
answered-from bytes q old new (Err (Text (listing_faults.Utf8 line))) utf8 c = absurd c
answered-from bytes q old new (Err (Text (listing_faults.Policy shown))) utf8 c = (c.0, c.1, (inr utf8, c.2), c.3)

flowed-bytes : (bytes text : List ℕ) (q : FlowQuestion) (old new : Option (List ℕ)) (r : Result Bool FlowFault)
    → text ≡ bytes → IsUtf8 bytes → FlowsOf q text old new r → Flowed q bytes old new r
flowed-bytes bytes text q old new r same utf8 c =
    answered-from bytes q old new r utf8 (subst (λ (l : List ℕ). FlowsOf q l old new r) same c)

flowed-no : (bytes : List ℕ) (q : FlowQuestion) (fault : ListingFault) (old : Option (List ℕ))
    → IsNoText bytes fault → Flowed q bytes old old (Err (Text fault))
flowed-no bytes q (listing_faults.Utf8 line) old h = (h, keeps_same old)
flowed-no bytes q (listing_faults.Policy shown) old h = (at 1 Limit, h.1, (inl h.0, too_long bytes h.0), keeps_same old)
flowed-no bytes q listing_faults.Memory old h = absurd h
flowed-no bytes q listing_faults.Read old h = absurd h
flowed-no bytes q listing_faults.Write old h = absurd h

-- no policy block was made, or there is none
pub no-memory : (block : Option (List ℕ)) (q : FlowQuestion) (old : Option (List ℕ))
    → FlowedBlock block q old old (Err (Text listing_faults.Memory))
no-memory None q old = keeps_same old
no-memory (Some block) q old = keeps_same old

pub of-block : (block text : List ℕ) (found : Option (List ℕ)) (q : FlowQuestion) (old new : Option (List ℕ))
    (r : Result Bool FlowFault) → Some block ≡ found → text ≡ block → IsUtf8 text → FlowsOf q text old new r
    → FlowedBlock found q old new r
of-block block text found q old new r is same utf8 does =
    subst (λ (o : Option (List ℕ)). FlowedBlock o q old new r) (ap (λ (l : List ℕ). Some l) same ∙ is)
    (answered-from text q old new r utf8 does)

pub without-block : (found : Option (List ℕ)) (q : FlowQuestion) (old : Option (List ℕ)) → None ≡ found
    → FlowedBlock found q old old (Err NoBlock)
without-block found q old is =
    subst (λ (o : Option (List ℕ)). FlowedBlock o q old old (Err NoBlock)) is (keeps_same old)

whole-read : (all bytes : List ℕ) → bytes ≡ take 1048577 all → length bytes ≤ 1048576 → bytes ≡ all
whole-read all bytes read short =
    let few : length (take 1048577 all) ≤ 1048576 = subst (λ (l : List ℕ). length l ≤ 1048576) read short in
    read ∙ take_whole 1048576 all few

take-shorter : (n : ℕ) (xs : List ℕ) → length (take n xs) ≤ length xs
take-shorter n xs = rw length-take (omega arith)

too-many : (all bytes : List ℕ) → bytes ≡ take 1048577 all → 1048576 < length bytes → 1048576 < length all
too-many all bytes read long =
    let many : 1048576 < length (take 1048577 all) = subst (λ (l : List ℕ). 1048576 < length l) read long in
    omega (arith, many, take-shorter 1048577 all)

not-text : (all bytes : List ℕ) (fault : ListingFault) → bytes ≡ take 1048577 all → IsNoText bytes fault
    → IsNoText all fault
not-text all bytes (listing_faults.Utf8 line) read bad =
    subst (λ (l : List ℕ). IsNoText l (listing_faults.Utf8 line)) (whole-read all bytes read bad.0) bad
not-text all bytes (listing_faults.Policy shown) read bad = (too-many all bytes read bad.0, bad.1)
not-text all bytes listing_faults.Memory read bad = absurd bad
not-text all bytes listing_faults.Read read bad = absurd bad
not-text all bytes listing_faults.Write read bad = absurd bad

-- the input is a policy, or a script
pub of-policy : (script : Bool) (all bytes text : List ℕ) (q : FlowQuestion) (old new : Option (List ℕ))
    (r : Result Bool FlowFault) → script ≡ false → bytes ≡ take 1048577 all → text ≡ bytes → length bytes ≤ 1048576
    → IsUtf8 bytes → FlowsOf q text old new r → FlowedAs script q all old new r
of-policy script all bytes text q old new r is read same short utf8 does =
    subst (λ (b : Bool). FlowedAs b q all old new r) (sym is)
    (subst (λ (l : List ℕ). Flowed q l old new r) (whole-read all bytes read short)
    (flowed-bytes bytes text q old new r same utf8 does))

pub of-script : (script : Bool) (all bytes text : List ℕ) (q : FlowQuestion) (old new : Option (List ℕ))
    (r : Result Bool FlowFault) → script ≡ true → bytes ≡ take 1048577 all → text ≡ bytes → length bytes ≤ 1048576
    → IsUtf8 bytes → FlowedBlock (policy_block text) q old new r → FlowedAs script q all old new r
of-script script all bytes text q old new r is read same short utf8 does =
    subst (λ (b : Bool). FlowedAs b q all old new r) (sym is)
    (subst (λ (l : List ℕ). FlowedScript q l old new r) (whole-read all bytes read short)
    (inl (short, utf8, subst (λ (l : List ℕ). FlowedBlock (policy_block l) q old new r) same does)))

-- the input is no text
pub of-no-text : (script : Bool) (all bytes : List ℕ) (q : FlowQuestion) (fault : ListingFault) (old : Option (List ℕ))
    → bytes ≡ take 1048577 all → IsNoText bytes fault → FlowedAs script q all old old (Err (Text fault))
of-no-text false all bytes q fault old read bad = flowed-no all q fault old (not-text all bytes fault read bad)
of-no-text true all bytes q fault old read bad = inr (inl (not-text all bytes fault read bad), keeps_same old)

unread : (script : Bool) (all : List ℕ) (q : FlowQuestion) (old : Option (List ℕ)) (error : ReadFault)
    → FlowedAs script q all old old (Err (Text (listing_read_fault error)))
unread false all q old read_faults.Memory = keeps_same old
unread false all q old read_faults.Read = keeps_same old
unread true all q old read_faults.Memory = inr (inr (inl refl), keeps_same old)
unread true all q old read_faults.Read = inr (inr (inr refl), keeps_same old)

pub of-unread : (script : Bool) (q : FlowQuestion) (known old : Option (List ℕ)) (error : ReadFault) (fault : ListingFault)
    → fault ≡ listing_read_fault error → OfInput known (λ input. FlowedAs script q input old old (Err (Text fault)))
of-unread script q known old error fault is =
    of_any_input known (λ (input : List ℕ). FlowedAs script q input old old (Err (Text fault)))
    (λ (input : List ℕ). subst (λ (f : ListingFault). FlowedAs script q input old old (Err (Text f))) (sym is)
    (unread script input q old error))
