-- From what was found in a script and written to what its check comes to.
use Rattle.std.proofs.Common.{◌≡◌, ℕ, List, Option, Result, Ok, Err, Bool, not, max, sym, subst, inl, inr}
use Rattle.gt_findings.specs.declared.findings.Finding.{Finding}
use Rattle.gt_findings.specs.declared.report.ReportForm.{ReportForm}
use Rattle.gt_check_command.proofs.Advised.{errs, no_error, some_error}
use Rattle.gt_check_command.specs.Scripts.{CheckedScript, IsScript}
use Rattle.gt_check_command.specs.Reporting.{WritesFindings}
use Rattle.gt_policy_list.specs.Faults.{listing_read_fault}
use Rattle.gt_policy_list.specs.declared.fault.ListingFault.{ListingFault}
use Rattle.gt_policy_list.specs.declared.fault.ListingFault.TheVariants as listing_faults
use Rattle.gt_check_command.specs.Judging.{JudgesScript, for_play, for_run, faulty, line_of_fault}
use Rattle.gt_text.specs.Laws.{keeps_same, of_any_input}
use Rattle.gt_text.specs.Streams.{OfInput}
use Rattle.gt_text.specs.declared.fault.ReadFault.{ReadFault}
use Rattle.gt_text.specs.declared.fault.ReadFault.TheVariants as read_faults

is_script : (bytes : List ℕ) (found : List Finding) → JudgesScript bytes found → IsScript bytes (not (errs found))
is_script bytes found (for_play c _ tells none) = rw (no_error found none) (inl (c, tells))
is_script bytes found (for_run c _ tells none) = rw (no_error found none) (inr (c, tells))
is_script bytes found (faulty play run _ a b one) = rw (some_error found (max (line_of_fault play) (line_of_fault run)) one) (play, run, a, b)

told : (form : ReportForm) (file all : List ℕ) (found : List Finding) (old new : Option (List ℕ)) (r : Result Bool ListingFault) → JudgesScript all found → WritesFindings form file found old new r → CheckedScript form file all old new r
told form file all found old new (Ok clean) judges (is, (report, printed, went)) = (report, (found, judges, printed), subst (IsScript all) (sym is) (is_script all found judges), went)
told form file all found old new (Err listing_faults.Write) judges (report, printed, began) = (report, (found, judges, printed), began)
told form file all found old new (Err listing_faults.Memory) judges t = t
told form file all found old new (Err listing_faults.Read) judges t = absurd t
told form file all found old new (Err (listing_faults.Utf8 line)) judges t = absurd t
told form file all found old new (Err (listing_faults.Policy shown)) judges t = absurd t

-- the findings went out that the judge had
pub checked_script : (form : ReportForm) (file all : List ℕ) (found given : List Finding) (old new : Option (List ℕ)) (r : Result Bool ListingFault) → JudgesScript all found → given ≡ found → WritesFindings form file given old new r
    → CheckedScript form file all old new r
checked_script form file all found given old new r judges same t = told form file all found old new r judges (subst (λ (l : List Finding). WritesFindings form file l old new r) same t)

unread : (form : ReportForm) (file all : List ℕ) (old : Option (List ℕ)) (error : ReadFault) → CheckedScript form file all old old (Err (listing_read_fault error))
unread form file all old read_faults.Memory = keeps_same old
unread form file all old read_faults.Read = keeps_same old

pub unread_script : (form : ReportForm) (file : List ℕ) (known old : Option (List ℕ)) (error : ReadFault) (fault : ListingFault) → fault ≡ listing_read_fault error → OfInput known (λ input. CheckedScript form file input old old (Err fault))
unread_script form file known old error fault is =
    of_any_input known (λ (input : List ℕ). CheckedScript form file input old old (Err fault))
    (λ (input : List ℕ). subst (λ (f : ListingFault). CheckedScript form file input old old (Err f)) (sym is) (unread form file input old error))
