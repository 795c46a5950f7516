-- From the breaches that were found and written to what a check against neverallow statements promises.
use Rattle.std.proofs.Common.{◌≡◌, ℕ, ◌≤◌, List, length, take, Option, Some, Result, Ok, Err, Bool, refl, sym, subst, inl, inr}
use Rattle.std.specs.Str.{IsUtf8}
use Rattle.gt_policy.specs.Shown.{fault_shown}
use Rattle.gt_policy.specs.Whole.{ReadsAs}
use Rattle.gt_policy.specs.declared.fault.TokenFault.{TokenFault}
use Rattle.gt_policy.specs.declared.parse.PolicyFaultKind.{PolicyFaultKind}
use Rattle.gt_policy.specs.declared.parse.PolicyFaultKind.TheVariants as policy_fault_kinds
use Rattle.gt_findings.specs.declared.report.ReportForm.{ReportForm}
use Rattle.gt_policy_list.specs.Faults.{listing_fault_of, listing_read_fault}
use Rattle.gt_policy_list.specs.Reading.{IsNoText}
use Rattle.gt_policy_list.specs.declared.fault.ListingFault.{ListingFault}
use Rattle.gt_policy_list.specs.declared.fault.ListingFault.TheVariants as listing_faults
use Rattle.gt_findings.specs.declared.findings.Finding.{Finding}
use Rattle.gt_neverallow.specs.Breaking.{ForbidNothing}
use Rattle.gt_neverflow.specs.Finding.{AreBreaches}
use Rattle.gt_neverflow.specs.declared.finding.NeverFindings.{NeverFindings}
use Rattle.gt_text.specs.Laws.{keeps_same, of_any_input}
use Rattle.gt_text.specs.Streams.{OfInput}
use Rattle.gt_text.specs.declared.fault.ReadFault.{ReadFault}
use Rattle.gt_text.specs.declared.fault.ReadFault.TheVariants as read_faults
use Rattle.gt_check_command.specs.Breaking.{CheckedNever, CheckedNeverText, WritesBreaches, WritesWords}
use Rattle.gt_check_command.specs.Reporting.{WritesFindings}
use Rattle.gt_policy_reasons.specs.declared.faults.BreachFault.{BreachFault}
use Rattle.gt_policy_reasons.specs.declared.faults.BreachFault.TheVariants.{ForbidsNothing, Policy, Statements}
use Rattle.gt_check_command.proofs.Advised.{checked_no, whole_read}

module _ (form : ReportForm) (never given file : List ℕ) where
  -- what was found went out
  pub written : (text : List ℕ) (found : NeverFindings) (old new : Option (List ℕ)) (r : Result Bool BreachFault) → AreBreaches text given found → WritesBreaches form file text never given found old new r → CheckedNeverText form never given file text old new r
  written text found old new (Ok clean) are (is, (report, printed, went)) = (found, report, (are, printed), is, went)
  written text found old new (Err (Policy listing_faults.Write)) are (report, printed, began) = (report, inl (found, (are, printed)), began)
  written text found old new (Err (Policy listing_faults.Memory)) are w = w
  written text found old new (Err (Policy listing_faults.Read)) are w = absurd w
  written text found old new (Err (Policy (listing_faults.Utf8 line))) are w = absurd w
  written text found old new (Err (Policy (listing_faults.Policy shown))) are w = absurd w
  written text found old new (Err (Statements shown)) are w = absurd w
  written text found old new (Err (ForbidsNothing line)) are w = absurd w

  -- the words were not written
  pub words_unwritten : (words : List Finding) (line : ℕ) (old new : Option (List ℕ)) (fault : ListingFault) → WritesFindings form never words old new (Err fault) → WritesWords form never words line old new (Policy fault)
  words_unwritten words line old new listing_faults.Write w = w
  words_unwritten words line old new listing_faults.Memory w = w
  words_unwritten words line old new listing_faults.Read w = absurd w
  words_unwritten words line old new (listing_faults.Utf8 bad) w = absurd w
  words_unwritten words line old new (listing_faults.Policy shown) w = absurd w

  -- the words of a text that forbids nothing went out
  words-written : (text : List ℕ) (words : List Finding) (line : ℕ) (old new : Option (List ℕ)) (e : BreachFault) → ForbidNothing text given line words → WritesWords form never words line old new e → CheckedNeverText form never given file text old new (Err e)
  words-written text words line old new (ForbidsNothing at) are (same, (report, printed, went)) =
      subst (λ (n : ℕ). CheckedNeverText form never given file text old new (Err (ForbidsNothing n))) (sym same) (report, (words, are, printed), went)
  words-written text words line old new (Policy listing_faults.Write) are (report, printed, began) = (report, inr (line, (words, are, printed)), began)
  words-written text words line old new (Policy listing_faults.Memory) are w = w
  words-written text words line old new (Policy listing_faults.Read) are w = absurd w
  words-written text words line old new (Policy (listing_faults.Utf8 bad)) are w = absurd w
  words-written text words line old new (Policy (listing_faults.Policy shown)) are w = absurd w
  words-written text words line old new (Statements shown) are w = absurd w

  pub never_words : (text : List ℕ) (words lent : List Finding) (line : ℕ) (old new : Option (List ℕ)) (e : BreachFault) → ForbidNothing text given line words → lent ≡ words → WritesWords form never lent line old new e → CheckedNeverText form never given file text old new (Err e)
  never_words text words lent line old new e are same w =
      words-written text words line old new e are (subst (λ (l : List Finding). WritesWords form never l line old new e) same w)

  -- the text is not a policy
  refused : (text : List ℕ) (line : ℕ) (kind : PolicyFaultKind) (old : Option (List ℕ)) → ((f : TokenFault) → fault_shown (record { line = line; kind = kind }) ≡ Some f → ReadsAs text (Err f))
      → CheckedNeverText form never given file text old old (Err (Policy (listing_fault_of line kind)))
  refused text line policy_fault_kinds.Memory old says = keeps_same old
  refused text line policy_fault_kinds.Syntax old says = (_, refl, says _ refl, keeps_same old)
  refused text line (policy_fault_kinds.Unknown name) old says = (_, refl, says _ refl, keeps_same old)
  refused text line (policy_fault_kinds.Twice name) old says = (_, refl, says _ refl, keeps_same old)
  refused text line (policy_fault_kinds.Permission name) old says = (_, refl, says _ refl, keeps_same old)
  refused text line (policy_fault_kinds.Outside word) old says = (_, refl, says _ refl, keeps_same old)
  refused text line policy_fault_kinds.Limit old says = (_, refl, says _ refl, keeps_same old)

  pub never_policy : (text : List ℕ) (line : ℕ) (kind : PolicyFaultKind) (fault : ListingFault) (old : Option (List ℕ)) → fault ≡ listing_fault_of line kind
      → ((f : TokenFault) → fault_shown (record { line = line; kind = kind }) ≡ Some f → ReadsAs text (Err f)) → CheckedNeverText form never given file text old old (Err (Policy fault))
  never_policy text line kind fault old is says = subst (λ (f : ListingFault). CheckedNeverText form never given file text old old (Err (Policy f))) (sym is) (refused text line kind old says)

  of_text : (bytes : List ℕ) (old new : Option (List ℕ)) (r : Result Bool BreachFault) → IsUtf8 bytes → CheckedNeverText form never given file bytes old new r → CheckedNever form never given file bytes old new r
  of_text bytes old new (Ok clean) utf8 c = (utf8, c)
  of_text bytes old new (Err (Policy listing_faults.Write)) utf8 c = (utf8, c)
  of_text bytes old new (Err (Policy listing_faults.Memory)) utf8 c = c
  of_text bytes old new (Err (Policy listing_faults.Read)) utf8 c = absurd c
  of_text bytes old new (Err (Policy (listing_faults.Utf8 line))) utf8 c = absurd c
  of_text bytes old new (Err (Policy (listing_faults.Policy shown))) utf8 c = (c.0, c.1, (inr utf8, c.2), c.3)
  of_text bytes old new (Err (Statements shown)) utf8 c = (utf8, c)
  of_text bytes old new (Err (ForbidsNothing line)) utf8 c = (utf8, c)

  pub never_bytes : (all bytes text : List ℕ) (old new : Option (List ℕ)) (r : Result Bool BreachFault) → bytes ≡ take 1048577 all → text ≡ bytes → length bytes ≤ 1048576 → IsUtf8 bytes
      → CheckedNeverText form never given file text old new r → CheckedNever form never given file all old new r
  never_bytes all bytes text old new r read same short utf8 c =
      subst (λ (l : List ℕ). CheckedNever form never given file l old new r) (whole_read all bytes read short) (of_text bytes old new r utf8 (subst (λ (l : List ℕ). CheckedNeverText form never given file l old new r) same c))

  -- the bytes are not a text
  pub never_no : (all bytes : List ℕ) (fault : ListingFault) (old : Option (List ℕ)) → bytes ≡ take 1048577 all → IsNoText bytes fault → CheckedNever form never given file all old old (Err (Policy fault))
  never_no all bytes (listing_faults.Utf8 line) old read h = checked_no form file all bytes (listing_faults.Utf8 line) old read h
  never_no all bytes (listing_faults.Policy shown) old read h = checked_no form file all bytes (listing_faults.Policy shown) old read h
  never_no all bytes listing_faults.Memory old read h = absurd h
  never_no all bytes listing_faults.Read old read h = absurd h
  never_no all bytes listing_faults.Write old read h = absurd h

  unread : (all : List ℕ) (old : Option (List ℕ)) (error : ReadFault) → CheckedNever form never given file all old old (Err (Policy (listing_read_fault error)))
  unread all old read_faults.Memory = keeps_same old
  unread all old read_faults.Read = keeps_same old

  pub never_unread : (known old : Option (List ℕ)) (error : ReadFault) (fault : ListingFault) → fault ≡ listing_read_fault error → OfInput known (λ input. CheckedNever form never given file input old old (Err (Policy fault)))
  never_unread known old error fault is =
      of_any_input known (λ (input : List ℕ). CheckedNever form never given file input old old (Err (Policy fault)))
      (λ (input : List ℕ). subst (λ (f : ListingFault). CheckedNever form never given file input old old (Err (Policy f))) (sym is) (unread input old error))
