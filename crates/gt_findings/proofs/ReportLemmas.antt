-- Texts that are appended one after the other.
use Rattle.std.proofs.Common.{◌≡◌, ◌⊎◌, ℕ, ◌<◌, ◌+◌, List, [], ◌∷◌, ◌++◌, length, take, get_or, refl, sym, subst, ap, ◌∙◌}
use Rattle.std.proofs.Common.{append_assoc, arith, chars, codes, cond, inl, inr, nat_lt, true, false, Bool, ◌≤◌, OnOk, Result, Ok, Err}
use Rattle.std.proofs.lemmas.Bool.Decides.{nat_tests}
use Rattle.std.proofs.lemmas.List.{append-nil, take_more}
use Rattle.std.proofs.lemmas.List.Concat.{flat_map-append}
use Rattle.std.proofs.lemmas.List.Elements.{All-append}
use Rattle.std.proofs.lemmas.Slice.Zip.{all_zipped_more}
use Rattle.std.specs.List.{AllPass, concat, flat_map}
use Rattle.gt_findings.specs.Report.{AddsText, IsTextOfAll, IsExcerpt, IsReport, IsFindingText, object_text, caret_text, excerpt_text, heading_text}
use Rattle.gt_findings.specs.Report.{is_space_or_tab, shown_letter, shown_text, shown_word, IsShownText}
use Rattle.std.specs.Prelude.{encode_utf8}
use Rattle.gt_findings.specs.declared.findings.Finding.{Finding}
use Rattle.gt_findings.specs.declared.findings.FindingKind.{FindingKind}
use Rattle.gt_findings.specs.declared.report.ReportForm.{ReportForm}
use Rattle.gt_findings.specs.declared.report.ReportForm.TheVariants.{Colored, Json, Text}

pub adds_none : (P : List ℕ → Type 0) (old new : List ℕ) → P [] → new ≡ old → AddsText P old new
adds_none P old new none same = ([], none, same ∙ sym (append-nil old))

pub adds_both : (P Q R : List ℕ → Type 0) (old mid new : List ℕ) → ((a b : List ℕ) → P a → Q b → R (a ++ b)) → AddsText P old mid → AddsText Q mid new → AddsText R old new
adds_both P Q R old mid new joins (a, p, first) (b, q, second) =
    (a ++ b, joins a b p q, second ∙ ap (λ (l : List ℕ). l ++ b) first ∙ append_assoc old a b)

concat_more : (texts : List (List ℕ)) (text : List ℕ) → concat (texts ++ text ∷ []) ≡ concat texts ++ text
concat_more [] text = append-nil text
concat_more (t ∷ texts) text = ap (λ (l : List ℕ). t ++ l) (concat_more texts text) ∙ sym (append_assoc t (concat texts) text)

-- one more text
joined : {A : Type 0} (R : A → List ℕ → Type 0) (xs : List A) (x : A) (a b : List ℕ) → IsTextOfAll R xs a → R x b → IsTextOfAll R (xs ++ x ∷ []) (a ++ b)
joined R xs x a b (texts, zipped, is) one =
    (texts ++ b ∷ [], all_zipped_more R xs texts x b zipped one, ap (λ (l : List ℕ). l ++ b) is ∙ sym (concat_more texts b))

pub texts_more : {A : Type 0} (R : A → List ℕ → Type 0) (xs : List A) (i : ℕ) (x : A) (old mid new : List ℕ) → i < length xs → x ≡ get_or xs i x → AddsText (IsTextOfAll R (take i xs)) old mid → AddsText (R x) mid new
    → AddsText (IsTextOfAll R (take (i + 1) xs)) old new
texts_more R xs i x old mid new within is before added =
    adds_both (IsTextOfAll R (take i xs)) (R x) (IsTextOfAll R (take (i + 1) xs)) old mid new
    (λ a b p q. subst (λ (l : List _). IsTextOfAll R l (a ++ b)) (sym (take_more xs i x within ∙ ap (λ (y : _). take i xs ++ y ∷ []) (sym is))) (joined R (take i xs) x a b p q)) before added

-- ---- the parts of a finding

-- what follows from what an Ok promises
pub on_ok : {T E P Q : Type 0} (r : Result T E) → (P → Q) → OnOk r P → OnOk r Q
on_ok (Ok x) turns holds = turns holds
on_ok (Err e) turns holds = tt

pub more_blanks : (old mid new : List ℕ) → AddsText (AllPass is_space_or_tab) old mid → AddsText (AllPass is_space_or_tab) mid new → AddsText (AllPass is_space_or_tab) old new
more_blanks old mid new before added =
    adds_both (AllPass is_space_or_tab) (AllPass is_space_or_tab) (AllPass is_space_or_tab) old mid new (λ a b p q. All-append (λ x. is_space_or_tab x ≡ true) a b p q) before added

-- characters as they are shown, one after the other
shown_both : (a b : List ℕ) → IsShownText a → IsShownText b → IsShownText (a ++ b)
shown_both a b (x, is) (y, so) =
    (x ++ y, ap (λ (l : List ℕ). l ++ b) is ∙ ap (λ (l : List ℕ). shown_text x ++ l) so ∙ sym (flat_map-append (λ c. encode_utf8 (shown_letter c)) x y))

pub shown_then : (old mid new : List ℕ) → AddsText IsShownText old mid → AddsText IsShownText mid new → AddsText IsShownText old new
shown_then old mid new before added = adds_both IsShownText IsShownText IsShownText old mid new shown_both before added

pub shown_all : (old new letters : List ℕ) → new ≡ old ++ shown_text letters → AddsText IsShownText old new
shown_all old new letters is = (shown_text letters, (letters, refl), is)

pub shown_none : (old : List ℕ) → AddsText IsShownText old old
shown_none old = ([], ([], refl), sym (append-nil old))

pub shown_char : (old new : List ℕ) (c : ℕ) → new ≡ old ++ encode_utf8 (shown_letter c) → AddsText IsShownText old new
shown_char old new c is = shown_all old new (c ∷ []) (is ∙ ap (λ (l : List ℕ). old ++ l) (sym (append-nil _)))

pub no_blanks : (old : List ℕ) → AddsText (AllPass is_space_or_tab) old old
no_blanks old = ([], (λ k d h. absurd (omega (arith, h))), sym (append-nil old))

-- a line, a line end, blanks and a caret are an excerpt
pub excerpt_added : (form : ReportForm) (kind : FindingKind) (caret old line start mid new : List ℕ) → AddsText IsShownText old line → start ≡ line ++ codes "\n" → AddsText (AllPass is_space_or_tab) start mid
    → caret ≡ caret_text form kind → new ≡ mid ++ caret → AddsText (IsExcerpt form kind) old new
unfolding excerpt_text
excerpt_added form kind caret old line start mid new (said, (letters, so), there) ended (blanks, blank, is) same put =
    let shown : line ≡ old ++ shown_text letters = there ∙ ap (λ (l : List ℕ). old ++ l) so in
    let whole : new ≡ old ++ excerpt_text form kind letters blanks =
    put ∙ ap (λ (l : List ℕ). mid ++ l) same ∙ ap (λ (l : List ℕ). l ++ caret_text form kind) (is ∙ ap (λ (l : List ℕ). l ++ blanks) (ended ∙ ap (λ (l : List ℕ). l ++ codes "\n") shown)) ∙ simp append_assoc in
    (excerpt_text form kind letters blanks, inr (letters, blanks, blank, refl), whole)

-- a heading and an excerpt are a finding
pub finding_added : (form : ReportForm) (file : List ℕ) (x : Finding) (old mid new : List ℕ) → mid ≡ old ++ heading_text file x → AddsText (IsExcerpt form x.kind) mid new → AddsText (IsFindingText form file x) old new
finding_added form file x old mid new headed (excerpt, is, put) =
    (heading_text file x ++ excerpt, (excerpt, is, refl), put ∙ ap (λ (l : List ℕ). l ++ excerpt) headed ∙ append_assoc old (heading_text file x) excerpt)

-- ---- findings in a form

pub as_json : (form : ReportForm) (file : List ℕ) (found : List Finding) (old new : List ℕ) → form ≡ Json → new ≡ old ++ flat_map (object_text file) found → AddsText (IsReport form file found) old new
as_json Json file found old new is put = (flat_map (object_text file) found, refl, put)
as_json Text file found old new is put = absurd (cc is)
as_json Colored file found old new is put = absurd (cc is)

pub as_text : (form : ReportForm) (file : List ℕ) (found : List Finding) (old new : List ℕ) → (form ≡ Text) ⊎ (form ≡ Colored) → AddsText (IsTextOfAll (IsFindingText form file) found) old new → AddsText (IsReport form file found) old new
as_text Text file found old new is adds = adds
as_text Colored file found old new is adds = adds
as_text Json file found old new (inl is) adds = absurd (cc is)
as_text Json file found old new (inr is) adds = absurd (cc is)

-- ---- one finding in a form

pub object_alone : (form : ReportForm) (file : List ℕ) (x : Finding) (old new : List ℕ) → form ≡ Json
    → new ≡ old ++ object_text file x → AddsText (IsReport form file (x ∷ [])) old new
object_alone form file x old new is put =
    as_json form file (x ∷ []) old new is (put ∙ ap (λ (l : List ℕ). old ++ l) (sym (append-nil (object_text file x))))

pub text_alone : (form : ReportForm) (file : List ℕ) (x : Finding) (old new : List ℕ) → (form ≡ Text) ⊎ (form ≡ Colored)
    → AddsText (IsFindingText form file x) old new → AddsText (IsReport form file (x ∷ [])) old new
text_alone form file x old new is (text, one, put) =
    as_text form file (x ∷ []) old new is (text, (text ∷ [], (one, tt), sym (append-nil text)), put)

-- ---- words

longer_test : (n : ℕ) → 160 < n → nat_lt 160 n ≡ true
longer_test n h = grind (arith, nat_tests)

shorter_test : (n : ℕ) → n ≤ 160 → nat_lt 160 n ≡ false
shorter_test n h = grind (arith, nat_tests)

-- a long word
pub word_cut : (old out new word front : List ℕ) → out ≡ old ++ shown_text front → length front ≡ 160 → front ≡ take (length front) (chars word)
    → length front < length (chars word) → new ≡ out ++ codes "..." → new ≡ old ++ shown_word word
unfolding shown_word
word_cut old out new word front written many is longer put =
    let cut : front ≡ take 160 (chars word) = subst (λ (n : ℕ). front ≡ take n (chars word)) many is in
    let long : nat_lt 160 (length (chars word)) ≡ true = longer_test (length (chars word)) (omega (arith, many, longer)) in
    put ∙ ap (λ (l : List ℕ). l ++ codes "...") (written ∙ ap (λ (l : List ℕ). old ++ shown_text l) cut)
    ∙ append_assoc old (shown_text (take 160 (chars word))) (codes "...")
    ∙ ap (λ (b : Bool). old ++ cond b (shown_text (take 160 (chars word)) ++ codes "...") (shown_text (chars word))) (sym long)

-- any other word
pub word_whole : (old out word front : List ℕ) → out ≡ old ++ shown_text front → length front ≤ 160 → front ≡ chars word → out ≡ old ++ shown_word word
unfolding shown_word
word_whole old out word front written few is =
    let same : length front ≡ length (chars word) = ap length is in
    let short : nat_lt 160 (length (chars word)) ≡ false = shorter_test (length (chars word)) (omega (arith, same, few)) in
    written ∙ ap (λ (l : List ℕ). old ++ shown_text l) is
    ∙ ap (λ (b : Bool). old ++ cond b (shown_text (take 160 (chars word)) ++ codes "...") (shown_text (chars word))) (sym short)
