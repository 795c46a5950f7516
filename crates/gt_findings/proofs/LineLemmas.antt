-- The words of a line, and the columns of a word.
use Rattle.std.proofs.Common.{◌≡◌, ◌∙◌, ◌⊎◌, ℕ, ◌+◌, ◌-◌, ◌^◌, ◌<◌, ◌≤◌, Bool, true, false, cond, List, [], Option, Some, None, is_some, not, get_or}
use Rattle.std.proofs.Common.{◌∷◌, ◌++◌, codes, length, take, refl, sym, ap, subst, arith, inl, inr}
use Rattle.std.specs.Prelude.{slice_range, All, MatchOption}
use Rattle.std.specs.Borrow.{Bor}
use Rattle.std.specs.HashMap.{HashMap, get_by}
use Rattle.std.specs.Option.{option_copied}
use Rattle.std.specs.Str.{bytes_eq}
use Rattle.std.proofs.lemmas.Bool.{cases_lt, true≢false}
use Rattle.std.proofs.lemmas.List.{get_or_push, length_push}
use Rattle.std.proofs.Math.ListN.{get_or-append}
use Rattle.std.proofs.lemmas.Slice.Eq.{bytes_eq-Decides}
use Rattle.gt_findings.specs.Columns.{column_number, AreTokens, HasNoLine, HasWord, IsColumnIn, IsColumnOf, IsFirstColumn, IsToken, no_line, of_row, of_word}
use Rattle.gt_findings.specs.LineWords.{ArePlaces, AreWordColumns}
use Rattle.gt_findings.specs.declared.places.Span.{Span}
use Rattle.gt_findings.proofs.ColumnLemmas.{IsFound, found_all, found_last, found_more, has_word}

-- ---- the first places of words

-- for each word its place was found, or it is none of the tokens so far
abbrev pub AreFound : List ℕ → List Span → (List ℕ → Option ℕ) → Type 0
AreFound row tokens f = (word : List ℕ) → IsFound row word tokens (f word)

pub none_found : (row : List ℕ) (tokens : List Span) (f : List ℕ → Option ℕ) → tokens ≡ [] → ((word : List ℕ) → f word ≡ None)
    → AreFound row tokens f
none_found row tokens f empty none word =
    subst (λ (o : Option ℕ). IsFound row word tokens o) (sym (none word))
    (subst (λ (l : List Span). All (λ t. slice_range row t.start t.end ≡ word → ⊥) l) (sym empty) (λ k d h. absurd (omega (arith, h))))

stays_found : (row word : List ℕ) (tokens more : List Span) (o : Option ℕ) → is_some o ≡ true → IsFound row word tokens o → IsFound row word more o
stays_found row word tokens more None some found = absurd (cc)
stays_found row word tokens more (Some place) some found = found

module _ (row : List ℕ) (tokens : List Span) (i : ℕ) (t : Span) (within : i < length tokens) (is : t ≡ get_or tokens i (record { start = 0; end = 0 }))
    (token : IsToken row t.start t.end) (piece : List ℕ) (read : piece ≡ slice_range row t.start t.end) where
  other_piece : (word : List ℕ) → bytes_eq piece word ≡ false → slice_range row t.start t.end ≡ word → ⊥
  other_piece word e same = true≢false (sym ((bytes_eq-Decides piece word).1 (read ∙ same)) ∙ e)

  -- a word that was found before
  pub found_again : (f : List ℕ → Option ℕ) → AreFound row (take i tokens) f → is_some (f piece) ≡ true → AreFound row (take (i + 1) tokens) f
  found_again f found some word = by (bytes_eq piece word) refl
    where
      by : (b : Bool) → bytes_eq piece word ≡ b → IsFound row word (take (i + 1) tokens) (f word)
      by true e =
          let same : piece ≡ word = (bytes_eq-Decides piece word).0 e in
          stays_found row word (take i tokens) (take (i + 1) tokens) (f word) (subst (λ (w : List ℕ). is_some (f w) ≡ true) same some) (found word)
      by false e = found_more row word tokens i (f word) t within is (found word) (other_piece word e)

  -- a word that is put in
  pub found_first : (f g : List ℕ → Option ℕ) → AreFound row (take i tokens) f
      → ((word : List ℕ) → g word ≡ cond (bytes_eq piece word) (Some t.start) (f word)) → AreFound row (take (i + 1) tokens) g
  found_first f g found put word = by (bytes_eq piece word) refl
    where
      on : (b : Bool) → bytes_eq piece word ≡ b → g word ≡ cond b (Some t.start) (f word)
      on b e = put word ∙ ap (λ (c : Bool). cond c (Some t.start) (f word)) e

      by : (b : Bool) → bytes_eq piece word ≡ b → IsFound row word (take (i + 1) tokens) (g word)
      by true e =
          found_last row word (take (i + 1) tokens) (g word) t.start (on true e)
          (has_word row word piece t.start t.end token read ((bytes_eq-Decides piece word).0 e))
      by false e =
          subst (λ (o : Option ℕ). IsFound row word (take (i + 1) tokens) o) (sym (on false e))
          (found_more row word tokens i (f word) t within is (found word) (other_piece word e))

-- the same places, of another map
pub found_in : {S : Type 0} (row : List ℕ) (tokens : List Span) (m n : HashMap (Bor (List ℕ)) ℕ S) → m ≡ n
    → AreFound row tokens (λ word. get_by (λ k. bytes_eq word k.now) n) → AreFound row tokens (λ word. get_by (λ k. bytes_eq word k.now) m)
found_in {S} row tokens m n is found =
    subst (λ (h : HashMap (Bor (List ℕ)) ℕ S). AreFound row tokens (λ word. get_by (λ k. bytes_eq word k.now) h)) (sym is) found

-- a look-up that gave something
pub some_read : (r : Option (Bor ℕ)) (o : Option ℕ) (b : Bool) → option_copied r ≡ o → is_some r ≡ not b → b ≡ false → is_some o ≡ true
some_read None o b is reads fails = absurd (true≢false (sym (reads ∙ ap (λ (x : Bool). not x) fails)))
some_read (Some x) o b is reads fails = ap (λ (y : Option ℕ). is_some y) (sym is)

pub all_found : (row : List ℕ) (tokens : List Span) {S : Type 0} (m : HashMap (Bor (List ℕ)) ℕ S) → AreTokens row tokens
    → AreFound row tokens (λ word. get_by (λ k. bytes_eq word k.now) m) → ArePlaces row m
all_found row tokens m are found word = found_all row word tokens (get_by (λ k. bytes_eq word k.now) m) are (found word)

-- the word at a place
pub column_placed : {S : Type 0} (row word bytes : List ℕ) (m : HashMap (Bor (List ℕ)) ℕ S) (place column : ℕ) → ArePlaces row m → bytes ≡ word
    → Some place ≡ get_by (λ k. bytes_eq bytes k.now) m → column ≡ column_number place → IsColumnIn row word column
column_placed row word bytes m place column are same is number =
    let has : HasWord row bytes place = found_place (get_by (λ k. bytes_eq bytes k.now) m) (sym is) (are bytes) in
    subst (λ (n : ℕ). IsColumnIn row word n) (sym number) (of_word place (subst (λ (w : List ℕ). HasWord row w place) same has))
  where
    found_place : (o : Option ℕ) → o ≡ Some place → MatchOption o ((p : ℕ) → HasWord row bytes p → ⊥) (λ p. HasWord row bytes p) → HasWord row bytes place
    found_place o e h = subst (λ (r : Option ℕ). MatchOption r ((p : ℕ) → HasWord row bytes p → ⊥) (λ p. HasWord row bytes p)) e h

-- a word that the line does not have
pub column_missing : {S : Type 0} (row word bytes : List ℕ) (m : HashMap (Bor (List ℕ)) ℕ S) (column : ℕ) → ArePlaces row m → bytes ≡ word
    → None ≡ get_by (λ k. bytes_eq bytes k.now) m → IsFirstColumn row column → IsColumnIn row word column
column_missing row word bytes m column are same is first =
    let none : (p : ℕ) → HasWord row bytes p → ⊥ = found_nowhere (get_by (λ k. bytes_eq bytes k.now) m) (sym is) (are bytes) in
    of_row column (subst (λ (w : List ℕ). (p : ℕ) → HasWord row w p → ⊥) same none) first
  where
    found_nowhere : (o : Option ℕ) → o ≡ None → MatchOption o ((p : ℕ) → HasWord row bytes p → ⊥) (λ p. HasWord row bytes p) → (p : ℕ) → HasWord row bytes p → ⊥
    found_nowhere o e h = subst (λ (r : Option ℕ). MatchOption r ((p : ℕ) → HasWord row bytes p → ⊥) (λ p. HasWord row bytes p)) e h

-- ---- the columns of a word

-- a line that the text does not have
pub line_missing : (text word columns : List ℕ) (line : ℕ) → AreWordColumns text word columns → line < 2 ^ 32 → length columns ≤ line - 1 → IsColumnOf text line word 1
line_missing text word columns line are small past = no_line none
  where
    none : HasNoLine text line
    none = by (cases_lt 0 line)
      where
        by : (0 < line) ⊎ (line ≤ 0) → HasNoLine text line
        by (inl l) = inr (omega (arith, are.every, past, small, l))
        by (inr l) = inl (omega (arith, l))

-- a line that it has
pub line_column : (text word columns lent : List ℕ) (line column : ℕ) → AreWordColumns text word columns → lent ≡ columns → 0 < line → line - 1 < length lent
    → column ≡ get_or lent (line - 1) 0 → IsColumnOf text line word column
line_column text word columns lent line column are same above within is =
    let e : (line - 1) + 1 ≡ line = omega (arith, above) in
    let here : IsColumnOf text ((line - 1) + 1) word (get_or columns (line - 1) 0) = are.each (line - 1) (subst (λ (l : List ℕ). line - 1 < length l) same within) in
    subst (λ (n : ℕ). IsColumnOf text n word column) e
    (subst (λ (n : ℕ). IsColumnOf text ((line - 1) + 1) word n) (sym (is ∙ ap (λ (l : List ℕ). get_or l (line - 1) 0) same)) here)

module _ (text word : List ℕ) where
  -- the first columns are those of their lines
  abbrev pub AreOfLines : List ℕ → Type 0
  AreOfLines columns = (i : ℕ) → i < length columns → IsColumnOf text (i + 1) word (get_or columns i 0)

  -- one more
  pub word_more : (columns more : List ℕ) (line column : ℕ) → length columns ≡ line → AreOfLines columns → IsColumnOf text (line + 1) word column
      → more ≡ columns ++ column ∷ [] → AreOfLines more × (length more ≡ line + 1)
  word_more columns more line column many first last added =
      (subst (λ (l : List ℕ). AreOfLines l) (sym added) each, ap length added ∙ length_push columns column ∙ ap (λ (n : ℕ). n + 1) many)
    where
      here : IsColumnOf text (line + 1) word (get_or (columns ++ column ∷ []) line 0)
      here = subst (λ (n : ℕ). IsColumnOf text (line + 1) word n) (sym (get_or_push columns column 0 line many)) last

      by : (k : ℕ) → k < length (columns ++ column ∷ []) → (k < length columns) ⊎ (length columns ≤ k) → IsColumnOf text (k + 1) word (get_or (columns ++ column ∷ []) k 0)
      by k l (inl before) = subst (λ (n : ℕ). IsColumnOf text (k + 1) word n) (sym (get_or-append columns (column ∷ []) 0 k before)) (first k before)
      by k l (inr past) =
          let long = length_push columns column in
          let e : line ≡ k = omega (arith, l, past, long, many) in
          subst (λ (n : ℕ). IsColumnOf text (n + 1) word (get_or (columns ++ column ∷ []) n 0)) e here

      each : AreOfLines (columns ++ column ∷ [])
      each k l = by k l (cases_lt k (length columns))
