-- Lines, tokens and columns of a text.
use Rattle.std.proofs.Common.{◌≡◌, ◌⊎◌, inl, inr, ℕ, ◌+◌, ◌-◌, ◌<◌, ◌≤◌, ◌==◌, Bool, true, false, List, [], ◌∷◌, ◌++◌}
use Rattle.std.proofs.Common.{Option, Some, None, cond, drop, get_or, length, take, refl, sym, ap, subst, ◌∙◌, arith}
use Rattle.std.specs.Prelude.{count_by, if◌then◌else◌, All, Contains, MatchOption, slice_range}
use Rattle.std.proofs.lemmas.List.{append-nil, get_or_push, length_push}
use Rattle.std.proofs.lemmas.List.Sums.{count_by_more_no, count_by_more_yes}
use Rattle.std.proofs.Math.ListN.{get_or-append}
use Rattle.std.proofs.lemmas.Bool.{cases_lt, cases_order, true≢false}
use Rattle.std.proofs.lemmas.Bool.Decides.{nat_tests}
use Rattle.std.proofs.lemmas.List.Elements.{All-contains, All-more, All-push, Contains-append_left, Contains-push}
use Rattle.std.proofs.lemmas.Grind.{common_steps}
use Rattle.std.proofs.lemmas.Slice.Eq.{bytes_eq-Decides}
use Rattle.std.specs.Str.{bytes_eq}
use Rattle.gt_policy_text.specs.Lexing.{is_blank}
use Rattle.gt_findings.specs.Columns.{begins_row, column_number, continues_token, AreBounds, AreTokens, BeginsTextLine, HasWord, IsToken}
use Rattle.gt_findings.specs.Columns.{RunsTo, IsColumnIn, IsColumnOf, IsEndIn, IsEndOf, HasNoLine, no_line, of_row}
use Rattle.gt_findings.specs.Columns.{of_word, on_line, ends_nowhere, ends_on_line, AreOfLine, IsFirstColumn}
use Rattle.gt_findings.specs.declared.places.LineTokens.{LineTokens}
use Rattle.gt_findings.specs.declared.places.Span.{Span}

-- ---- bytes

pub continues_on : (a b c : ℕ) → continues_token a b ≡ true → continues_token b c ≡ true → continues_token a c ≡ true
continues_on a b c h k = grind (arith, nat_tests)

pub blank_ends : (a b : ℕ) → is_blank b ≡ true → continues_token a b ≡ true → ⊥
blank_ends a b h k = grind (arith, nat_tests)

pub blank_begins : (a b : ℕ) → is_blank a ≡ true → continues_token a b ≡ true → ⊥
blank_begins a b h k = grind (arith, nat_tests)

pub hash_ends : (a b : ℕ) → b ≡ 35 → continues_token a b ≡ true → ⊥
hash_ends a b h k = grind (arith, nat_tests)

pub hash_blank : (b : ℕ) → b ≡ 35 → is_blank b ≡ true → ⊥
hash_blank b h k = grind (arith, nat_tests)

both_ways : (b : Bool) → b ≡ true → b ≡ false → ⊥
both_ways b h k = true≢false (sym h ∙ k)

-- ---- one more token

-- no token before continues to the place
abbrev pub IsApart : List ℕ → ℕ → Type 0
IsApart row place = (k : ℕ) → k < place → RunsTo row k place → ⊥

-- the tokens before the place are among these
abbrev pub HasEach : List ℕ → List Span → ℕ → Type 0
HasEach row tokens place =
    (start end : ℕ) → IsToken row start end → start < place → Contains tokens (record { start = start; end = end })

-- no comment begins before the place
abbrev pub NoComment : List ℕ → ℕ → Type 0
NoComment row place = (k : ℕ) → k < place → get_or row k 0 ≡ 35 → ⊥

-- what is known at a place where the next token may begin
pub record AtPlace (row : List ℕ) (tokens : List Span) (place : ℕ) : Type 0 where
  pub within : place ≤ length row
  pub begins : is_blank (get_or row place 0) ≡ false
  pub apart : IsApart row place
  pub clean : NoComment row place
  pub each : All (λ t. IsToken row t.start t.end) tokens
  pub every : HasEach row tokens place

pub first_apart : (row : List ℕ) (place : ℕ) → ((k : ℕ) → k < place → is_blank (get_or row k 0) ≡ true) → IsApart row place
first_apart row place blanks k below runs = blank_begins (get_or row k 0) (get_or row place 0) (blanks k below) (runs place below (omega arith))

pub first_clean : (row : List ℕ) (place : ℕ) → ((k : ℕ) → k < place → is_blank (get_or row k 0) ≡ true) → NoComment row place
first_clean row place blanks k below hash = hash_blank (get_or row k 0) hash (blanks k below)

none_before : (row : List ℕ) (place : ℕ) → ((k : ℕ) → k < place → is_blank (get_or row k 0) ≡ true) → HasEach row [] place
none_before row place blanks start end t below = absurd (both_ways (is_blank (get_or row start 0)) (blanks start below) t.begins)

pub at_first : (row : List ℕ) (place : ℕ) → place ≤ length row → ((k : ℕ) → k < place → is_blank (get_or row k 0) ≡ true)
    → is_blank (get_or row place 0) ≡ false → (tokens : List Span) → tokens ≡ [] → AtPlace row tokens place
at_first row place within blanks begins tokens none =
    subst (λ (l : List Span). AtPlace row l place) (sym none) (record {
      within = within;
      begins = begins;
      apart = first_apart row place blanks;
      clean = first_clean row place blanks;
      each = λ k d h. absurd (omega (arith, h));
      every = none_before row place blanks;
    })

module _ (row : List ℕ) (start end next : ℕ) (longer : start < end) (after : end ≤ next)
    (inside : (k : ℕ) → start < k → k < end → continues_token (get_or row start 0) (get_or row k 0) ≡ true)
    (ends : continues_token (get_or row start 0) (get_or row end 0) ≡ false)
    (blanks : (k : ℕ) → end ≤ k → k < next → is_blank (get_or row k 0) ≡ true)
    (apart : IsApart row start)
    (begins : is_blank (get_or row start 0) ≡ false) where
  not_within : (k : ℕ) → k < end → RunsTo row k end → ⊥
  not_within k below runs = by (cases_order k start)
    where
      by : (k ≡ start) ⊎ ((k < start) ⊎ (start < k)) → ⊥
      by (inl e) = both_ways (continues_token (get_or row start 0) (get_or row end 0)) (subst (λ (n : ℕ). continues_token (get_or row n 0) (get_or row end 0) ≡ true) e (runs end below (omega arith))) ends
      by (inr (inl l)) = apart k l (λ n h g. runs n h (omega arith))
      by (inr (inr l)) = both_ways (continues_token (get_or row start 0) (get_or row end 0)) (continues_on (get_or row start 0) (get_or row k 0) (get_or row end 0) (inside k l below) (runs end below (omega arith))) ends

  pub next_apart : IsApart row next
  next_apart k below runs = by (cases_lt k end)
    where
      here : end ≡ next → k < end → ⊥
      here e l = not_within k l (λ n h g. runs n h (omega arith))

      at_end : (end < next) ⊎ (next ≤ end) → k < end → ⊥
      at_end (inl l) h = blank_ends (get_or row k 0) (get_or row end 0) (blanks end (omega arith) l) (runs end h (omega arith))
      at_end (inr l) h = here (omega arith) h

      by : (k < end) ⊎ (end ≤ k) → ⊥
      by (inl l) = at_end (cases_lt end next) l
      by (inr l) = blank_begins (get_or row k 0) (get_or row next 0) (blanks k l below) (runs next below (omega arith))

  pub next_clean : (get_or row start 0 ≡ 35 → ⊥) → NoComment row start → NoComment row next
  next_clean other clean k below hash = by (cases_lt k start)
    where
      past : (k < end) ⊎ (end ≤ k) → (k ≡ start) ⊎ ((k < start) ⊎ (start < k)) → ⊥
      past (inr l) _ = hash_blank (get_or row k 0) hash (blanks k l below)
      past (inl l) (inl e) = other (subst (λ (n : ℕ). get_or row n 0 ≡ 35) e hash)
      past (inl l) (inr (inl h)) = clean k h hash
      past (inl l) (inr (inr h)) = hash_ends (get_or row start 0) (get_or row k 0) hash (inside k h l)

      by : (k < start) ⊎ (start ≤ k) → ⊥
      by (inl l) = clean k l hash
      by (inr l) = past (cases_lt k end) (cases_order k start)

  same_end : (other : ℕ) → IsToken row start other → other ≡ end
  same_end other t = by (cases_order other end)
    where
      by : (other ≡ end) ⊎ ((other < end) ⊎ (end < other)) → other ≡ end
      by (inl e) = e
      by (inr (inl l)) = absurd (both_ways (continues_token (get_or row start 0) (get_or row other 0)) (inside other t.longer l) t.ends)
      by (inr (inr l)) = absurd (both_ways (continues_token (get_or row start 0) (get_or row end 0)) (t.inside end longer l) ends)

  pub next_every : (tokens : List Span) → HasEach row tokens start → HasEach row (tokens ++ record { start = start; end = end } ∷ []) next
  next_every tokens every s e t below = by (cases_order s start)
    where
      here : s ≡ start → Contains (tokens ++ record { start = start; end = end } ∷ []) (record { start = s; end = e })
      here is =
          let other : IsToken row start e = subst (λ (n : ℕ). IsToken row n e) is t in
          subst (λ (n : ℕ). Contains (tokens ++ record { start = start; end = end } ∷ []) (record { start = n; end = e })) (sym is)
          (subst (λ (n : ℕ). Contains (tokens ++ record { start = start; end = end } ∷ []) (record { start = start; end = n })) (sym (same_end e other)) (Contains-push tokens (record { start = start; end = end })))

      past : (s < end) ⊎ (end ≤ s) → start < s → Contains (tokens ++ record { start = start; end = end } ∷ []) (record { start = s; end = e })
      past (inl l) h = absurd (t.apart start h (λ k g m. inside k g (omega arith)))
      past (inr l) h = absurd (both_ways (is_blank (get_or row s 0)) (blanks s l below) t.begins)

      by : (s ≡ start) ⊎ ((s < start) ⊎ (start < s)) → Contains (tokens ++ record { start = start; end = end } ∷ []) (record { start = s; end = e })
      by (inl is) = here is
      by (inr (inl l)) = Contains-append_left tokens (record { start = start; end = end } ∷ []) (record { start = s; end = e }) (every s e t l)
      by (inr (inr l)) = past (cases_lt s end) l

-- one token more
pub at_next : (row : List ℕ) (start end next : ℕ) (tokens more : List Span) → AtPlace row tokens start → start < end → end ≤ length row
    → ((k : ℕ) → start < k → k < end → continues_token (get_or row start 0) (get_or row k 0) ≡ true)
    → continues_token (get_or row start 0) (get_or row end 0) ≡ false → (get_or row start 0 ≡ 35 → ⊥)
    → end ≤ next → next ≤ length row → ((k : ℕ) → end ≤ k → k < next → is_blank (get_or row k 0) ≡ true)
    → is_blank (get_or row next 0) ≡ false → more ≡ tokens ++ record { start = start; end = end } ∷ [] → AtPlace row more next
at_next row start end next tokens more at longer within inside ends other after next_within blanks begins is =
    let written : (k : ℕ) → k ≤ start → get_or row k 0 ≡ 35 → ⊥ = hashes in
    let token : IsToken row start end = record { longer = longer; within = within; begins = at.begins; written = written; apart = at.apart; inside = inside; ends = ends } in
    subst (λ (l : List Span). AtPlace row l next) (sym is) (record {
      within = next_within;
      begins = begins;
      apart = next_apart row start end next longer after inside ends blanks at.apart at.begins;
      clean = next_clean row start end next longer after inside ends blanks at.apart at.begins other at.clean;
      each = All-push (λ t. IsToken row t.start t.end) tokens (record { start = start; end = end }) at.each token;
      every = next_every row start end next longer after inside ends blanks at.apart at.begins tokens at.every;
    })
  where
    hash_by : (k : ℕ) → get_or row k 0 ≡ 35 → (k ≡ start) ⊎ ((k < start) ⊎ (start < k)) → k ≤ start → ⊥
    hash_by k hash (inl e) h = other (subst (λ (n : ℕ). get_or row n 0 ≡ 35) e hash)
    hash_by k hash (inr (inl l)) h = at.clean k l hash
    hash_by k hash (inr (inr l)) h = omega arith

    hashes : (k : ℕ) → k ≤ start → get_or row k 0 ≡ 35 → ⊥
    hashes k h hash = hash_by k hash (cases_order k start) h

-- all tokens, at the end of the line or before a comment
pub at_last : (row : List ℕ) (start : ℕ) (tokens : List Span) → AtPlace row tokens start → (start < length row → get_or row start 0 ≡ 35) → AreTokens row tokens
at_last row start tokens at stop = record { each = at.each; every = all }
  where
    past : (s e : ℕ) → IsToken row s e → start ≤ s → ⊥
    past s e t h =
        let below : start < length row = omega (arith, t.longer, t.within) in
        t.written start h (stop below)

    by : (s e : ℕ) → IsToken row s e → (s < start) ⊎ (start ≤ s) → Contains tokens (record { start = s; end = e })
    by s e t (inl l) = at.every s e t l
    by s e t (inr l) = absurd (past s e t l)

    all : (s e : ℕ) → IsToken row s e → Contains tokens (record { start = s; end = e })
    all s e t = by s e t (cases_lt s start)

-- ---- words

pub continues_more : (row : List ℕ) (start place : ℕ) → ((k : ℕ) → start < k → k < place → continues_token (get_or row start 0) (get_or row k 0) ≡ true)
    → continues_token (get_or row start 0) (get_or row place 0) ≡ true
    → (k : ℕ) → start < k → k < place + 1 → continues_token (get_or row start 0) (get_or row k 0) ≡ true
continues_more row start place before here k after below = by (cases_lt k place)
  where
    by : (k < place) ⊎ (place ≤ k) → continues_token (get_or row start 0) (get_or row k 0) ≡ true
    by (inl l) = before k after l
    by (inr l) = let e : place ≡ k = omega arith in subst (λ (n : ℕ). continues_token (get_or row start 0) (get_or row n 0) ≡ true) e here

pub range_length : (row : List ℕ) (start end : ℕ) → start ≤ end → end ≤ length row → length (slice_range row start end) ≡ end - start
range_length row start end ordered within = grind (arith, common_steps)

pub has_word : (row word piece : List ℕ) (start end : ℕ) → IsToken row start end → piece ≡ slice_range row start end → piece ≡ word → HasWord row word start
has_word row word piece start end t read is =
    let spelt : slice_range row start end ≡ word = sym read ∙ is in
    let long : length word ≡ end - start = ap length (sym spelt) ∙ range_length row start end (omega (arith, t.longer)) t.within in
    let e : end ≡ start + length word = omega (arith, long, t.longer) in
    record {
      token = subst (λ (n : ℕ). IsToken row start n) e t;
      spelt = subst (λ (n : ℕ). slice_range row start n ≡ word) e spelt;
    }

-- the word was found, or it is none of the tokens so far
abbrev pub IsFound : List ℕ → List ℕ → List Span → Option ℕ → Type 0
IsFound row word tokens last = MatchOption last (All (λ t. slice_range row t.start t.end ≡ word → ⊥) tokens) (λ place. HasWord row word place)

pub found_last : (row word : List ℕ) (tokens : List Span) (last : Option ℕ) (place : ℕ) → last ≡ Some place → HasWord row word place → IsFound row word tokens last
found_last row word tokens last place is has =
    subst (λ (o : Option ℕ). IsFound row word tokens o) (sym is) has

pub same_word : (piece word : List ℕ) (b : Bool) → b ≡ bytes_eq piece word → b ≡ true → piece ≡ word
same_word piece word b is holds = (bytes_eq-Decides piece word).0 (sym is ∙ holds)

pub other_word : (piece range word : List ℕ) (b : Bool) → piece ≡ range → b ≡ bytes_eq piece word → b ≡ false → range ≡ word → ⊥
other_word piece range word b read is fails same = true≢false (sym ((bytes_eq-Decides piece word).1 (read ∙ same)) ∙ sym is ∙ fails)

pub found_more : (row word : List ℕ) (tokens : List Span) (i : ℕ) (last : Option ℕ) (t : Span) → i < length tokens → t ≡ get_or tokens i (record { start = 0; end = 0 })
    → IsFound row word (take i tokens) last → (slice_range row t.start t.end ≡ word → ⊥) → IsFound row word (take (i + 1) tokens) last
found_more row word tokens i None t below is found other =
    All-more (λ t. slice_range row t.start t.end ≡ word → ⊥) tokens i (record { start = 0; end = 0 }) below found
    (subst (λ (t : Span). slice_range row t.start t.end ≡ word → ⊥) is other)
found_more row word tokens i (Some place) t below is found other = found

pub found_all : (row word : List ℕ) (tokens : List Span) (last : Option ℕ) → AreTokens row tokens → IsFound row word tokens last
    → MatchOption last ((place : ℕ) → HasWord row word place → ⊥) (λ place. HasWord row word place)
found_all row word tokens None are none = λ place has.
    All-contains (λ t. slice_range row t.start t.end ≡ word → ⊥) tokens (record { start = place; end = place + length word }) none (are.every place (place + length word) has.token) has.spelt
found_all row word tokens (Some place) are found = found

-- ---- columns

no_token : (start end : ℕ) → IsToken [] start end → ⊥
no_token start end t = let short : end ≤ 0 = t.within in omega (arith, t.longer, short)

first_of_none : (place column : ℕ) → column ≡ cond (begins_row [] place) (column_number place) 1 → column ≡ 1
first_of_none place column is = grind (arith, nat_tests)

column_of_none : (word : List ℕ) (column : ℕ) → IsColumnIn [] word column → column ≡ 1
column_of_none word _ (of_word place has) = absurd (no_token place (place + length word) has.token)
column_of_none word _ (of_row column none first) = first_of_none first.0 column first.2

pub no_row : (text row : List ℕ) (number : ℕ) (span : Span) → HasNoLine text number × (span.start ≡ length text) × (span.end ≡ length text)
    → row ≡ slice_range text span.start span.end → row ≡ []
no_row text row number span none is =
    let short : span.end - span.start ≡ 0 = omega (arith, none.1, none.2) in
    is ∙ ap (λ (n : ℕ). take n (drop span.start text)) short

pub column_of_bounds : (text word row : List ℕ) (number : ℕ) (span : Span) (column : ℕ) → AreBounds text number span
    → row ≡ slice_range text span.start span.end → IsColumnIn row word column → IsColumnOf text number word column
column_of_bounds text word row number span column (inl line) is within =
    on_line span.start span.end column line (subst (λ (l : List ℕ). IsColumnIn l word column) is within)
column_of_bounds text word row number span column (inr none) is within =
    subst (λ (n : ℕ). IsColumnOf text number word n)
    (sym (column_of_none word column (subst (λ (l : List ℕ). IsColumnIn l word column) (no_row text row number span none is) within)))
    (no_line none.0)

pub bounds_ordered : (text : List ℕ) (number : ℕ) (span : Span) → AreBounds text number span → span.start ≤ span.end
bounds_ordered text number span (inl line) = line.ordered
bounds_ordered text number span (inr none) = omega (arith, none.1, none.2)

pub bounds_within : (text : List ℕ) (number : ℕ) (span : Span) → AreBounds text number span → span.end ≤ length text
bounds_within text number span (inl line) = line.within
bounds_within text number span (inr none) = omega (arith, none.2)

end_of_none : (column : ℕ) → IsEndIn [] column → column ≡ 1
end_of_none column (inl t) = absurd (no_token t.0 t.1 t.2)
end_of_none column (inr first) = first_of_none first.0 column first.2

pub end_of_bounds : (text row : List ℕ) (number : ℕ) (span : Span) (column : ℕ) → AreBounds text number span
    → row ≡ slice_range text span.start span.end → IsEndIn row column → IsEndOf text number column
end_of_bounds text row number span column (inl line) is within =
    ends_on_line span.start span.end column line (subst (λ (l : List ℕ). IsEndIn l column) is within)
end_of_bounds text row number span column (inr none) is within =
    subst (λ (n : ℕ). IsEndOf text number n)
    (sym (end_of_none column (subst (λ (l : List ℕ). IsEndIn l column) (no_row text row number span none is) within)))
    (ends_nowhere none.0)

pub end_of_token : (text : List ℕ) (line : LineTokens) (i : ℕ) (t : Span) (column : ℕ) → AreOfLine text line → i < length line.tokens.items → t ≡ get_or line.tokens.items i t
    → column ≡ column_number t.end → IsEndOf text line.number column
end_of_token text line i t column are below is column_is =
    let token : IsToken (slice_range text line.span.start line.span.end) t.start t.end =
    subst (λ (s : Span). IsToken (slice_range text line.span.start line.span.end) s.start s.end) (sym is) (are.tokens.each i t below) in
    end_of_bounds text (slice_range text line.span.start line.span.end) line.number line.span column are.bounds refl (inl (t.start, t.end, token, column_is))

pub end_of_first : (text row : List ℕ) (line : LineTokens) (column : ℕ) → AreOfLine text line → row ≡ slice_range text line.span.start line.span.end
    → IsFirstColumn row column → IsEndOf text line.number column
end_of_first text row line column are is first = end_of_bounds text row line.number line.span column are.bounds is (inr first)

-- the same of a list that was read
pub end_of_read : (text : List ℕ) (line : LineTokens) (lent : List Span) (i : ℕ) (t : Span) (column : ℕ) → AreOfLine text line → lent ≡ line.tokens.items → i < length lent
    → t ≡ get_or lent i t → column ≡ column_number t.end → IsEndOf text line.number column
end_of_read text line lent i t column are same below is column_is =
    let inside : i < length line.tokens.items = subst (λ (l : List Span). i < length l) same below in
    let there : t ≡ get_or line.tokens.items i t = subst (λ (l : List Span). t ≡ get_or l i t) same is in
    end_of_token text line i t column are inside there column_is

-- ---- where lines begin

abbrev Begin : List ℕ → List ℕ → Type 0
Begin bytes starts = (i : ℕ) → i < length starts → BeginsTextLine bytes (i + 1) (get_or starts i 0)

abbrev feeds : List ℕ → ℕ → ℕ
feeds bytes place = count_by (λ b. b == 10) (take place bytes)

-- a line feed
pub begins_more : (bytes starts more : List ℕ) (place : ℕ) → place < length bytes → get_or bytes place 0 ≡ 10 → Begin bytes starts
    → length starts ≡ feeds bytes place + 1 → more ≡ starts ++ (place + 1) ∷ [] → Begin bytes more × (length more ≡ feeds bytes (place + 1) + 1)
begins_more bytes starts more place below is begin many added =
    (subst (λ (l : List ℕ). Begin bytes l) (sym added) each, ap length added ∙ length_push starts (place + 1) ∙ ap (λ (n : ℕ). n + 1) (many ∙ sym count))
  where
    count : feeds bytes (place + 1) ≡ feeds bytes place + 1
    count = count_by_more_yes (λ b. b == 10) bytes place 0 below (ap (λ (b : ℕ). b == 10) is)

    here : (i : ℕ) → length starts ≡ i → BeginsTextLine bytes (i + 1) (get_or (starts ++ (place + 1) ∷ []) i 0)
    here i last = subst (λ (n : ℕ). BeginsTextLine bytes (i + 1) n) (sym (get_or_push starts (place + 1) 0 i last)) (record {
      within = omega (arith, below);
      number = ap (λ (n : ℕ). n + 1) (count ∙ sym many ∙ last);
      begins = let e : (place + 1) - 1 ≡ place = omega arith in inr (subst (λ (n : ℕ). get_or bytes n 0 ≡ 10) (sym e) is);
    })

    by : (i : ℕ) → i < length (starts ++ (place + 1) ∷ []) → (i < length starts) ⊎ (length starts ≤ i) → BeginsTextLine bytes (i + 1) (get_or (starts ++ (place + 1) ∷ []) i 0)
    by i l (inl within) = subst (λ (n : ℕ). BeginsTextLine bytes (i + 1) n) (sym (get_or-append starts ((place + 1) ∷ []) 0 i within)) (begin i within)
    by i l (inr past) = let long = length_push starts (place + 1) in here i (omega (arith, l, past, long))

    each : Begin bytes (starts ++ (place + 1) ∷ [])
    each i l = by i l (cases_lt i (length starts))

-- another byte
pub begins_same : (bytes starts : List ℕ) (place : ℕ) → place < length bytes → (get_or bytes place 0 == 10) ≡ false
    → length starts ≡ feeds bytes place + 1 → length starts ≡ feeds bytes (place + 1) + 1
begins_same bytes starts place below is many = many ∙ ap (λ (n : ℕ). n + 1) (sym (count_by_more_no (λ b. b == 10) bytes place 0 below is))

pub begins_next : (bytes starts more : List ℕ) (place : ℕ) → place < length bytes → Begin bytes starts → length starts ≡ feeds bytes place + 1
    → more ≡ starts ++ (if get_or bytes place 0 == 10 then (place + 1) ∷ [] else []) → Begin bytes more × (length more ≡ feeds bytes (place + 1) + 1)
begins_next bytes starts more place below begin many added = by (get_or bytes place 0 == 10) refl
  where
    on : (b : Bool) → (get_or bytes place 0 == 10) ≡ b → more ≡ starts ++ (if b then (place + 1) ∷ [] else [])
    on b e = added ∙ ap (λ (c : Bool). starts ++ (if c then (place + 1) ∷ [] else [])) e

    by : (b : Bool) → (get_or bytes place 0 == 10) ≡ b → Begin bytes more × (length more ≡ feeds bytes (place + 1) + 1)
    by true e = let ten : get_or bytes place 0 ≡ 10 = grind (arith, nat_tests) in begins_more bytes starts more place below ten begin many (on true e)
    by false e =
        let same : more ≡ starts = on false e ∙ append-nil starts in
        (subst (λ (l : List ℕ). Begin bytes l) (sym same) begin, ap length same ∙ begins_same bytes starts place below e many)
