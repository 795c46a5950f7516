-- A line is what its members say, and a string spells its text.
use Rattle.std.proofs.Common.{◌≡◌, ◌≢◌, ◌<◌, ◌≤◌, ℕ, ◌/◌, ◌%◌, ◌==◌, Bool, true, false, not, ◌&&◌, ◌||◌, List, [], ◌∷◌}
use Rattle.std.proofs.Common.{◌++◌, Option, Some, None, refl, ap, sym, subst, ◌∙◌, arith, if◌then◌else◌}
use Rattle.std.specs.Prelude.{codes, is_some, map, unwrap_or, nat_lt}
use Rattle.std.specs.List.{flat_map, join_with_byte, slice_split}
use Rattle.std.specs.Option.{option_map}
use Rattle.std.specs.Str.{bytes_eq}
use Rattle.std.proofs.lemmas.Bool.Decides.{nat_tests}
use Rattle.std.proofs.lemmas.List.Folds.{flat_map-map}
use Rattle.std.proofs.lemmas.List.Splits.{join_with_byte-slice_split}
use Rattle.std.proofs.lemmas.Option.{same_Some, none-some}
use Rattle.std.proofs.lemmas.Slice.Eq.{bytes_eq-Decides}
use Rattle.gt_json.specs.Words.{at_equals}
use Rattle.gt_json.specs.Places.{next, name_at, is_fact, is_mark}
use Rattle.gt_json.specs.Lines.{said, all_said, json_words, object_line, json_text}
use Rattle.gt_json.specs.Strings.{SpellsString, escaped, hex_digit, ends, itself, quote, backslash, number}
use Rattle.gt_json.specs.declared.places.WordPlace.{WordPlace}
use Rattle.gt_json.specs.declared.places.PrintedText.{PrintedText}

-- the word is its two parts, with a `=` between them
abbrev Joins : List ℕ → Option (List ℕ × List ℕ) → Type 0
Joins w found = (parts : List ℕ × List ℕ) → found ≡ Some parts → parts.0 ++ codes "=" ++ parts.1 ≡ w

joins_on : (b : ℕ) (bs : List ℕ) (found : Option (List ℕ × List ℕ)) → Joins bs found
    → Joins (b ∷ bs) (option_map (λ parts. (b ∷ parts.0, parts.1)) found)
joins_on b bs None h parts e = absurd (none-some parts e)
joins_on b bs (Some q) h parts e =
    subst (λ (p : List ℕ × List ℕ). p.0 ++ codes "=" ++ p.1 ≡ b ∷ bs) (same_Some (b ∷ q.0, q.1) parts e) (ap (λ (l : List ℕ). b ∷ l) (h q refl))

joins_here : (bs : List ℕ) → Joins (61 ∷ bs) (Some ([], bs))
joins_here bs parts e = subst (λ (p : List ℕ × List ℕ). p.0 ++ codes "=" ++ p.1 ≡ 61 ∷ bs) (same_Some ([], bs) parts e) refl

joins_at : (b : ℕ) (bs : List ℕ) (found : Option (List ℕ × List ℕ)) (t : Bool) → (t ≡ true → b ≡ 61) → Joins bs found
    → Joins (b ∷ bs) (if t then Some ([], bs) else option_map (λ parts. (b ∷ parts.0, parts.1)) found)
joins_at b bs found true is h = subst (λ (c : ℕ). Joins (c ∷ bs) (Some ([], bs))) (sym (is refl)) (joins_here bs)
joins_at b bs found false is h = joins_on b bs found h

pub at_equals_joins : (w : List ℕ) → Joins w (at_equals w)
unfolding at_equals
at_equals_joins [] parts e = absurd (none-some parts e)
at_equals_joins (b ∷ bs) parts e = joins_at b bs (at_equals bs) (b == 61) (λ k. grind (arith, nat_tests)) (at_equals_joins bs) parts e

-- what the member of a fact says, whatever is found at a `=`
fact_said : (w name : List ℕ) (found : Option (List ℕ × List ℕ)) → Joins w found
    → (if is_some found then (unwrap_or found (name, w)).0 ++ codes "=" ++ (unwrap_or found (name, w)).1 else (unwrap_or found (name, w)).1) ≡ w
fact_said w name None h = refl
fact_said w name (Some parts) h = h parts refl

member_said : (w name : List ℕ) (found : Option (List ℕ × List ℕ)) (fact : Bool) → Joins w found
    → (if fact && is_some found then (if fact then unwrap_or found (name, w) else (name, w)).0 ++ codes "=" ++ (if fact then unwrap_or found (name, w) else (name, w)).1
    else (if fact then unwrap_or found (name, w) else (name, w)).1) ≡ w
member_said w name found true h = fact_said w name found h
member_said w name found false h = refl

mark_said : (w text : List ℕ) (mark : Bool) → (mark ≡ true → w ≡ codes ":") → text ≡ w → (if mark then codes ":" else text) ≡ w
mark_said w text true is e = sym (is refl)
mark_said w text false is e = e

second_true : (a b : Bool) → (a && b) ≡ true → b ≡ true
second_true a true e = refl
second_true true false e = e
second_true false false e = e

is_colon : (first : Bool) (w : List ℕ) → (not first && bytes_eq w (codes ":")) ≡ true → w ≡ codes ":"
is_colon first w e = (bytes_eq-Decides w (codes ":")).0 (second_true (not first) (bytes_eq w (codes ":")) e)

-- a word is what its member says
pub word_said : (p : WordPlace) (w : List ℕ) → said p w ≡ w
word_said p w = mark_said w _ (is_mark p w) (is_colon _ w) (member_said w (name_at p w) (at_equals w) (is_fact p) (at_equals_joins w))

pub words_said : (p : WordPlace) (ws : List (List ℕ)) → all_said p ws ≡ ws
words_said p [] = refl
words_said p (w ∷ ws) =
    ap (λ (v : List ℕ). v ∷ all_said (next p w) ws) (word_said p w) ∙ ap (λ (l : List (List ℕ)). w ∷ l) (words_said (next p w) ws)

pub line_said : (p : WordPlace) (line : List ℕ) → join_with_byte 32 (all_said p (json_words line)) ≡ line
line_said p line = ap (λ (l : List (List ℕ)). join_with_byte 32 l) (words_said p (json_words line)) ∙ join_with_byte-slice_split 32 line

-- strings

spells_more : (b : ℕ) (xs text : List ℕ) (quotes slash low : Bool) → (quotes ≡ true → b ≡ 34) → (quotes ≡ false → b ≢ 34)
    → (slash ≡ true → b ≡ 92) → (slash ≡ false → b ≢ 92) → (low ≡ true → b < 32) → (low ≡ false → 32 ≤ b) → SpellsString xs text
    → SpellsString ((if quotes || slash then 92 ∷ b ∷ [] else (if low then 92 ∷ 117 ∷ 48 ∷ 48 ∷ hex_digit (b / 16) ∷ hex_digit (b % 16) ∷ [] else b ∷ [])) ++ xs) (b ∷ text)
spells_more b xs text true slash low q n s m l h rest =
    subst (λ (c : ℕ). SpellsString (92 ∷ c ∷ xs) (c ∷ text)) (sym (q refl)) (quote xs text rest)
spells_more b xs text false true low q n s m l h rest =
    subst (λ (c : ℕ). SpellsString (92 ∷ c ∷ xs) (c ∷ text)) (sym (s refl)) (backslash xs text rest)
spells_more b xs text false false true q n s m l h rest = number b xs text (let k : b < 32 = l refl in omega (arith, k)) rest
spells_more b xs text false false false q n s m l h rest = itself b xs text (h refl) (n refl) (m refl) rest

pub string_spells : (text : List ℕ) → SpellsString (flat_map escaped text) text
string_spells [] = ends
string_spells (b ∷ bs) =
    spells_more b (flat_map escaped bs) bs (b == 34) (b == 92) (nat_lt b 32)
    (λ e. grind (arith, nat_tests)) (λ e. grind (arith, nat_tests)) (λ e. grind (arith, nat_tests)) (λ e. grind (arith, nat_tests))
    (λ e. grind (arith, nat_tests)) (λ e. grind (arith, nat_tests)) (string_spells bs)

-- the objects of the lines of a text are its JSON
pub json_of_lines : {X : Type 0} (printed : PrintedText) (now : X → List ℕ) (ls : List X) (text : List ℕ) → map now ls ≡ slice_split (λ b. b == 10) text
    → flat_map (λ l. object_line printed (now l)) ls ≡ json_text printed text
json_of_lines printed now ls text e = sym (flat_map-map (object_line printed) now ls) ∙ ap (λ (l : List (List ℕ)). flat_map (object_line printed) l) e
