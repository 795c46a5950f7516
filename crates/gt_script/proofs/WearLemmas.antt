-- Each line `wear` gives a generation that there is.
use Rattle.std.proofs.Common.{◌≡◌, ℕ, ◌≤◌, ◌+◌, Bool, true, false, List, [], ◌∷◌, ◌++◌, Option, Some, None, All, refl}
use Rattle.std.proofs.Common.{sym, subst, arith, cond}
use Rattle.std.specs.Prelude.{codes}
use Rattle.std.specs.Str.{bytes_eq}
use Rattle.std.specs.List.{filter_map}
use Rattle.std.specs.Option.{option_map, option_to_list, unwrap_or}
use Rattle.std.proofs.lemmas.Bool.Decides.{nat_tests}
use Rattle.std.proofs.lemmas.List.Elements.{All-nil, All-cons}
use Rattle.gt_types.specs.declared.limits.TheConstants.{LAST_GENERATION}
use Rattle.gt_script_lines.specs.Words.{words}
use Rattle.gt_script_lines.specs.Numbers.{decimal_value, decimal_number, below}
use Rattle.gt_script_lines.specs.Fields.{◌>>=◌, generation_word}
use Rattle.gt_script_lines.specs.Body.{body_line_of}
use Rattle.gt_script_lines.specs.Lines.{triple_of, wear_of, domain_line_of, body_of, line_of}
use Rattle.gt_script.specs.Laws.{lines_said, wear_in}
use Rattle.gt_script_lines.specs.declared.numbers.Number.{Number}
use Rattle.gt_script_lines.specs.declared.body.BodyLine.{BodyLine}
use Rattle.gt_script_lines.specs.declared.lines.TripleLine.{TripleLine}
use Rattle.gt_script_lines.specs.declared.lines.DomainLine.{DomainLine}
use Rattle.gt_script_lines.specs.declared.lines.ScriptLine.{ScriptLine}
use Rattle.gt_script_lines.specs.declared.lines.ScriptLine.TheVariants as script_lines
use Rattle.gt_script.proofs.LawLemmas.{filter-cons}

-- a line that gives no generation past the last
abbrev Ages : ScriptLine → Type 0
Ages (script_lines.Triple t) = Unit {0}
Ages (script_lines.Wear first) = first ≤ LAST_GENERATION
Ages (script_lines.Domain d) = Unit {0}
Ages (script_lines.Body id asks) = Unit {0}

below-less : (limit n m : ℕ) → below (limit + 1) n ≡ Some m → m ≤ limit
below-less limit n m e = grind (arith, nat_tests)

generation-by : (o : Option ℕ) (first : ℕ) → (o >>= below (LAST_GENERATION + 1)) ≡ Some first → first ≤ LAST_GENERATION
generation-by None first e = absurd cc
generation-by (Some n) first e = below-less LAST_GENERATION n first e

generation-ages : (word : List ℕ) (first : ℕ) → generation_word word ≡ Some first → first ≤ LAST_GENERATION
unfolding generation_word
generation-ages word first e = generation-by (decimal_value word) first e

wear-ages : (args : List (List ℕ)) (first : ℕ) → wear_of args ≡ Some first → first ≤ LAST_GENERATION
unfolding wear_of
wear-ages [] first e = absurd cc
wear-ages (word ∷ []) first e = generation-ages word first e
wear-ages (word ∷ other ∷ args) first e = absurd cc

body-by : (number : Option Number) (asks : Option BodyLine) (l : ScriptLine) → (number >>= λ n. asks >>= λ a. Some (script_lines.Body n a)) ≡ Some l → Ages l
body-by None asks l e = absurd cc
body-by (Some n) None l e = absurd cc
body-by (Some n) (Some a) l e = let same : script_lines.Body n a ≡ l = cc in subst Ages same tt

body-ages : (word : List ℕ) (args : List (List ℕ)) (l : ScriptLine) → body_of word args ≡ Some l → Ages l
unfolding body_of
body-ages word [] l e = absurd cc
body-ages word (id ∷ args) l e = body-by (decimal_number id) (body_line_of word args) l e

-- a line by its first word, which is `triple`, `wear`, `domain` or another
by-word : (a b c : Bool) (t : Option TripleLine) (w : Option ℕ) (d : Option DomainLine) (rest : Option ScriptLine) (l : ScriptLine)
    → ((first : ℕ) → w ≡ Some first → first ≤ LAST_GENERATION) → (rest ≡ Some l → Ages l)
    → cond a (option_map script_lines.Triple t) (cond b (option_map script_lines.Wear w) (cond c (option_map script_lines.Domain d) rest)) ≡ Some l → Ages l
by-word true b c None w d rest l f g e = absurd cc
by-word true b c (Some t) w d rest l f g e = let same : script_lines.Triple t ≡ l = cc in subst Ages same tt
by-word false true c t None d rest l f g e = absurd cc
by-word false true c t (Some first) d rest l f g e = let same : script_lines.Wear first ≡ l = cc in subst Ages same (f first refl)
by-word false false true t w None rest l f g e = absurd cc
by-word false false true t w (Some d) rest l f g e = let same : script_lines.Domain d ≡ l = cc in subst Ages same tt
by-word false false false t w d rest l f g e = g e

line-ages : (ws : List (List ℕ)) (l : ScriptLine) → line_of ws ≡ Some l → Ages l
line-ages [] l e = absurd cc
line-ages (word ∷ args) l e = by-word (bytes_eq word (codes "triple")) (bytes_eq word (codes "wear")) (bytes_eq word (codes "domain")) (triple_of args) (wear_of args) (domain_line_of args) (body_of word args) l (wear-ages args) (body-ages word args l) e

ages-cons : (o : Option ScriptLine) → ((l : ScriptLine) → o ≡ Some l → Ages l) → (gs : List ℕ) → All (λ g. g ≤ LAST_GENERATION) gs → All (λ g. g ≤ LAST_GENERATION) (option_to_list (o >>= wear_in) ++ gs)
ages-cons None h gs a = a
ages-cons (Some (script_lines.Triple t)) h gs a = a
ages-cons (Some (script_lines.Wear first)) h gs a = All-cons (λ g. g ≤ LAST_GENERATION) first gs (h (script_lines.Wear first) refl) a
ages-cons (Some (script_lines.Domain d)) h gs a = a
ages-cons (Some (script_lines.Body id asks)) h gs a = a

all-age : (n : ℕ) (ls : List (List ℕ)) → All (λ g. g ≤ LAST_GENERATION) (filter_map (λ l. wear_in l.1) (lines_said n ls))
all-age n [] = All-nil (λ g. g ≤ LAST_GENERATION)
all-age n (l ∷ ls) =
    subst (λ (gs : List ℕ). All (λ g. g ≤ LAST_GENERATION) gs) (sym (filter-cons (λ _ y. wear_in y) n (line_of (words l)) (lines_said (n + 1) ls)))
    (ages-cons (line_of (words l)) (line-ages (words l)) _ (all-age (n + 1) ls))

first-ages : (o : Option ℕ) → All (λ g. g ≤ LAST_GENERATION) (option_to_list o) → unwrap_or o 0 ≤ LAST_GENERATION
first-ages None a = omega arith
first-ages (Some n) a = a 0 n (omega arith)

-- the generation of the lines `wear`, where they are at most one
pub first_gen-small : (n : ℕ) (ls : List (List ℕ)) (o : Option ℕ) → option_to_list o ≡ filter_map (λ l. wear_in l.1) (lines_said n ls) → unwrap_or o 0 ≤ LAST_GENERATION
first_gen-small n ls o e = first-ages o (subst (λ (gs : List ℕ). All (λ g. g ≤ LAST_GENERATION) gs) (sym e) (all-age n ls))
