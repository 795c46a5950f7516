-- Where the policy block of a script is.
use Rattle.std.proofs.Common.{◌≡◌, ◌≢◌, ℕ, suc, ◌+◌, ◌<◌, ◌≤◌, Bool, true, false, List, [], ◌∷◌, ◌++◌, length, take}
use Rattle.std.proofs.Common.{drop, get_or, Option, None, Some, refl, sym, ap, subst, ◌∙◌, All, Bor, arith, cond, eqb}
use Rattle.std.proofs.Common.{codes}
use Rattle.std.specs.Option.{option_map}
use Rattle.std.proofs.lemmas.Bool.Decides.{nat_tests}
use Rattle.std.proofs.lemmas.List.{at_drop_more, drop_all}
use Rattle.std.proofs.lemmas.List.Elements.{All-nil, All-cons}
use Rattle.std.proofs.lemmas.Option.{same_Some}
use Rattle.std.proofs.lemmas.Slice.Eq.{bytes_eq-Decides}
use Rattle.std.specs.Str.{bytes_eq}
use Rattle.gt_script_lines.specs.Words.{words}
use Rattle.gt_script.specs.Blocks.{is_just, opening, closing}
use Rattle.gt_script.specs.Laws.{HasNoBlock}
use Rattle.gt_script.proofs.ScriptLemmas.{texts}

-- a place found behind others

later-zero : (o : Option ℕ) → o ≡ option_map (λ n. 0 + n) o
later-zero None = refl
later-zero (Some n) = let same : n ≡ 0 + n = omega arith in ap Some same

later-next : (o : Option ℕ) (i : ℕ) → option_map (λ n. i + n) (option_map (λ n. suc n) o) ≡ option_map (λ n. i + 1 + n) o
later-next None i = refl
later-next (Some n) i = let same : i + suc n ≡ i + 1 + n = omega arith in ap Some same

pub search_starts : (f : List (List ℕ) → Option ℕ) (ls : List (List ℕ)) → f ls ≡ option_map (λ n. 0 + n) (f ls)
search_starts f ls = later-zero (f ls)

pub search_ends : (f : List (List ℕ) → Option ℕ) (lines : List (Bor (List ℕ))) (i : ℕ) → f [] ≡ None → length lines ≤ i → f (texts lines) ≡ option_map (λ n. i + n) (f (texts (drop i lines))) → None ≡ f (texts lines)
search_ends f lines i none all so_far = sym (so_far ∙ ap (λ (l : List (Bor (List ℕ))). option_map (λ n. i + n) (f (texts l))) (drop_all i lines all) ∙ ap (λ (o : Option ℕ). option_map (λ n. i + n) o) none)

-- the line at this place decides
at_line : (f : List (List ℕ) → Option ℕ) (lines : List (Bor (List ℕ))) (i : ℕ) (x : Bor (List ℕ)) (o : Option ℕ) → i < length lines → f ((get_or lines i x).now ∷ texts (drop (i + 1) lines)) ≡ o
    → f (texts lines) ≡ option_map (λ n. i + n) (f (texts (drop i lines))) → f (texts lines) ≡ option_map (λ n. i + n) o
at_line f lines i x o within here so_far =
    so_far ∙ ap (λ (q : Option ℕ). option_map (λ n. i + n) q) (at_drop_more (λ rest. f (texts rest)) lines i x within ∙ here)

pub search_goes_on : (f : List (List ℕ) → Option ℕ) (lines : List (Bor (List ℕ))) (i : ℕ) (x : Bor (List ℕ)) → i < length lines
    → f ((get_or lines i x).now ∷ texts (drop (i + 1) lines)) ≡ option_map (λ n. suc n) (f (texts (drop (i + 1) lines)))
    → f (texts lines) ≡ option_map (λ n. i + n) (f (texts (drop i lines))) → f (texts lines) ≡ option_map (λ n. i + 1 + n) (f (texts (drop (i + 1) lines)))
search_goes_on f lines i x within here so_far = at_line f lines i x _ within here so_far ∙ later-next (f (texts (drop (i + 1) lines))) i

pub search_finds : (f : List (List ℕ) → Option ℕ) (lines : List (Bor (List ℕ))) (i : ℕ) (x : Bor (List ℕ)) → i < length lines → f ((get_or lines i x).now ∷ texts (drop (i + 1) lines)) ≡ Some 0
    → f (texts lines) ≡ option_map (λ n. i + n) (f (texts (drop i lines))) → Some i ≡ f (texts lines)
search_finds f lines i x within here so_far = let same : i ≡ i + 0 = omega arith in ap Some same ∙ sym (at_line f lines i x (Some 0) within here so_far)

pub search_gives_up : (f : List (List ℕ) → Option ℕ) (lines : List (Bor (List ℕ))) (i : ℕ) (x : Bor (List ℕ)) → i < length lines → f ((get_or lines i x).now ∷ texts (drop (i + 1) lines)) ≡ None
    → f (texts lines) ≡ option_map (λ n. i + n) (f (texts (drop i lines))) → None ≡ f (texts lines)
search_gives_up f lines i x within here so_far = sym (at_line f lines i x None within here so_far)

-- what one line decides

pub opening-blank : (l : List ℕ) (ls : List (List ℕ)) → length (words l) ≡ 0 → opening (l ∷ ls) ≡ option_map (λ n. suc n) (opening ls)
opening-blank l ls none = let test : eqb (length (words l)) 0 ≡ true = grind (arith, nat_tests) in rw test refl

pub opening-words : (l : List ℕ) (ls : List (List ℕ)) (b : Bool) → length (words l) ≢ 0 → is_just (codes "policy") (words l) ≡ b → opening (l ∷ ls) ≡ cond b (Some 0) None
opening-words l ls b some is = let test : eqb (length (words l)) 0 ≡ false = grind (arith, nat_tests) in rw (test, is) refl

pub closing-here : (l : List ℕ) (ls : List (List ℕ)) → is_just (codes "end") (words l) ≡ true → closing (l ∷ ls) ≡ Some 0
closing-here l ls is = rw is refl

pub closing-later : (l : List ℕ) (ls : List (List ℕ)) → is_just (codes "end") (words l) ≡ false → closing (l ∷ ls) ≡ option_map (λ n. suc n) (closing ls)
closing-later l ls is = rw is refl

-- the words of a line that is just one word

just-is : (word : List ℕ) (ws : List (List ℕ)) → is_just word ws ≡ true → ws ≡ word ∷ []
just-is word [] h = absurd cc
just-is word (w ∷ []) h = ap (λ (x : List ℕ). x ∷ []) ((bytes_eq-Decides w word).0 h)
just-is word (w ∷ v ∷ ws) h = absurd cc

just-not : (word : List ℕ) (ws : List (List ℕ)) → is_just word ws ≡ false → ws ≢ word ∷ []
just-not word [] h e = absurd cc
just-not word (w ∷ []) h e =
    let same : w ≡ word = cc in
    let is : bytes_eq w word ≡ true = (bytes_eq-Decides w word).1 same in absurd (cc (is, h))
just-not word (w ∷ v ∷ ws) h e = absurd cc

no_words : (ws : List (List ℕ)) → eqb (length ws) 0 ≡ true → ws ≡ []
no_words [] h = refl
no_words (w ∷ ws) h = absurd (grind (arith, nat_tests))

some_words : (ws : List (List ℕ)) → eqb (length ws) 0 ≡ false → ws ≢ []
some_words [] h e = absurd (grind (arith, nat_tests))
some_words (w ∷ ws) h e = absurd cc

-- the lines at a place of an opening

pub record OpensAt (ls : List (List ℕ)) (place : ℕ) : Type 0 where
  pub opener : List ℕ
  pub parts : ls ≡ take place ls ++ opener ∷ drop (suc place) ls
  pub nothing : All (λ l. words l ≡ []) (take place ls)
  pub opens : words opener ≡ codes "policy" ∷ []
  pub many : length (take place ls) ≡ place

pub opens_at : (ls : List (List ℕ)) (place : ℕ) → opening ls ≡ Some place → OpensAt ls place
opens_at [] place h = absurd cc
opens_at (l ∷ ls) place h = by (eqb (length (words l)) 0) refl (λ n e. opens_at ls n e) h
  where
    later : (o : Option ℕ) → opening ls ≡ o → words l ≡ [] → ((n : ℕ) → opening ls ≡ Some n → OpensAt ls n) → option_map (λ n. suc n) o ≡ Some place → OpensAt (l ∷ ls) place
    later None e blank on h = absurd cc
    later (Some n) e blank on h =
        let rest = on n e in
        subst (λ (k : ℕ). OpensAt (l ∷ ls) k) (same_Some (suc n) place h) (record {
          opener = rest.opener;
          parts = ap (λ (xs : List (List ℕ)). l ∷ xs) rest.parts;
          nothing = All-cons (λ x. words x ≡ []) l (take n ls) blank rest.nothing;
          opens = rest.opens;
          many = ap suc rest.many;
        })

    here : (b : Bool) → is_just (codes "policy") (words l) ≡ b → cond b (Some 0) None ≡ Some place → OpensAt (l ∷ ls) place
    here true e h =
        subst (λ (k : ℕ). OpensAt (l ∷ ls) k) (same_Some 0 place h) (record {
          opener = l;
          parts = refl;
          nothing = All-nil (λ x. words x ≡ []);
          opens = just-is (codes "policy") (words l) e;
          many = refl;
        })
    here false e h = absurd cc

    by : (b : Bool) → eqb (length (words l)) 0 ≡ b → ((n : ℕ) → opening ls ≡ Some n → OpensAt ls n) → cond b (option_map (λ n. suc n) (opening ls)) (cond (is_just (codes "policy") (words l)) (Some 0) None) ≡ Some place → OpensAt (l ∷ ls) place
    by true e on h = later (opening ls) refl (no_words (words l) e) on h
    by false e on h = here (is_just (codes "policy") (words l)) refl h

first_is : (l m : List ℕ) (ls ms : List (List ℕ)) → l ∷ ls ≡ m ∷ ms → l ≡ m
first_is l m ls ms e = cc

-- no line opens a block
pub none_opens : (ls : List (List ℕ)) → opening ls ≡ None → HasNoBlock ls
none_opens [] h = record { front = []; others = []; parts = refl; nothing = All-nil (λ x. words x ≡ []); another = λ l rest e. absurd cc }
none_opens (l ∷ ls) h = by (eqb (length (words l)) 0) refl (λ e. none_opens ls e) h
  where
    later : (o : Option ℕ) → opening ls ≡ o → words l ≡ [] → (opening ls ≡ None → HasNoBlock ls) → option_map (λ n. suc n) o ≡ None → HasNoBlock (l ∷ ls)
    later None e blank on h =
        let rest = on e in
        record {
          front = l ∷ rest.front;
          others = rest.others;
          parts = ap (λ (xs : List (List ℕ)). l ∷ xs) rest.parts;
          nothing = All-cons (λ x. words x ≡ []) l rest.front blank rest.nothing;
          another = rest.another;
        }
    later (Some n) e blank on h = absurd cc

    here : (b : Bool) → is_just (codes "policy") (words l) ≡ b → words l ≢ [] → cond {A = Option ℕ} b (Some 0) None ≡ None → HasNoBlock (l ∷ ls)
    here true e some h = absurd cc
    here false e some h = record {
      front = [];
      others = l ∷ ls;
      parts = refl;
      nothing = All-nil (λ x. words x ≡ []);
      another = λ m rest is. subst (λ (x : List ℕ). (words x ≢ []) × (words x ≢ codes "policy" ∷ [])) (first_is l m ls rest is) (some, just-not (codes "policy") (words l) e);
    }

    by : (b : Bool) → eqb (length (words l)) 0 ≡ b → (opening ls ≡ None → HasNoBlock ls) → cond b (option_map (λ n. suc n) (opening ls)) (cond {A = Option ℕ} (is_just (codes "policy") (words l)) (Some 0) None) ≡ None → HasNoBlock (l ∷ ls)
    by true e on h = later (opening ls) refl (no_words (words l) e) on h
    by false e on h = here (is_just (codes "policy") (words l)) refl (some_words (words l) e) h

-- the lines at a place of a closing
pub record ClosesAt (ls : List (List ℕ)) (place : ℕ) : Type 0 where
  pub closer : List ℕ
  pub parts : ls ≡ take place ls ++ closer ∷ drop (suc place) ls
  pub inside : All (λ l. words l ≢ codes "end" ∷ []) (take place ls)
  pub closes : words closer ≡ codes "end" ∷ []
  pub many : length (take place ls) ≡ place

pub closes_at : (ls : List (List ℕ)) (place : ℕ) → closing ls ≡ Some place → ClosesAt ls place
closes_at [] place h = absurd cc
closes_at (l ∷ ls) place h = by (is_just (codes "end") (words l)) refl (λ n e. closes_at ls n e) h
  where
    later : (o : Option ℕ) → closing ls ≡ o → words l ≢ codes "end" ∷ [] → ((n : ℕ) → closing ls ≡ Some n → ClosesAt ls n) → option_map (λ n. suc n) o ≡ Some place → ClosesAt (l ∷ ls) place
    later None e other on h = absurd cc
    later (Some n) e other on h =
        let rest = on n e in
        subst (λ (k : ℕ). ClosesAt (l ∷ ls) k) (same_Some (suc n) place h) (record {
          closer = rest.closer;
          parts = ap (λ (xs : List (List ℕ)). l ∷ xs) rest.parts;
          inside = All-cons (λ x. words x ≢ codes "end" ∷ []) l (take n ls) other rest.inside;
          closes = rest.closes;
          many = ap suc rest.many;
        })

    by : (b : Bool) → is_just (codes "end") (words l) ≡ b → ((n : ℕ) → closing ls ≡ Some n → ClosesAt ls n) → cond b (Some 0) (option_map (λ n. suc n) (closing ls)) ≡ Some place → ClosesAt (l ∷ ls) place
    by true e on h =
        subst (λ (k : ℕ). ClosesAt (l ∷ ls) k) (same_Some 0 place h) (record {
          closer = l;
          parts = refl;
          inside = All-nil (λ x. words x ≢ codes "end" ∷ []);
          closes = just-is (codes "end") (words l) e;
          many = refl;
        })
    by false e on h = later (closing ls) refl (just-not (codes "end") (words l) e) on h

pub none_closes : (ls : List (List ℕ)) → closing ls ≡ None → All (λ l. words l ≢ codes "end" ∷ []) ls
none_closes [] h = All-nil (λ x. words x ≢ codes "end" ∷ [])
none_closes (l ∷ ls) h = by (is_just (codes "end") (words l)) refl (λ e. none_closes ls e) h
  where
    later : (o : Option ℕ) → closing ls ≡ o → words l ≢ codes "end" ∷ [] → (closing ls ≡ None → All (λ x. words x ≢ codes "end" ∷ []) ls) → option_map (λ n. suc n) o ≡ None → All (λ x. words x ≢ codes "end" ∷ []) (l ∷ ls)
    later None e other on h = All-cons (λ x. words x ≢ codes "end" ∷ []) l ls other (on e)
    later (Some n) e other on h = absurd cc

    by : (b : Bool) → is_just (codes "end") (words l) ≡ b → (closing ls ≡ None → All (λ x. words x ≢ codes "end" ∷ []) ls) → cond b (Some 0) (option_map (λ n. suc n) (closing ls)) ≡ None → All (λ x. words x ≢ codes "end" ∷ []) (l ∷ ls)
    by true e on h = absurd cc
    by false e on h = later (closing ls) refl (just-not (codes "end") (words l) e) on h
