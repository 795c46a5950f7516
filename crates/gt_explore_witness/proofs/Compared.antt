-- What a comparison of answers says.
use Rattle.std.proofs.Common.{◌≡◌, ◌≤◌, ◌+◌, ◌-◌, ◌∙◌, ◌&&◌, ◌==◌, ℕ, Bool, true, false, List, [], ◌∷◌, Option, None}
use Rattle.std.proofs.Common.{Some, Ok, map, length, take, drop, ap, sym, refl, subst, arith, nat_eq, nat_lt}
use Rattle.std.proofs.Common.{All, Bor, get_or, ◌++◌, ◌<◌}
use Rattle.std.proofs.Math.Bool.{cond}
use Rattle.std.proofs.lemmas.Bool.{cond_both, ltb-false}
use Rattle.std.proofs.lemmas.List.{drop_all, length-drop, map-append, take-append-drop, take_all, take_more}
use Rattle.std.proofs.lemmas.List.Elements.{All-push}
use Rattle.std.proofs.lemmas.List.Sums.{AllPass-from_list_all}
use Rattle.std.specs.List.{list_all}
use Rattle.std.proofs.lemmas.Option.{none-some, same_Some}
use Rattle.std.proofs.lemmas.Slice.Eq.{bytes_eq-Decides}
use Rattle.std.specs.List.{position_or_len}
use Rattle.std.specs.Str.{bytes_eq}
use lib.Pointwise.{pointwise}
use Rattle.gt_script_runs.specs.Playing.{Played}
use Rattle.gt_script.specs.Script.{ReadsAsScript}
use Rattle.gt_types.specs.declared.config.DomainConfig.{DomainConfig}
use Rattle.gt_explore_witness.specs.GivingAnswers.{GivesAnswers, ContinuesWithLines, DomainsHaveAnswers, without_number}

-- the line goes on after this space
pub after_space : (line : List ℕ) (found : Option ℕ) (at : ℕ) → found ≡ cond (nat_lt (position_or_len (λ b. b == 32) line) (length line)) (Some (position_or_len (λ b. b == 32) line)) None
    → found ≡ Some at → take (length line - (at + 1)) (drop (at + 1) line) ≡ without_number line
after_space line found at is some =
    let p = position_or_len (λ (b : ℕ). b == 32) line in
    let place : p ≡ at = cond_both (nat_lt p (length line)) (Some p) None (λ (o : Option ℕ). o ≡ Some at → p ≡ at) (λ lt e. same_Some p at e) (λ lt e. absurd (none-some at e)) (sym is ∙ some) in
    take_all (length line - (at + 1)) (drop (at + 1) line) (let has = length-drop (at + 1) line in omega (arith, has)) ∙ ap (λ (k : ℕ). drop (k + 1) line) (sym place)

-- nothing comes after a space that is not there
pub after_no_space : (line : List ℕ) (found : Option ℕ) → found ≡ cond (nat_lt (position_or_len (λ b. b == 32) line) (length line)) (Some (position_or_len (λ b. b == 32) line)) None
    → found ≡ None → [] ≡ without_number line
after_no_space line found is none =
    let p = position_or_len (λ (b : ℕ). b == 32) line in
    let past : length line ≤ p = cond_both (nat_lt p (length line)) (Some p) None (λ (o : Option ℕ). o ≡ None → length line ≤ p) (λ lt e. absurd (none-some p (sym e))) (λ lt e. ltb-false p (length line) lt) (sym is ∙ none) in
    sym (drop_all (p + 1) line (omega (arith, past)))

-- lists of lines of which each is that of the other
pub same_lines : (xs ys : List (Bor (List ℕ))) → pointwise (λ (x : Bor (List ℕ)) (y : Bor (List ℕ)). pointwise nat_eq x.now y.now) xs ys ≡ true
    → map (λ (line : Bor (List ℕ)). line.now) xs ≡ map (λ (line : Bor (List ℕ)). line.now) ys
same_lines [] [] is = refl
same_lines [] (y ∷ ys) is = absurd (cc)
same_lines (x ∷ xs) [] is = absurd (cc)
same_lines (x ∷ xs) (y ∷ ys) is = by (same_lines xs ys) (bytes_eq x.now y.now) refl is
  where
    by : (pointwise (λ (x : Bor (List ℕ)) (y : Bor (List ℕ)). pointwise nat_eq x.now y.now) xs ys ≡ true → map (λ (line : Bor (List ℕ)). line.now) xs ≡ map (λ (line : Bor (List ℕ)). line.now) ys)
        → (b : Bool) → bytes_eq x.now y.now ≡ b → (b && pointwise (λ (x : Bor (List ℕ)) (y : Bor (List ℕ)). pointwise nat_eq x.now y.now) xs ys) ≡ true
        → x.now ∷ map (λ (line : Bor (List ℕ)). line.now) xs ≡ y.now ∷ map (λ (line : Bor (List ℕ)). line.now) ys
    by rest true e all = ap (λ (l : List ℕ). l ∷ map (λ (line : Bor (List ℕ)). line.now) xs) ((bytes_eq-Decides x.now y.now).0 e) ∙ ap (λ (ls : List (List ℕ)). y.now ∷ ls) (rest all)
    by rest false e all = absurd (cc)

each_same : (lines : List (List ℕ)) (with : List ℕ) → list_all (λ line. bytes_eq line with) lines ≡ true → All (λ line. line ≡ with) lines
each_same lines with all = λ k d there. (bytes_eq-Decides (get_or lines k d) with).0 (AllPass-from_list_all (λ line. bytes_eq line with) lines all k d there)

-- lines that begin with others, and go on only with this one
pub goes : (lines all front back : List (Bor (List ℕ))) (with : List ℕ) → front ≡ take (length lines) all → back ≡ drop (length lines) all
    → map (λ (l : Bor (List ℕ)). l.now) front ≡ map (λ (l : Bor (List ℕ)). l.now) lines → list_all (λ line. bytes_eq line with) (map (λ (l : Bor (List ℕ)). l.now) back) ≡ true
    → ContinuesWithLines with (map (λ (l : Bor (List ℕ)). l.now) lines) (map (λ (l : Bor (List ℕ)). l.now) all)
goes lines all front back with first last same rest =
    let v = λ (l : Bor (List ℕ)). l.now in record {
      more = map v back;
      is = ap (map v) (sym (take-append-drop (length lines) all) ∙ ap (λ (l : List (Bor (List ℕ))). l ++ drop (length lines) all) (sym first) ∙ ap (λ (l : List (Bor (List ℕ))). front ++ l) (sym last))
          ∙ map-append v front back ∙ ap (λ (l : List (List ℕ)). l ++ map v back) same;
      rest = each_same (map v back) with rest;
    }

-- the same by other names
pub carried : (w v : List ℕ) (l m a b : List (List ℕ)) → w ≡ v → l ≡ m → a ≡ b → ContinuesWithLines w l a → ContinuesWithLines v m b
carried w v l m a b with lines all goes =
    subst (λ (x : List ℕ). ContinuesWithLines x m b) with (subst (λ (x : List (List ℕ)). ContinuesWithLines w x b) lines (subst (λ (x : List (List ℕ)). ContinuesWithLines w l x) all goes))

-- one more domain has the answers
pub all_more : (P : DomainConfig → Type 0) (xs : List DomainConfig) (n : ℕ) (d : DomainConfig) → n < length xs → P (get_or xs n d) → All P (take n xs) → All P (take (n + 1) xs)
all_more P xs n d lt holds all = subst (All P) (sym (take_more xs n d lt)) (All-push P (take n xs) (get_or xs n d) all holds)

-- what was printed has the answers
pub gives : (domains : List DomainConfig) (script text out told : List ℕ) → Played (ReadsAsScript script) false (Some []) (Some out) (Ok tt) → told ≡ out
    → DomainsHaveAnswers domains text told → GivesAnswers domains script text
gives domains script text out told played is same = record {
  out = out;
  played = played;
  answers = subst (λ (l : List ℕ). DomainsHaveAnswers domains text l) is same;
}
