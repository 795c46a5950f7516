-- Flags numbered as they first appear.
use Rattle.std.proofs.Common.{◌≡◌, ℕ, ◌+◌, ◌≤◌, ◌<◌, ◌||◌, not, Bool, true, false, List, [], ◌∷◌, ◌++◌, length}
use Rattle.std.proofs.Common.{Some, None, refl, sym, ap, ◌∙◌, subst, arith, cond, Bor, length-append}
use Rattle.std.specs.List.{list_any, position_or_len}
use Rattle.std.specs.Option.{is_some}
use Rattle.std.specs.Str.{bytes_eq}
use Rattle.std.proofs.lemmas.List.Elements.{All-weaker}
use Rattle.std.proofs.lemmas.List.Folds.{list_any-append}
use Rattle.std.proofs.lemmas.Option.{same_Some}
use Rattle.gt_script_lines.specs.declared.body.BodyLine.{BodyLine}
use Rattle.gt_script_lines.specs.declared.body.BodyLine.TheVariants as body_lines
use Rattle.gt_script.specs.Flags.{borrowed_names, with_flag, with_flag_of, flag_in, flag_number}
use Rattle.gt_script.specs.Script.{play_action_in, run_action_in}
use Rattle.gt_script.specs.Stuck.{IsBelow, AreNumbered}
use Rattle.gt_script.specs.Lists.{RunAction, RunTask}
use Rattle.gt_script.specs.declared.actions.ScriptAction.{ScriptAction}
use Rattle.gt_script.specs.declared.tasks.RunAction.TheVariants as run_actions
use Rattle.gt_script.proofs.TypeLemmas.{same_bytes}

any-names : (keys : List (Bor (List ℕ))) (name : List ℕ) → list_any (λ k. bytes_eq name k.now) keys ≡ list_any (bytes_eq name) (borrowed_names keys)
any-names [] name = refl
any-names (k ∷ ks) name = ap (λ (b : Bool). bytes_eq name k.now || b) (any-names ks name)

names-push : (keys : List (Bor (List ℕ))) (key : Bor (List ℕ)) → borrowed_names (keys ++ key ∷ []) ≡ borrowed_names keys ++ key.now ∷ []
names-push [] key = refl
names-push (k ∷ ks) key = ap (λ (l : List (List ℕ)). k.now ∷ l) (names-push ks key)

add-by : (keys : List (Bor (List ℕ))) (key : Bor (List ℕ)) (b : Bool) → borrowed_names (cond b keys (keys ++ key ∷ [])) ≡ cond b (borrowed_names keys) (borrowed_names keys ++ key.now ∷ [])
add-by keys key true = refl
add-by keys key false = names-push keys key

-- a set of names that took one more
pub add-names : (keys new : List (Bor (List ℕ))) (key : Bor (List ℕ)) → new ≡ cond (list_any (λ k. bytes_eq key.now k.now) keys) keys (keys ++ key ∷ []) → borrowed_names new ≡ with_flag (borrowed_names keys) key.now
unfolding with_flag
add-names keys new key e =
    ap borrowed_names e ∙ add-by keys key (list_any (λ k. bytes_eq key.now k.now) keys)
    ∙ ap (λ (b : Bool). cond b (borrowed_names keys) (borrowed_names keys ++ key.now ∷ [])) (any-names keys key.now)

position-names : (keys : List (Bor (List ℕ))) (name : List ℕ) → position_or_len (λ k. bytes_eq name k.now) keys ≡ position_or_len (bytes_eq name) (borrowed_names keys)
position-names [] name = refl
position-names (k ∷ ks) name = ap (λ (n : ℕ). cond (not (bytes_eq name k.now)) (1 + n) 0) (position-names ks name)

-- the number of a name in the set
number-names : (keys : List (Bor (List ℕ))) (name : List ℕ) (n : ℕ) → n ≡ position_or_len (λ k. bytes_eq name k.now) keys → n ≡ flag_number (borrowed_names keys) name
unfolding flag_number
number-names keys name n is = is ∙ position-names keys name

-- each flag that is named has a number

abbrev Has : List (List ℕ) → List ℕ → Type 0
Has names name = list_any (bytes_eq name) names ≡ true

or-right : (a b : Bool) → b ≡ true → (a || b) ≡ true
or-right true b e = refl
or-right false b e = e

has-by : (names : List (List ℕ)) (name other : List ℕ) (b : Bool) → Has names other → Has (cond b names (names ++ name ∷ [])) other
has-by names name other true h = h
has-by names name other false h = list_any-append (bytes_eq other) names (name ∷ []) ∙ rw h refl

has-more : (names : List (List ℕ)) (name other : List ℕ) → Has names other → Has (with_flag names name) other
unfolding with_flag
has-more names name other h = has-by names name other (list_any (bytes_eq name) names) h

has-new-by : (names : List (List ℕ)) (name : List ℕ) (b : Bool) → list_any (bytes_eq name) names ≡ b → Has (cond b names (names ++ name ∷ [])) name
has-new-by names name true e = e
has-new-by names name false e =
    let last : list_any (bytes_eq name) (name ∷ []) ≡ true = rw (same_bytes name) refl in
    list_any-append (bytes_eq name) names (name ∷ []) ∙ or-right (list_any (bytes_eq name) names) _ last

has-new : (names : List (List ℕ)) (name : List ℕ) → Has (with_flag names name) name
unfolding with_flag
has-new names name = has-new-by names name (list_any (bytes_eq name) names) refl

position-here : (p : List ℕ → Bool) (x : List ℕ) (xs : List (List ℕ)) (b : Bool) → p x ≡ b → (list_any p xs ≡ true → position_or_len p xs < length xs) → list_any p (x ∷ xs) ≡ true → position_or_len p (x ∷ xs) < length (x ∷ xs)
position-here p x xs true e later h = rw e (omega arith)
position-here p x xs false e later h =
    let rest : list_any p xs ≡ true = sym (rw e refl) ∙ h in
    let less = later rest in
    rw e (omega (arith, less))

position-below : (p : List ℕ → Bool) (xs : List (List ℕ)) → list_any p xs ≡ true → position_or_len p xs < length xs
position-below p [] h = absurd cc
position-below p (x ∷ xs) h = position-here p x xs (p x) refl (position-below p xs) h

number-below : (names : List (List ℕ)) (name : List ℕ) → Has names name → flag_number names name < length names
unfolding flag_number
number-below names name h = position-below (bytes_eq name) names h

-- a name keeps its number when others are added

position-kept-by : (p : List ℕ → Bool) (x : List ℕ) (xs ys : List (List ℕ)) (b : Bool) → p x ≡ b → (list_any p xs ≡ true → position_or_len p (xs ++ ys) ≡ position_or_len p xs) → list_any p (x ∷ xs) ≡ true → position_or_len p ((x ∷ xs) ++ ys) ≡ position_or_len p (x ∷ xs)
position-kept-by p x xs ys true e later h = rw e refl
position-kept-by p x xs ys false e later h =
    let rest : list_any p xs ≡ true = sym (rw e refl) ∙ h in
    rw e (ap (λ (n : ℕ). 1 + n) (later rest))

position-kept : (p : List ℕ → Bool) (xs ys : List (List ℕ)) → list_any p xs ≡ true → position_or_len p (xs ++ ys) ≡ position_or_len p xs
position-kept p [] ys h = absurd cc
position-kept p (x ∷ xs) ys h = position-kept-by p x xs ys (p x) refl (position-kept p xs ys) h

position-end-by : (p : List ℕ → Bool) (y : List ℕ) (ys : List (List ℕ)) (x : List ℕ) (b : Bool) → p y ≡ b → (list_any p ys ≡ false → position_or_len p (ys ++ x ∷ []) ≡ position_or_len p ys) → list_any p (y ∷ ys) ≡ false → position_or_len p ((y ∷ ys) ++ x ∷ []) ≡ position_or_len p (y ∷ ys)
position-end-by p y ys x true e later h = rw e refl
position-end-by p y ys x false e later h =
    let rest : list_any p ys ≡ false = sym (rw e refl) ∙ h in
    rw e (ap (λ (n : ℕ). 1 + n) (later rest))

position-end : (p : List ℕ → Bool) (xs : List (List ℕ)) (x : List ℕ) → p x ≡ true → list_any p xs ≡ false → position_or_len p (xs ++ x ∷ []) ≡ position_or_len p xs
position-end p [] x e h = rw e refl
position-end p (y ∷ ys) x e h = position-end-by p y ys x (p y) refl (position-end p ys x e) h

number-new-by : (names : List (List ℕ)) (name : List ℕ) (b : Bool) → list_any (bytes_eq name) names ≡ b → position_or_len (bytes_eq name) (cond b names (names ++ name ∷ [])) ≡ position_or_len (bytes_eq name) names
number-new-by names name true e = refl
number-new-by names name false e = position-end (bytes_eq name) names name (same_bytes name) e

number-new : (names : List (List ℕ)) (name : List ℕ) → flag_number (with_flag names name) name ≡ flag_number names name
unfolding with_flag flag_number
number-new names name = number-new-by names name (list_any (bytes_eq name) names) refl

number-kept-by : (names : List (List ℕ)) (other name : List ℕ) (b : Bool) → Has names name → position_or_len (bytes_eq name) (cond b names (names ++ other ∷ [])) ≡ position_or_len (bytes_eq name) names
number-kept-by names other name true h = refl
number-kept-by names other name false h = position-kept (bytes_eq name) names (other ∷ []) h

number-kept : (names : List (List ℕ)) (other name : List ℕ) → Has names name → flag_number (with_flag names other) name ≡ flag_number names name
unfolding with_flag flag_number
number-kept names other name h = number-kept-by names other name (list_any (bytes_eq other) names) h

-- the number of a name that is added to the set
pub number-added : (keys new : List (Bor (List ℕ))) (key : Bor (List ℕ)) (n : ℕ) → new ≡ cond (list_any (λ k. bytes_eq key.now k.now) keys) keys (keys ++ key ∷ []) → n ≡ position_or_len (λ k. bytes_eq key.now k.now) keys
    → n ≡ flag_number (borrowed_names new) key.now
number-added keys new key n is at =
    number-names keys key.now n at ∙ sym (number-new (borrowed_names keys) key.now) ∙ ap (λ (l : List (List ℕ)). flag_number l key.now) (sym (add-names keys new key is))

-- the names grow so that each flag keeps its number
pub record FlagsKept (old new : List (List ℕ)) : Type 0 where
  pub named : (name : List ℕ) → Has old name → Has new name
  pub number : (name : List ℕ) → Has old name → flag_number new name ≡ flag_number old name
  pub many : length old ≤ length new

pub FlagsKept-refl : (names : List (List ℕ)) → FlagsKept names names
FlagsKept-refl names = record { named = λ name h. h; number = λ name h. refl; many = omega arith }

pub FlagsKept-trans : (a b c : List (List ℕ)) → FlagsKept a b → FlagsKept b c → FlagsKept a c
FlagsKept-trans a b c h k = record {
  named = λ name has. k.named name (h.named name has);
  number = λ name has. k.number name (h.named name has) ∙ h.number name has;
  many = omega (arith, h.many, k.many);
}

longer-by : (names : List (List ℕ)) (name : List ℕ) (b : Bool) → length names ≤ length (cond b names (names ++ name ∷ []))
longer-by names name true = omega arith
longer-by names name false = let e = length-append names (name ∷ []) in omega (arith, e)

longer : (names : List (List ℕ)) (name : List ℕ) → length names ≤ length (with_flag names name)
unfolding with_flag
longer names name = longer-by names name (list_any (bytes_eq name) names)

one-kept : (names : List (List ℕ)) (name : List ℕ) → FlagsKept names (with_flag names name)
one-kept names name = record { named = λ other h. has-more names name other h; number = λ other h. number-kept names name other h; many = longer names name }

-- the flag of a line keeps the numbers of those before it
pub line-kept : (names : List (List ℕ)) (asks : BodyLine) → FlagsKept names (with_flag_of names asks)
line-kept names (body_lines.Do call) = FlagsKept-refl names
line-kept names (body_lines.Begin call) = FlagsKept-refl names
line-kept names (body_lines.Tick most) = FlagsKept-refl names
line-kept names (body_lines.Show gref) = FlagsKept-refl names
line-kept names (body_lines.Tell flag) = one-kept names flag
line-kept names (body_lines.Await flag) = one-kept names flag

-- what a line is for `run`, by the names after it and after others
pub action-kept : (names later : List (List ℕ)) (asks : BodyLine) → FlagsKept (with_flag_of names asks) later → run_action_in later asks ≡ run_action_in (with_flag_of names asks) asks
unfolding run_action_in
action-kept names later (body_lines.Do call) k = refl
action-kept names later (body_lines.Begin call) k = refl
action-kept names later (body_lines.Tick most) k = refl
action-kept names later (body_lines.Show gref) k = refl
action-kept names later (body_lines.Tell flag) k = ap (λ (n : ℕ). Some (run_actions.Tell n)) (k.number flag (has-new names flag))
action-kept names later (body_lines.Await flag) k = ap (λ (n : ℕ). Some (run_actions.Await n)) (k.number flag (has-new names flag))

-- its flag is one of the names after it
pub action-below : (names : List (List ℕ)) (asks : BodyLine) (a : RunAction) → run_action_in (with_flag_of names asks) asks ≡ Some a → IsBelow (length (with_flag_of names asks)) a
unfolding run_action_in
action-below names (body_lines.Do call) a e = subst (IsBelow (length names)) (same_Some _ a e) tt
action-below names (body_lines.Begin call) a e = absurd cc
action-below names (body_lines.Tick most) a e = absurd cc
action-below names (body_lines.Show gref) a e = absurd cc
action-below names (body_lines.Tell flag) a e = subst (IsBelow (length (with_flag names flag))) (same_Some _ a e) (number-below (with_flag names flag) flag (has-new names flag))
action-below names (body_lines.Await flag) a e = subst (IsBelow (length (with_flag names flag))) (same_Some _ a e) (number-below (with_flag names flag) flag (has-new names flag))

-- whether a line is one for `run` does not depend on the names
pub action-any : (names : List (List ℕ)) (asks : BodyLine) (a : RunAction) → run_action_in names asks ≡ Some a → is_some (run_action_in [] asks) ≡ true
unfolding run_action_in
action-any names (body_lines.Do call) a e = refl
action-any names (body_lines.Begin call) a e = absurd cc
action-any names (body_lines.Tick most) a e = absurd cc
action-any names (body_lines.Show gref) a e = absurd cc
action-any names (body_lines.Tell flag) a e = refl
action-any names (body_lines.Await flag) a e = refl

-- a line for `play` has no flag
pub play-flagless : (asks : BodyLine) (a : ScriptAction) → play_action_in asks ≡ Some a → flag_in asks ≡ None
unfolding play_action_in
play-flagless (body_lines.Do call) a e = refl
play-flagless (body_lines.Begin call) a e = refl
play-flagless (body_lines.Tick most) a e = refl
play-flagless (body_lines.Show gref) a e = refl
play-flagless (body_lines.Tell flag) a e = absurd cc
play-flagless (body_lines.Await flag) a e = absurd cc

below-more : (n m : ℕ) (a : RunAction) → n ≤ m → IsBelow n a → IsBelow m a
below-more n m (run_actions.Do call) le h = tt
below-more n m (run_actions.Tell flag) le h = omega (arith, le, h)
below-more n m (run_actions.Await flag) le h = omega (arith, le, h)

-- the flags of tasks are below a number, and so below each that is not less
pub numbered-more : (n m : ℕ) (tasks : List RunTask) → n ≤ m → AreNumbered n tasks → AreNumbered m tasks
numbered-more n m tasks le h = All-weaker (λ (t : RunTask). IsBelow n t.run_action) (λ (t : RunTask). IsBelow m t.run_action) (λ t k. below-more n m t.run_action le k) tasks h
