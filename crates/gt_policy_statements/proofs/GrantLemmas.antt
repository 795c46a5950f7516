-- The names that stand for a type, and what statements grant.
use Rattle.std.proofs.Common.{◌≡◌, ℕ, Bool, true, false, ◌&&◌, ◌||◌, not, ◌==◌, List, [], ◌∷◌, ◌++◌, length, map}
use Rattle.std.proofs.Common.{Option, Some, None, Result, Ok, Err, IfOk, refl, sym, ap, ◌∙◌, arith, ◌+◌, ◌<◌, get_or, take}
use Rattle.std.proofs.lemmas.List.{flat_map_more, take_more}
use Rattle.std.proofs.lemmas.Bool.Decides.{nat_tests}
use Rattle.std.specs.Prelude.{if◌then◌else◌, filter, codes}
use Rattle.std.specs.List.{flat_map, list_any}
use Rattle.std.specs.Str.{bytes_eq}
use Rattle.std.proofs.lemmas.List.Folds.{list_any-append}
use Rattle.std.proofs.lemmas.Slice.Eq.{bytes_eq-Decides}
use Rattle.gt_types.specs.Names.{every_permission, permission_name}
use Rattle.gt_policy.specs.Granting as text
use Rattle.gt_policy.specs.Lined.{statements_in}
use Rattle.gt_policy.specs.Resolving.{has_grant}
use Rattle.gt_policy.specs.Spelling.{types_in}
use Rattle.gt_policy.specs.declared.lined.LinedStatement.{LinedStatement}
use Rattle.gt_policy.specs.declared.statements.Allowance.{Allowance}
use Rattle.gt_policy.specs.declared.statements.Mention.{Mention}
use Rattle.gt_policy.specs.declared.statements.SetElement.{SetElement}
use Rattle.gt_policy.specs.declared.statements.SetElement.TheVariants.{With, Without, Itself}
use Rattle.gt_policy.specs.declared.statements.Statement.{Statement}
use Rattle.gt_policy.specs.declared.statements.Statement.TheVariants.{DeclareType, DeclareAttribute, GiveAttributes}
use Rattle.gt_policy.specs.declared.statements.Statement.TheVariants.{Allow}
use Rattle.gt_policy_statements.specs.declared.members.Member.{Member}
use Rattle.gt_policy_statements.specs.declared.asking.WhyAnswer.{WhyAnswer}
use Rattle.gt_policy_statements.specs.declared.asking.WhyAnswer.TheVariants.{Allowed, Denied, NoSource, NoTarget, NoPermission}
use Rattle.gt_policy_statements.specs.declared.asking.Explanation.{Explanation}
use Rattle.gt_policy_statements.specs.declared.asking.WhyQuestion.{WhyQuestion}
use Rattle.gt_policy_statements.specs.Granting.{puts_in, takes_out, elements_hold, reaches_by, gives_source, gives_by, gives_some}
use Rattle.gt_policy_statements.specs.Granting.{gives_of, near_of}
use Rattle.gt_policy_statements.specs.Members.{names_given, names_in_lines, membership_of, is_asked, members_in, members_of}
use Rattle.gt_policy_statements.specs.Texts.{report_entry_text}
use Rattle.gt_policy_statements.specs.Why.{types_asked, source_asked, target_asked, perm_asked, grants_asked, is_near, entry_if, entries_if}
use Rattle.gt_policy_statements.specs.Why.{grants_of, grants_word, is_meant, is_unknown}
use Rattle.gt_policy_statements.specs.Why.{answer_to_why, why_answer, lines_with, lines_of, IsExplained}

-- bytes are compared either way round
swap : (v w : List ℕ) → bytes_eq v w ≡ bytes_eq w v
swap v w = go (bytes_eq v w) (bytes_eq w v) refl refl
  where
    go : (b c : Bool) → bytes_eq v w ≡ b → bytes_eq w v ≡ c → b ≡ c
    go true c e f = sym ((bytes_eq-Decides w v).1 (sym ((bytes_eq-Decides v w).0 e))) ∙ f
    go false true e f = sym e ∙ (bytes_eq-Decides v w).1 (sym ((bytes_eq-Decides w v).0 f))
    go false false e f = refl

-- tests that agree find alike
pub any_same : {X : Type 0} (f g : X → Bool) → ((x : X) → f x ≡ g x) → (xs : List X) → list_any f xs ≡ list_any g xs
any_same f g same [] = refl
any_same f g same (x ∷ xs) = ap (λ (b : Bool). b || list_any f xs) (same x) ∙ ap (λ (b : Bool). g x || b) (any_same f g same xs)

pub any_never : {X : Type 0} (f : X → Bool) → ((x : X) → f x ≡ false) → (xs : List X) → list_any f xs ≡ false
any_never f never [] = refl
any_never f never (x ∷ xs) = ap (λ (b : Bool). b || list_any f xs) (never x) ∙ any_never f never xs

pub any_and : {X : Type 0} (a : Bool) (f : X → Bool) (xs : List X) → list_any (λ x. a && f x) xs ≡ (a && list_any f xs)
any_and true f xs = any_same (λ x. true && f x) f (λ x. refl) xs
any_and false f xs = any_never (λ x. false && f x) (λ x. refl) xs

-- the names that a statement gives
mentioned : (w : List ℕ) (ms : List Mention) → list_any (λ v. bytes_eq v w) (map (λ m. m.name) ms) ≡ text.mentions ms w
mentioned w [] = refl
mentioned w (m ∷ ms) = ap (λ (b : Bool). bytes_eq m.name w || b) (mentioned w ms)

given_if : (w : List ℕ) (ms : List Mention) (b : Bool) → list_any (λ v. bytes_eq v w) (if b then map (λ m. m.name) ms else []) ≡ (b && text.mentions ms w)
given_if w ms true = mentioned w ms
given_if w ms false = refl

given : (t w : List ℕ) (s : Statement) → list_any (λ v. bytes_eq v w) (names_given t s) ≡ text.gives s w t
given t w (DeclareType v ms) = given_if w ms (bytes_eq v t)
given t w (DeclareAttribute v) = refl
given t w (GiveAttributes m ms) = given_if w ms (bytes_eq m.name t)
given t w (Allow a) = refl

all_given : (t w : List ℕ) (xs : List LinedStatement) → list_any (λ v. bytes_eq v w) (flat_map (λ x. names_given t x.statement) xs) ≡ list_any (λ s. text.gives s w t) (statements_in xs)
all_given t w [] = refl
all_given t w (x ∷ xs) =
    list_any-append (λ v. bytes_eq v w) (names_given t x.statement) (flat_map (λ y. names_given t y.statement) xs)
    ∙ ap (λ (b : Bool). b || list_any (λ v. bytes_eq v w) (flat_map (λ y. names_given t y.statement) xs)) (given t w x.statement)
    ∙ ap (λ (b : Bool). text.gives x.statement w t || b) (all_given t w xs)

-- the names that stand for a type are those by which statements name it
stands : (xs : List LinedStatement) (t w : List ℕ) → list_any (λ v. bytes_eq v w) (names_in_lines xs t) ≡ text.is_named (statements_in xs) w t
stands xs t w =
    ap (λ (b : Bool). b || list_any (λ v. bytes_eq v w) (flat_map (λ x. names_given t x.statement) xs)) (swap t w)
    ∙ ap (λ (b : Bool). bytes_eq w t || b) (all_given t w xs)

puts : (xs : List LinedStatement) (t : List ℕ) (i : SetElement) → puts_in (names_in_lines xs t) i ≡ text.names_with (statements_in xs) i t
puts xs t (With m) = stands xs t m.name
puts xs t (Without m) = refl
puts xs t Itself = refl

takes : (xs : List LinedStatement) (t : List ℕ) (i : SetElement) → takes_out (names_in_lines xs t) i ≡ text.names_without (statements_in xs) i t
takes xs t (With m) = refl
takes xs t (Without m) = stands xs t m.name
takes xs t Itself = refl

pub held : (xs : List LinedStatement) (t : List ℕ) (items : List SetElement) → elements_hold (names_in_lines xs t) items ≡ text.set_holds (statements_in xs) items t
held xs t items =
    ap (λ (b : Bool). b && not (list_any (λ i. takes_out (names_in_lines xs t) i) items)) (any_same (λ i. puts_in (names_in_lines xs t) i) (λ i. text.names_with (statements_in xs) i t) (puts xs t) items)
    ∙ ap (λ (b : Bool). list_any (λ i. text.names_with (statements_in xs) i t) items && not b) (any_same (λ i. takes_out (names_in_lines xs t) i) (λ i. text.names_without (statements_in xs) i t) (takes xs t) items)

-- a statement grants by members what it grants by names
pub by_names : (xs : List LinedStatement) (w s t : List ℕ) (a : Allowance) → (gives_source w (membership_of xs s) a && reaches_by (membership_of xs s) (membership_of xs t) a) ≡ text.statement_grants (statements_in xs) s t w (Allow a)
by_names xs w s t a =
    ap (λ (b : Bool). ((has_grant a.classes && text.lists_word a.perms w) && b) && reaches_by (membership_of xs s) (membership_of xs t) a) (held xs s a.source)
    ∙ ap (λ (b : Bool). ((has_grant a.classes && text.lists_word a.perms w) && text.set_holds (statements_in xs) a.source s) && (b || (list_any text.is_self a.target && bytes_eq s t))) (held xs t a.target)

-- the types that are asked for
if_asked : (p : Member → Bool) (m : Member) (b : Bool) (rest : List Member) → list_any p ((if b then m ∷ [] else []) ++ rest) ≡ ((b && p m) || list_any p rest)
if_asked p m true rest = refl
if_asked p m false rest = refl

filtered : (p : List ℕ → Bool) (t : List ℕ) (b : Bool) (ts : List (List ℕ)) → list_any p (if b then t ∷ ts else ts) ≡ ((b && p t) || list_any p ts)
filtered p t true ts = refl
filtered p t false ts = refl

same_asked : (xs : List LinedStatement) (asked : Option (List ℕ)) (t : List ℕ) → is_asked asked (names_in_lines xs t) ≡ is_meant (statements_in xs) asked t
same_asked xs (Some wanted) t = stands xs t wanted
same_asked xs None t = refl

asked_among : (xs : List LinedStatement) (asked : Option (List ℕ)) (p : Member → Bool) (ys : List LinedStatement)
    → list_any p (flat_map (λ x. members_in xs asked x.statement) ys) ≡ list_any (λ t. p (membership_of xs t)) (filter (is_meant (statements_in xs) asked) (types_in (statements_in ys)))
asked_among xs asked p [] = refl
asked_among xs asked p (y ∷ ys) = go y.statement (asked_among xs asked p ys)
  where
    go : (s : Statement) → list_any p (flat_map (λ x. members_in xs asked x.statement) ys) ≡ list_any (λ t. p (membership_of xs t)) (filter (is_meant (statements_in xs) asked) (types_in (statements_in ys)))
        → list_any p (members_in xs asked s ++ flat_map (λ x. members_in xs asked x.statement) ys) ≡ list_any (λ t. p (membership_of xs t)) (filter (is_meant (statements_in xs) asked) (types_in (s ∷ statements_in ys)))
    go (DeclareType w ms) others =
        if_asked p (membership_of xs w) (is_asked asked (names_in_lines xs w)) (flat_map (λ x. members_in xs asked x.statement) ys)
        ∙ ap (λ (b : Bool). (is_asked asked (names_in_lines xs w) && p (membership_of xs w)) || b) others
        ∙ ap (λ (b : Bool). (b && p (membership_of xs w)) || list_any (λ t. p (membership_of xs t)) (filter (is_meant (statements_in xs) asked) (types_in (statements_in ys)))) (same_asked xs asked w)
        ∙ sym (filtered (λ t. p (membership_of xs t)) w (is_meant (statements_in xs) asked w) (filter (is_meant (statements_in xs) asked) (types_in (statements_in ys))))
    go (DeclareAttribute w) others = others
    go (GiveAttributes m ms) others = others
    go (Allow a) others = others

pub any_asked : (xs : List LinedStatement) (asked : Option (List ℕ)) (p : Member → Bool) → list_any p (members_of xs asked) ≡ list_any (λ t. p (membership_of xs t)) (types_asked xs asked)
any_asked xs asked p = asked_among xs asked p xs

true_or : (b : Bool) → (true || b) ≡ true
true_or true = refl
true_or false = refl

-- there are members where there are types
is_none_any : {X : Type 0} (xs : List X) → (length xs == 0) ≡ not (list_any (λ x. true) xs)
is_none_any [] = refl
is_none_any (x ∷ xs) =
    let some : (length (x ∷ xs) == 0) ≡ false = grind (arith, nat_tests) in
    some ∙ sym (ap not (true_or (list_any (λ y. true) xs)))

none_asked : (xs : List LinedStatement) (asked : Option (List ℕ)) → (length (members_of xs asked) == 0) ≡ (length (types_asked xs asked) == 0)
none_asked xs asked = is_none_any (members_of xs asked) ∙ ap not (any_asked xs asked (λ m. true)) ∙ sym (is_none_any (types_asked xs asked))

-- a statement grants what is asked
never_asked : (xs : List LinedStatement) (a b : Option (List ℕ)) → false ≡ list_any (λ s. list_any (λ t. false) (types_asked xs b)) (types_asked xs a)
never_asked xs a b = sym (any_never (λ s. list_any (λ t. false) (types_asked xs b)) (λ s. any_never (λ t. false) (λ t. refl) (types_asked xs b)) (types_asked xs a))

pub gives_named : (xs : List LinedStatement) (w : List ℕ) (a b : Option (List ℕ)) (x : Statement) → gives_some w (members_of xs a) (members_of xs b) x
    ≡ list_any (λ s. list_any (λ t. text.statement_grants (statements_in xs) s t w x) (types_asked xs b)) (types_asked xs a)
gives_named xs w a b (DeclareType v ms) = never_asked xs a b
gives_named xs w a b (DeclareAttribute v) = never_asked xs a b
gives_named xs w a b (GiveAttributes m ms) = never_asked xs a b
gives_named xs w a b (Allow r) =
    any_asked xs a (λ s. gives_by w (members_of xs b) s r)
    ∙ any_same (λ s. gives_by w (members_of xs b) (membership_of xs s) r) (λ s. list_any (λ t. text.statement_grants (statements_in xs) s t w (Allow r)) (types_asked xs b))
    (λ s. ap (λ (v : Bool). gives_source w (membership_of xs s) r && v) (any_asked xs b (λ t. reaches_by (membership_of xs s) t r))
    ∙ sym (any_and (gives_source w (membership_of xs s) r) (λ t. reaches_by (membership_of xs s) (membership_of xs t) r) (types_asked xs b))
    ∙ any_same (λ t. gives_source w (membership_of xs s) r && reaches_by (membership_of xs s) (membership_of xs t) r) (λ t. text.statement_grants (statements_in xs) s t w (Allow r)) (λ t. by_names xs w s t r) (types_asked xs b))
    (types_asked xs a)

gives_by_word : (xs : List LinedStatement) (q : WhyQuestion) (x : Statement) (perm : Option (List ℕ)) → gives_of perm (members_of xs (source_asked q)) (members_of xs (target_asked q)) x ≡ grants_of xs q perm x
gives_by_word xs q x (Some w) = gives_named xs w (source_asked q) (target_asked q) x
gives_by_word xs q x None =
    any_same (λ p. gives_some (permission_name p) (members_of xs (source_asked q)) (members_of xs (target_asked q)) x) (λ p. grants_word xs q (permission_name p) x)
    (λ p. gives_named xs (permission_name p) (source_asked q) (target_asked q) x) every_permission

gives_asked : (xs : List LinedStatement) (q : WhyQuestion) (x : Statement) → gives_of (perm_asked q) (members_of xs (source_asked q)) (members_of xs (target_asked q)) x ≡ grants_asked xs q x
gives_asked xs q x = gives_by_word xs q x (perm_asked q)

-- the answer
pub answers : (xs : List LinedStatement) (q : WhyQuestion) → answer_to_why (perm_asked q) (members_of xs (source_asked q)) (members_of xs (target_asked q)) xs ≡ why_answer xs q
answers xs q =
    ap (λ (b : Bool). if is_unknown (perm_asked q) then NoPermission else (if b then NoSource else (if length (members_of xs (target_asked q)) == 0 then NoTarget
    else (if list_any (λ x. gives_of (perm_asked q) (members_of xs (source_asked q)) (members_of xs (target_asked q)) x.statement) xs then Allowed else Denied)))) (none_asked xs (source_asked q))
    ∙ ap (λ (b : Bool). if is_unknown (perm_asked q) then NoPermission else (if length (types_asked xs (source_asked q)) == 0 then NoSource else (if b then NoTarget
    else (if list_any (λ x. gives_of (perm_asked q) (members_of xs (source_asked q)) (members_of xs (target_asked q)) x.statement) xs then Allowed else Denied)))) (none_asked xs (target_asked q))
    ∙ ap (λ (b : Bool). if is_unknown (perm_asked q) then NoPermission else (if length (types_asked xs (source_asked q)) == 0 then NoSource else (if length (types_asked xs (target_asked q)) == 0 then NoTarget
    else (if b then Allowed else Denied)))) (any_same (λ x. gives_of (perm_asked q) (members_of xs (source_asked q)) (members_of xs (target_asked q)) x.statement) (λ x. grants_asked xs q x.statement) (λ x. gives_asked xs q x.statement) xs)

-- the lines
one_passed : {X : Type 0} (f : X → List ℕ) (x : X) (xs : List X) (b : Bool) → flat_map f (if b then x ∷ xs else xs) ≡ (if b then f x else []) ++ flat_map f xs
one_passed f x xs true = refl
one_passed f x xs false = refl

passed : (test other : Statement → Bool) (file : List ℕ) (sources targets : List Member) → ((x : Statement) → test x ≡ other x) → (xs : List LinedStatement)
    → entries_if test file sources targets xs ≡ flat_map (report_entry_text file sources targets) (filter (λ x. other x.statement) xs)
passed test other file sources targets same [] = refl
passed test other file sources targets same (x ∷ xs) =
    ap (λ (l : List ℕ). entry_if test file sources targets x ++ l) (passed test other file sources targets same xs)
    ∙ ap (λ (b : Bool). (if b then report_entry_text file sources targets x else []) ++ flat_map (report_entry_text file sources targets) (filter (λ y. other y.statement) xs)) (same x.statement)
    ∙ sym (one_passed (report_entry_text file sources targets) x (filter (λ y. other y.statement) xs) (other x.statement))

pub all_lines : (answer : WhyAnswer) (file : List ℕ) (xs : List LinedStatement) (q : WhyQuestion) → lines_with answer file (perm_asked q) (members_of xs (source_asked q)) (members_of xs (target_asked q)) xs ≡ lines_of answer file xs q
all_lines Allowed file xs q =
    ap (λ (l : List ℕ). codes "allowed\n" ++ l)
    (passed (gives_of (perm_asked q) (members_of xs (source_asked q)) (members_of xs (target_asked q))) (grants_asked xs q) file (members_of xs (source_asked q)) (members_of xs (target_asked q)) (gives_asked xs q) xs)
all_lines Denied file xs q =
    ap (λ (l : List ℕ). codes "denied\n" ++ l)
    (passed (near_of (perm_asked q) (members_of xs (source_asked q)) (members_of xs (target_asked q))) (is_near xs q) file (members_of xs (source_asked q)) (members_of xs (target_asked q)) (λ x. refl) xs)
all_lines NoSource file xs q = refl
all_lines NoTarget file xs q = refl
all_lines NoPermission file xs q = refl

-- what is answered by the members answers the question
pub explained_so : {E : Type 0} (file : List ℕ) (xs : List LinedStatement) (q : WhyQuestion) (sources targets : List Member) (r : Result Explanation E)
    → sources ≡ members_of xs (source_asked q) → targets ≡ members_of xs (target_asked q)
    → IfOk r (λ e. e.answer ≡ answer_to_why (perm_asked q) sources targets xs) → IfOk r (λ e. e.lines.items ≡ lines_with e.answer file (perm_asked q) sources targets xs)
    → IfOk r (λ e. IsExplained file q xs e)
explained_so file xs q sources targets (Err fault) s t answer lines = tt
explained_so file xs q sources targets (Ok e) s t answer lines = (
  answer ∙ ap (λ (m : List Member). answer_to_why (perm_asked q) m targets xs) s ∙ ap (λ (m : List Member). answer_to_why (perm_asked q) (members_of xs (source_asked q)) m xs) t ∙ answers xs q,
  lines ∙ ap (λ (m : List Member). lines_with e.answer file (perm_asked q) m targets xs) s
      ∙ ap (λ (m : List Member). lines_with e.answer file (perm_asked q) (members_of xs (source_asked q)) m xs) t ∙ all_lines e.answer file xs q,
)

-- all types are asked for
pub filter_all : (ss : List Statement) (ts : List (List ℕ)) → filter (is_meant ss None) ts ≡ ts
filter_all ss [] = refl
filter_all ss (t ∷ ts) = ap (λ (l : List (List ℕ)). t ∷ l) (filter_all ss ts)

-- the text of one more item is appended
pub appended-more : {X : Type 0} (f : X → List ℕ) (xs : List X) (i : ℕ) (x : X) (before out : List ℕ) → i < length xs → x ≡ get_or xs i x → out ≡ before ++ flat_map f (take i xs) → out ++ f x ≡ before ++ flat_map f (take (i + 1) xs)
appended-more f xs i x before out within is so =
    ap (λ (l : List ℕ). l ++ f x) so ∙ flat_map_more f before (take i xs) x
    ∙ ap (λ (l : List _). before ++ flat_map f l) (ap (λ (y : _). take i xs ++ y ∷ []) is ∙ sym (take_more xs i x within))
