-- What is forbidden to types is forbidden by the names in the statements.
use Rattle.std.proofs.Common.{◌≡◌, ℕ, Bool, true, false, ◌&&◌, ◌||◌, not, List, [], ◌∷◌, ◌++◌, map, None, refl, sym, ap, ap₂, ◌∙◌}
use Rattle.std.proofs.Common.{append_assoc, subst, take, get_or, length, ◌<◌, ◌+◌}
use Rattle.std.proofs.Math.Bool.{and_assoc}
use Rattle.std.proofs.lemmas.Bool.{true≢false}
use Rattle.std.proofs.lemmas.List.{append-nil, take_more}
use Rattle.std.proofs.lemmas.List.Concat.{flat_map-append}
use Rattle.std.proofs.lemmas.List.Folds.{list_any_at}
use Rattle.std.proofs.lemmas.Slice.Eq.{bytes_eq-Decides}
use Rattle.std.specs.Prelude.{if◌then◌else◌, filter, Contains}
use Rattle.std.specs.List.{flat_map, list_any, AllZip}
use Rattle.std.specs.Str.{bytes_eq}
use Rattle.gt_types.specs.Names.{every_permission, permission_name}
use Rattle.gt_policy.specs.Granting.{statement_grants}
use Rattle.gt_policy.specs.Lined.{statements_in}
use Rattle.gt_policy.specs.Spelling.{types_in}
use Rattle.gt_policy.specs.declared.lined.LinedStatement.{LinedStatement}
use Rattle.gt_policy.specs.declared.statements.Allowance.{Allowance}
use Rattle.gt_policy.specs.declared.statements.Statement.{Statement}
use Rattle.gt_policy.specs.declared.statements.Statement.TheVariants.{DeclareType, DeclareAttribute, GiveAttributes}
use Rattle.gt_policy.specs.declared.statements.Statement.TheVariants.{Allow}
use Rattle.gt_findings.specs.Findings.{KeepsColumns, error_lines}
use Rattle.gt_policy_statements.specs.Granting.{gives_source, reaches_by}
use Rattle.gt_policy_statements.specs.Members.{membership_of, members_of, names_in_lines}
use Rattle.gt_policy_statements.specs.Why.{types_asked}
use Rattle.gt_findings.specs.Findings.{class_lines}
use Rattle.gt_policy_words.specs.Words.{unknown_line}
use Rattle.gt_findings.specs.declared.findings.Finding.{Finding}
use Rattle.gt_policy_statements.specs.declared.members.Member.{Member}
use Rattle.gt_policy_statements.proofs.GrantLemmas.{filter_all}
use Rattle.gt_policy_statements.proofs.GrantLemmas.{any_and, any_asked, any_never, any_same, by_names, held}
use Rattle.gt_neverallow.specs.Breaking.{breaks, breaks_by, breaks_some, breaks_with, broken, broken_by, example_text}
use Rattle.gt_neverallow.specs.Breaking.{chooses_self, chosen_by, classes_in, denies, forbids, forbids_source, forbids_target}
use Rattle.gt_neverallow.specs.Breaking.{is_chosen, is_example}
use Rattle.gt_neverallow.specs.Breaking.{pairs_if, shows_by, shows_some, shows_with, AddsBreaches, AreBroken, AreUnknown, IsBreach, IsBrokenOn, BreachIsShown}
use Rattle.gt_neverallow.specs.declared.breaking.Breach.{Breach}
use Rattle.gt_neverallow.specs.declared.statement.NeverStatement.{NeverStatement}
use Rattle.gt_neverallow.specs.declared.statement.TypeChoice.{TypeChoice}
use Rattle.gt_neverallow.specs.declared.statement.TypeChoice.TheVariants.{But, Every, Of}

chosen : (xs : List LinedStatement) (c : TypeChoice) (t : List ℕ) → chosen_by c (names_in_lines xs t) ≡ is_chosen (statements_in xs) c t
chosen xs Every t = refl
chosen xs (Of items) t = held xs t items
chosen xs (But items) t = ap not (held xs t items)

-- what is forbidden by members is forbidden by names
forbidden : (xs : List LinedStatement) (w s t : List ℕ) (n : NeverStatement) → (forbids_source w (membership_of xs s) n && forbids_target (membership_of xs s) (membership_of xs t) n) ≡ forbids (statements_in xs) s t w n
forbidden xs w s t n =
    ap₂ (λ (a b : Bool). (denies n.what w && a) && (b || (chooses_self n.target && bytes_eq s t))) (chosen xs n.source s) (chosen xs n.target t)

-- four tests in the order of the code, and in that of the definitions
regroup : (a b c d : Bool) → ((a && b) && (c && d)) ≡ ((a && c) && (b && d))
regroup true true c d = refl
regroup true false true d = refl
regroup true false false d = refl
regroup false b c d = refl

module _ (xs : List LinedStatement) (w : List ℕ) (n : NeverStatement) where
  abbrev types : List (List ℕ)
  types = types_asked xs None

  abbrev Breaks : Statement → List ℕ → List ℕ → Bool
  Breaks x s t = statement_grants (statements_in xs) s t w x && forbids (statements_in xs) s t w n

  no_breach : (ts us : List (List ℕ)) → false ≡ list_any (λ s. list_any (λ t. false) us) ts
  no_breach ts us = sym (any_never (λ s. list_any (λ t. false) us) (λ s. any_never (λ t. false) (λ t. refl) us) ts)

  abbrev sees : Allowance → List ℕ → Bool
  sees a s = gives_source w (membership_of xs s) a && forbids_source w (membership_of xs s) n

  abbrev meets : Allowance → List ℕ → List ℕ → Bool
  meets a s t = reaches_by (membership_of xs s) (membership_of xs t) a && forbids_target (membership_of xs s) (membership_of xs t) n

  by_target : (a : Allowance) (s t : List ℕ) → (sees a s && meets a s t) ≡ Breaks (Allow a) s t
  by_target a s t =
      regroup (gives_source w (membership_of xs s) a) (forbids_source w (membership_of xs s) n) (reaches_by (membership_of xs s) (membership_of xs t) a) (forbids_target (membership_of xs s) (membership_of xs t) n)
      ∙ ap₂ (λ (u v : Bool). u && v) (by_names xs w s t a) (forbidden xs w s t n)

  by_source : (a : Allowance) (s : List ℕ) → breaks_by w (members_of xs None) n a (membership_of xs s) ≡ list_any (λ t. Breaks (Allow a) s t) types
  by_source a s =
      ap (λ (v : Bool). sees a s && v) (any_asked xs None (λ t. reaches_by (membership_of xs s) t a && forbids_target (membership_of xs s) t n))
      ∙ sym (any_and (sees a s) (λ t. meets a s t) types)
      ∙ any_same (λ t. sees a s && meets a s t) (λ t. Breaks (Allow a) s t) (by_target a s) types

  breaks_asked : (x : Statement) → breaks_some w (members_of xs None) n x ≡ list_any (λ s. list_any (λ t. Breaks x s t) types) types
  breaks_asked (DeclareType v ms) = no_breach types types
  breaks_asked (DeclareAttribute v) = no_breach types types
  breaks_asked (GiveAttributes m ms) = no_breach types types
  breaks_asked (Allow a) =
      any_asked xs None (λ s. breaks_by w (members_of xs None) n a s)
      ∙ any_same (λ s. breaks_by w (members_of xs None) n a (membership_of xs s)) (λ s. list_any (λ t. Breaks (Allow a) s t) types) (λ s. by_source a s) types

  breaks_named : (x : Statement) → breaks_some w (members_of xs None) n x
      ≡ list_any (λ s. list_any (λ t. Breaks x s t) (types_in (statements_in xs))) (types_in (statements_in xs))
  breaks_named x = breaks_asked x ∙ ap (λ (ts : List (List ℕ)). list_any (λ s. list_any (λ t. Breaks x s t) ts) ts) (filter_all (statements_in xs) (types_in (statements_in xs)))

  module _ (text : List ℕ) where
    abbrev Names : Statement → List ℕ → List ℕ → Bool
    Names x s t = Breaks x s t && bytes_eq text (example_text s w t)

    named_by : (a : Allowance) (s t : List ℕ) → (sees a s && (meets a s t && bytes_eq text (example_text s w t))) ≡ Names (Allow a) s t
    named_by a s t =
        sym (and_assoc (sees a s) (meets a s t) (bytes_eq text (example_text s w t)))
        ∙ ap (λ (v : Bool). v && bytes_eq text (example_text s w t)) (by_target a s t)

    shown_source : (a : Allowance) (s : List ℕ) → shows_by text w (members_of xs None) n a (membership_of xs s) ≡ list_any (λ t. Names (Allow a) s t) types
    shown_source a s =
        ap (λ (v : Bool). sees a s && v) (any_asked xs None (λ t. (reaches_by (membership_of xs s) t a && forbids_target (membership_of xs s) t n) && bytes_eq text (example_text s w t.name)))
        ∙ sym (any_and (sees a s) (λ t. meets a s t && bytes_eq text (example_text s w t)) types)
        ∙ any_same (λ t. sees a s && (meets a s t && bytes_eq text (example_text s w t))) (λ t. Names (Allow a) s t) (named_by a s) types

    shown_asked : (x : Statement) → shows_some text w (members_of xs None) n x ≡ list_any (λ s. list_any (λ t. Names x s t) types) types
    shown_asked (DeclareType v ms) = no_breach types types
    shown_asked (DeclareAttribute v) = no_breach types types
    shown_asked (GiveAttributes m ms) = no_breach types types
    shown_asked (Allow a) =
        any_asked xs None (λ s. shows_by text w (members_of xs None) n a s)
        ∙ any_same (λ s. shows_by text w (members_of xs None) n a (membership_of xs s)) (λ s. list_any (λ t. Names (Allow a) s t) types) (λ s. shown_source a s) types

    shown_named : (x : Statement) → shows_some text w (members_of xs None) n x
        ≡ list_any (λ s. list_any (λ t. Names x s t) (types_in (statements_in xs))) (types_in (statements_in xs))
    shown_named x = shown_asked x ∙ ap (λ (ts : List (List ℕ)). list_any (λ s. list_any (λ t. Names x s t) ts) ts) (filter_all (statements_in xs) (types_in (statements_in xs)))

breaks_same : (xs : List LinedStatement) (n : NeverStatement) (x : Statement) → breaks_with (members_of xs None) n x ≡ breaks xs n x
breaks_same xs n x =
    any_same (λ p. breaks_some (permission_name p) (members_of xs None) n x)
    (λ p. list_any (λ s. list_any (λ t. statement_grants (statements_in xs) s t (permission_name p) x && forbids (statements_in xs) s t (permission_name p) n) (types_in (statements_in xs))) (types_in (statements_in xs)))
    (λ p. breaks_named xs (permission_name p) n x) every_permission

shown_same : (xs : List LinedStatement) (n : NeverStatement) (x : Statement) (text : List ℕ) → shows_with text (members_of xs None) n x ≡ is_example xs n x text
shown_same xs n x text =
    any_same (λ p. shows_some text (permission_name p) (members_of xs None) n x)
    (λ p. list_any (λ s. list_any (λ t. (statement_grants (statements_in xs) s t (permission_name p) x && forbids (statements_in xs) s t (permission_name p) n) && bytes_eq text (example_text s (permission_name p) t)) (types_in (statements_in xs))) (types_in (statements_in xs)))
    (λ p. shown_named xs (permission_name p) n text x) every_permission

-- the pairs of statements
one_pair : (b : Bool) (x : LinedStatement) (n : NeverStatement) (ns : List NeverStatement) → (pairs_if b x n ++ map (λ m. (x, m)) ns) ≡ map (λ m. (x, m)) (if b then n ∷ ns else ns)
one_pair true x n ns = refl
one_pair false x n ns = refl

one_broken : (xs : List LinedStatement) (ns : List NeverStatement) (x : LinedStatement) → broken_by (members_of xs None) ns x ≡ map (λ n. (x, n)) (filter (λ n. breaks xs n x.statement) ns)
one_broken xs [] x = refl
one_broken xs (n ∷ ns) x =
    ap₂ (λ (b : Bool) (l : List (LinedStatement × NeverStatement)). pairs_if b x n ++ l) (breaks_same xs n x.statement) (one_broken xs ns x)
    ∙ one_pair (breaks xs n x.statement) x n (filter (λ m. breaks xs m x.statement) ns)

all_same : (all : List LinedStatement) (ns : List NeverStatement) (xs : List LinedStatement) → flat_map (λ x. broken_by (members_of all None) ns x) xs ≡ flat_map (λ x. map (λ n. (x, n)) (filter (λ n. breaks all n x.statement) ns)) xs
all_same all ns [] = refl
all_same all ns (x ∷ xs) = ap₂ (λ (k l : List (LinedStatement × NeverStatement)). k ++ l) (one_broken all ns x) (all_same all ns xs)

-- the breaches of pairs of statements
all_shown : (xs : List LinedStatement) (pairs : List (LinedStatement × NeverStatement)) (found : List Breach) → AllZip (BreachIsShown (members_of xs None)) pairs found → AllZip (IsBreach xs) pairs found
all_shown xs [] [] shown = shown
all_shown xs [] (b ∷ found) shown = shown
all_shown xs (p ∷ pairs) [] shown = shown
all_shown xs (p ∷ pairs) (b ∷ found) ((one, other, names), shown) =
    ((one, other, sym (shown_same xs p.1 p.0.statement b.example.items) ∙ names), all_shown xs pairs found shown)

pub broken_of : (xs : List LinedStatement) (ns : List NeverStatement) (ms : List Member) (found : List Breach) → ms ≡ members_of xs None → AddsBreaches ms (flat_map (λ x. broken_by ms ns x) xs) [] found → AreBroken xs ns found
broken_of xs ns ms found same adds = of_members (subst (λ (m : List Member). AddsBreaches m (flat_map (λ x. broken_by m ns x) xs) [] found) same adds)
  where
    of_members : AddsBreaches (members_of xs None) (flat_map (λ x. broken_by (members_of xs None) ns x) xs) [] found → AreBroken xs ns found
    of_members (more, is, shown) =
        subst (λ (l : List Breach). AllZip (IsBreach xs) (broken xs ns) l) (sym is)
        (subst (λ (ps : List (LinedStatement × NeverStatement)). AllZip (IsBreach xs) ps more) (all_same xs ns xs) (all_shown xs (flat_map (λ x. broken_by (members_of xs None) ns x) xs) more shown))

-- the items of one more element
pub one_more : {X Y : Type 0} (f : X → List Y) (xs : List X) (i : ℕ) (x : X) → i < length xs → x ≡ get_or xs i x → flat_map f (take (i + 1) xs) ≡ flat_map f (take i xs) ++ f x
one_more f xs i x within is =
    ap (λ (l : List _). flat_map f l) (take_more xs i x within ∙ ap (λ (y : _). take i xs ++ y ∷ []) (sym is))
    ∙ flat_map-append f (take i xs) (x ∷ []) ∙ ap (λ (l : List _). flat_map f (take i xs) ++ l) (append-nil (f x))

-- breaches are added one after the other
zip_both : {A B : Type 0} (R : A → B → Type 0) (xs us : List A) (ys vs : List B) → AllZip R xs ys → AllZip R us vs → AllZip R (xs ++ us) (ys ++ vs)
zip_both R [] us [] vs none zipped = zipped
zip_both R [] us (y ∷ ys) vs none zipped = absurd none
zip_both R (x ∷ xs) us [] vs none zipped = absurd none
zip_both R (x ∷ xs) us (y ∷ ys) vs (first, more) zipped = (first, zip_both R xs us ys vs more zipped)

pub adds_none : (ms : List Member) (old new : List Breach) → new ≡ old → AddsBreaches ms [] old new
adds_none ms old new same = ([], same ∙ sym (append-nil old), tt)

pub adds_one : (ms : List Member) (x : LinedStatement) (n : NeverStatement) (b : Bool) (one : Breach) (old new : List Breach) → b ≡ true → new ≡ old ++ one ∷ [] → BreachIsShown ms (x, n) one → AddsBreaches ms (pairs_if b x n) old new
adds_one ms x n true one old new breaks is shows = (one ∷ [], is, (shows, tt))
adds_one ms x n false one old new breaks is shows = absurd (true≢false (sym breaks))

pub adds_nothing : (ms : List Member) (x : LinedStatement) (n : NeverStatement) (b : Bool) (old new : List Breach) → b ≡ false → new ≡ old → AddsBreaches ms (pairs_if b x n) old new
adds_nothing ms x n false old new breaks same = adds_none ms old new same
adds_nothing ms x n true old new breaks same = absurd (true≢false breaks)

pub adds_both : (ms : List Member) (ps qs all : List (LinedStatement × NeverStatement)) (old mid new : List Breach) → all ≡ ps ++ qs → AddsBreaches ms ps old mid → AddsBreaches ms qs mid new → AddsBreaches ms all old new
adds_both ms ps qs all old mid new is (xs, first, shown) (ys, second, told) =
    (xs ++ ys, second ∙ ap (λ (l : List Breach). l ++ ys) first ∙ append_assoc old xs ys, subst (λ (l : List (LinedStatement × NeverStatement)). AllZip (BreachIsShown ms) l (xs ++ ys)) (sym is) (zip_both (BreachIsShown ms) ps qs xs ys shown told))

-- ---- an example

-- one element that passes a test
pub any_contained : {X : Type 0} (f : X → Bool) (xs : List X) (x : X) → Contains xs x → f x ≡ true → list_any f xs ≡ true
any_contained f xs x (k, within, is) passes = list_any_at f xs k x within (subst (λ (y : _). f y ≡ true) (sym is) passes)

both_true : (a b : Bool) → a ≡ true → b ≡ true → (a && b) ≡ true
both_true true b one other = other
both_true false b one other = one

-- the names of a source, a permission and a target on which the statement is broken are an example
pub shown_by : (text w : List ℕ) (ms : List Member) (n : NeverStatement) (a : Allowance) (s t : Member) → IsBrokenOn w ms n a s t → text ≡ example_text s.name w t.name → shows_by text w ms n a s ≡ true
shown_by text w ms n a s t (among, sees, meets) is =
    both_true (gives_source w s a && forbids_source w s n) (list_any (λ u. (reaches_by s u a && forbids_target s u n) && bytes_eq text (example_text s.name w u.name)) ms) sees
    (any_contained (λ u. (reaches_by s u a && forbids_target s u n) && bytes_eq text (example_text s.name w u.name)) ms t among
    (both_true (reaches_by s t a && forbids_target s t n) (bytes_eq text (example_text s.name w t.name)) meets ((bytes_eq-Decides text (example_text s.name w t.name)).1 is)))

-- breaches are added for one more item of a list
pub adds_more : {X : Type 0} (ms : List Member) (f : X → List (LinedStatement × NeverStatement)) (xs : List X) (i : ℕ) (x : X) (old mid new : List Breach) → i < length xs → x ≡ get_or xs i x → AddsBreaches ms (flat_map f (take i xs)) old mid → AddsBreaches ms (f x) mid new
    → AddsBreaches ms (flat_map f (take (i + 1) xs)) old new
adds_more ms f xs i x old mid new within is before added = adds_both ms (flat_map f (take i xs)) (f x) (flat_map f (take (i + 1) xs)) old mid new (one_more f xs i x within is) before added

-- ---- words that nothing knows

pub unknown_more : (text : List ℕ) (ns : List NeverStatement) (i : ℕ) (n : NeverStatement) (classes : List (List ℕ)) (old new : List Finding) → i < length ns → n ≡ get_or ns i n → classes ≡ classes_in n.what → AreUnknown text (take i ns) old → error_lines new ≡ error_lines old
    → class_lines new ≡ class_lines old ++ flat_map (unknown_line n.line) classes → KeepsColumns text old new → AreUnknown text (take (i + 1) ns) new
unknown_more text ns i n classes old new within is same before quiet told columns = (
  told ∙ ap₂ (λ (a b : List ℕ). a ++ b) before.0 (ap (λ (l : List (List ℕ)). flat_map (unknown_line n.line) l) same) ∙ sym (one_more (λ m. flat_map (unknown_line m.line) (classes_in m.what)) ns i n within is),
  quiet ∙ before.1,
  columns.kept before.2,
)
