-- What the readers take is what the grammar spells, and the other way round.
use Rattle.std.proofs.Common.{◌≡◌, ◌<◌, ℕ, Bool, true, false, List, [], ◌∷◌, length, Result, Ok, Err, refl, sym, ap}
use Rattle.std.proofs.Common.{◌∙◌, subst, arith}
use Rattle.std.specs.Prelude.{if◌then◌else◌}
use Rattle.std.specs.List.{list_any}
use Rattle.gt_policy_text.specs.declared.lexer.Token.TheVariants.{Name, SelfWord, Open, Close, Semicolon, Comma, Minus, Star}
use Rattle.gt_policy.specs.declared.fault.TokenFault.{TokenFault}
use Rattle.gt_policy.specs.declared.fault.TokenFaultKind.TheVariants.{Syntax, Outside, Permission}
use Rattle.gt_policy.specs.declared.statements.Mention.{Mention}
use Rattle.gt_policy.specs.declared.statements.SetElement.{SetElement}
use Rattle.gt_policy.specs.declared.statements.SetElement.TheVariants.{With, Without, Itself}
use Rattle.gt_policy.specs.declared.statements.Permissions.{Permissions}
use Rattle.gt_policy.specs.declared.statements.Permissions.TheVariants.{Every, Named}
use Rattle.gt_policy.specs.Grammar.{Lexemes, LexerState, at, before, excluded, attributes, set_in_braces, set_of}
use Rattle.gt_policy.specs.Grammar.{classes_in_braces, classes_of, is_refused_word, perms_in_braces, as_named, perms_of}
use Rattle.gt_policy.specs.Spelling.{SpellsNames, no_more, one_more, a_name, SpellsItems, items_end, with, without}
use Rattle.gt_policy.specs.Spelling.{itself, SpellsSet, one_name, one_self, set_in, SpellsWords, words_end, a_word}
use Rattle.gt_policy.specs.Spelling.{SpellsList, one_word, list_in, SpellsPerms, every, names}
use Rattle.std.proofs.lemmas.Bool.{or_from, or_parts}

abbrev pub ok_of : {A : Type 0} → A → Result A TokenFault
ok_of a = Ok a

pub ok_part : {A : Type 0} (a b : A) → ok_of a ≡ ok_of b → a ≡ b
ok_part a b e = cc

abbrev done : {X : Type 0} → X → Lexemes → LexerState X
done x ls = Ok (x, ls)

-- what was read, moved along an equation
moved : {X : Type 0} (P : X → Lexemes → Type 0) (a b : X) (ls rest : Lexemes) → done a ls ≡ done b rest → P a ls → P b rest
moved {X} P a b ls rest e h = subst (λ (r : X × Lexemes). P r.0 r.1) (ok_part (a, ls) (b, rest) e) h

before_ok : {X : Type 0} (x : X) (r : LexerState (List X)) (ys : List X) (rest : Lexemes) → before x r ≡ Ok (ys, rest) → (zs : List X) × (ys ≡ x ∷ zs) × (r ≡ Ok (zs, rest))
before_ok x (Ok r) ys rest e =
    let same = ok_part (x ∷ r.0, r.1) (ys, rest) e in
    (r.0, sym (ap (λ q. q.0) same), ap (λ ls. Ok (r.0, ls)) (ap (λ q. q.1) same))
before_ok x (Err f) ys rest e = absurd (cc)

-- lists of attributes
pub names_read : (t must : Bool) (ls : Lexemes) (ms : List Mention) (rest : Lexemes) → attributes t must ls ≡ Ok (ms, rest) → SpellsNames t must ms ls rest
names_read t must [] ms rest e = absurd (cc)
names_read t false ((Comma, n) ∷ ls) ms rest e = one_more n ms ls rest (names_read t true ls ms rest e)
names_read t false ((Semicolon, n) ∷ ls) ms rest e = moved (λ xs more. SpellsNames t false xs ((Semicolon, n) ∷ ls) more) [] ms ls rest e (no_more n ls)
names_read t false ((token, n) ∷ ls) ms rest e = absurd (cc)
names_read t true ((Name w, n) ∷ ls) ms rest e = go (excluded t w) refl e (names_read t false ls)
  where
    go : (v : Bool) → excluded t w ≡ v → (if v then Err (at n (Outside w)) else before (record { name = w; line = n }) (attributes t false ls)) ≡ Ok (ms, rest)
        → ((zs : List Mention) (more : Lexemes) → attributes t false ls ≡ Ok (zs, more) → SpellsNames t false zs ls more) → SpellsNames t true ms ((Name w, n) ∷ ls) rest
    go true x h ih = absurd (cc)
    go false x h ih =
        let m : Mention = record { name = w; line = n } in
        let r = before_ok m (attributes t false ls) ms rest h in
        subst (λ (xs : List Mention). SpellsNames t true xs ((Name w, n) ∷ ls) rest) (sym r.1) (a_name m r.0 ls rest x (ih r.0 rest r.2))
names_read t true ((token, n) ∷ ls) ms rest e = absurd (cc)

pub names_spelled : (t must : Bool) (ms : List Mention) (ls rest : Lexemes) → SpellsNames t must ms ls rest → attributes t must ls ≡ Ok (ms, rest)
names_spelled t must ms ls rest (no_more n _) = refl
names_spelled t must ms ls rest (one_more n _ more _ h) = names_spelled t true ms more rest h
names_spelled t must ms ls rest (a_name m others more _ x h) = rw x (ap (λ r. before m r) (names_spelled t false others more rest h))

pub names_shorter : (t must : Bool) (ms : List Mention) (ls rest : Lexemes) → SpellsNames t must ms ls rest → length rest < length ls
names_shorter t must ms ls rest (no_more n _) = omega arith
names_shorter t must ms ls rest (one_more n _ more _ h) = let less = names_shorter t true ms more rest h in omega arith
names_shorter t must ms ls rest (a_name m others more _ x h) = let less = names_shorter t false others more rest h in omega arith

-- sets
pub items_read : (target some : Bool) (ls : Lexemes) (items : List SetElement) (rest : Lexemes) → set_in_braces target some ls ≡ Ok (items, rest) → SpellsItems target items ls rest
items_read target some [] items rest e = absurd (cc)
items_read target some ((Close, n) ∷ ls) items rest e = go some e
  where
    go : (v : Bool) → (if v then done {X = List SetElement} [] ls else Err (at n Syntax)) ≡ Ok (items, rest) → SpellsItems target items ((Close, n) ∷ ls) rest
    go true h = moved (λ xs more. SpellsItems target xs ((Close, n) ∷ ls) more) [] items ls rest h (items_end n ls)
    go false h = absurd (cc)
items_read target some ((Name w, n) ∷ ls) items rest e =
    let m : Mention = record { name = w; line = n } in
    let r = before_ok (With m) (set_in_braces target true ls) items rest e in
    subst (λ (xs : List SetElement). SpellsItems target xs ((Name w, n) ∷ ls) rest) (sym r.1) (with m r.0 ls rest (items_read target true ls r.0 rest r.2))
items_read target some ((Minus, n) ∷ (Name w, k) ∷ ls) items rest e =
    let m : Mention = record { name = w; line = k } in
    let r = before_ok (Without m) (set_in_braces target true ls) items rest e in
    subst (λ (xs : List SetElement). SpellsItems target xs ((Minus, n) ∷ (Name w, k) ∷ ls) rest) (sym r.1) (without n m r.0 ls rest (items_read target true ls r.0 rest r.2))
items_read target some ((Minus, n) ∷ (token, k) ∷ ls) items rest e = absurd (cc)
items_read target some ((Minus, n) ∷ []) items rest e = absurd (cc)
items_read target some ((SelfWord, n) ∷ ls) items rest e = go target refl e (items_read target true ls)
  where
    go : (v : Bool) → target ≡ v → (if v then before Itself (set_in_braces target true ls) else Err (at n Syntax)) ≡ Ok (items, rest)
        → ((zs : List SetElement) (more : Lexemes) → set_in_braces target true ls ≡ Ok (zs, more) → SpellsItems target zs ls more) → SpellsItems target items ((SelfWord, n) ∷ ls) rest
    go true x h ih =
        let r = before_ok Itself (set_in_braces target true ls) items rest h in
        subst (λ (xs : List SetElement). SpellsItems target xs ((SelfWord, n) ∷ ls) rest) (sym r.1) (itself n r.0 ls rest x (ih r.0 rest r.2))
    go false x h ih = absurd (cc)
items_read target some ((token, n) ∷ ls) items rest e = absurd (cc)

-- where some items came before
pub items_spelled : (target : Bool) (items : List SetElement) (ls rest : Lexemes) → SpellsItems target items ls rest → set_in_braces target true ls ≡ Ok (items, rest)
items_spelled target items ls rest (items_end n _) = refl
items_spelled target items ls rest (with m others more _ h) = ap (λ r. before (With m) r) (items_spelled target others more rest h)
items_spelled target items ls rest (without n m others more _ h) = ap (λ r. before (Without m) r) (items_spelled target others more rest h)
items_spelled target items ls rest (itself n others more _ x h) = ap (λ (v : Bool). let r : LexerState (List SetElement) = (if v then before Itself (set_in_braces target true more) else Err (at n Syntax)) in r) x ∙ ap (λ r. before Itself r) (items_spelled target others more rest h)

pub items_shorter : (target : Bool) (items : List SetElement) (ls rest : Lexemes) → SpellsItems target items ls rest → length rest < length ls
items_shorter target items ls rest (items_end n _) = omega arith
items_shorter target items ls rest (with m others more _ h) = let less = items_shorter target others more rest h in omega arith
items_shorter target items ls rest (without n m others more _ h) = let less = items_shorter target others more rest h in omega arith
items_shorter target items ls rest (itself n others more _ x h) = let less = items_shorter target others more rest h in omega arith

braces_read : (target : Bool) (n : ℕ) (ls : Lexemes) (items : List SetElement) (rest : Lexemes) → set_in_braces target false ls ≡ Ok (items, rest) → SpellsItems target items ls rest → SpellsSet target items ((Open, n) ∷ ls) rest
braces_read target n ls [] rest e (items_end k _) = absurd (cc)
braces_read target n ls (i ∷ items) rest e h = set_in n i items ls rest h

pub set_read : (target : Bool) (ls : Lexemes) (items : List SetElement) (rest : Lexemes) → set_of target ls ≡ Ok (items, rest) → SpellsSet target items ls rest
unfolding set_of
set_read target [] items rest e = absurd (cc)
set_read target ((Open, n) ∷ ls) items rest e = braces_read target n ls items rest e (items_read target false ls items rest e)
set_read target ((Name w, n) ∷ ls) items rest e =
    let m : Mention = record { name = w; line = n } in
    moved (λ xs more. SpellsSet target xs ((Name w, n) ∷ ls) more) (With m ∷ []) items ls rest e (one_name m ls)
set_read target ((SelfWord, n) ∷ ls) items rest e = go target refl e
  where
    go : (v : Bool) → target ≡ v → (if v then done (Itself ∷ []) ls else Err (at n Syntax)) ≡ Ok (items, rest) → SpellsSet target items ((SelfWord, n) ∷ ls) rest
    go true x h = moved (λ xs more. SpellsSet target xs ((SelfWord, n) ∷ ls) more) (Itself ∷ []) items ls rest h (one_self n ls x)
    go false x h = absurd (cc)
set_read target ((token, n) ∷ ls) items rest e = absurd (cc)

first_item : (target : Bool) (i : SetElement) (items : List SetElement) (ls rest : Lexemes) → SpellsItems target (i ∷ items) ls rest → set_in_braces target false ls ≡ Ok (i ∷ items, rest)
first_item target i items ls rest (with m others more _ h) = ap (λ r. before (With m) r) (items_spelled target others more rest h)
first_item target i items ls rest (without n m others more _ h) = ap (λ r. before (Without m) r) (items_spelled target others more rest h)
first_item target i items ls rest (itself n others more _ x h) = ap (λ (v : Bool). let r : LexerState (List SetElement) = (if v then before Itself (set_in_braces target true more) else Err (at n Syntax)) in r) x ∙ ap (λ r. before Itself r) (items_spelled target others more rest h)

pub set_spelled : (target : Bool) (items : List SetElement) (ls rest : Lexemes) → SpellsSet target items ls rest → set_of target ls ≡ Ok (items, rest)
unfolding set_of
set_spelled target items ls rest (one_name m _) = refl
set_spelled target items ls rest (one_self n _ x) = rw x refl
set_spelled target items ls rest (set_in n i others more _ h) = first_item target i others more rest h

pub set_shorter : (target : Bool) (items : List SetElement) (ls rest : Lexemes) → SpellsSet target items ls rest → length rest < length ls
set_shorter target items ls rest (one_name m _) = omega arith
set_shorter target items ls rest (one_self n _ x) = omega arith
set_shorter target items ls rest (set_in n i others more _ h) = let less = items_shorter target (i ∷ others) more rest h in omega arith

-- classes
classes_in_read : (some : Bool) (ls : Lexemes) (ws : List (List ℕ)) (rest : Lexemes) → classes_in_braces some ls ≡ Ok (ws, rest) → SpellsWords ws ls rest
classes_in_read some [] ws rest e = absurd (cc)
classes_in_read some ((Name w, n) ∷ ls) ws rest e =
    let r = before_ok w (classes_in_braces true ls) ws rest e in
    subst (λ (xs : List (List ℕ)). SpellsWords xs ((Name w, n) ∷ ls) rest) (sym r.1) (a_word w n r.0 ls rest (classes_in_read true ls r.0 rest r.2))
classes_in_read some ((Close, n) ∷ ls) ws rest e = go some e
  where
    go : (v : Bool) → (if v then done {X = List (List ℕ)} [] ls else Err (at n Syntax)) ≡ Ok (ws, rest) → SpellsWords ws ((Close, n) ∷ ls) rest
    go true h = moved (λ xs more. SpellsWords xs ((Close, n) ∷ ls) more) [] ws ls rest h (words_end n ls)
    go false h = absurd (cc)
classes_in_read some ((token, n) ∷ ls) ws rest e = absurd (cc)

classes_in_spelled : (ws : List (List ℕ)) (ls rest : Lexemes) → SpellsWords ws ls rest → classes_in_braces true ls ≡ Ok (ws, rest)
classes_in_spelled ws ls rest (words_end n _) = refl
classes_in_spelled ws ls rest (a_word w n others more _ h) = ap (λ r. before w r) (classes_in_spelled others more rest h)

words_shorter : (ws : List (List ℕ)) (ls rest : Lexemes) → SpellsWords ws ls rest → length rest < length ls
words_shorter ws ls rest (words_end n _) = omega arith
words_shorter ws ls rest (a_word w n others more _ h) = let less = words_shorter others more rest h in omega arith

class_braces_read : (n : ℕ) (ls : Lexemes) (ws : List (List ℕ)) (rest : Lexemes) → classes_in_braces false ls ≡ Ok (ws, rest) → SpellsWords ws ls rest → SpellsList ws ((Open, n) ∷ ls) rest
class_braces_read n ls [] rest e (words_end k _) = absurd (cc)
class_braces_read n ls (w ∷ ws) rest e h = list_in n w ws ls rest h

pub classes_read : (ls : Lexemes) (ws : List (List ℕ)) (rest : Lexemes) → classes_of ls ≡ Ok (ws, rest) → SpellsList ws ls rest
unfolding classes_of
classes_read [] ws rest e = absurd (cc)
classes_read ((Open, n) ∷ ls) ws rest e = class_braces_read n ls ws rest e (classes_in_read false ls ws rest e)
classes_read ((Name w, n) ∷ ls) ws rest e = moved (λ xs more. SpellsList xs ((Name w, n) ∷ ls) more) (w ∷ []) ws ls rest e (one_word w n ls)
classes_read ((token, n) ∷ ls) ws rest e = absurd (cc)

first_class : (w : List ℕ) (ws : List (List ℕ)) (ls rest : Lexemes) → SpellsWords (w ∷ ws) ls rest → classes_in_braces false ls ≡ Ok (w ∷ ws, rest)
first_class w ws ls rest (a_word _ n _ more _ h) = ap (λ r. before w r) (classes_in_spelled ws more rest h)

pub classes_spelled : (ws : List (List ℕ)) (ls rest : Lexemes) → SpellsList ws ls rest → classes_of ls ≡ Ok (ws, rest)
unfolding classes_of
classes_spelled ws ls rest (one_word w n _) = refl
classes_spelled ws ls rest (list_in n w others more _ h) = first_class w others more rest h

pub list_shorter : (ws : List (List ℕ)) (ls rest : Lexemes) → SpellsList ws ls rest → length rest < length ls
list_shorter ws ls rest (one_word w n _) = omega arith
list_shorter ws ls rest (list_in n w others more _ h) = let less = words_shorter (w ∷ others) more rest h in omega arith

-- permissions
perms_in_read : (alone some : Bool) (ls : Lexemes) (ws : List (List ℕ)) (rest : Lexemes) → perms_in_braces alone some ls ≡ Ok (ws, rest) → SpellsWords ws ls rest × (list_any (λ w. is_refused_word alone w) ws ≡ false)
perms_in_read alone some [] ws rest e = absurd (cc)
perms_in_read alone some ((Name w, n) ∷ ls) ws rest e = go (is_refused_word alone w) refl e (perms_in_read alone true ls)
  where
    go : (v : Bool) → is_refused_word alone w ≡ v → (if v then Err (at n (Permission w)) else before w (perms_in_braces alone true ls)) ≡ Ok (ws, rest)
        → ((zs : List (List ℕ)) (more : Lexemes) → perms_in_braces alone true ls ≡ Ok (zs, more) → SpellsWords zs ls more × (list_any (λ w. is_refused_word alone w) zs ≡ false))
        → SpellsWords ws ((Name w, n) ∷ ls) rest × (list_any (λ w. is_refused_word alone w) ws ≡ false)
    go true x h ih = absurd (cc)
    go false x h ih =
        let r = before_ok w (perms_in_braces alone true ls) ws rest h in
        let others = ih r.0 rest r.2 in
        subst (λ (xs : List (List ℕ)). SpellsWords xs ((Name w, n) ∷ ls) rest × (list_any (λ w. is_refused_word alone w) xs ≡ false)) (sym r.1)
        (a_word w n r.0 ls rest others.0, or_from (is_refused_word alone w) (list_any (λ w. is_refused_word alone w) r.0) x others.1)
perms_in_read alone some ((Close, n) ∷ ls) ws rest e = go some e
  where
    go : (v : Bool) → (if v then done {X = List (List ℕ)} [] ls else Err (at n Syntax)) ≡ Ok (ws, rest) → SpellsWords ws ((Close, n) ∷ ls) rest × (list_any (λ w. is_refused_word alone w) ws ≡ false)
    go true h = moved (λ xs more. SpellsWords xs ((Close, n) ∷ ls) more × (list_any (λ w. is_refused_word alone w) xs ≡ false)) [] ws ls rest h (words_end n ls, refl)
    go false h = absurd (cc)
perms_in_read alone some ((token, n) ∷ ls) ws rest e = absurd (cc)

perms_in_spelled : (alone : Bool) (ws : List (List ℕ)) (ls rest : Lexemes) → SpellsWords ws ls rest → list_any (λ w. is_refused_word alone w) ws ≡ false → perms_in_braces alone true ls ≡ Ok (ws, rest)
perms_in_spelled alone ws ls rest (words_end n _) fit = refl
perms_in_spelled alone ws ls rest (a_word w n others more _ h) fit =
    rw ((or_parts (is_refused_word alone w) (list_any (λ w. is_refused_word alone w) others) fit).0)
    (ap (λ r. before w r) (perms_in_spelled alone others more rest h (or_parts (is_refused_word alone w) (list_any (λ w. is_refused_word alone w) others) fit).1))

first_perm : (alone : Bool) (w : List ℕ) (ws : List (List ℕ)) (ls rest : Lexemes) → SpellsWords (w ∷ ws) ls rest → list_any (λ w. is_refused_word alone w) (w ∷ ws) ≡ false → perms_in_braces alone false ls ≡ Ok (w ∷ ws, rest)
first_perm alone w ws ls rest (a_word _ n _ more _ h) fit =
    rw ((or_parts (is_refused_word alone w) (list_any (λ w. is_refused_word alone w) ws) fit).0)
    (ap (λ r. before w r) (perms_in_spelled alone ws more rest h (or_parts (is_refused_word alone w) (list_any (λ w. is_refused_word alone w) ws) fit).1))

perm_braces_read : (alone : Bool) (n : ℕ) (ls : Lexemes) (ws : List (List ℕ)) (rest : Lexemes) → perms_in_braces alone false ls ≡ Ok (ws, rest) → SpellsWords ws ls rest → SpellsList ws ((Open, n) ∷ ls) rest
perm_braces_read alone n ls [] rest e (words_end k _) = absurd (cc)
perm_braces_read alone n ls (w ∷ ws) rest e h = list_in n w ws ls rest h

as_named_ok : (r : LexerState (List (List ℕ))) (p : Permissions) (rest : Lexemes) → as_named r ≡ Ok (p, rest) → (ws : List (List ℕ)) × (p ≡ Named ws) × (r ≡ Ok (ws, rest))
as_named_ok (Ok r) p rest e =
    let named : Permissions = Named r.0 in
    let same = ok_part (named, r.1) (p, rest) e in
    (r.0, sym (ap (λ q. q.0) same), ap (λ ls. Ok (r.0, ls)) (ap (λ q. q.1) same))
as_named_ok (Err f) p rest e = absurd (cc)

pub perms_read : (alone : Bool) (ls : Lexemes) (p : Permissions) (rest : Lexemes) → perms_of alone ls ≡ Ok (p, rest) → SpellsPerms alone p ls rest
unfolding perms_of
perms_read alone [] p rest e = absurd (cc)
perms_read alone ((Star, n) ∷ ls) p rest e = moved (λ q more. SpellsPerms alone q ((Star, n) ∷ ls) more) Every p ls rest e (every n ls)
perms_read alone ((Open, n) ∷ ls) p rest e =
    let r = as_named_ok (perms_in_braces alone false ls) p rest e in
    let found = perms_in_read alone false ls r.0 rest r.2 in
    subst (λ (q : Permissions). SpellsPerms alone q ((Open, n) ∷ ls) rest) (sym r.1) (names r.0 ((Open, n) ∷ ls) rest found.1 (perm_braces_read alone n ls r.0 rest r.2 found.0))
perms_read alone ((Name w, n) ∷ ls) p rest e = go (is_refused_word alone w) refl e
  where
    go : (v : Bool) → is_refused_word alone w ≡ v → (if v then Err (at n (Permission w)) else done (Named (w ∷ [])) ls) ≡ Ok (p, rest) → SpellsPerms alone p ((Name w, n) ∷ ls) rest
    go true x h = absurd (cc)
    go false x h =
        moved (λ q more. SpellsPerms alone q ((Name w, n) ∷ ls) more) (Named (w ∷ [])) p ls rest h (names (w ∷ []) ((Name w, n) ∷ ls) ls (or_from (is_refused_word alone w) false x refl) (one_word w n ls))
perms_read alone ((token, n) ∷ ls) p rest e = absurd (cc)

named_spelled : (alone : Bool) (ws : List (List ℕ)) (ls rest : Lexemes) → SpellsList ws ls rest → list_any (λ w. is_refused_word alone w) ws ≡ false → perms_of alone ls ≡ Ok (Named ws, rest)
unfolding perms_of
named_spelled alone ws ls rest (one_word w n _) fit = rw ((or_parts (is_refused_word alone w) false fit).0) refl
named_spelled alone ws ls rest (list_in n w others more _ h) fit = ap (λ r. as_named r) (first_perm alone w others more rest h fit)

pub perms_spelled : (alone : Bool) (p : Permissions) (ls rest : Lexemes) → SpellsPerms alone p ls rest → perms_of alone ls ≡ Ok (p, rest)
unfolding perms_of
perms_spelled alone p ls rest (every n _) = refl
perms_spelled alone p ls rest (names ws _ _ fit h) = named_spelled alone ws ls rest h fit

pub perms_shorter : (alone : Bool) (p : Permissions) (ls rest : Lexemes) → SpellsPerms alone p ls rest → length rest < length ls
perms_shorter alone p ls rest (every n _) = omega arith
perms_shorter alone p ls rest (names ws _ _ fit h) = list_shorter ws ls rest h
