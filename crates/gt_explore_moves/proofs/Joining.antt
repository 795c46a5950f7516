-- A state with the same parts is the same.
use Rattle.std.proofs.Common.{◌≡◌, ◌≤◌, ℕ, zero, suc, refl, List, [], ◌∷◌, ◌++◌, map, ap, sym, ◌∙◌, subst}
use Rattle.std.proofs.Common.{arith, append_assoc, length, slice_get, None}
use Rattle.std.proofs.lemmas.List.{append-nil}
use Rattle.std.proofs.lemmas.Option.{none-some}
use Rattle.gt_explore_search.specs.Parts.{Pairwise}
use Rattle.gt_explore_state.specs.Copies.{SamePages, SameTables}
use Rattle.gt_explore_state.specs.declared.pages.SparsePage.{SparsePage}
use Rattle.gt_explore_state.specs.declared.table.SparseTable.{SparseTable}
use Rattle.gt_explore_state.proofs.Copying.{pages-more, tables-more}
use Rattle.gt_explore_moves.specs.Copies.{SameActors, SameWorld}
use Rattle.gt_explore_moves.specs.Parts.{PartLists, SamePart, lists_in, no_parts, parts_of, with_part, with_parts}
use Rattle.gt_explore_moves.specs.declared.actor.Actor.{Actor}
use Rattle.gt_explore_moves.specs.declared.parts.StatePart.{StatePart}
use Rattle.gt_explore_moves.specs.declared.parts.StatePart.TheVariants.{Domain, Flags, Page, Table}
use Rattle.gt_explore_moves.specs.declared.scene.SearchState.{SearchState}
use Rattle.gt_explore_moves.proofs.Copying.{actors-more}

-- lists of parts

with-both : (l : PartLists) (xs ys : List StatePart) → with_parts l (xs ++ ys) ≡ with_parts (with_parts l xs) ys
with-both l [] ys = refl
with-both l (x ∷ xs) ys = with-both (with_part l x) xs ys

-- a loop's step
pub with-more : (l old new : PartLists) (xs ys : List StatePart) (p : StatePart) → old ≡ with_parts l xs → new ≡ with_part old p → ys ≡ xs ++ p ∷ [] → new ≡ with_parts l ys
with-more l old new xs ys p was is more = is ∙ ap (λ (m : PartLists). with_part m p) was ∙ sym (with-both l xs (p ∷ [])) ∙ ap (with_parts l) (sym more)

with-domains : (l : PartLists) (xs : List Actor) → with_parts l (map Domain xs) ≡ record l { actors = l.actors ++ xs }
with-domains l [] = ap (λ (f : List Actor). record l { actors = f }) (sym (append-nil l.actors))
with-domains l (x ∷ xs) = with-domains (with_part l (Domain x)) xs ∙ ap (λ (f : List Actor). record l { actors = f }) (append_assoc l.actors (x ∷ []) xs)

with-tables : (l : PartLists) (xs : List SparseTable) → with_parts l (map Table xs) ≡ record l { tables = l.tables ++ xs }
with-tables l [] = ap (λ (f : List SparseTable). record l { tables = f }) (sym (append-nil l.tables))
with-tables l (x ∷ xs) = with-tables (with_part l (Table x)) xs ∙ ap (λ (f : List SparseTable). record l { tables = f }) (append_assoc l.tables (x ∷ []) xs)

with-pages : (l : PartLists) (xs : List SparsePage) → with_parts l (map Page xs) ≡ record l { pages = l.pages ++ xs }
with-pages l [] = ap (λ (f : List SparsePage). record l { pages = f }) (sym (append-nil l.pages))
with-pages l (x ∷ xs) = with-pages (with_part l (Page x)) xs ∙ ap (λ (f : List SparsePage). record l { pages = f }) (append_assoc l.pages (x ∷ []) xs)

-- the parts of a state are its own
whole-parts : (w : SearchState) → lists_in w ≡ with_parts no_parts (parts_of w)
whole-parts w = sym d
  where
    flags : PartLists
    flags = record no_parts { flags = w.told.items }

    actors : List StatePart
    actors = map Domain w.actors.items

    tables : List StatePart
    tables = map Table w.ground.tables.items

    pages : List StatePart
    pages = map Page w.ground.pages.items

    b : with_parts flags actors ≡ record flags { actors = w.actors.items }
    b = with-domains flags w.actors.items

    c : with_parts (record flags { actors = w.actors.items }) tables ≡ record flags { actors = w.actors.items; tables = w.ground.tables.items }
    c = with-tables (record flags { actors = w.actors.items }) w.ground.tables.items

    d : with_parts flags (actors ++ (tables ++ pages)) ≡ lists_in w
    d = with-both flags actors (tables ++ pages) ∙ ap (λ (l : PartLists). with_parts l (tables ++ pages)) b
        ∙ with-both (record flags { actors = w.actors.items }) tables pages ∙ ap (λ (l : PartLists). with_parts l pages) c
        ∙ with-pages (record flags { actors = w.actors.items; tables = w.ground.tables.items }) w.ground.pages.items

-- an index past the end
pub past-none : {X : Type 0} (xs : List X) (at : ℕ) → slice_get xs at ≡ None → length xs ≤ at
past-none [] at is = omega arith
past-none (x ∷ xs) zero is = absurd (none-some x (sym is))
past-none (x ∷ xs) (suc at) is = let rest = past-none xs at is in omega (arith, rest)

-- states with the same parts

record SameLists (l m : PartLists) : Type 0 where
  pub flags : m.flags ≡ l.flags
  pub actors : SameActors l.actors m.actors
  pub tables : SameTables l.tables m.tables
  pub pages : SamePages l.pages m.pages

same-with : (p q : StatePart) (l m : PartLists) → SamePart p q → SameLists l m → SameLists (with_part l p) (with_part m q)
same-with (Flags told) (Flags t) l m is same = record {
  flags = is;
  actors = same.actors;
  tables = same.tables;
  pages = same.pages;
}
same-with (Domain a) (Domain b) l m is same = record {
  flags = same.flags;
  actors = actors-more l.actors m.actors a b same.actors is;
  tables = same.tables;
  pages = same.pages;
}
same-with (Table t) (Table u) l m is same = record {
  flags = same.flags;
  actors = same.actors;
  tables = tables-more l.tables m.tables t u same.tables is;
  pages = same.pages;
}
same-with (Page p) (Page q) l m is same = record {
  flags = same.flags;
  actors = same.actors;
  tables = same.tables;
  pages = pages-more l.pages m.pages p q same.pages is;
}
same-with p q l m is same = absurd is

same-lists : (ps qs : List StatePart) (l m : PartLists) → Pairwise SamePart ps qs → SameLists l m → SameLists (with_parts l ps) (with_parts m qs)
same-lists [] [] l m each same = same
same-lists (p ∷ ps) (q ∷ qs) l m each same = same-lists ps qs (with_part l p) (with_part m q) each.1 (same-with p q l m each.0 same)
same-lists [] (q ∷ qs) l m each same = absurd each
same-lists (p ∷ ps) [] l m each same = absurd each

joined-same : (w v : SearchState) (ps qs : List StatePart) → lists_in w ≡ with_parts no_parts ps → lists_in v ≡ with_parts no_parts qs → Pairwise SamePart ps qs → SameWorld w v
joined-same w v ps qs has made each = record { actors = same.actors; tables = same.tables; pages = same.pages; told = same.flags }
  where
    none : SameLists no_parts no_parts
    none = record { flags = refl; actors = tt; tables = tt; pages = tt }

    same : SameLists (lists_in w) (lists_in v)
    same = subst (λ (m : PartLists). SameLists (lists_in w) m) (sym made) (subst (λ (l : PartLists). SameLists l (with_parts no_parts qs)) (sym has) (same-lists ps qs no_parts no_parts each none))

pub parts-same : (w v : SearchState) → Pairwise SamePart (parts_of w) (parts_of v) → SameWorld w v
parts-same w v each = joined-same w v (parts_of w) (parts_of v) (whole-parts w) (whole-parts v) each

pub made-same : (w v : SearchState) (made : List StatePart) → lists_in v ≡ with_parts no_parts made → Pairwise SamePart (parts_of w) made → SameWorld w v
made-same w v made is each = joined-same w v (parts_of w) made (whole-parts w) is each
