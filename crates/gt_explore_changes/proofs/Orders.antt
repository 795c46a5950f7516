-- Each order of a script in few blocks is a run of its space.
use Rattle.std.proofs.Common.{◌≡◌, ◌≤◌, ℕ, suc, Bool, true, false, refl, List, [], ◌∷◌, ◌++◌, Option, Some, None, sym, ap, ◌∙◌}
use Rattle.std.proofs.Common.{subst, append_assoc, append-nil, arith, length, zero, ◌+◌, ◌||◌}
use Rattle.std.specs.List.{flat_map, list_any, range_with_len}
use Rattle.std.specs.Prelude.{nat_le, slice_get, slice_set, if◌then◌else◌}
use Rattle.std.specs.Str.{bytes_eq}
use Rattle.std.proofs.lemmas.Bool.{false≢true, leb-false, leb-true}
use Rattle.std.proofs.lemmas.List.{length-map}
use Rattle.std.proofs.lemmas.Option.{none-some, same_Some}
use Rattle.gt_types.specs.declared.config.DomainConfig.{DomainConfig}
use Rattle.gt_explore_changes.specs.Fewest.{HasAtLeast}
use Rattle.gt_explore_search.specs.Exploring.{AllTextsFound}
use Rattle.gt_explore_search.specs.declared.exploring.FoundText.{FoundText}
use Rattle.gt_explore_search.specs.declared.exploring.SearchResult.{SearchResult}
use Rattle.gt_explore_changes.specs.Blocks.{blocks_after, blocks_in, blocks_with, is_last, order_blocks}
use Rattle.gt_explore_changes.proofs.Doers.{turns-no-more}
use Rattle.gt_explore_changes.specs.Ways.{BlockPoint, block_ways}
use Rattle.gt_explore_moves.proofs.Ways.{may-follow}
use Rattle.gt_explore_moves.specs.Scenes.{IsSceneOf}
use Rattle.gt_explore_moves.specs.Spaces.{Point, printed_by}
use Rattle.gt_explore_moves.specs.declared.scene.SearchContext.{SearchContext}
use Rattle.gt_explore_replay.specs.Courses.{AllCoursesEnd, Course, IsTurnedBy, TurnsLead, courses_text, first_courses}
use Rattle.gt_explore_replay.specs.Orders.{Happening, IsOrderOf}
use Rattle.gt_explore_replay.specs.Walking.{HaveOwnIds}
use Rattle.gt_explore_search.specs.Ways.{GoesTo, text_at}
use Rattle.gt_explore_search.specs.declared.spaces.Turn.{Turn}
use Rattle.gt_script.proofs.TypeLemmas.{same_bytes}
use Rattle.gt_script.specs.Contents.{type_names}
use Rattle.gt_script.specs.RunContents.{RunContents}

-- turns only add blocks
with-more : (last : Option ℕ) (n place : ℕ) → n ≤ blocks_with last n place
with-more last n place = by (is_last last place) refl
  where
    by : (b : Bool) → is_last last place ≡ b → n ≤ blocks_with last n place
    by true e = subst (λ (b : Bool). n ≤ (if b then n else suc n)) (sym e) (omega arith)
    by false e = subst (λ (b : Bool). n ≤ (if b then n else suc n)) (sym e) (omega arith)

at-least : (last : Option ℕ) (n : ℕ) (ts : List Turn) → n ≤ blocks_after last n ts
at-least last n [] = omega arith
at-least last n (t ∷ ts) =
    let one = with-more last n t.place in
    let rest = at-least (Some t.place) (blocks_with last n t.place) ts in
    omega (arith, one, rest)

abbrev point : RunContents → List Happening → List Course → Option ℕ → ℕ → BlockPoint
point c hs ks last n = record { run = record { script = c; happened = hs; courses = ks }; last = last; blocks = n }

module _ (scene : SearchContext) (most : ℕ) (c : RunContents) (text : List ℕ) (whole : List Happening) (order : IsOrderOf c whole text) where
  goes : (before left : List Happening) (ks : List Course) (last : Option ℕ) (n : ℕ) (turns : List Turn) (ends : List Course) → whole ≡ before ++ left → TurnsLead (type_names c.head) ks left turns ends → AllCoursesEnd ends
      → blocks_after last n turns ≤ most → (q : BlockPoint) × GoesTo (block_ways scene most) (point c before ks last n) turns q × (q.run ≡ record { script = c; happened = whole; courses = ends })
  goes before [] ks last n [] ends parts leads over few = (
    point c before ks last n,
    (refl, subst AllCoursesEnd (sym leads) over),
    ap (λ (hs : List Happening). record { script = c; happened = hs; courses = ks }) (sym (parts ∙ append-nil before)) ∙ ap (λ (l : List Course). record { script = c; happened = whole; courses = l }) leads,
  )
  goes before (x ∷ more) ks last n (t ∷ ts) ends parts (k, j, there, leads, rest) over few =
      let (q, on, is) = goes (before ++ x ∷ []) more (slice_set ks t.place j) (Some t.place) (blocks_with last n t.place) ts ends (parts ∙ sym (append_assoc before (x ∷ []) more)) rest over few in
      let least = at-least (Some t.place) (blocks_with last n t.place) ts in (
        q,
        (
          point c (before ++ x ∷ []) (slice_set ks t.place j) (Some t.place) (blocks_with last n t.place),
          record {
            run = record {
              script = refl;
              k = k;
              j = j;
              x = x;
              there = there;
              leads = leads;
              next = may-follow c before x more text (subst (λ (hs : List Happening). IsOrderOf c hs text) parts order);
              happened = refl;
              courses = refl;
            };
            last = refl;
            blocks = refl;
            few = omega (arith, least, few);
          },
          on,
        ),
        is,
      )
  goes before [] ks last n (t ∷ ts) ends parts leads over few = absurd leads
  goes before (x ∷ more) ks last n [] ends parts leads over few = absurd leads

-- its text

shifted : (f g : ℕ → List ℕ) (base n : ℕ) → ((i : ℕ) → f (suc i) ≡ g i) → flat_map f (range_with_len (suc base) n) ≡ flat_map g (range_with_len base n)
shifted f g base zero same = refl
shifted f g base (suc n) same = ap (λ (l : List ℕ). l ++ flat_map f (range_with_len (suc base + 1) n)) (same base)
    ∙ ap (λ (l : List ℕ). g base ++ l) (ap (λ (m : ℕ). flat_map f (range_with_len m n)) (let e : suc base + 1 ≡ suc (base + 1) = omega arith in e) ∙ shifted f g (base + 1) n same)

text-of : (ks : List Course) → flat_map (printed_by ks) (range_with_len 0 (length ks)) ≡ courses_text ks
text-of [] = refl
text-of (k ∷ ks) = ap (λ (l : List ℕ). k.text ++ l) (shifted (printed_by (k ∷ ks)) (printed_by ks) 0 (length ks) (λ i. refl) ∙ text-of ks)

set-length : (ks : List Course) (at : ℕ) (j : Course) → length (slice_set ks at j) ≡ length ks
set-length [] at j = refl
set-length (k ∷ ks) zero j = refl
set-length (k ∷ ks) (suc at) j = ap suc (set-length ks at j)

kept-length : (types : List (List ℕ)) (ks : List Course) (hs : List Happening) (ts : List Turn) (ls : List Course) → TurnsLead types ks hs ts ls → length ls ≡ length ks
kept-length types ks [] [] ls leads = ap (λ (l : List Course). length l) (sym leads)
kept-length types ks (x ∷ hs) (t ∷ ts) ls (k, j, there, leads, rest) = kept-length types (slice_set ks t.place j) hs ts ls rest ∙ set-length ks t.place j
kept-length types ks [] (t ∷ ts) ls leads = absurd leads
kept-length types ks (x ∷ hs) [] ls leads = absurd leads

-- a text among these
among : (orders : List FoundText) (text : List ℕ) (at : ℕ) (o : FoundText) → slice_get orders at ≡ Some o → o.text.items ≡ text → list_any (λ o. bytes_eq o.text.items text) orders ≡ false → ⊥
among [] text at o there is none = absurd (none-some o there)
among (p ∷ orders) text zero o there is none =
    let same : bytes_eq p.text.items text ≡ true = subst (λ (q : FoundText). bytes_eq q.text.items text ≡ true) (sym (same_Some p o there)) (subst (λ (t : List ℕ). bytes_eq o.text.items t ≡ true) is (same_bytes o.text.items)) in
    false≢true (sym none ∙ ap (λ (b : Bool). b || list_any (λ o. bytes_eq o.text.items text) orders) same)
among (p ∷ orders) text (suc at) o there is none = among orders text at o there is (later (bytes_eq p.text.items text) none)
  where
    later : (b : Bool) → (b || list_any (λ o. bytes_eq o.text.items text) orders) ≡ false → list_any (λ o. bytes_eq o.text.items text) orders ≡ false
    later true e = absurd (false≢true (sym e))
    later false e = e

-- if all were found, and none has the text, the turns of each order with it have more blocks
none-within : (scene : SearchContext) (most : ℕ) (c : RunContents) (found : SearchResult) (text : List ℕ) → IsSceneOf c scene → AllTextsFound (block_ways scene most) found
    → list_any (λ o. bytes_eq o.text.items text) found.orders.items ≡ false → (hs : List Happening) (turns : List Turn) → IsTurnedBy c hs turns text → suc most ≤ blocks_in turns
none-within scene most c found text is all none hs turns turned = by (nat_le (blocks_in turns) most) refl
  where
    by : (b : Bool) → nat_le (blocks_in turns) most ≡ b → suc most ≤ blocks_in turns
    by false e = let past = leb-false (blocks_in turns) most e in omega (arith, past)
    by true e =
        let few = leb-true (blocks_in turns) most e in
        let r = goes scene most c text hs turned.order [] hs (first_courses c) None 0 turns turned.ends refl turned.leads turned.over few in
        let f = all (point c [] (first_courses c) None 0) turns r.0 (record { run = record { scene_is = is; happened = refl; courses = refl }; last = refl; blocks = refl }) r.1 in
        let many : length turned.ends ≡ length scene.roster.domains.items =
        kept-length (type_names c.head) (first_courses c) hs turns turned.ends turned.leads ∙ length-map c.head.domains _ ∙ ap (λ (ds : List DomainConfig). length ds) (sym is.setting.domains) in
        let same : text_at (block_ways scene most) r.0 ≡ text =
        ap (λ (p : Point). flat_map (printed_by p.courses) (range_with_len 0 (length scene.roster.domains.items))) r.2
        ∙ ap (λ (n : ℕ). flat_map (printed_by turned.ends) (range_with_len 0 n)) (sym many) ∙ text-of turned.ends ∙ sym turned.printed in
        absurd (among found.orders.items text f.0 f.1 f.2 (f.3 ∙ same) none)

-- each order has turns
abbrev pub HaveTurns : Type 0
HaveTurns = (c : RunContents) (hs : List Happening) (text : List ℕ) → HaveOwnIds c.head.domains → IsOrderOf c hs text → (turns : List Turn) × IsTurnedBy c hs turns text

-- the same of each order
pub none-fewer : (scene : SearchContext) (most : ℕ) (c : RunContents) (found : SearchResult) (text : List ℕ) → IsSceneOf c scene → HaveTurns → AllTextsFound (block_ways scene most) found
    → list_any (λ o. bytes_eq o.text.items text) found.orders.items ≡ false → HasAtLeast c text (suc most)
none-fewer scene most c found text is turned all none hs order =
    let t = turned c hs text is.setting.apart order in
    let past : suc most ≤ blocks_in t.0 = none-within scene most c found text is all none hs t.0 t.1 in
    let least : blocks_in t.0 ≤ order_blocks hs = turns-no-more c hs t.0 text is.setting.apart t.1 in
    omega (arith, past, least)
