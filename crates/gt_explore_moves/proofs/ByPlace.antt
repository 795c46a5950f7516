-- What a label names in a state, where the serials of handles are the places of mappings, and in a run.
use Rattle.std.proofs.Common.{◌≡◌, ◌+◌, ◌⊎◌, inl, inr, ℕ, zero, suc, refl, true, false, Bool, cond, List, [], ◌∷◌}
use Rattle.std.proofs.Common.{length, Option, Some, None, sym, ap, ◌∙◌, arith}
use Rattle.std.specs.Prelude.{◌==◌, ◌&&◌, bytes_eq, slice_get}
use Rattle.std.proofs.lemmas.Bool.{eq-eqb, true≢false}
use Rattle.std.proofs.lemmas.Slice.Eq.{bytes_eq-Decides}
use Rattle.std.proofs.lemmas.Option.{none-some, same_Some}
use Rattle.gt_types.specs.declared.DomId.{DomId}
use Rattle.gt_model.specs.declared.handle.Handle.{Handle}
use Rattle.gt_script_runs.specs.Runs.{Named, handle_labelled, with_name}
use Rattle.gt_explore_moves.specs.Calls.{LabelsShow}
use Rattle.gt_explore_moves.specs.Placing.{CountFrom, place_names, place_names_after}

-- the label is one of a mapping, and names its handle
record NamesPlace (named : List Named) (d : DomId) (handles : List Handle) (labels : List (Option (List ℕ))) (label : List ℕ) : Type 0 where
  pub at : ℕ
  pub handle : Handle
  pub there : slice_get handles at ≡ Some handle
  pub has : slice_get labels at ≡ Some (Some label)
  pub names : handle_labelled named d.0 label ≡ Some handle

-- the label is one of no mapping, and names what it named before
record NamesNone (named before : List Named) (d : DomId) (labels : List (Option (List ℕ))) (label : List ℕ) : Type 0 where
  pub none : (at : ℕ) → slice_get labels at ≡ Some (Some label) → ⊥
  pub names : handle_labelled named d.0 label ≡ handle_labelled before d.0 label

-- a label that was given to a mapping now
named-now : (named : List Named) (d : DomId) (handle : Handle) (label : List ℕ) → handle_labelled (record { dom = d; label = label; handle = handle } ∷ named) d.0 label ≡ Some handle
named-now named d handle label = by (d.0 == d.0) (bytes_eq label label) (eq-eqb d.0 d.0 refl) ((bytes_eq-Decides label label).1 refl)
  where
    by : (x y : Bool) → x ≡ true → y ≡ true → cond (x && y) (Some handle) (handle_labelled named d.0 label) ≡ Some handle
    by x y e f = rw e (rw f refl)

named-else : (named : List Named) (d : DomId) (handle : Handle) (given label : List ℕ) → bytes_eq given label ≡ false → handle_labelled (record { dom = d; label = given; handle = handle } ∷ named) d.0 label ≡ handle_labelled named d.0 label
named-else named d handle given label e = grind arith

-- what a label names, if this is the label of the first mapping and these are the others
abbrev Found : DomId → Handle → List Handle → List (Option (List ℕ)) → List Named → List ℕ → Option (List ℕ) → Type 0
Found d handle handles labels before label g =
    NamesPlace (place_names_after d handles labels (with_name before d g (Some handle))) d (handle ∷ handles) (g ∷ labels) label
    ⊎ NamesNone (place_names_after d handles labels (with_name before d g (Some handle))) before d (g ∷ labels) label

last-named : (d : DomId) (handles : List Handle) (labels : List (Option (List ℕ))) (before : List Named) (label : List ℕ) → length handles ≡ length labels
    → NamesPlace (place_names_after d handles labels before) d handles labels label ⊎ NamesNone (place_names_after d handles labels before) before d labels label
last-named d [] [] before label e = inr (record { none = λ at h. none-some _ h; names = refl })
last-named d [] (l ∷ labels) before label e = absurd (omega arith)
last-named d (handle ∷ handles) [] before label e = absurd (omega arith)
last-named d (handle ∷ handles) (given ∷ labels) before label e =
    by given (last-named d handles labels (with_name before d given (Some handle)) label (let f : length handles ≡ length labels = omega arith in f))
  where
    past : (g : Option (List ℕ)) → NamesPlace (place_names_after d handles labels (with_name before d g (Some handle))) d handles labels label → Found d handle handles labels before label g
    past g p = inl (record { at = suc p.at; handle = p.handle; there = p.there; has = p.has; names = p.names })

    none-at : (g : Option (List ℕ)) → (g ≡ Some label → ⊥) → ((at : ℕ) → slice_get labels at ≡ Some (Some label) → ⊥) → (at : ℕ) → slice_get (g ∷ labels) at ≡ Some (Some label) → ⊥
    none-at g here more zero h = here (same_Some g (Some label) h)
    none-at g here more (suc at) h = more at h

    here : (g : List ℕ) (b : Bool) → bytes_eq g label ≡ b → NamesNone (place_names_after d handles labels (with_name before d (Some g) (Some handle))) (with_name before d (Some g) (Some handle)) d labels label → Found d handle handles labels before label (Some g)
    here g true is n = let same : g ≡ label = (bytes_eq-Decides g label).0 is in
        inl (record { at = 0; handle = handle; there = refl; has = ap (λ (l : List ℕ). Some (Some l)) same; names = n.names ∙ ap (λ (l : List ℕ). handle_labelled (record { dom = d; label = l; handle = handle } ∷ before) d.0 label) same ∙ named-now before d handle label })
    here g false is n = inr (record {
      none = none-at (Some g) (λ same. true≢false (sym ((bytes_eq-Decides g label).1 (same_Some g label same)) ∙ is)) n.none;
      names = n.names ∙ named-else before d handle g label is;
    })

    by : (g : Option (List ℕ)) → NamesPlace (place_names_after d handles labels (with_name before d g (Some handle))) d handles labels label ⊎ NamesNone (place_names_after d handles labels (with_name before d g (Some handle))) (with_name before d g (Some handle)) d labels label → Found d handle handles labels before label g
    by g (inl p) = past g p
    by None (inr n) = inr (record { none = none-at None (λ bad. none-some label bad) n.none; names = n.names })
    by (Some g) (inr n) = here g (bytes_eq g label) refl n

-- handles at their places

pub counted : (n : ℕ) (handles : List Handle) (at : ℕ) (handle : Handle) → CountFrom n handles → slice_get handles at ≡ Some handle → handle.serial ≡ n + at
counted n [] at handle c h = absurd (none-some handle h)
counted n (first ∷ more) zero handle c h = ap (λ (z : Handle). z.serial) (sym (same_Some first handle h)) ∙ c.0 ∙ (let e : n ≡ n + 0 = omega arith in e)
counted n (first ∷ more) (suc at) handle c h = counted (suc n) more at handle c.1 h ∙ (let e : suc n + at ≡ n + suc at = omega arith in e)

-- what the label of a call names, in the run and in the state: handles of mappings at one place; or handles of none
pub record NamesAlike (named : List Named) (names : List Named) (d : DomId) (handles places : List Handle) (label : List ℕ) : Type 0 where
  pub at : ℕ
  pub handle : Handle
  pub place : Handle
  pub there : slice_get handles at ≡ Some handle
  pub here : slice_get places at ≡ Some place
  pub serial : place.serial ≡ at
  pub named_is : handle_labelled named d.0 label ≡ Some handle
  pub names_is : handle_labelled names d.0 label ≡ Some place

pub record NamesNothing (named : List Named) (names : List Named) (d : DomId) (handles : List Handle) (label : List ℕ) : Type 0 where
  pub gone : (at : ℕ) (handle : Handle) → slice_get handles at ≡ Some handle → handle_labelled named d.0 label ≡ Some handle → ⊥
  pub none : handle_labelled names d.0 label ≡ None

pub get-there : {A B : Type 0} (xs : List A) (ys : List B) (at : ℕ) (x : A) → length xs ≡ length ys → slice_get xs at ≡ Some x → (y : B) × (slice_get ys at ≡ Some y)
get-there [] ys at x e h = absurd (none-some x h)
get-there (x ∷ xs) [] at z e h = absurd (omega arith)
get-there (x ∷ xs) (y ∷ ys) zero z e h = (y, refl)
get-there (x ∷ xs) (y ∷ ys) (suc at) z e h = get-there xs ys at z (let f : length xs ≡ length ys = omega arith in f) h

pub names-alike : (named : List Named) (d : DomId) (handles places : List Handle) (labels : List (Option (List ℕ))) (label : List ℕ) → CountFrom 0 places → length places ≡ length labels → length handles ≡ length labels
    → LabelsShow named d handles labels → NamesAlike named (place_names d places labels) d handles places label ⊎ NamesNothing named (place_names d places labels) d handles label
names-alike named d handles places labels label counts many also show = by (last-named d places labels [] label many) where
  by : NamesPlace (place_names d places labels) d places labels label ⊎ NamesNone (place_names d places labels) [] d labels label → NamesAlike named (place_names d places labels) d handles places label ⊎ NamesNothing named (place_names d places labels) d handles label
  by (inl p) = let t = get-there labels handles p.at (Some label) (sym also) p.has in inl (record {
    at = p.at;
    handle = t.0;
    place = p.handle;
    there = t.1;
    here = p.there;
    serial = counted 0 places p.at p.handle counts p.there ∙ (let e : 0 + p.at ≡ p.at = omega arith in e);
    named_is = (show p.at t.0 (Some label) label t.1 p.has).0 refl;
    names_is = p.names;
  })
  by (inr n) = inr (record {
    gone = λ at handle h e. let t = get-there handles labels at handle also h in
        n.none at (t.1 ∙ ap (λ (g : Option (List ℕ)). Some g) ((show at handle t.0 label h t.1).1 e));
    none = n.names;
  })
