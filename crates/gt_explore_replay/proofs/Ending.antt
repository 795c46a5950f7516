-- A run that has come to its end.
use Rattle.std.proofs.Common.{◌≡◌, ◌<◌, ◌≤◌, ◌⊎◌, ℕ, zero, suc, ◌+◌, List, [], ◌∷◌, ◌++◌, length, map, take, get_or}
use Rattle.std.proofs.Common.{Option, Some, None, refl, ap, sym, ◌∙◌, subst, inl, inr, arith, append_assoc}
use Rattle.std.proofs.lemmas.List.{append-nil, take_all}
use Rattle.std.proofs.lemmas.Option.{same_Some, slice_get_read, slice_get_within}
use Rattle.std.specs.List.{flat_map}
use Rattle.std.specs.Prelude.{slice_get, IfSome}
use Rattle.gt_types.specs.declared.DomId.{DomId}
use Rattle.gt_types.specs.declared.config.DomainConfig.{DomainConfig}
use Rattle.gt_model.specs.declared.handle.Handle.{Handle}
use Rattle.gt_script.specs.Contents.{type_names}
use Rattle.gt_script.specs.RunContents.{RunContents}
use Rattle.gt_script.specs.RunScripts.{list_of}
use Rattle.gt_script.specs.Lists.{RunTask}
use Rattle.gt_explore_replay.specs.Orders.{Happening, own_happenings, AllFollow, FollowsList, IsOrderOf, MayGive}
use Rattle.gt_explore_replay.specs.Walking.{Continues, HasWalked, HasFollowed, IsAtEnd, tasks_left_of}
use Rattle.gt_explore_replay.specs.declared.replay.Replay.{Replay}
use Rattle.gt_explore_replay.specs.declared.walker.OpenTask.{OpenTask}
use Rattle.gt_explore_replay.specs.declared.walker.Walker.{Walker}
use Rattle.gt_explore_replay.proofs.Places.{drop_all}

-- a domain at its end has followed its list
finished : (c : RunContents) (hs : List Happening) (w : Walker) → HasFollowed c hs w → IsAtEnd w → FollowsList (type_names c.head) w.dom [] [] (list_of c.tasks w.dom) (own_happenings w.dom hs) w.text.items
unfolding Continues
finished c hs w (named, names, follows) end =
    let nothing : FollowsList (type_names c.head) w.dom named [] [] [] [] = ([], (refl, refl), refl) in
    let held = subst (λ (l : List Handle). FollowsList (type_names c.head) w.dom named l [] [] []) (sym end.held) nothing in
    let left = subst (λ (l : List RunTask). FollowsList (type_names c.head) w.dom named w.held.items l [] []) (sym (drop_all (tasks_left_of w) w.next end.left)) held in
    let still = subst (λ (d : OpenTask). Continues (type_names c.head) w named d [] []) (sym end.doing) left in
    let one = follows [] [] still in
    let two = subst (λ (l : List Happening). FollowsList (type_names c.head) w.dom [] [] (list_of c.tasks w.dom) l (w.text.items ++ [])) (append-nil (own_happenings w.dom hs)) one in
    subst (λ (l : List ℕ). FollowsList (type_names c.head) w.dom [] [] (list_of c.tasks w.dom) (own_happenings w.dom hs) l) (append-nil w.text.items) two

all_follow : (c : RunContents) (hs : List Happening) (ws : List Walker) (ds : List DomainConfig) → map (λ (w : Walker). w.dom) ws ≡ map (λ (d : DomainConfig). d.id) ds
    → ((k : ℕ) (w : Walker) → slice_get ws k ≡ Some w → FollowsList (type_names c.head) w.dom [] [] (list_of c.tasks w.dom) (own_happenings w.dom hs) w.text.items)
    → AllFollow c hs ds (flat_map (λ (w : Walker). w.text.items) ws)
all_follow c hs [] [] same each = refl
all_follow c hs [] (d ∷ ds) same each = absurd (omega (arith, ap length same))
all_follow c hs (w ∷ ws) [] same each = absurd (omega (arith, ap length same))
all_follow c hs (w ∷ ws) (d ∷ ds) same each =
    let here : w.dom ≡ d.id = cc in
    let rest : map (λ (u : Walker). u.dom) ws ≡ map (λ (e : DomainConfig). e.id) ds = cc in (
      w.text.items,
      (flat_map (λ (u : Walker). u.text.items) ws, refl, all_follow c hs ws ds rest (λ k u at. each (suc k) u at)),
      subst (λ (i : DomId). FollowsList (type_names c.head) i [] [] (list_of c.tasks i) (own_happenings i hs) w.text.items) here (each zero w refl),
    )

-- all of them are at their ends, and this is what they printed
pub ends : (c : RunContents) (hs : List Happening) (r : Replay) (text : List ℕ) → HasWalked c hs r → ((k : ℕ) (w : Walker) → slice_get r.walkers.items k ≡ Some w → IsAtEnd w)
    → text ≡ flat_map (λ (w : Walker). w.text.items) r.walkers.items → IsOrderOf c hs text
ends c hs r text come all is = record {
  legal = come.legal;
  follow = subst (AllFollow c hs c.head.domains) (sym is) (all_follow c hs r.walkers.items c.head.domains come.domains (λ k w at. finished c hs w (come.followed k w at) (all k w at)));
  known = come.known;
  flags = come.flags;
}

-- one domain's text more
pub texts_more : (ws : List Walker) (k : ℕ) (w : Walker) (text : List ℕ) → k < length ws → w ≡ get_or ws k w → text ≡ flat_map (λ (u : Walker). u.text.items) (take k ws)
    → text ++ w.text.items ≡ flat_map (λ (u : Walker). u.text.items) (take (k + 1) ws)
texts_more ws k w text lt is so =
    let next : suc k ≡ k + 1 = omega arith in
    ap (λ (l : List ℕ). l ++ w.text.items) so ∙ sym (taken ws k w lt is) ∙ ap (λ (n : ℕ). flat_map (λ (u : Walker). u.text.items) (take n ws)) next
  where
    taken : (vs : List Walker) (n : ℕ) (v : Walker) → n < length vs → v ≡ get_or vs n v → flat_map (λ (u : Walker). u.text.items) (take (suc n) vs) ≡ flat_map (λ (u : Walker). u.text.items) (take n vs) ++ v.text.items
    taken [] n v lt is = absurd (omega arith)
    taken (u ∷ vs) zero v lt is = append-nil u.text.items ∙ ap (λ (x : Walker). x.text.items) (sym is)
    taken (u ∷ vs) (suc n) v lt is = ap (λ (l : List ℕ). u.text.items ++ l) (taken vs n v (omega arith) is) ∙ sym (append_assoc u.text.items (flat_map (λ (x : Walker). x.text.items) (take n vs)) v.text.items)

pub ends_more : (ws : List Walker) (i : ℕ) (v : Walker) → i < length ws → v ≡ get_or ws i v → IsAtEnd v → ((k : ℕ) (w : Walker) → k < i → slice_get ws k ≡ Some w → IsAtEnd w)
    → (k : ℕ) (w : Walker) → k < i + 1 → slice_get ws k ≡ Some w → IsAtEnd w
ends_more ws i v within is here below = λ k w lt at. elim (last_or k i lt) [
  | inl less ↦ below k w less at
  | inr same ↦ subst IsAtEnd (same_Some v w (sym (slice_get_read ws (length ws) i v refl within is) ∙ ap (slice_get ws) (sym same) ∙ at)) here
]
  where
    last_or : (k i : ℕ) → k < i + 1 → (k < i) ⊎ (k ≡ i)
    last_or zero zero lt = inr refl
    last_or zero (suc i) lt = inl (omega arith)
    last_or (suc k) zero lt = absurd (omega arith)
    last_or (suc k) (suc i) lt = elim (last_or k i (omega arith)) [ inl a ↦ inl (omega arith) | inr b ↦ inr (ap suc b) ]

pub ends_all : (c : RunContents) (hs : List Happening) (r : Replay) (text : List ℕ) (ws : List Walker) (i : ℕ) → HasWalked c hs r → ws ≡ r.walkers.items → length ws ≤ i
    → text ≡ flat_map (λ (w : Walker). w.text.items) (take i ws) → ((k : ℕ) (w : Walker) → k < i → slice_get ws k ≡ Some w → IsAtEnd w) → IsOrderOf c hs text
ends_all c hs r text ws i come same all is each =
    ends c hs r text come
    (λ k w at. let there : slice_get ws k ≡ Some w = ap (λ (l : List Walker). slice_get l k) same ∙ at in
    let within : k < length ws = slice_get_within ws k w there in
    each k w (omega arith) there)
    (is ∙ ap (flat_map (λ (w : Walker). w.text.items)) (take_all i ws all ∙ same))

-- the text of an order is one that the script may give
pub some_order : {T : Type 0} (items : T → List ℕ) (c : RunContents) (hs : List Happening) (o : Option T) → IfSome o (λ t. IsOrderOf c hs (items t)) → IfSome o (λ t. MayGive c (items t))
some_order items c hs None order = tt
some_order items c hs (Some text) order = (hs, order)
