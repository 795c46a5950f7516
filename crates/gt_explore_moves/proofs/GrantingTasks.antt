-- What a task of a domain's list may grant is listed, and so is what a call of it grants.
use Rattle.std.proofs.Common.{◌≡◌, ℕ, zero, suc, refl, List, [], ◌∷◌, ◌++◌, length, map, get_or}
use Rattle.std.proofs.Common.{Some, sym, ap, ◌∙◌, subst, All, take, ◌<◌, ◌+◌}
use Rattle.std.specs.Prelude.{slice_get, ◌==◌}
use Rattle.std.proofs.lemmas.List.Elements.{All-filter, All-more, All-weaker}
use Rattle.std.proofs.lemmas.Option.{get_or_from_slice_get, none-some, same_Some, slice_get_within}
use Rattle.gt_types.specs.declared.DomId.{DomId}
use Rattle.gt_types.specs.declared.GrantRef.{GrantRef}
use Rattle.gt_types.specs.declared.config.DomainConfig.{DomainConfig}
use Rattle.gt_model.specs.Asking.{SpellsItsEntry, asked, entry_spelled}
use Rattle.gt_model.specs.Bytes.{Spells}
use Rattle.gt_model.specs.declared.entry.Entry.{Entry}
use Rattle.gt_model.specs.declared.header.Header.{Header}
use Rattle.gt_model.specs.declared.request.Request.{Request}
use Rattle.gt_script_runs.specs.Runs.{Named, MakesRequest, call_bytes, request_of}
use Rattle.gt_script_lines.specs.declared.calls.ScriptCall.{ScriptCall}
use Rattle.gt_script_lines.specs.declared.calls.ScriptCall.TheVariants as script_calls
use Rattle.gt_script.specs.Lists.{RunTask}
use Rattle.gt_script.specs.RunContents.{RunContents}
use Rattle.gt_script.specs.RunScripts.{list_of}
use Rattle.gt_script.specs.declared.tasks.RunAction.TheVariants.{Do}
use Rattle.gt_explore_moves.specs.Ends.{tasks_at}
use Rattle.gt_explore_moves.specs.Granting.{ActionMayGrant, AsksOnlyFitting, IsGranted, IsListed, IsOfScript}
use Rattle.gt_explore_moves.specs.Granting.{ListsGrants}
use Rattle.gt_explore_moves.specs.Scenes.{IsSceneOf}
use Rattle.gt_explore_moves.specs.declared.granted.GrantedEntry.{GrantedEntry}
use Rattle.gt_explore_moves.specs.declared.scene.SearchContext.{SearchContext}

-- the list

-- an entry more
granted-more : (grants : List GrantedEntry) (x : GrantedEntry) (t r : ℕ) (e : Entry) → IsGranted grants t r e
    → IsGranted (grants ++ x ∷ []) t r e
granted-more grants x t r e (n, g, at, owner, gref, same) = (n, g, further grants n at, owner, gref, same) where
  further : (gs : List GrantedEntry) (m : ℕ) → slice_get gs m ≡ Some g → slice_get (gs ++ x ∷ []) m ≡ Some g
  further [] m here = absurd (none-some g here)
  further (h ∷ gs) zero here = here
  further (h ∷ gs) (suc m) here = further gs m here

pub listed-more : (grants : List GrantedEntry) (x : GrantedEntry) (t : RunTask) → IsListed grants t
    → IsListed (grants ++ x ∷ []) t
listed-more grants x t listed = record {
  lists = λ r e may. granted-more grants x t.dom.0 r.0 e (listed.lists r e may);
  fits = listed.fits;
}

-- the last one
pub granted-last : (grants : List GrantedEntry) (x : GrantedEntry) → IsGranted (grants ++ x ∷ []) x.owner.0 x.gref.0 x.entry
granted-last grants x = (length grants, x, last grants, refl, refl, refl) where
  last : (gs : List GrantedEntry) → slice_get (gs ++ x ∷ []) (length gs) ≡ Some x
  last [] = refl
  last (h ∷ gs) = last gs

-- tasks

in-list : (grants : List GrantedEntry) (tasks : List RunTask) (dom : DomId) (n : ℕ) (t : RunTask)
    → All (IsListed grants) tasks → slice_get (list_of tasks dom) n ≡ Some t → IsListed grants t
in-list grants tasks dom n t all at =
    let list = list_of tasks dom in
    let mine = All-filter (λ (u : RunTask). u.dom.0 == dom.0) (IsListed grants) tasks all in
    subst (IsListed grants) (get_or_from_slice_get list n t t at) (mine n t (slice_get_within list n t at))

in-lists : (grants : List GrantedEntry) (tasks : List RunTask) (ds : List DomainConfig) (place n : ℕ) (t : RunTask)
    → All (IsListed grants) tasks
    → slice_get (get_or (map (λ (d : DomainConfig). list_of tasks d.id) ds) place []) n ≡ Some t → IsListed grants t
in-lists grants tasks [] place n t all at = absurd (none-some t at)
in-lists grants tasks (d ∷ ds) zero n t all at = in-list grants tasks d.id n t all at
in-lists grants tasks (d ∷ ds) (suc place) n t all at = in-lists grants tasks ds place n t all at

-- what a task of a domain's list may grant is listed
pub task-listed : (c : RunContents) (scene : SearchContext) → IsSceneOf c scene → (place n : ℕ) (t : RunTask)
    → slice_get (tasks_at scene place) n ≡ Some t → IsListed scene.grants.items t
task-listed c scene is place n t at = in-lists scene.grants.items c.tasks c.head.domains place n t is.grants
    (ap (λ (ls : List (List RunTask)). slice_get (get_or ls place []) n) (sym is.lists) ∙ at)

-- what a line asks that may grant only such entries
pub said-of-script : (grants : List GrantedEntry) (header : Header) (named : List Named) (dom : DomId) (call : ScriptCall)
    (q : Request) → MakesRequest named dom call q → ListsGrants grants dom (Do call) → SpellsItsEntry header q
    → IsOfScript grants dom (asked q)
unfolding request_of
said-of-script grants header named dom call q (bytes, given, is) listed spells =
    subst (λ (r : Request). IsOfScript grants dom (asked r)) (sym is)
    (by call given listed (subst (SpellsItsEntry header) is spells))
  where
    by : (x : ScriptCall) → bytes.now ≡ call_bytes x → ListsGrants grants dom (Do x)
        → SpellsItsEntry header (request_of named dom bytes x) → IsOfScript grants dom (asked (request_of named dom bytes x))
    by (script_calls.Grant gref entry) e lists said = lists gref entry (refl, refl)
    by (script_calls.GrantBytes gref hex) e lists said = lists gref (entry_spelled bytes.now)
        (refl, (header.version, subst (λ (bs : List ℕ). Spells header.version bs (entry_spelled bytes.now)) e said))
    by (script_calls.Revoke gref) e lists said = tt
    by (script_calls.Withdraw gref) e lists said = tt
    by (script_calls.Demote gref) e lists said = tt
    by (script_calls.Promote gref) e lists said = tt
    by (script_calls.Map label to gref flags) e lists said = tt
    by (script_calls.Unmap label) e lists said = tt
    by (script_calls.Load label off len) e lists said = tt
    by (script_calls.Store label off hex) e lists said = tt
    by (script_calls.Peek frame off len) e lists said = tt
    by (script_calls.Poke frame off hex) e lists said = tt
    by (script_calls.Copy c) e lists said = tt
    by (script_calls.SetVersion version) e lists said = tt
    by (script_calls.SetupTable frames) e lists said = tt
    by (script_calls.QuerySize to) e lists said = tt
    by (script_calls.GetVersion to) e lists said = tt

-- the list as it is made

-- after a task that grants this entry
pub listed-with : (grants : List GrantedEntry) (x : GrantedEntry) (tasks : List RunTask) (i : ℕ) (t d : RunTask)
    → i < length tasks → t ≡ get_or tasks i d
    → ((r : GrantRef) (e : Entry) → ActionMayGrant t.run_action r e → Some x ≡ Some (record { owner = t.dom; gref = r; entry = e }))
    → AsksOnlyFitting t.run_action → All (IsListed grants) (take i tasks)
    → All (IsListed (grants ++ x ∷ [])) (take (i + 1) tasks)
listed-with grants x tasks i t d lt is gives fits before =
    All-more (IsListed (grants ++ x ∷ [])) tasks i d lt
    (All-weaker (IsListed grants) (IsListed (grants ++ x ∷ [])) (listed-more grants x) (take i tasks) before)
    (subst (IsListed (grants ++ x ∷ [])) is (record {
      lists = λ r e may. subst (λ (y : GrantedEntry). IsGranted (grants ++ x ∷ []) y.owner.0 y.gref.0 y.entry)
          (same_Some x (record { owner = t.dom; gref = r; entry = e }) (gives r e may)) (granted-last grants x);
      fits = fits;
    }))

-- after a task that grants nothing
pub listed-without : (grants : List GrantedEntry) (tasks : List RunTask) (i : ℕ) (t d : RunTask)
    → i < length tasks → t ≡ get_or tasks i d
    → ((r : GrantRef) (e : Entry) → ActionMayGrant t.run_action r e → ⊥)
    → AsksOnlyFitting t.run_action → All (IsListed grants) (take i tasks) → All (IsListed grants) (take (i + 1) tasks)
listed-without grants tasks i t d lt is gives fits before = All-more (IsListed grants) tasks i d lt before
    (subst (IsListed grants) is (record { lists = λ r e may. absurd (gives r e may); fits = fits }))
