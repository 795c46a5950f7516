-- How a run starts.
use Rattle.std.proofs.Common.{◌≡◌, ◌<◌, ℕ, ◌+◌, zero, suc, Bool, true, false, List, [], ◌∷◌, ◌++◌, length, map, ap}
use Rattle.std.proofs.Common.{sym, ◌∙◌, arith, subst, get_or, drop, take, Bor}
use Rattle.std.specs.Prelude.{All}
use Rattle.std.proofs.lemmas.Option.{none-some, get_or_from_slice_get, slice_get_within}
use Rattle.std.proofs.lemmas.List.{map-append, map_more}
use Rattle.std.proofs.lemmas.List.Elements.{All-push}
use Rattle.gt_types.specs.declared.DomId.{DomId}
use Rattle.gt_script_runs.specs.Naming.{AreNamed}
use Rattle.gt_explore_replay.specs.declared.walker.OpenTask.TheVariants.{Nothing}
use Rattle.gt_types.specs.declared.TypeId.{TypeId}
use Rattle.gt_types.specs.declared.perms.Perms.{Perms}
use Rattle.gt_types.specs.declared.config.DomainConfig.{DomainConfig}
use Rattle.gt_model.specs.History.{Setting}
use Rattle.gt_core.specs.Standing.{CoreModel, CoreStands, setting_in}
use Rattle.gt_script.specs.Contents.{Contents, first_gen, type_names}
use Rattle.gt_script.specs.RunContents.{RunContents}
use Rattle.gt_script.specs.RunScripts.{list_of}
use Rattle.gt_script.specs.Lists.{RunTask}
use Rattle.gt_script_runs.specs.declared.rights.ScriptPolicy.{ScriptPolicy}
use Rattle.gt_script_runs.specs.Playing.{StartsFor, setting_of_script}
use Rattle.gt_script_runs.specs.Rights.{may_by}
use Rattle.gt_explore_replay.specs.Orders.{FollowsList}
use Rattle.gt_explore_replay.specs.Walking.{HaveOwnIds, Continues, HasWalked, HasFollowed, StartsWalk, tasks_left_of}
use Rattle.gt_explore_replay.specs.declared.replay.Replay.{Replay}
use Rattle.gt_explore_replay.specs.declared.walker.OpenTask.{OpenTask}
use Rattle.gt_explore_replay.specs.declared.walker.Walker.{Walker}

-- the setting of such a core is that of the script
pub setting_is : (c : Contents) (core : CoreModel ScriptPolicy) → StartsFor c core → setting_in may_by core ≡ setting_of_script c
setting_is c core s =
    ap (λ (ds : List DomainConfig). record { domains = ds; first_generation = core.config.first_gen; may = may_by core.rights }) s.domains
    ∙ ap (λ (n : ℕ). record { domains = c.domains; first_generation = n; may = may_by core.rights }) s.generation
    ∙ ap (λ (m : TypeId → TypeId → Perms → Bool). record { domains = c.domains; first_generation = first_gen c; may = m }) s.rights

-- a domain before its first line
first_follows : (c : RunContents) (w : Walker) → StartsWalk c.tasks w → HasFollowed c [] w
unfolding Continues
first_follows c w first = (
  [],
  first.labels,
  λ more rest go.
      let one = subst (λ (d : OpenTask). Continues (type_names c.head) w [] d more rest) first.doing go in
      let two = subst (λ l. FollowsList (type_names c.head) w.dom [] l (drop w.next (tasks_left_of w)) more rest) first.held one in
      let three = subst (λ (n : ℕ). FollowsList (type_names c.head) w.dom [] [] (drop n (tasks_left_of w)) more rest) first.next two in
      let four = subst (λ (l : List RunTask). FollowsList (type_names c.head) w.dom [] [] l more rest) first.list three in
      subst (λ (l : List ℕ). FollowsList (type_names c.head) w.dom [] [] (list_of c.tasks w.dom) more (l ++ rest)) (sym first.text) four,
)

none_told : (told : List Bool) (flag : ℕ) → All (λ b. b ≡ false) told → get_or told flag false ≡ true → ⊥
none_told [] flag all e = cc
none_told (b ∷ told) zero all e = let h : b ≡ false = all 0 b (omega arith) in cc
none_told (b ∷ told) (suc flag) all e = none_told told flag (λ k d lt. all (suc k) d (omega arith)) e

-- nothing has happened
pub begins : (c : RunContents) (r : Replay) (domains : List DomainConfig) → StartsFor c.head r.core → HaveOwnIds c.head.domains → r.types.items ≡ type_names c.head
    → map (λ (w : Walker). w.dom) r.walkers.items ≡ map (λ (d : DomainConfig). d.id) domains → domains ≡ c.head.domains → All (StartsWalk c.tasks) r.walkers.items → All (λ b. b ≡ false) r.told.items
    → HasWalked c [] r
begins c r domains starts apart types doms same first told = record {
  setting = setting_is c.head r.core starts;
  types = types;
  legal = tt;
  stands = subst (λ (s : Setting). CoreStands s [] r.core.state) (setting_is c.head r.core starts) starts.stands;
  known = λ k d lt. absurd (omega arith);
  flags = λ at d flag is. absurd (none-some _ is);
  told = λ flag is. absurd (none_told r.told.items flag told is);
  domains = doms ∙ ap (map (λ (d : DomainConfig). d.id)) same;
  apart = apart;
  followed = λ k w at. first_follows c w (subst (StartsWalk c.tasks) (get_or_from_slice_get r.walkers.items k w w at) (first k w (slice_get_within r.walkers.items k w at)));
}

-- the walker of one domain more
pub walkers_more : (tasks : List RunTask) (domains : List DomainConfig) (walkers : List Walker) (i : ℕ) (w : Walker) (d : DomainConfig) → i < length domains → w.dom ≡ (get_or domains i d).id → StartsWalk tasks w
    → (map (λ (u : Walker). u.dom) walkers ≡ map (λ (e : DomainConfig). e.id) (take i domains)) × All (StartsWalk tasks) walkers
    → (map (λ (u : Walker). u.dom) (walkers ++ w ∷ []) ≡ map (λ (e : DomainConfig). e.id) (take (i + 1) domains)) × All (StartsWalk tasks) (walkers ++ w ∷ [])
walkers_more tasks domains walkers i w d within is first (doms, all) = (
  map-append (λ (u : Walker). u.dom) walkers (w ∷ []) ∙ ap (λ l. l ++ w.dom ∷ []) doms
      ∙ ap (λ x. map (λ (e : DomainConfig). e.id) (take i domains) ++ x ∷ []) is ∙ sym (map_more (λ (e : DomainConfig). e.id) domains i d within),
  All-push (StartsWalk tasks) walkers w all first,
)

pub walker_first : (tasks : List RunTask) (w : Walker) (list : List (Bor RunTask)) (dom : DomId) → map (λ (t : Bor RunTask). t.now) list ≡ list_of tasks dom → w.dom ≡ dom → w.tasks.items ≡ list → w.next ≡ 0 → w.doing ≡ Nothing → AreNamed w.labels [] → w.held.items ≡ [] → w.text.items ≡ []
    → StartsWalk tasks w
walker_first tasks w list dom is d t next doing labels held text = record {
  list = ap (map (λ (x : Bor RunTask). x.now)) t ∙ is ∙ ap (list_of tasks) (sym d);
  next = next;
  doing = doing;
  labels = labels;
  held = held;
  text = text;
}
