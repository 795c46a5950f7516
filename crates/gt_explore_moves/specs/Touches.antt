-- What the next step of a domain touches, and what another domain may still touch.
use Rattle.std.specs.Prelude.{◌≡◌, ◌==◌, ◌&&◌, ◌||◌, ◌<◌, ℕ, Bool, true, false, if◌then◌else◌, List, [], ◌∷◌, drop, ◌⊎◌}
use Rattle.std.specs.Prelude.{length, not}
use Rattle.std.specs.Prelude.{Option, Some, None, slice_get, get_or}
use Rattle.std.specs.List.{list_any}
use Rattle.gt_types.specs.Copies.{is_dest_granted, is_source_granted}
use Rattle.gt_types.specs.Names.{resolved}
use Rattle.gt_types.specs.declared.Dir.{Dir}
use Rattle.gt_types.specs.declared.Dir.TheVariants as dirs
use Rattle.gt_types.specs.declared.DomId.{DomId}
use Rattle.gt_types.specs.declared.GrantRef.{GrantRef}
use Rattle.gt_types.specs.declared.copies.CopyArgs.{CopyArgs}
use Rattle.gt_model.specs.declared.action.Step.{Step}
use Rattle.gt_model.specs.declared.action.Step.TheVariants.{Unpin}
use Rattle.gt_model.specs.declared.action.Step.TheVariants as call_steps
use Rattle.gt_model.specs.declared.held.HeldPin.{HeldPin}
use Rattle.gt_model.specs.Path.{gref_of}
use Rattle.gt_commuting.specs.Swapping.{touches_entry, looks_body, looks_header, stores_header}
use Rattle.gt_model.specs.Entries.{frame_of}
use Rattle.gt_model.specs.declared.entry.Entry.{Entry}
use Rattle.gt_model.specs.declared.entry.Entry.TheVariants.{Via}
use Rattle.gt_script_lines.specs.declared.calls.ScriptCall.{ScriptCall}
use Rattle.gt_script_lines.specs.declared.calls.ScriptCall.TheVariants as script_calls
use Rattle.gt_script.specs.Lists.{RunTask, RunAction}
use Rattle.gt_script.specs.declared.tasks.RunAction.TheVariants.{Await, Do, Tell}
use Rattle.gt_explore_search.specs.declared.spaces.Turn.{Turn}
use Rattle.gt_explore_moves.specs.Ends.{choices_in, is_done, tasks_at, turns_by, turns_from}
use Rattle.gt_explore_moves.specs.declared.actor.Actor.{Actor}
use Rattle.gt_explore_moves.specs.declared.granted.GrantedEntry.{GrantedEntry}
use Rattle.gt_explore_moves.specs.declared.actor.ActorCall.{ActorCall}
use Rattle.gt_explore_moves.specs.declared.actor.LabelledMapping.{LabelledMapping}
use Rattle.gt_explore_moves.specs.declared.scene.SearchContext.{SearchContext}
use Rattle.gt_explore_moves.specs.declared.scene.SearchState.{SearchState}
use Rattle.gt_explore_moves.specs.declared.touches.Touch.{Touch}
use Rattle.gt_explore_moves.specs.declared.touches.Touch.TheVariants.{LooksHeader, StoresHeader, Reads, Writes}
use Rattle.gt_explore_moves.specs.declared.touches.Touch.TheVariants.{Raises, WholeEntry}
use Rattle.gt_explore_moves.specs.declared.touches.Touch.TheVariants as touches
use Rattle.gt_explore_moves.specs.declared.touches.MappingUse.{MappingUse}
use Rattle.gt_explore_moves.specs.declared.touches.NextMove.{NextMove}
use Rattle.gt_explore_moves.specs.declared.touches.NextMove.TheVariants.{Makes, Awaits, Free}

-- a step and a touch

-- the step of domain d reads or changes the words of entry r of domain t
abbrev pub is_on : DomId → Step → ℕ → ℕ → Bool
is_on d (Unpin p holder) t r = (p.dom.0 == t) && (p.gref.0 == r)
is_on d step t r = touches_entry d step t r

-- the step reads or writes bytes; it writes bytes
abbrev pub is_access_step : Step → Bool
is_access_step (call_steps.Read dom frame off len) = true
is_access_step (call_steps.Write dom frame off len) = true
is_access_step (call_steps.Copy from to len) = true
is_access_step step = false

abbrev pub is_write : Step → Bool
is_write (call_steps.Write dom frame off len) = true
is_write (call_steps.Copy from to len) = true
is_write step = false

-- the step reads this frame of domain t
abbrev pub reads_frame_at : Step → ℕ → ℕ → Bool
reads_frame_at (call_steps.Read dom frame off len) t f = (dom.0 == t) && (frame == f)
reads_frame_at (call_steps.Copy from to len) t f = (from.frame.owner.0 == t) && (from.frame.number == f)
reads_frame_at step t f = false

-- the step writes to this frame of domain t
abbrev pub writes_frame_at : Step → ℕ → ℕ → Bool
writes_frame_at (call_steps.Write dom frame off len) t f = (dom.0 == t) && (frame == f)
writes_frame_at (call_steps.Copy from to len) t f = (to.frame.owner.0 == t) && (to.frame.number == f)
writes_frame_at step t f = false

-- the step of domain d conflicts with this touch of another domain: both are of the same part, and one changes it. A
-- change of a control word leaves the body words
abbrev pub step_meets : DomId → Step → Touch → Bool
step_meets d z (touches.Entry dom gref) = is_on d z dom.0 gref.0 && not (looks_body z)
step_meets d z (WholeEntry dom gref) = is_on d z dom.0 gref.0
step_meets d z (LooksHeader dom) = stores_header d z dom.0
step_meets d z (StoresHeader dom) = looks_header z dom.0
step_meets d z (Reads dom frame) = writes_frame_at z dom.0 frame
step_meets d z (Writes dom frame) = reads_frame_at z dom.0 frame || writes_frame_at z dom.0 frame
step_meets d z (Raises flag) = false

-- what a domain does next meets a touch of another domain: it conflicts with the touch, or awaits the flag that is
-- raised
abbrev pub meets : NextMove → Touch → Bool
meets (Makes d z) touch = step_meets d z touch
meets (Awaits flag) (Raises raised) = raised == flag
meets (Awaits flag) touch = false
meets Free touch = false

-- the next move writes bytes; it reads or writes bytes
abbrev pub next_writes : NextMove → Bool
next_writes (Makes d z) = is_write z
next_writes next = false

abbrev pub next_accesses : NextMove → Bool
next_accesses (Makes d z) = is_access_step z
next_accesses next = false

-- mappings

-- the task loads, or stores, through a mapping
abbrev pub is_load : RunTask → Bool
is_load t = by t.run_action
  where
    of_call : ScriptCall → Bool
    of_call (script_calls.Load label off len) = true
    of_call call = false

    by : RunAction → Bool
    by (Do call) = of_call call
    by run_action = false

abbrev pub is_store : RunTask → Bool
is_store t = by t.run_action
  where
    of_call : ScriptCall → Bool
    of_call (script_calls.Store label off hex) = true
    of_call call = false

    by : RunAction → Bool
    by (Do call) = of_call call
    by run_action = false

-- what these tasks do through mappings
abbrev pub use_of : List RunTask → MappingUse
use_of ts = record { loads = list_any is_load ts; stores = list_any is_store ts }

-- the next move conflicts with these uses of a mapping, if both are of the same frame
abbrev pub meets_bytes : MappingUse → NextMove → Bool
meets_bytes uses next = (uses.loads && next_writes next) || (uses.stores && next_accesses next)

-- it meets the entry on which a mapping has its pin, or conflicts with these uses of the mapping's frame
abbrev pub meets_mapping : MappingUse → NextMove → HeldPin → Bool
meets_mapping uses next p =
    meets next (touches.Entry p.dom p.gref)
    || (uses.loads && meets next (Reads p.dom (frame_of p.entry)))
    || (uses.stores && meets next (Writes p.dom (frame_of p.entry)))

-- entries that the script may grant

-- the entry is one that this domain may grant under this reference
abbrev pub is_grant_of : DomId → GrantRef → GrantedEntry → Bool
is_grant_of t r g = (g.owner.0 == t.0) && (g.gref.0 == r.0)

-- the next move conflicts with these uses of a frame
abbrev pub meets_uses : MappingUse → NextMove → DomId → ℕ → Bool
meets_uses uses next t f = (uses.loads && meets next (Reads t f)) || (uses.stores && meets next (Writes t f))

-- it conflicts with these uses of a frame that the entry may grant
abbrev pub meets_mapped : List GrantedEntry → MappingUse → NextMove → DomId → GrantRef → Bool
meets_mapped grants uses next t r =
    meets_bytes uses next && list_any (λ (g : GrantedEntry). is_grant_of t r g && meets_uses uses next t (frame_of g.entry)) grants

-- a frame is read, or written
abbrev pub frame_touch : Dir → DomId → ℕ → Touch
frame_touch dirs.Read t f = Reads t f
frame_touch dirs.Write t f = Writes t f

-- the next move, and a call of another domain

abbrev pub meets_leg : NextMove → DomId → GrantRef → Bool
meets_leg next dom gref = meets next (LooksHeader dom) || meets next (touches.Entry dom gref)

-- it meets the access to a frame that the entry may grant
abbrev pub meets_last : List GrantedEntry → NextMove → Dir → DomId → GrantRef → Bool
meets_last grants next dir t r =
    list_any (λ (g : GrantedEntry). is_grant_of t r g && meets next (frame_touch dir t (frame_of g.entry))) grants

-- it meets what comes after the pin on such an entry of domain t: the access to its frame, or the entry that a
-- transitive one leads to, with the access to a frame that this one may grant
abbrev pub meets_beyond : List GrantedEntry → NextMove → Dir → DomId → Entry → Bool
meets_beyond grants next dir t (Via dom ro dom2 gref) = meets_leg next dom2 gref || meets_last grants next dir dom2 gref
meets_beyond grants next dir t e = meets next (frame_touch dir t (frame_of e))

-- it meets what a copy may touch at this end: the entry that names the end, and what comes after the pin on it
abbrev pub meets_end : List GrantedEntry → NextMove → Dir → DomId → GrantRef → Bool
meets_end grants next dir t r =
    meets_leg next t r
    || list_any (λ (g : GrantedEntry). is_grant_of t r g && meets_beyond grants next dir t g.entry) grants

-- it meets an end of a copy of domain d: one that a reference names, or the own frame that the end names
abbrev pub meets_source : List GrantedEntry → NextMove → DomId → CopyArgs → Bool
meets_source grants next d c =
    if is_source_granted c
    then meets_end grants next dirs.Read (resolved d c.source.domid) (gref_of c.source.ptr)
    else meets next (Reads d c.source.ptr)

abbrev pub meets_dest : List GrantedEntry → NextMove → DomId → CopyArgs → Bool
meets_dest grants next d c =
    if is_dest_granted c
    then meets_end grants next dirs.Write (resolved d c.dest.domid) (gref_of c.dest.ptr)
    else meets next (Writes d c.dest.ptr)

-- it meets something that the call of domain d may touch, or may touch through the mapping that it makes; what is done
-- through other mappings is counted with those
abbrev pub meets_call : List GrantedEntry → MappingUse → NextMove → DomId → ScriptCall → Bool
meets_call grants uses next d (script_calls.Grant gref entry) = meets next (WholeEntry d gref)
meets_call grants uses next d (script_calls.GrantBytes gref hex) = meets next (WholeEntry d gref)
meets_call grants uses next d (script_calls.Revoke gref) = meets next (touches.Entry d gref)
meets_call grants uses next d (script_calls.Withdraw gref) = meets next (touches.Entry d gref)
meets_call grants uses next d (script_calls.Demote gref) = meets next (touches.Entry d gref)
meets_call grants uses next d (script_calls.Promote gref) = meets next (touches.Entry d gref)
meets_call grants uses next d (script_calls.Map label dom gref flags) =
    meets_leg next (resolved d dom) gref || meets_mapped grants uses next (resolved d dom) gref
meets_call grants uses next d (script_calls.Unmap label) = false
meets_call grants uses next d (script_calls.Load label off len) = false
meets_call grants uses next d (script_calls.Store label off hex) = false
meets_call grants uses next d (script_calls.Peek frame off len) = meets next (Reads d frame)
meets_call grants uses next d (script_calls.Poke frame off hex) = meets next (Writes d frame)
meets_call grants uses next d (script_calls.Copy c) = meets_source grants next d c || meets_dest grants next d c
meets_call grants uses next d (script_calls.SetVersion version) = meets next (StoresHeader d)
meets_call grants uses next d (script_calls.SetupTable frames) = meets next (StoresHeader d)
meets_call grants uses next d (script_calls.QuerySize dom) = meets next (LooksHeader (resolved d dom))
meets_call grants uses next d (script_calls.GetVersion dom) = meets next (LooksHeader (resolved d dom))

-- it meets something that the task may touch
abbrev pub meets_task : List GrantedEntry → MappingUse → NextMove → RunTask → Bool
meets_task grants uses next t = by t.run_action
  where
    by : RunAction → Bool
    by (Do call) = meets_call grants uses next t.dom call
    by (Tell flag) = meets next (Raises flag)
    by (Await flag) = false

-- a test of a task, if there is one
abbrev pub of_task : (RunTask → Bool) → Option RunTask → Bool
of_task test None = false
of_task test (Some t) = test t

-- domains

-- the task at this index, or the next one
abbrev pub first_of : ℕ → Option ℕ → ℕ
first_of next None = next
first_of next (Some place) = place

-- the index of the first task that a domain has not finished: that of its open call, or the next one
abbrev pub first_left : Actor → ℕ
first_left a = by a.«open»
  where
    by : Option ActorCall → ℕ
    by None = a.next
    by (Some o) = first_of a.next o.task

-- the tasks that a domain has not finished
abbrev pub tasks_unfinished : SearchContext → ℕ → Actor → List RunTask
tasks_unfinished s place a = drop (first_left a) (tasks_at s place)

-- shut flags: those that nobody raises before a domain of some set moves

-- the task awaits a shut flag; it raises one
abbrev pub awaits_shut : List Bool → RunTask → Bool
awaits_shut shut t = by t.run_action
  where
    by : RunAction → Bool
    by (Await flag) = get_or shut flag false
    by run_action = false

abbrev pub tells_shut : List Bool → RunTask → Bool
tells_shut shut t = by t.run_action
  where
    by : RunAction → Bool
    by (Tell flag) = get_or shut flag false
    by run_action = false

-- the tasks before the first one that awaits a shut flag
abbrev pub reachable : List Bool → List RunTask → List RunTask
reachable shut [] = []
reachable shut (t ∷ ts) = if awaits_shut shut t then [] else (t ∷ reachable shut ts)

-- the tasks that a domain may come to before a shut flag is raised
abbrev pub tasks_in_reach : SearchContext → List Bool → ℕ → Actor → List RunTask
tasks_in_reach s shut place a = reachable shut (tasks_unfinished s place a)

-- it meets something that the domain at this position may touch before a shut flag is raised: an entry on which a
-- mapping has its pin, the frame of a mapping, or what a task in reach touches
abbrev pub may_meet : NextMove → SearchContext → List Bool → ℕ → Actor → Bool
may_meet next s shut place a =
    list_any (λ (m : LabelledMapping). meets_mapping (use_of (tasks_in_reach s shut place a)) next m.held) a.mappings.items
    || list_any (meets_task s.grants.items (use_of (tasks_in_reach s shut place a)) next) (tasks_in_reach s shut place a)

-- what a domain without an open call does next: it waits, unless the flag was raised, or is free to go on
abbrev pub next_at_rest : List Bool → Option RunTask → NextMove
next_at_rest told None = Free
next_at_rest told (Some t) = by t.run_action
  where
    by : RunAction → NextMove
    by (Await flag) = if get_or told flag false then Free else Awaits flag
    by run_action = Free

-- what the domain at this position does next
abbrev pub next_move : SearchContext → List Bool → ℕ → Actor → NextMove
next_move s told place a = by a.«open»
  where
    by : Option ActorCall → NextMove
    by (Some o) = Makes o.call.caller o.step
    by None = next_at_rest told (slice_get (tasks_at s place) a.next)

-- sets of domains

-- no domain outside may touch what this next move meets before a shut flag is raised, if it is one of this number of
-- first domains
abbrev pub NoneMeets : SearchContext → SearchState → List Bool → List Bool → NextMove → ℕ → Type 0
NoneMeets s w inside shut next n =
    (e : ℕ) (b : Actor) → e < n → slice_get w.actors.items e ≡ Some b → get_or inside e false ≡ false
    → may_meet next s shut e b ≡ false

-- no domain outside may touch what the next move of one inside meets before a shut flag is raised, if that is one of
-- this number of first domains
abbrev pub UndisturbedTo : SearchContext → SearchState → List Bool → List Bool → ℕ → Type 0
UndisturbedTo s w inside shut n =
    (p e : ℕ) (a b : Actor) → p < n → slice_get w.actors.items p ≡ Some a → slice_get w.actors.items e ≡ Some b
    → get_or inside p false ≡ true → get_or inside e false ≡ false
    → may_meet (next_move s w.told.items p a) s shut e b ≡ false

-- no domain outside may touch what the next move of one inside meets before a shut flag is raised
abbrev pub AreUndisturbed : SearchContext → SearchState → List Bool → List Bool → Type 0
AreUndisturbed s w inside shut =
    (p e : ℕ) (a b : Actor) → slice_get w.actors.items p ≡ Some a → slice_get w.actors.items e ≡ Some b
    → get_or inside p false ≡ true → get_or inside e false ≡ false
    → may_meet (next_move s w.told.items p a) s shut e b ≡ false

-- no flag is one of both
abbrev pub ShareNoFlag : List Bool → List Bool → Type 0
ShareNoFlag some others = (flag : ℕ) → get_or others flag false ≡ true → get_or some flag false ≡ false

-- no domain outside has a task in reach that raises a shut flag, if it is one of this number of first domains
abbrev pub NoneTells : SearchContext → SearchState → List Bool → List Bool → ℕ → Type 0
NoneTells s w inside shut n =
    (e : ℕ) (b : Actor) → e < n → slice_get w.actors.items e ≡ Some b → get_or inside e false ≡ false
    → list_any (tells_shut shut) (tasks_in_reach s shut e b) ≡ false

-- the shut flags stay so until a domain inside moves: none is raised, and none outside can raise one before it awaits one
pub record StayShut (s : SearchContext) (w : SearchState) (inside shut : List Bool) : Type 0 where
  pub unraised : ShareNoFlag shut w.told.items
  pub untold : NoneTells s w inside shut (length w.actors.items)

-- some domain inside is not at its end
abbrev pub SomeGoesOn : SearchContext → SearchState → List Bool → Type 0
SomeGoesOn s w inside =
    (p : ℕ) × (a : Actor) × (slice_get w.actors.items p ≡ Some a) × (get_or inside p false ≡ true)
    × (is_done s p a ≡ false)

-- the turns are those of such a set
abbrev pub AreOfSet : SearchContext → SearchState → List Turn → Type 0
AreOfSet s w turns =
    (inside : List Bool) × (shut : List Bool) × StayShut s w inside shut × AreUndisturbed s w inside shut
    × SomeGoesOn s w inside
    × (turns ≡ turns_by (choices_in s inside) 0 w.actors.items)

-- the turns to try: those of a set of domains that no domain outside can disturb, or all
abbrev pub AreToBeTried : SearchContext → SearchState → List Turn → Type 0
AreToBeTried s w turns = (turns ≡ turns_from s 0 w.actors.items) ⊎ AreOfSet s w turns
