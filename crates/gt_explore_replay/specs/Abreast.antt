-- When a replay is abreast of an order: it is at the same point of each list, by a run of the core that is the same
-- except for the keys of handles, which a run may choose.
use Rattle.std.specs.Prelude.{◌≡◌, ◌≢◌, ℕ, true, false, List, [], ◌∷◌, length, map, Some, None, slice_get, get_or}
use Rattle.std.specs.Option.{option_map}
use Rattle.gt_explore_replay.specs.Prelude.{Handle, History, Setting, MayDo, history_after, open_call}
use Rattle.gt_explore_replay.specs.Prelude.{CoreStands, setting_in, bare_handle, AreAlike, IsGiven, type_names, RunContents}
use Rattle.gt_explore_replay.specs.Prelude.{AreNumbered, AreNamed, setting_of_script, may_by, Named, Replay, OpenTask, Nothing}
use Rattle.gt_explore_replay.specs.Prelude.{Line, GivesBack, Walker}
use Rattle.gt_explore_replay.specs.Orders.{Happening, did, raised, passed, trace_in, IsRaisedBefore}
use Rattle.gt_explore_replay.specs.Walking.{HaveOwnIds, tasks_left}
use Rattle.gt_explore_replay.specs.Courses.{Opened, resting, calling, giving, Course}

-- what the core has done in an order so far
abbrev pub history_in : List Happening → History
history_in hs = history_after [] (trace_in hs)

-- the same except for keys

-- a name without the key of its handle
abbrev pub bare_name : Named → Named
bare_name n = record { dom = n.dom; label = n.label; handle = bare_handle n.handle }

abbrev pub SameNames : List Named → List Named → Type 0
SameNames one other = map bare_name one ≡ map bare_name other

abbrev pub SameHandles : List Handle → List Handle → Type 0
SameHandles one other = map bare_handle one ≡ map bare_handle other

-- both have the same open, and drop the mapping of the same handle at its end
abbrev pub IsDoingSo : OpenTask → Opened → Type 0
IsDoingSo Nothing resting = Unit {0}
IsDoingSo (Line line call lost) (calling number asked freed) =
    (line ≡ number) × (call.now ≡ asked) × (option_map bare_handle lost ≡ option_map bare_handle freed)
IsDoingSo GivesBack giving = Unit {0}
IsDoingSo Nothing (calling number asked freed) = ⊥
IsDoingSo Nothing giving = ⊥
IsDoingSo (Line line call lost) resting = ⊥
IsDoingSo (Line line call lost) giving = ⊥
IsDoingSo GivesBack resting = ⊥
IsDoingSo GivesBack (calling number asked freed) = ⊥

-- handles that were given

-- each name has a handle that its domain was given
abbrev pub HaveAnswered : History → List Named → Type 0
HaveAnswered h [] = Unit {0}
HaveAnswered h (n ∷ more) = IsGiven h n.dom.0 n.handle × HaveAnswered h more

-- the domain was given each of these
abbrev pub WereAnswered : History → ℕ → List Handle → Type 0
WereAnswered h d [] = Unit {0}
WereAnswered h d (handle ∷ more) = IsGiven h d handle × WereAnswered h d more

-- one domain

-- the domain has a call open by the history exactly if it has something open on its course
abbrev pub IsOpenSo : History → ℕ → Opened → Type 0
IsOpenSo h d resting = open_call h d ≡ None
IsOpenSo h d (calling number asked freed) = open_call h d ≢ None
IsOpenSo h d giving = open_call h d ≢ None

-- the domain of a replay with the one history is at the same point of its list as that of an order with the other; its
-- list names only flags below this number
pub record WalksAbreast (flags : ℕ) (order replayed : History) (k : Course) (w : Walker) : Type 0 where
  pub dom : w.dom ≡ k.dom
  pub tasks : tasks_left w ≡ k.tasks
  pub numbered : AreNumbered flags k.tasks
  pub doing : IsDoingSo w.doing k.opened
  pub opened : IsOpenSo order k.dom.0 k.opened
  pub names : List Named
  pub named : AreNamed w.labels names
  pub same : SameNames k.named names
  pub mine : HaveAnswered order k.named
  pub theirs : HaveAnswered replayed names
  pub held : SameHandles k.held w.held.items
  pub kept : WereAnswered order k.dom.0 k.held
  pub holds : WereAnswered replayed k.dom.0 w.held.items
  pub text : w.text.items ≡ k.text

-- all domains

-- the next happening of an order may follow this history
abbrev pub CanComeNext : Setting → List Happening → Happening → Type 0
CanComeNext s hs (did e x) = MayDo s (history_in hs) e x
CanComeNext s hs (raised d flag) = Unit {0}
CanComeNext s hs (passed d flag) = IsRaisedBefore (length hs) flag hs

-- a replay is abreast of an order so far, with its domains at these points of their courses
pub record IsAbreast (c : RunContents) (hs : List Happening) (ks : List Course) (r : Replay) : Type 0 where
  pub setting : setting_in may_by r.core ≡ setting_of_script c.head
  pub types : r.types.items ≡ type_names c.head
  pub replayed : History
  pub stands : CoreStands (setting_of_script c.head) replayed r.core.state
  pub alike : AreAlike (setting_of_script c.head) (history_in hs) replayed
  pub domains : map (λ k. k.dom) ks ≡ map (λ d. d.id) c.head.domains
  pub apart : HaveOwnIds c.head.domains
  pub many : length r.walkers.items ≡ length ks
  pub each : (at : ℕ) (k : Course) (w : Walker) → slice_get ks at ≡ Some k → slice_get r.walkers.items at ≡ Some w
      → WalksAbreast (length r.told.items) (history_in hs) replayed k w
  pub told : (flag : ℕ) → IsRaisedBefore (length hs) flag hs → get_or r.told.items flag false ≡ true
