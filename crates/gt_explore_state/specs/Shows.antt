-- When the tables and pages of a small state show a history.
use Rattle.std.specs.Prelude.{◌≡◌, ◌≢◌, ◌==◌, ◌&&◌, ◌+◌, ◌≤◌, ◌<◌, ℕ, List, ◌∷◌, Some, None, length}
use Rattle.std.specs.Prelude.{slice_get, AllPairs}
use Rattle.std.specs.Prelude.{count_by, if◌then◌else◌}
use Rattle.gt_explore_state.specs.Prelude.{domain_of, DomId, Dir, Config, DomainConfig, FRAME_SIZE, LAST_GENERATION}
use Rattle.gt_explore_state.specs.Prelude.{MAX_PINS, raise_of, HeldPin, Step, LookHeader}
use Rattle.gt_explore_state.specs.Prelude.{LookControl, LookBody, Unpin, StoreHeader, Exchange, Observation, Taken}
use Rattle.gt_explore_state.specs.Prelude.{Item, Began, Stepped, CanBeReached, IsRight, Request, History, Setting, Pin}
use Rattle.gt_explore_state.specs.Prelude.{live, without, is_pin_on, same_dir, entry_at, generation_at, body_at}
use Rattle.gt_explore_state.specs.Prelude.{table_at, reads_at, writes_at, contents_at, given_in, open_call, PinCounts}
use Rattle.gt_model.specs.declared.change.BodyWord.TheVariants as body_words
use Rattle.gt_model.specs.declared.action.Step.TheVariants as call_steps
use Rattle.gt_model.specs.declared.request.PinHolder.TheVariants as holders
use Rattle.gt_explore_state.specs.Pages.{page_contents}
use Rattle.gt_explore_state.specs.Rows.{counts_in, kept_entry, kept_generation}
use Rattle.gt_explore_state.specs.declared.pages.SparsePage.{SparsePage}
use Rattle.gt_explore_state.specs.declared.table.SparseTable.{SparseTable}

-- the configuration is that of the setting, and no two of its domains have the same number
pub record IsSettingOf (c : Config) (s : Setting) : Type 0 where
  pub domains : c.domains.items ≡ s.domains
  pub first : c.first_gen ≡ s.first_generation
  pub apart : AllPairs (λ d e. d.id.0 ≢ e.id.0) s.domains

-- the counts are those of entry r of domain t after these items: its live pins and its body words
pub record CountsShow (h : History) (t r : ℕ) (c : PinCounts) : Type 0 where
  pub reads : c.reads ≡ reads_at h t r
  pub writes : c.writes ≡ writes_at h t r
  pub first : c.first ≡ body_at h t r body_words.First
  pub second : c.second ≡ body_at h t r body_words.Second

-- the table is that of domain d after these items
pub record TableShows (s : Setting) (h : History) (d : DomId) (t : SparseTable) : Type 0 where
  pub header : t.header ≡ table_at s h d
  pub entries : (r : ℕ) → kept_entry t.own.items r ≡ entry_at h d.0 r
  pub generations : (r : ℕ) → kept_generation s.first_generation t.own.items r ≡ generation_at s h d.0 r
  pub counts : (r : ℕ) → CountsShow h d.0 r (counts_in t.counts.items r)

-- the tables are those of the domains of the run after these items, in their order
pub record TablesShow (s : Setting) (h : History) (ts : List SparseTable) : Type 0 where
  pub many : length ts ≡ length s.domains
  pub each : (k : ℕ) (d : DomainConfig) (t : SparseTable) → slice_get s.domains k ≡ Some d → slice_get ts k ≡ Some t
      → TableShows s h d.id t

-- the pages have the bytes of all frames after these items
abbrev pub PagesShow : History → List SparsePage → Type 0
PagesShow h pages = (t f : ℕ) → page_contents pages t f ≡ contents_at h t f

-- the domain is one of the run
abbrev pub IsInRun : Setting → DomId → Type 0
IsInRun s d = domain_of s.domains d ≢ None

-- the domain at whose words a step of domain d looks is one of the run
abbrev pub LooksInRun : Setting → DomId → Step → Type 0
LooksInRun s d (LookHeader dom) = IsInRun s dom
LooksInRun s d (LookControl dom gref) = IsInRun s dom
LooksInRun s d (LookBody dom gref body_word) = IsInRun s dom
LooksInRun s d (call_steps.Pin p) = IsInRun s p.dom
LooksInRun s d (Exchange gref looked change) = IsInRun s d
LooksInRun s d step = Unit {0}

-- the second list has one pin of this kind less on the entry of this pin, and otherwise as many of each
abbrev pub LosesOne : HeldPin → List Pin → List Pin → Type 0
LosesOne m whole less =
    (t r : ℕ) (k : Dir) → count_by (is_pin_on t r k) whole
    ≡ (if (m.dom.0 == t) && (m.gref.0 == r) && same_dir m.dir k then 1 else 0) + count_by (is_pin_on t r k) less

-- there is room in words and frames for the effect of a step of domain d with this observation, and an unpin releases a
-- live pin
abbrev pub StepFits : Setting → History → DomId → Step → Observation → Type 0
StepFits s h d (call_steps.Pin p) Taken = count_by (is_pin_on p.dom.0 p.gref.0 p.dir) (live h) < MAX_PINS
StepFits s h d (Exchange gref looked change) Taken = generation_at s h d.0 gref.0 + raise_of change ≤ LAST_GENERATION
StepFits s h d (Unpin p holder) seen = LosesOne p (live h) (without d.0 holder (live h))
StepFits s h d (StoreHeader version frames) seen = (version < 4) × (frames < 256)
StepFits s h d (call_steps.Read dom frame off len) seen = off + len ≤ FRAME_SIZE
StepFits s h d (call_steps.Write dom frame off len) seen = off + len ≤ FRAME_SIZE
StepFits s h d (call_steps.Copy from to len) seen = (from.off + len ≤ FRAME_SIZE) × (to.off + len ≤ FRAME_SIZE)
StepFits s h d step seen = Unit {0}

-- a step, without the holder of the pin that it releases
abbrev pub unheld : Step → Step
unheld (Unpin p holder) = Unpin p (holders.Leg 0)
unheld step = step

-- the item is of this step, with this observation, of the domain at a position, except for the holder of a pin that it
-- releases; and the step fits
pub record IsItemOfStep (s : Setting) (h : History) (i : Item) (at : ℕ) (step : Step) (seen : Observation) : Type 0 where
  pub domain : DomainConfig
  pub placed : slice_get s.domains at ≡ Some domain
  pub actor : i.actor ≡ domain.id
  pub made : Step
  pub happened : i.happened ≡ Stepped made seen
  pub same : unheld made ≡ unheld step
  pub fits : StepFits s h i.actor made seen

-- if the step writes what its call was given, these are the bytes given to the domain's open call
abbrev pub IsGivenTo : History → DomId → Step → List ℕ → Type 0
IsGivenTo h d (call_steps.Write dom frame off len) given = given ≡ given_in (open_call h d.0)
IsGivenTo h d step given = Unit {0}

-- a step that is right after a history that some core represents looks at words of a domain of the run, and fits
abbrev pub RightStepsFit : Type 0
RightStepsFit =
    (s : Setting) (h : History) (i : Item) (at : ℕ) (d : DomainConfig) (made step : Step) (seen : Observation)
    → CanBeReached s h → IsRight s h i → i.happened ≡ Stepped made seen → slice_get s.domains at ≡ Some d
    → i.actor ≡ d.id → unheld made ≡ unheld step → IsItemOfStep s h i at step seen × LooksInRun s i.actor step

-- a call that begins changes no table, and writes no bytes
abbrev pub BeginningsChangeNothing : Type 0
BeginningsChangeNothing =
    (s : Setting) (h : History) (i : Item) (request : Request) (ts : List SparseTable) (pages : List SparsePage)
    → AllPairs (λ d e. d.id.0 ≢ e.id.0) s.domains → i.happened ≡ Began request
    → (TablesShow s h ts → TablesShow s (i ∷ h) ts) × (PagesShow h pages → PagesShow (i ∷ h) pages)
