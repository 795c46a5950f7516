-- Histories that differ only in the keys of handles from ones that a core represents.
use Rattle.std.specs.Prelude.{◌≡◌, ℕ, Bool, [], ◌∷◌, Some, slice_get}
use Rattle.gt_types.specs.Config.{IsWithinLimits}
use Rattle.gt_types.specs.declared.TypeId.{TypeId}
use Rattle.gt_types.specs.declared.config.Config.{Config}
use Rattle.gt_types.specs.declared.config.DomainConfig.{DomainConfig}
use Rattle.gt_types.specs.declared.perms.Perms.{Perms}
use Rattle.gt_model.specs.Asking.{FitsAsked, asked}
use Rattle.gt_model.specs.declared.action.Observation.{Observation}
use Rattle.gt_model.specs.declared.action.Step.{Step}
use Rattle.gt_model.specs.History.{setting_of, History, Setting}
use Rattle.gt_core.specs.Alike.{AreAlike, HappensKnown}
use Rattle.gt_core.specs.GoingOn.{CanBeReached}
use Rattle.gt_model.specs.Legal.{IsRight}
use Rattle.gt_model.specs.declared.trace.ItemEvent.{ItemEvent}
use Rattle.gt_model.specs.declared.trace.ItemEvent.TheVariants.{Began, Stepped}
use Rattle.gt_model.specs.declared.trace.Item.{Item}
use Rattle.gt_explore_state.specs.Shows.{IsItemOfStep, IsInRun, LooksInRun, unheld}

-- the history differs only in the keys of handles from one that some core represents
abbrev pub IsLikeReached : Setting → History → Type 0
IsLikeReached s h = (g : History) × AreAlike s h g × CanBeReached s g

-- a step that is right after such a history looks at words of a domain of the run, and fits
abbrev pub LikeReachedFits : Type 0
LikeReachedFits =
    (s : Setting) (h : History) (i : Item) (at : ℕ) (d : DomainConfig) (made step : Step) (seen : Observation)
    → IsLikeReached s h → IsRight s h i → i.happened ≡ Stepped made seen → slice_get s.domains at ≡ Some d
    → i.actor ≡ d.id → unheld made ≡ unheld step → IsItemOfStep s h i at step seen × LooksInRun s i.actor step

-- if a call begins, the entry that it gives fits its types
abbrev pub AsksFit : ItemEvent → Type 0
AsksFit (Began request) = FitsAsked (asked request)
AsksFit (Stepped step seen) = Unit {0}

-- a history remains one of these with each right item of a domain of the run that uses no handle but one known to it
abbrev pub LikeReachedGoesOn : Type 0
LikeReachedGoesOn =
    (s : Setting) (h : History) (i : Item) → IsLikeReached s h → IsInRun s i.actor → IsRight s h i → HappensKnown h i
    → AsksFit i.happened → IsLikeReached s (i ∷ h)

-- the empty history is one of these, in each configuration within the limits
abbrev pub LikeReachedStarts : Type 0
LikeReachedStarts = (config : Config) (may : TypeId → TypeId → Perms → Bool) → IsWithinLimits config
    → IsLikeReached (setting_of config may) []
