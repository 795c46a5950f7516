-- What a map adds, and which control words the release of pins leaves.
use Rattle.std.specs.Prelude.{◌≡◌, ℕ, Result, Ok, Err}
use Rattle.gt_live.specs.Prelude.{CallPins, AccessPath, Denial, Direct, Domain, Handle, HandleMap, HeldPin, Layout}
use Rattle.gt_live.specs.Prelude.{Mapped, Monitor, Nothing, Own, PendingCopy, Request, Unpin, View, generation_of}
use Rattle.gt_live.specs.Prelude.{position_in}
use Rattle.gt_model.specs.declared.held.AccessPath.TheVariants.{Through}
use Rattle.gt_model.specs.declared.request.PinHolder.TheVariants as holders
use Rattle.gt_words.specs.Answers.{UnpinsTo}
use Rattle.gt_live.specs.Domains.{AllowRelation, Answered, MapAnswered}
use Rattle.gt_live.specs.Mappings.{AddsMapping, Removes}
use Rattle.gt_live.specs.Walks.{Made}
use Rattle.gt_live.specs.declared.domain.mappings.LeftWord.{LeftWord}
use Rattle.gt_live.specs.declared.domain.mappings.NewMapping.{NewMapping}
use Rattle.gt_live.specs.declared.access_paths.CopyWords.{CopyWords}

-- the result of a map, as in MapAnswered, and the mapping that was added
abbrev pub MapAdds : {P : Type 0} → (P → AllowRelation) → Monitor P → Domain → Request → Result NewMapping Denial
    → Domain → Type 0
MapAdds may m d request (Ok n) e =
    Answered may m d request (Mapped n.held) e × AddsMapping d.mappings e.mappings n.handle n.held
MapAdds may m d request (Err denial) e = MapAnswered may m d request (Err denial) e

-- this pin was released by one step, which left this control word
abbrev pub ReleasesTo : Layout → HeldPin → ℕ → View → View → Type 0
ReleasesTo k p left v w = UnpinsTo k (position_in k.ids p.dom) p.gref.0 p.dir (generation_of p.word) left v w

-- the mapping under this handle was dropped, and its pin was released: this is its entry, and the word that this left
abbrev pub DropsTo : Layout → Handle → LeftWord → HandleMap HeldPin → View → HandleMap HeldPin → View → Type 0
DropsTo k h left old v new w =
    (m : HeldPin) × Removes old new h m × (left.dom ≡ m.dom) × (left.gref ≡ m.gref) × ReleasesTo k m left.word v w

-- the pins of an access path were released, the last one first, and this is the word that the release of the first one
-- left; 0 if it has no pin
abbrev pub AccessPathLeaves : Layout → AccessPath → ℕ → View → View → Type 0
AccessPathLeaves k Own left v w = (left ≡ 0) × (w ≡ v)
AccessPathLeaves k (Direct p) left v w = ReleasesTo k p left v w
AccessPathLeaves k (Through via p) left v w =
    (u : View) × Made k (Unpin p (holders.Leg 0)) Nothing v u × ReleasesTo k via left u w

-- the pins of a copy were released, those of its destination first, and these are the words that this left
abbrev pub CopyLeaves : Layout → CallPins → CopyWords → View → View → Type 0
CopyLeaves k pins left v w =
    (u : View) × AccessPathLeaves k pins.dest left.dest v u × AccessPathLeaves k pins.source left.source u w

-- the same for a copy that was at its access
abbrev pub PendingLeaves : Layout → PendingCopy → CopyWords → Domain → Domain → Type 0
PendingLeaves k h left d e = CopyLeaves k h.pins left d.seat.view e.seat.view
