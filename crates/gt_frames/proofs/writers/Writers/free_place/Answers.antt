use Rattle.std.proofs.Common.{◌≡◌, ◌∙◌, ap, arith, sym, length, ℕ, Bool, true, List, get_or}
use Rattle.gt_frames.specs.declared.writers.Writers.{Writers}
use Rattle.gt_frames.proofs.Stretches.{all_used}
use Rattle.gt_frames.proofs.writers.Writers.free_place.Goals.{then-len-self+in_default-first_free, else-len-self}
use Rattle.gt_frames.proofs.writers.Writers.free_place.Goals as goal

pub add-requires-clause-few : goal.add-requires-clause-few
add-requires-clause-few c = elim c.if-len-self.branch [
  | then-len-self+in_default-first_free w ↦
      let used = w.find_unused.new.self.used.items in
      let same : length c.if-len-self.self.writs.items ≡ length w.find_unused.new.self.writs.items = ap (λ (x : Writers). length x.writs.items) w.self-is in
      let all : (at : ℕ) → get_or used at true ≡ true =
      λ at. ap (λ (us : List Bool). get_or us at true) (sym w.deref-then-len-self.ensures.value)
      ∙ w.first_free-then-len-self.ensures.none w.in_default-first_free.is at (omega arith) in
      omega (arith, same, all_used used all, w.find_unused.ensures.few, w.find_unused.ensures.same.sound.places)
  | else-len-self w ↦
      let same : length c.if-len-self.self.writs.items ≡ length c.args.self.now.writs.items = ap (λ (x : Writers). length x.writs.items) w.self-is in
      omega (arith, same, w.if-len-self.false, c.requires.looks)
]
