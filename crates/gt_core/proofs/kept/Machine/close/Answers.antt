use Rattle.gt_core.proofs.Words.{◌≡◌, ℕ, length, Option, Some, None, refl, sym, ap, ◌∙◌, subst, set, same_Some}
use Rattle.gt_core.proofs.Words.{slice_get_read, slice_get, IsTrue, bytes_at, FrameSet, frame_at, has_range, OpenCall}
use Rattle.gt_core.proofs.Words.{Step, State, IsLoading, asked_in, IsReadable, with_underway, Closed, vec_len}
use Rattle.gt_model.specs.declared.trace.Answer.TheVariants as answers
use Rattle.gt_core.proofs.{Placed.ids-set, CallsOver.loaded, CallsOver.closed-plain}
use Rattle.gt_core.proofs.kept.Machine.close.Goals as goal

pub read_bytes-bytes-requires : goal.read_bytes-bytes-requires
read_bytes-bytes-requires g c = let xs = c.args.self.now.domains.items in let at = c.args.at in
    let y = c.index_mut.result.now in
    let here : slice_get xs at ≡ Some y = slice_get_read xs (length xs) at y refl c.requires.there c.index_mut.ensures.value in
    let can = subst (IsReadable c.args.self.now.frames c.args.last.call) c.in-Read.is c.requires.readable in
    let asks = subst (λ (o : Option OpenCall). IsLoading (asked_in o) (vec_len c.close_load-out.result)) (c.requires.under y here) c.close_load-out.ensures.room in
    subst (λ (n : ℕ). IsTrue (has_range c.args.self.now.frames (record { owner = c.in-Read.dom; number = c.in-Read.frame }) c.in-Read.off n)) (sym (loaded c.args.last.call.request _ c.in-Read.len asks can.1)) can.0

pub returns-in-Read-clause-settles : goal.returns-in-Read-clause-settles
returns-in-Read-clause-settles g c = let fs : FrameSet = c.args.self.now.frames in
    let xs = c.args.self.now.domains.items in let at = c.args.at in let y = c.index_mut.result.now in
    let out = c.close_load-out.result in let new = set xs at c.close_load-out.new.self in
    let bytes = c.read_bytes-bytes.result in
    let can = subst (IsReadable fs c.args.last.call) c.in-Read.is c.requires.readable in λ d here.
    let same : y ≡ d = same_Some _ _ (sym (slice_get_read xs (length xs) at y refl c.requires.there c.index_mut.ensures.value) ∙ here) in
    let asks : IsLoading (Some c.args.last.call.request) (vec_len out) =
    subst (λ (o : Option OpenCall). IsLoading (asked_in o) (vec_len out)) (ap (λ (z : State). z.underway) same ∙ c.requires.under d here) c.close_load-out.ensures.room in
    let after : new ≡ set xs at (with_underway None d) = ap (λ (z : State). set xs at z) (c.close_load-out.ensures.closed ∙ ap (with_underway None) same) in
    let read : bytes.items ≡ bytes_at (frame_at fs (record { owner = c.in-Read.dom; number = c.in-Read.frame })) c.in-Read.off c.in-Read.len =
    c.read_bytes-bytes.ensures ∙ ap (bytes_at (frame_at fs (record { owner = c.in-Read.dom; number = c.in-Read.frame })) c.in-Read.off) (loaded c.args.last.call.request (vec_len out) c.in-Read.len asks can.1) in
    subst (λ (s : Step). Closed fs xs at d s (answers.Bytes (record { bytes = bytes })) new) (sym c.in-Read.is) (record { bytes = bytes }, refl, after, read)

pub returns-in_default : goal.returns-in_default
returns-in_default g c = let xs = c.args.self.now.domains.items in let at = c.args.at in
    let y = c.index_mut-in_default.result.now in record {
      config = refl;
      rights = refl;
      frames = refl;
      settles = λ d here.
          let same : y ≡ d = same_Some _ _ (sym (slice_get_read xs (length xs) at y refl c.requires.there c.index_mut-in_default.ensures.value) ∙ here) in
          closed-plain c.args.self.now.frames xs (set xs at c.close.new.self) at d c.args.last.step c.in_default.not-Read
          (ap (λ (z : State). set xs at z) (c.close.ensures ∙ ap (with_underway None) same));
    }

pub invariant_of-self : goal.invariant_of-self
invariant_of-self g c =
    let y = c.index_mut.result.now in
    record { placed = ids-set c.args.self.now.domains.items c.args.at c.close_load-out.new.self y c.index_mut.ensures.value (ap (λ (z : State). z.id) c.close_load-out.ensures.closed) ∙ c.args.self.now.placed }

pub invariant_of-self-in_default : goal.invariant_of-self-in_default
invariant_of-self-in_default g c =
    let y = c.index_mut-in_default.result.now in
    record { placed = ids-set c.args.self.now.domains.items c.args.at c.close.new.self y c.index_mut-in_default.ensures.value (ap (λ (z : State). z.id) c.close.ensures) ∙ c.args.self.now.placed }
