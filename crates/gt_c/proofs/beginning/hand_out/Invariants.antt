use Rattle.std.proofs.Common.{◌≡◌, ◌<◌, ◌≤◌, ℕ, None, length, map, take, drop}
use Rattle.std.specs.Prelude.{slice_index_or}
use Rattle.gt_c.specs.Starting.{domain_of_handle, filled_handle}
use Rattle.gt_c.specs.declared.handle.DomainHandle.{DomainHandle}
use Rattle.gt_c.proofs.beginning.hand_out.Given as goal

abbrev pub invariant-handles : goal.invariant-handles
invariant-handles l = record {
  handed : map domain_of_handle (take l.place l.out) ≡ map (λ b. filled_handle b.value) (take l.place l.fn.all.items);
  rest : l.rest.items ≡ drop l.place l.fn.all.items;
  idle : (k : ℕ) (d : DomainHandle) → l.place ≤ k → k < length l.out → domain_of_handle (slice_index_or l.out k d) ≡ None;
}
