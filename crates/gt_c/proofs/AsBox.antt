-- The handle and its parts own what a box at the same types owns.
use mir.Syntax.{impl, tnil, dnil}
use mathlib.Core.List.{[]}
use mathlib.Core.Path.{◌≡◌, refl, sym}
use mathlib.Core.Bool.{true≢false}
use Rattle.std.specs.Prelude.{Option, Some, None, IsSome}
use denote.Signature.{Slot, plain}
use Rattle.std_alloc.proofs.BoxSteps.Form.{Bx}
use Rattle.std_heap.specs.contracts.Global as Heap
use Rattle.std_heap.specs.contracts.GlobalAllocator.TheImpl.{ghosts, dict}
use Rattle.std_heap.proofs.Global.TheLaws as heap
use Rattle.gt_c.specs.contracts.c_domain.CDomain as Boxed
use Rattle.gt_c.proofs.c_domain.CDomain.TheLaws as c_domain
use Rattle.gt_c.specs.contracts.parts.BoxParts as Parts
use Rattle.gt_c.specs.contracts.held.RawBox as Held

abbrev pub E : Bx
E = record { row = Boxed.the_row; laws = c_domain.the_row_laws; al = record { row = Heap.the_row; laws = heap.the_row_laws; g = ghosts; d = dict; drops = impl [] tnil dnil } }

abbrev pub FromParts : Slot 0
FromParts = plain (λ _. Parts.the_row Boxed.the_row Heap.the_row ghosts)

abbrev pub FromHeld : Slot 0
FromHeld = plain (λ _. Held.the_row)

pub some_of : {X : Type 0} → (o : Option X) → IsSome o → (x : X) × (o ≡ Some x)
some_of (Some x) is = (x, refl)
some_of None is = absurd (true≢false (sym is))

abbrev pub FromAlloc : Slot 0
FromAlloc = plain (λ _. Heap.the_row)
