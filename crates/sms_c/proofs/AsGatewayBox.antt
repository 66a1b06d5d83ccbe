-- What a gateway keeps and its parts own what a box at the same types owns.
use mathlib.Core.List.{[]}
use mir.Syntax.{impl, tnil, dnil}
use denote.Signature.{Slot, plain}
use Rattle.std_alloc.proofs.BoxSteps.Form.{Bx}
use Rattle.std_heap.specs.contracts.Global as Heap
use Rattle.std_heap.specs.contracts.GlobalAllocator.TheImpl.{ghosts, dict}
use Rattle.std_heap.proofs.Global.TheLaws as heap
use Rattle.sms_c.specs.contracts.gateway.inside.Inside as Inner
use Rattle.sms_c.proofs.gateway.inside.Inside.TheLaws as inner
use Rattle.sms_c.specs.contracts.joiner.parts.Parts as Parts
use Rattle.sms_c.specs.contracts.gateway.kept.GatewayKept as Kept

abbrev pub E : Bx
E = record { row = Inner.the_row; laws = inner.the_row_laws; al = record { row = Heap.the_row; laws = heap.the_row_laws; g = ghosts; d = dict; drops = impl [] tnil dnil } }

abbrev pub FromParts : Slot 0
FromParts = plain (λ _. Parts.the_row Inner.the_row Heap.the_row ghosts)

abbrev pub FromKept : Slot 0
FromKept = plain (λ _. Kept.the_row)
