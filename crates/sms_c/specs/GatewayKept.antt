-- What C keeps of a gateway's joiner: nothing, or the right to what lies at its pointer.
use base.Fml.{Fml, ftrue}
use base.Stored.{Coded}
use denote.RawPtr.{Ptr}
use Rattle.std.specs.Prelude.{ℕ, Option, Some, None}
use Rattle.std.specs.Coded.{coded_option}
use Rattle.std.specs.Global.{Global}
use Rattle.std.specs.Box.Ownership.{box_owns}
use Rattle.std_heap.specs.contracts.GlobalAllocator.TheImpl.{ghosts}
use Rattle.sms_c.specs.contracts.gateway.inside.Inside.{the_row}

-- what stands at the pointer, with the right to give its block back to the heap
abbrev pub kept : Global → Ptr → Option the_row.Denot → Fml
kept alloc at None = ftrue
kept alloc at (Some inside) = box_owns (ghosts.dealloc_token alloc) the_row at inside

abbrev pub held_code : Coded (Option the_row.Denot)
held_code = coded_option the_row.coded

-- how many there are: 0 or 1
abbrev pub count : Option the_row.Denot → ℕ
count None = 0
count (Some _) = 1
