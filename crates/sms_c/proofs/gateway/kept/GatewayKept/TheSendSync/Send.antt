-- What is kept may go to another thread: what lies at the pointer may, and any thread may free it.
use mir.Raw.{raw}
use denote.Memory.{lone}
use denote.RawPtr.{Ptr}
use denote.Struct.Struct.{exits_of}
use denote.Struct.Owning.{shape, fields, to}
use denote.Param.Send.{IsSend, AllSend, owning_send, struct_send, sendable}
use base.Shift.{Keyless}
use Rattle.std.specs.Prelude.{Option, Some, None}
use Rattle.std.specs.Global.{Global}
use Rattle.std.proofs.Crossing as heap
use Rattle.std_alloc.proofs.SendSync.{quiet, lies}
use Rattle.std_heap.proofs.Global.TheSendSync as handle
use Rattle.sms_c.specs.GatewayKept.{kept}
use Rattle.sms_c.specs.contracts.gateway.inside.Inside as Inside
use Rattle.sms_c.proofs.gateway.inside.Inside.TheSendSync.{the_send as inside}
use Rattle.sms_c.specs.contracts.gateway.kept.GatewayKept.{the_row, the_type}

goes : (alloc : Global) (at : Ptr) (held : Option (Inside.the_row).Denot) → Keyless (kept alloc at held)
goes alloc at None = tt
goes alloc at (Some x) = (lies Inside.the_row inside at x, heap.frees.frees alloc (raw (lone Inside.the_row.mir)) at)

pub send : IsSend the_row
send =
    let all : AllSend (fields the_type) = (search sendable, (handle.the_field_send, tt)) in
    owning_send the_type all (λ d. goes d.alloc d.at d.held)
    (λ k. quiet (to the_type) (exits_of k (fields the_type)) ((struct_send (shape the_type) all).leaving k))
