-- A handle may go to another thread, since what it holds may.
use Rattle.partial_door.proofs.Common.{lone, Ptr, Option, None, Some, exits_of, shape, fields, to, Global, handle_owns}
use mir.Raw.{raw}
use base.Shift.{Keyless}
use denote.Param.Send.{IsSend, AllSend, owning_send, struct_send, sendable}
use Rattle.std.proofs.Crossing as heap
use Rattle.std_alloc.proofs.SendSync.{quiet, lies}
use Rattle.std_heap.proofs.Global.TheSendSync as handle
use Rattle.partial_door.specs.contracts.held.Held as Held
use Rattle.partial_door.proofs.held.Held.TheSendSync.{the_send as held}
use Rattle.partial_door.specs.contracts.handle.Handle.{the_row, the_type}

owned_send : (a : Global) (p : Ptr) (h : Option (Held.the_row).Denot) → Keyless (handle_owns a p h)
owned_send a p None = tt
owned_send a p (Some x) = (lies Held.the_row held p x, heap.frees.frees a (raw (lone (Held.the_row).mir)) p)

pub send : IsSend the_row
send =
    let all : AllSend (fields the_type) = (search sendable, (handle.the_field_send, tt)) in
    owning_send the_type all (λ d. owned_send d.alloc d.ptr d.held)
    (λ k. quiet (to the_type) (exits_of k (fields the_type)) ((struct_send (shape the_type) all).leaving k))
