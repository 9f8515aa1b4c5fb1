-- The calls of a replay, each port's in a list of its own.
use Rattle.std.specs.Prelude.{List, flat_map}
use Rattle.std.specs.declared.alloc.Global.{Global}
use Rattle.std.specs.declared.vec.Vec.{Vec}
use Rattle.partial_model.specs.declared.call.Called.{Called}

-- the calls of all ports, one port's after the other's
abbrev pub calls_in_order : List (Vec Called Global) → List Called
calls_in_order ports = flat_map (λ calls. calls.items) ports
