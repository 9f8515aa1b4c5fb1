-- The replies of a machine, as the calls in straight lines return them.
use Rattle.std.specs.Prelude.{◌≡◌, Result, Ok, Err}
use Rattle.partial_model.specs.declared.call.Refused.{Refused}
use Rattle.partial_machine.specs.declared.stage.Change.{Change}
use Rattle.partial_machine.specs.declared.stage.Reply.{Reply}
use Rattle.partial_machine.specs.declared.stage.Stage.TheVariants.{Idle}
use Rattle.partial_machine.specs.Machine.{CoreState, overtaken_reply}
use Rattle.partial_machine.specs.Sound.{IsSound}
use Rattle.partial_core.specs.Part.{IsMarkedLike}
use Rattle.partial_lines.specs.declared.exchange.Exchanged.{Exchanged}
use Rattle.partial_lines.specs.declared.exchange.Exchanged.TheVariants.{Applied, Overtaken}
use Rattle.partial_lines.specs.declared.whole_scan.Scanned.{Scanned}

-- the reply to an update that ended so
abbrev pub update_reply : Change → Result Exchanged Refused → Reply
update_reply c (Ok (Applied stamp)) = Reply.Applied stamp
update_reply c (Ok (Overtaken by)) = overtaken_reply c by
update_reply c (Err cause) = Reply.Refused cause

-- the reply to a scan that ended so
abbrev pub scan_reply : Result Scanned Refused → Reply
scan_reply (Ok s) = Reply.Scanned s.collects s.borrowed
scan_reply (Err cause) = Reply.Refused cause

-- the machine that a port keeps between calls goes on from the machine of a call: idle, sound and with its marks, spare words and words
-- ahead
pub record RestsLike (machine core : CoreState) : Type 0 where
  pub like : IsMarkedLike machine core
  pub ahead : core.ahead ≡ machine.ahead
  pub idle : core.stage ≡ Idle
  pub sound : IsSound core
