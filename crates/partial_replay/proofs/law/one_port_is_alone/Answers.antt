use Rattle.partial_replay.proofs.Alone.{one_port_is_alone}
use Rattle.partial_replay.proofs.law.one_port_is_alone.Goals as goal

pub returns : goal.returns
returns c = one_port_is_alone
