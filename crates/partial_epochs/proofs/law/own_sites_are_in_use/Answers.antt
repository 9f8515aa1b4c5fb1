use Rattle.partial_epochs.proofs.InUse.{own_sites_are_in_use}
use Rattle.partial_epochs.proofs.law.own_sites_are_in_use.Goals as goal

pub returns : goal.returns
returns c = own_sites_are_in_use
