use Rattle.partial_long_lived.proofs.Common.{scan_asked}
use Rattle.partial_long_lived.proofs.scan.make_scan.Given as goal

-- the machine that begins the scan
abbrev pub ghosts-begin_scan : goal.ghosts-begin_scan
ghosts-begin_scan g a = record { core = scan_asked a.core.now a.which.now }
