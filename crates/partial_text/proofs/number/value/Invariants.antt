use Rattle.partial_text.proofs.Common.{◌≡◌, ◌≤◌, drop, number_from}
use Rattle.partial_text.proofs.number.value.Given as goal

abbrev pub invariant-loop-digit : goal.invariant-loop-digit
invariant-loop-digit l =
    record { value : number_from l.most l.number (drop l.digit-index l.digits) ≡ number_from l.most 0 l.digits; bound : l.number ≤ l.most }
