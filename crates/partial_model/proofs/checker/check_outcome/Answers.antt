use Rattle.partial_model.proofs.{Common.{Decides-at, is_legal_outcome}, PortLaws.Decides-is_legal_outcome}
use Rattle.partial_model.proofs.checker.check_outcome.Goals as goal

pub returns : goal.returns
returns c =
    Decides-at c.passes.result (is_legal_outcome c.args.opening.now c.args.history.now c.args.calls.now) c.passes.ensures
    (Decides-is_legal_outcome c.args.opening.now c.args.history.now c.args.calls.now)
