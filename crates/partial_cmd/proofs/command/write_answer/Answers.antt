use Rattle.std.proofs.Common.{rules, tests}
use Rattle.partial_cmd.proofs.Asked.{asked_check, asked_replay, asked_run}
use Rattle.partial_cmd.proofs.command.write_answer.Goals as goal

pub returns-in_err-write_replayed-in-Replay-clause-part : goal.returns-in_err-write_replayed-in-Replay-clause-part
returns-in_err-write_replayed-in-Replay-clause-part g c _ =
    let part = c.in_err-write_replayed-in-Replay.ensures.part in
    (_, part.0, asked_replay _ _ _ c.in-Replay.is c.in_ok-replayed-in-Replay.ensures, part.1)

pub returns-in-Replay-clause-ok : goal.returns-in-Replay-clause-ok
returns-in-Replay-clause-ok g c = (_, asked_replay _ _ _ c.in-Replay.is c.in_ok-replayed-in-Replay.ensures, c.in_ok-write_replayed-in-Replay.ensures.ok)

pub returns-in_err-write_text-in-Check-clause-part : goal.returns-in_err-write_text-in-Check-clause-part
returns-in_err-write_text-in-Check-clause-part g c _ =
    let part = c.in_err-write_text-in-Check.ensures.part in
    (_, part.0, asked_check _ _ _ c.in-Check.is c.in_ok-replayed-in-Check.ensures, part.1)

pub returns-then-check-clause-ok : goal.returns-then-check-clause-ok
returns-then-check-clause-ok g c = (_, asked_check _ _ _ c.in-Check.is c.in_ok-replayed-in-Check.ensures, c.in_ok-write_text-in-Check.ensures.ok)

pub returns-in_err-write_report-in-Run-clause-part : goal.returns-in_err-write_report-in-Run-clause-part
returns-in_err-write_report-in-Run-clause-part g c _ =
    let part = c.in_err-write_report-in-Run.ensures.part in
    (_, part.0, asked_run _ _ c.in_ok-report-in-Run.report c.in-Run.is c.in_ok-report-in-Run.ensures, part.1)

pub returns-clause-ok : goal.returns-clause-ok
returns-clause-ok g c = (_, asked_run _ _ c.in_ok-report-in-Run.report c.in-Run.is c.in_ok-report-in-Run.ensures, c.in_ok-write_report-in-Run.ensures.ok)

pub returns-then-check-clause-verdict : goal.returns-then-check-clause-verdict
returns-then-check-clause-verdict g c = search (tests, rules)
