use Rattle.std.proofs.Common.{tests}
use Rattle.partial_workers.proofs.{Common.{rules, ◌≡◌, ◌∙◌, length, inl, Call}, Made.{refused_at, scanned_at}}
use Rattle.partial_model.proofs.ListLemmas.{written_whole}
use Rattle.partial_workers.proofs.worker.make.Goals as goal

pub returns-in-Update-clause-made : goal.returns-in-Update-clause-made
returns-in-Update-clause-made c = refused_at _ _ _ _ _ _ c.requires.own c.in-Update.is c.in-Err.ensures.refused

pub returns-in-Ok-clause-made : goal.returns-in-Ok-clause-made
returns-in-Ok-clause-made c =
    let same : c.args.call.now ≡ Call.Scan c.as_slice.result.now = search rules in
    let long : length c.scan.new.into ≡ length c.args.room.items = search rules in
    scanned_at _ _ _ _ _ _ _ _ same (c.from.ensures ∙ written_whole _ _ _ long (search rules)) c.in-Ok.ensures.answered

pub returns-in-Scan-clause-made : goal.returns-in-Scan-clause-made
returns-in-Scan-clause-made c =
    let same : c.args.call.now ≡ Call.Scan c.as_slice.result.now = search rules in
    refused_at _ _ _ _ _ _ c.requires.own same c.in-Err-scan.ensures.refused

pub returns-in-Read-clause-made : goal.returns-in-Read-clause-made
returns-in-Read-clause-made c = refused_at _ _ _ _ _ _ c.requires.own c.in-Read.is (inl c.in-Err-read.ensures.refused)

pub returns-clause-made : goal.returns-clause-made
returns-clause-made c = refused_at _ _ _ _ _ _ c.requires.own c.in-UpdateIf.is c.in-Err-update_if.ensures.refused

pub returns-in-Ok-Lost-clause-made : goal.returns-in-Ok-Lost-clause-made
returns-in-Ok-Lost-clause-made c = search (tests, rules)
