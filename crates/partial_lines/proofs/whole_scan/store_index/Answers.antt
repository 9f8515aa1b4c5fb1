use Rattle.partial_lines.proofs.{Common.{sym, ap, ◌∙◌, slice_index, at_stage, announcement_block}, Announcing.{store_due, store_then}}
use Rattle.partial_lines.proofs.whole_scan.store_index.Goals as goal

pub make-requires-clause-due : goal.make-requires-clause-due
make-requires-clause-due g c =
    let s = g.M.Makes.machine c.args.lines.now in
    let word = c.announcement_block_word-word.ensures ∙ ap (λ asked. slice_index (announcement_block asked) c.args.k) (sym c.requires.asked) in
    store_due s s _ _ (ap (at_stage s) c.requires.stage) _ word

pub returns-clause-machine : goal.returns-clause-machine
returns-clause-machine g c = let s = g.M.Makes.machine c.args.lines.now in store_then s s _ _ (ap (at_stage s) c.requires.stage) _ _ c.in_ok-make.ensures.machine
