use Rattle.partial_lines.proofs.{Common.{◌≡◌, ◌+◌, ◌<◌, ◌≤◌, ◌∙◌, ap, sym, arith, CoreState, pool_end, record_size, claim_size, with_spare, Block}, Writing.{first_due, claim_begun}}
use Rattle.partial_lines.proofs.update.begin_record.Goals as goal

pub make-requires-3-clause-due : goal.make-requires-3-clause-due
make-requires-3-clause-due g c =
    let r = c.requires in
    let s : CoreState = g.M.Makes.machine c.args.lines.now in
    let at = c.in_ok-at.at in
    let end : c.from-end.result ≡ pool_end s.sizes = c.from-end.ensures ∙ c.pool_end.ensures ∙ ap pool_end (c.sizes-sizes.ensures ∙ sym r.sizes) in
    let room : c.spare-at.result.size ≡ s.spare.size = ap (λ (b : Block). b.size) (c.spare-at.ensures.value ∙ sym r.spare) in
    let ahead : c.from-ahead.result ≡ s.ahead = c.from-ahead.ensures ∙ c.ahead.ensures.value ∙ sym r.ahead in
    let size = r.size in
    let less = c.if-size-room.false in
    let short : s.spare.size < record_size s = omega (arith, room, size, less) in
    let within = c.if-at-size.false in
    let fits : at + claim_size s ≤ pool_end s.sizes = omega (arith, within, end, ahead, size) in
    first_due (with_spare s (at + record_size s) s.ahead) _ c.args.change c.args.old at
    (claim_begun s c.args.change c.args.old r.stage _ at c.in_ok-at.ensures.machine short fits)
