use Rattle.partial_long_lived.proofs.{Common.{◌≡◌, ◌∙◌, true, false, is_some, not, refl, sym, ap, subst, IfErr, slice_index, length, ◌<◌, stamp_limit, unsealed, port_at, Layout, About, NotScanned, ArePublic}, DoubleCollect.{come_named, come_refused}, Stamps.{stamped_after, stamped_none}}
use Rattle.std.proofs.lemmas.Result.{err_from_is_err_and}
use Rattle.partial_model.proofs.IndexLaws.{none_of}
use Rattle.partial_long_lived.proofs.stamped.scan_stamped.Goals as goal

pub returns-then-double_collect-clause-scanned : goal.returns-then-double_collect-clause-scanned
returns-then-double_collect-clause-scanned c =
    let told = c.load_stamps.ensures in
    stamped_after _ _ _ _ _ _ _ _ _ (c.double_collect.ensures.scanned c.if-double_collect.true) refl told.kept told.same (told.lengths ∙ c.requires.stamps) told.stamps

pub returns-in_err-scanned-clause-refused : goal.returns-in_err-scanned-clause-refused
returns-in_err-scanned-clause-refused c =
    let d = c.double_collect.ensures in
    let p = err_from_is_err_and c.from_residual.result c.from_residual.ensures.1 in
    subst (λ r. IfErr r (NotScanned c.args.stand.now c.scan_announced.new.stand)) (sym p.1)
    (subst (NotScanned c.args.stand.now c.scan_announced.new.stand) (sym p.2) (come_refused _ _ _ d.stayed.come (d.notes c.if-double_collect.false) _ c.in_err-scanned.ensures.refused))

pub load_stamps-requires-then-is_none-clause-small : goal.load_stamps-requires-then-is_none-clause-small
load_stamps-requires-then-is_none-clause-small c = λ k low.
    let none = none_of _ (c.is_none.ensures ∙ ap not c.if-is_none.true) in
    subst (λ l. unsealed (slice_index l k) < stamp_limit) (sym c.last_loaded.ensures) (c.in_ok-scanned.ensures.scanned.stamps none k low).0

pub returns-then-is_none-clause-scanned : goal.returns-then-is_none-clause-scanned
returns-then-is_none-clause-scanned c =
    let d = c.double_collect.ensures in
    let none = none_of _ (c.is_none.ensures ∙ ap not c.if-is_none.true) in
    let named = come_named _ _ _ d.stayed.come (d.notes c.if-double_collect.false) _ _ _ _ _ c.in_ok-scanned.ensures.scanned in
    let told = c.load_stamps-then-is_none.ensures in
    stamped_after _ _ _ _ _ _ _ _ _ named none told.kept told.same (told.lengths ∙ c.requires.stamps)
    (subst (λ l. ArePublic (port_at c.scan_announced.new.stand) c.args.which.now l c.load_stamps-then-is_none.new.stamps (length c.args.which.now)) c.last_loaded.ensures told.stamps)

pub returns-else-is_none-clause-scanned : goal.returns-else-is_none-clause-scanned
returns-else-is_none-clause-scanned c =
    let d = c.double_collect.ensures in
    let named = come_named _ _ _ d.stayed.come (d.notes c.if-double_collect.false) _ _ _ _ _ c.in_ok-scanned.ensures.scanned in
    stamped_none _ _ _ _ _ _ _ _ (c.is_none.ensures ∙ ap not c.if-is_none.false) named

pub returns-in_err-scanned-2-clause-refused : goal.returns-in_err-scanned-2-clause-refused
returns-in_err-scanned-2-clause-refused c =
    let d = c.double_collect.ensures in
    let p = err_from_is_err_and c.from_residual-in_err-scanned-2.result c.from_residual-in_err-scanned-2.ensures.1 in
    subst (λ r. IfErr r (NotScanned c.args.stand.now c.scan_by_change.new.stand)) (sym p.1)
    (subst (NotScanned c.args.stand.now c.scan_by_change.new.stand) (sym p.2) (come_refused _ _ _ d.stayed.come (d.notes c.if-double_collect.false) _ c.in_err-scanned-2.ensures.refused))

pub load_stamps-requires-2-clause-inside : goal.load_stamps-requires-2-clause-inside
load_stamps-requires-2-clause-inside c = λ k low.
    let r = c.requires in
    subst (λ (z : Layout). slice_index c.args.which.now k < z.m) (r.rests.sizes ∙ ap (λ (a : About). a.sizes) r.held.own) (r.asked.each k low)

pub load_stamps-requires-2-clause-small : goal.load_stamps-requires-2-clause-small
load_stamps-requires-2-clause-small c = λ k low. let s = c.in_ok-scanned-2.ensures in (s.scanned.stamps s.unhelped k low).0

pub returns-clause-scanned : goal.returns-clause-scanned
returns-clause-scanned c =
    let d = c.double_collect.ensures in
    let s = c.in_ok-scanned-2.ensures in
    let named = come_named _ _ _ d.stayed.come (d.notes c.if-double_collect.false) _ _ _ _ _ s.scanned in
    let told = c.load_stamps-2.ensures in
    stamped_after _ _ _ _ _ _ _ _ _ named s.unhelped told.kept told.same (told.lengths ∙ c.requires.stamps) told.stamps

pub returns-clause-helped : goal.returns-clause-helped
returns-clause-helped c = λ some. let bad : false ≡ true = sym (ap is_some c.in_ok-scanned-2.ensures.unhelped) ∙ some in absurd cc
