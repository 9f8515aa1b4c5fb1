use Rattle.std.proofs.Common.{arith}
use Rattle.partial_long_lived.proofs.{Common.{refl, ◌∙◌}, Scans.{claim_asked, claim_there, scan_begun, scan_going}}
use Rattle.partial_long_lived.proofs.scan.begin_scan.Goals as goal

pub fetch_add-requires : goal.fetch_add-requires
fetch_add-requires g c =
    let h = c.requires.held in
    let at = c.from.ensures ∙ c.pool_counter.ensures in
    let begins = c.requires.begins in
    let many = c.announcement_size-size.ensures in
    let moment = c.requires.moment in
    (h.fits, claim_there _ _ _ h _ c.args.core.now c.args.which.now moment begins _ _ at many, claim_asked _ _ _ h _ c.args.core.now c.args.which.now moment begins _ _ at many _ _)

pub returns-clause-going : goal.returns-clause-going
returns-clause-going g c =
    let at = c.from.ensures ∙ c.pool_counter.ensures in
    let told = c.fetch_add.ensures.2 in
    let r = c.requires in
    let many = c.announcement_size-size.ensures in
    scan_going _ _ _ r.held _ c.args.core.now c.args.which.now r.moment r.begins _ _ at many _ c.fetch_add.ensures.0 told.0 told.1 _ told.2 refl refl refl refl refl refl

pub returns-clause-begun : goal.returns-clause-begun
returns-clause-begun g c =
    let at = c.from.ensures ∙ c.pool_counter.ensures in
    let told = c.fetch_add.ensures.2 in
    let r = c.requires in
    let many = c.announcement_size-size.ensures in
    scan_begun _ _ _ r.held _ c.args.core.now c.args.which.now r.moment r.begins _ _ at many _ c.fetch_add.ensures.0 told.0 told.1 _ told.2 refl refl refl refl refl refl

pub returns-clause-steps : goal.returns-clause-steps
returns-clause-steps g c = let one = c.fetch_add.ensures.3 in omega (arith, one)
