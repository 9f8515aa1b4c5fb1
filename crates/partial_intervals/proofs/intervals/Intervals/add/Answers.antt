use Rattle.partial_intervals.proofs.{Common.{◌≡◌, refl, ap, ◌∙◌, arith, insert, remove, false≢true, iff_false, Set}, Edits.{adds_before, adds_after, adds_between, adds_alone}}
use Rattle.std.proofs.lemmas.Grind.{common_steps}
use Rattle.partial_intervals.proofs.intervals.Intervals.add.Goals as goal

-- the two intervals become one
pub invariant_of-self : goal.invariant_of-self
invariant_of-self c =
    let same = ap (λ (s : Set). s.list) c.self.view_is in
    let here = c.count_up_to-count.ensures in
    let removed = c.remove-after.ensures.items ∙ ap (λ list. remove list c.count_up_to-count.result) same in
    let adds = adds_between c.args.self.now.list here.normal c.args.l c.requires.small c.count_up_to-count.result here.count (iff_false c.reaches.ensures c.if-reaches.false) c.index_mut.result.now
    c.remove-after.result (rw removed at c.index_mut.ensures.value) (rw same at c.remove-after.ensures.value) (c.in-true-true.ensures.0 refl) (c.in-true-true.ensures'.0 refl) in
    rw removed adds.normal

pub returns-in-true-true-clause-set : goal.returns-in-true-true-clause-set
returns-in-true-true-clause-set c =
    let same = ap (λ (s : Set). s.list) c.self.view_is in
    let here = c.count_up_to-count.ensures in
    let removed = c.remove-after.ensures.items ∙ ap (λ list. remove list c.count_up_to-count.result) same in
    let adds = adds_between c.args.self.now.list here.normal c.args.l c.requires.small c.count_up_to-count.result here.count (iff_false c.reaches.ensures c.if-reaches.false) c.index_mut.result.now
    c.remove-after.result (rw removed at c.index_mut.ensures.value) (rw same at c.remove-after.ensures.value) (c.in-true-true.ensures.0 refl) (c.in-true-true.ensures'.0 refl) in
    rw removed adds.held

pub returns-in-true-true-clause-normal : goal.returns-in-true-true-clause-normal
returns-in-true-true-clause-normal c =
    let same = ap (λ (s : Set). s.list) c.self.view_is in
    let here = c.count_up_to-count.ensures in
    let removed = c.remove-after.ensures.items ∙ ap (λ list. remove list c.count_up_to-count.result) same in
    let adds = adds_between c.args.self.now.list here.normal c.args.l c.requires.small c.count_up_to-count.result here.count (iff_false c.reaches.ensures c.if-reaches.false) c.index_mut.result.now
    c.remove-after.result (rw removed at c.index_mut.ensures.value) (rw same at c.remove-after.ensures.value) (c.in-true-true.ensures.0 refl) (c.in-true-true.ensures'.0 refl) in
    rw removed adds.normal

-- the interval before grows by l
pub invariant_of-self-in-true-false : goal.invariant_of-self-in-true-false
invariant_of-self-in-true-false c =
    let same = ap (λ (s : Set). s.list) c.self.view_is in
    let here = c.count_up_to-count.ensures in
    let adds = adds_before c.args.self.now.list here.normal c.args.l c.requires.small c.count_up_to-count.result here.count (iff_false c.reaches.ensures c.if-reaches.false)
    c.index_mut-in-true-false.result.now (rw same at c.index_mut-in-true-false.ensures.value) (c.in-true-false.ensures.0 refl) (λ h. false≢true (c.in-true-false.ensures'.1 h)) in
    rw same adds.normal

pub returns-in-true-false-clause-set : goal.returns-in-true-false-clause-set
returns-in-true-false-clause-set c =
    let same = ap (λ (s : Set). s.list) c.self.view_is in
    let here = c.count_up_to-count.ensures in
    let adds = adds_before c.args.self.now.list here.normal c.args.l c.requires.small c.count_up_to-count.result here.count (iff_false c.reaches.ensures c.if-reaches.false)
    c.index_mut-in-true-false.result.now (rw same at c.index_mut-in-true-false.ensures.value) (c.in-true-false.ensures.0 refl) (λ h. false≢true (c.in-true-false.ensures'.1 h)) in
    rw same adds.held

pub returns-in-true-false-clause-normal : goal.returns-in-true-false-clause-normal
returns-in-true-false-clause-normal c =
    let same = ap (λ (s : Set). s.list) c.self.view_is in
    let here = c.count_up_to-count.ensures in
    let adds = adds_before c.args.self.now.list here.normal c.args.l c.requires.small c.count_up_to-count.result here.count (iff_false c.reaches.ensures c.if-reaches.false)
    c.index_mut-in-true-false.result.now (rw same at c.index_mut-in-true-false.ensures.value) (c.in-true-false.ensures.0 refl) (λ h. false≢true (c.in-true-false.ensures'.1 h)) in
    rw same adds.normal

-- the interval after grows by l
pub returns-in-false-true-clause-set : goal.returns-in-false-true-clause-set
returns-in-false-true-clause-set c =
    let same = ap (λ (s : Set). s.list) c.self.view_is in
    let here = c.count_up_to-count.ensures in
    let adds = adds_after c.args.self.now.list here.normal c.args.l c.requires.small c.count_up_to-count.result here.count (iff_false c.reaches.ensures c.if-reaches.false)
    c.index_mut-in-false-true.result.now (rw same at c.index_mut-in-false-true.ensures.value) (λ h. false≢true (c.in-false-true.ensures.1 h)) (c.in-false-true.ensures'.0 refl) in
    rw same adds.held

-- l has an interval of its own
pub invariant_of-self-in-false-false : goal.invariant_of-self-in-false-false
invariant_of-self-in-false-false c =
    let same = ap (λ (s : Set). s.list) c.self.view_is in
    let here = c.count_up_to-count.ensures in
    let adds = adds_alone c.args.self.now.list here.normal c.args.l c.requires.small c.count_up_to-count.result here.count (iff_false c.reaches.ensures c.if-reaches.false)
    (λ h. false≢true (c.in-false-false.ensures.1 h)) (λ h. false≢true (c.in-false-false.ensures'.1 h)) in
    let inserted : c.insert.new.self.items ≡ insert c.self.inside.list.items c.count_up_to-count.result (c.args.l, c.args.l) = grind (arith, common_steps, c.self.view_is, c.requires.room) in
    rw (inserted, same) adds.normal

pub returns-in-false-false-clause-set : goal.returns-in-false-false-clause-set
returns-in-false-false-clause-set c =
    let same = ap (λ (s : Set). s.list) c.self.view_is in
    let here = c.count_up_to-count.ensures in
    let adds = adds_alone c.args.self.now.list here.normal c.args.l c.requires.small c.count_up_to-count.result here.count (iff_false c.reaches.ensures c.if-reaches.false)
    (λ h. false≢true (c.in-false-false.ensures.1 h)) (λ h. false≢true (c.in-false-false.ensures'.1 h)) in
    let inserted : c.insert.new.self.items ≡ insert c.self.inside.list.items c.count_up_to-count.result (c.args.l, c.args.l) = grind (arith, common_steps, c.self.view_is, c.requires.room) in
    rw (inserted, same) adds.held

pub returns-in-false-false-clause-normal : goal.returns-in-false-false-clause-normal
returns-in-false-false-clause-normal c =
    let same = ap (λ (s : Set). s.list) c.self.view_is in
    let here = c.count_up_to-count.ensures in
    let adds = adds_alone c.args.self.now.list here.normal c.args.l c.requires.small c.count_up_to-count.result here.count (iff_false c.reaches.ensures c.if-reaches.false)
    (λ h. false≢true (c.in-false-false.ensures.1 h)) (λ h. false≢true (c.in-false-false.ensures'.1 h)) in
    let inserted : c.insert.new.self.items ≡ insert c.self.inside.list.items c.count_up_to-count.result (c.args.l, c.args.l) = grind (arith, common_steps, c.self.view_is, c.requires.room) in
    rw (inserted, same) adds.normal
