use Rattle.partial_replay.proofs.{Common.{ℕ, ◌≡◌, ◌<◌, ◌∙◌, List, Option, length, None, slice_index_or, sym, ap, subst, vec_len, arith, rules, AllByRecursion, AreMarked, AreWanted, HasRecord, values_after, values_now}, ScanPlaces.{take_front, have_shown, least_shown, wanted_below}}
use Rattle.partial_replay.proofs.wanted.Wanted.scan_place.Goals as goal

pub least_prefix-least-requires-clause-entries : goal.least_prefix-least-requires-clause-entries
least_prefix-least-requires-clause-entries c =
    let room : c.args.self.now ≡ length c.deref.result.now = search rules in
    λ k e stands. subst (λ n. HasRecord c.args.words.now n e) room (c.requires.entries k e stands)

pub forget-requires-clause-components : goal.forget-requires-clause-components
forget-requires-clause-components c =
    let room : c.args.self.now ≡ length c.deref_mut-2.result.now = search rules in
    subst (λ n. AllByRecursion (λ j. j < n) c.args.components.now) room c.requires.components

pub forget-requires-clause-only : goal.forget-requires-clause-only
forget-requires-clause-only c =
    let room : length c.want.new.wanted ≡ vec_len c.self.inside.wanted = c.want.ensures.wanted_room ∙ c.deref_mut.ensures.len in
    let same : c.deref_mut-2.result.now ≡ c.want.new.wanted = c.deref_mut-2.ensures.value ∙ take_front (vec_len c.self.inside.wanted) c.want.new.wanted _ room in
    λ j v wants.
    let at = c.want.ensures.wanted.only j v (ap (λ (l : List (Option ℕ)). slice_index_or l j None) (sym same) ∙ wants) in
    (at.0, omega arith, at.1, at.2)

pub returns-clause-least : goal.returns-clause-least
returns-clause-least c =
    let h = c.args.history.now in
    let js = c.args.components.now in
    let vs = c.args.values.now in
    let room : length c.want.new.wanted ≡ vec_len c.self.inside.wanted = c.want.ensures.wanted_room ∙ c.deref_mut.ensures.len in
    let same : c.deref.result.now ≡ c.want.new.wanted = c.deref.ensures.value ∙ take_front (vec_len c.self.inside.wanted) c.want.new.wanted _ room in
    let wanted = subst (λ l. AreWanted l js vs (length js)) (sym same) c.want.ensures.wanted in
    let marked = subst (λ l. AreMarked l c.want.new.differing (values_now c.args.words.now)) (sym same) c.want.ensures.marked in
    λ o shown agrees below from within shows. least_shown o h c.deref.result.now js vs c.args.began shown c.least_prefix-least.result wanted shows
    (c.least_prefix-least.ensures.least o shown agrees (wanted_below o c.deref.result.now js vs below wanted) marked from within
    (have_shown c.deref.result.now js vs (values_after o h shown) wanted shows))
