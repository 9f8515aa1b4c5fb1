-- The words of the current arena hold the last values.
use Rattle.partial_long_lived.proofs.Common.{ℕ, ◌≡◌, ◌+◌, ◌<◌, ◌≤◌, List, length, take, slice_index, sym, ap, subst, ◌∙◌, arith, take_all, Applied, Opening, stamp_of, value_of, all_weaker, stamp_all, total, lawful_records_are_within, list_of, Plan, arena_words, base, unsealed, opened_after, Port, Beside, LawfulEpochs, one_history, epochs_continue, current_is, below_whole, HaveLast, arena_now, component_now, value_now, view_word, value_word}
use Rattle.partial_words.proofs.ChainLemmas.{records_within, value_behind_stamp}
use Rattle.partial_core.specs.Lawful as one
use Rattle.partial_epochs.proofs.Worded.{plain_at, plain_component, plain_other}

module _ (e : Plan) (words : List ℕ) (ports : ℕ → Port) (b : Beside) (w : LawfulEpochs e words ports b) where
  -- the current word names the current arena
  arena_is : arena_now words ≡ b.arena
  arena_is =
      let some = w.plan.some in
      let few = w.plan.arenas in
      let low = w.control.site.arena in
      let is = current_is e words ports b 0 w (omega (arith, some)) in
      omega (arith, is, few, low)

  abbrev o : Opening
  o = opened_after e.opening b.before

  abbrev inner : List ℕ
  inner = arena_words e words b.arena

  lawful : (parts : List (Rattle.partial_core.specs.Part.Part)) × one.Lawful e.sizes o inner parts b.log
  lawful = (
    list_of w.now.0.part 0 e.ports,
    subst (λ (l : List (List Applied)). one.Lawful e.sizes (opened_after e.opening l) inner (list_of w.now.0.part 0 e.ports) b.log) w.now.3
        (subst (λ (l : List Applied). one.Lawful e.sizes (opened_after e.opening w.now.0.before) inner (list_of w.now.0.part 0 e.ports) l) w.now.2 (w.arenas b.arena w.now.0 w.now.1).lawful),
  )

  module _ (j : ℕ) (inside : j < e.sizes.m) where
    abbrev raw : ℕ
    raw = slice_index words (base e b.arena + j)

    named : unsealed raw ≡ stamp_of o b.log j
    named =
        let long = lawful.1.memory.values in
        sym (plain_at e words b.arena j (omega (arith, inside)) ∙ plain_component e words b.arena j raw inside) ∙ (lawful.1.memory.agrees j (omega (arith, long, inside))).0

    -- the record lies after the component words, and within the arena
    above : e.sizes.m ≤ stamp_of o b.log j
    above =
        let r = lawful_records_are_within e.sizes o inner lawful.0 b.log lawful.1 in
        stamp_all (λ n. e.sizes.m ≤ n) o j b.log
        (all_weaker (λ (a : Applied). (e.sizes.m ≤ a.stamp) × (view_word a.stamp < length inner)) (λ (a : Applied). e.sizes.m ≤ a.stamp) (λ a h. h.0) b.log r.entries) (r.initial j inside).0

    within : view_word (unsealed raw) < total e.sizes
    within =
        let long = lawful.1.memory.values in
        let count = lawful.1.memory.count in
        let r = (records_within o inner b.log lawful.1.memory.agrees).components j (omega (arith, long, inside)) in
        let same = plain_at e words b.arena j (omega (arith, inside)) ∙ plain_component e words b.arena j raw inside in
        omega (arith, r, count, same)

    value : slice_index words (base e b.arena + value_word (unsealed raw)) ≡ value_of e.opening (one_history b) j
    value =
        let long = lawful.1.memory.values in
        let at = named in
        let from = above in
        let up = within in
        let values = w.plan.values in
        let all : take (length b.log) b.log ≡ b.log = take_all (length b.log) b.log (omega arith) in
        let here = plain_at e words b.arena (value_word (unsealed raw)) (omega (arith, up)) in
        let other = plain_other e words b.arena (value_word (unsealed raw)) (slice_index words (base e b.arena + value_word (unsealed raw))) (omega (arith, at, from)) in
        sym (here ∙ other)
        ∙ ap (λ n. slice_index inner (value_word n)) named
        ∙ ap (λ (h : List Applied). slice_index inner (value_word (stamp_of o h j))) (sym all)
        ∙ value_behind_stamp o inner b.log j (length b.log) lawful.1.memory.agrees (omega (arith, long, inside))
        ∙ ap (λ (h : List Applied). value_of o h j) all
        ∙ sym (epochs_continue e.opening b.log b.before j (omega (arith, values, inside))).value

    pub value_last : slice_index words (value_now e words j) ≡ value_of e.opening (one_history b) j
    value_last = ap (λ x. slice_index words (base e x + value_word (unsealed (slice_index words (base e x + j))))) arena_is ∙ value

    component_there : component_now e words j < length words
    component_there =
        let low = below_whole e b.arena j w.control.site.arena (omega (arith, inside)) in
        subst (λ x. base e x + j < length words) (sym arena_is) (let all = w.count in omega (arith, low, all))

    value_there : value_now e words j < length words
    value_there =
        let up = within in
        let low = below_whole e b.arena (value_word (unsealed raw)) w.control.site.arena (omega (arith, up)) in
        subst (λ x. base e x + value_word (unsealed (slice_index words (base e x + j))) < length words) (sym arena_is) (let all = w.count in omega (arith, low, all))

  pub have_last : HaveLast e words
  have_last = record {
    some = let all = w.count in omega (arith, all);
    arena = subst (λ x. x < e.arenas) (sym arena_is) w.control.site.arena;
    components = component_there;
    values = value_there;
  }
