-- What a port has seen of its epoch it finds in the words of its arena.
use Rattle.partial_epochs.proofs.{Common.{ℕ, ◌≡◌, ◌+◌, ◌<◌, ◌≤◌, List, length, take, slice_index, sym, ap, subst, ◌∙◌, arith, Applied, Opening, stamp_of, value_of, stamp_all, take_within, total, RecordsAreWithin, lawful_records_are_within, list_of, Plan, arena_words, base, opened_after, Port, Beside, IsStanding, LawfulEpochs, IsSeenRecord, SeenRecordsStay, value_behind_stamp, value_word, view_word}, Continue.{all_taken, carried_there, before_is_epoch}, Offsets.below_whole, Seats.{known, seen_few}, Worded.{plain_at, plain_other}}
use Rattle.partial_core.specs.Lawful as one

module _ (e : Plan) (words : List ℕ) (ports : ℕ → Port) (b : Beside) (k j : ℕ) (w : LawfulEpochs e words ports b) (below : k < e.ports) (inside : j < e.sizes.m) (s : IsStanding b k (ports k)) where
  abbrev x : ℕ
  x = (ports k).control.here.arena

  abbrev o : Opening
  o = opened_after e.opening (ports k).before

  abbrev bw : List ℕ
  bw = arena_words e words x

  abbrev seen : List Applied
  seen = (ports k).part.seen

  facts : RecordsAreWithin e.sizes o bw s.epoch.log
  facts = lawful_records_are_within e.sizes o bw (list_of s.epoch.part 0 e.ports) s.epoch.log
      (subst (λ (l : List (List Applied)). one.Lawful e.sizes (opened_after e.opening l) bw (list_of s.epoch.part 0 e.ports) s.epoch.log) s.before (w.arenas x s.epoch s.is).lawful)

  count : length bw ≡ total e.sizes
  count = (w.arenas x s.epoch s.is).lawful.memory.count

  begins : seen ≡ take (length seen) s.epoch.log
  begins = (known e words ports b w k below (ports k) s).seen

  -- at each length of what the port has seen
  module _ (n : ℕ) (few : n ≤ length seen) where
    abbrev at : ℕ
    at = stamp_of (opened_after e.opening (ports k).before) (take n (ports k).part.seen) j

    taken : take n (ports k).part.seen ≡ take n s.epoch.log
    taken = ap (take n) begins ∙ take_within n (length seen) s.epoch.log few

    lies : (e.sizes.m ≤ at) × (view_word at < length bw)
    lies = subst (λ (h : List Applied). (e.sizes.m ≤ stamp_of o h j) × (view_word (stamp_of o h j) < length bw)) (sym taken)
        (stamp_all (λ i. (e.sizes.m ≤ i) × (view_word i < length bw)) o j (take n s.epoch.log)
        (all_taken (λ (a : Applied). (e.sizes.m ≤ a.stamp) × (view_word a.stamp < length bw)) s.epoch.log n facts.entries) (facts.initial j inside))

    arena_is : x < e.arenas
    arena_is = (w.control.sites k below).arena

    stands_there : base e x + value_word at < length words
    stands_there =
        let up = lies.1 in
        let c = count in
        let all = w.count in
        let low = below_whole e x (value_word at) arena_is (omega (arith, up, c)) in
        omega (arith, low, all)

    read : slice_index words (base e x + value_word at) ≡ value_of o (take n seen) j
    read =
        let from = lies.0 in
        let up = lies.1 in
        let c = count in
        let values = facts.values in
        sym (plain_at e words x (value_word at) (omega (arith, up, c)) ∙ plain_other e words x (value_word at) (slice_index words (base e x + value_word at)) (omega (arith, from)))
        ∙ ap (λ (h : List Applied). slice_index bw (value_word (stamp_of o h j))) taken
        ∙ value_behind_stamp o bw s.epoch.log j n facts.agrees (omega (arith, values, inside))
        ∙ ap (λ (h : List Applied). value_of o h j) (sym taken)

    is_record : IsSeenRecord e words (ports k) j n
    is_record =
        let from = lies.0 in
        let up = lies.1 in
        let c = count in
        let sizes = w.plan.sizes in
        let some = sizes.components.0 in
        let few_components = sizes.components.1 in
        let few_slots = sizes.slots.1 in
        let few_lists = sizes.lists in
        let few_pool = sizes.pool.1 in
        record {
          some = omega (arith, from, some);
          small = omega (arith, up, c, few_components, few_slots, few_lists, few_pool);
          within = omega (arith, up, c);
          there = stands_there;
          value = read;
        }

pub seen_records_stay : SeenRecordsStay
seen_records_stay e words ports b k j w below stands inside s = record {
  seen = begins e words ports b k j w below inside s;
  few = seen_few e words ports b w k below (ports k) s;
  epoch = before_is_epoch e words ports b k w s below stands;
  values = (facts e words ports b k j w below inside s).values;
  each = is_record e words ports b k j w below inside s;
  there =
      let low = below_whole e (ports k).control.here.arena (total e.sizes + j) (w.control.sites k below).arena (omega (arith, inside)) in
      let all = w.count in
      omega (arith, low, all);
  carried = carried_there e words ports b k w s j inside;
}
