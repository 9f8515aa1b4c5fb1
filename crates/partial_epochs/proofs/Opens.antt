-- An arena that was used before opens lawful again once the words below the first free one are set: what stands after them doesn't matter.
use Rattle.partial_epochs.proofs.Common.{ℕ, ◌≡◌, ◌+◌, ◌*◌, ◌<◌, ◌≤◌, ◌++◌, List, [], ◌∷◌, length, Some, None, IfSome, sym, ap, subst, inl, inr, arith, ◌∙◌, Opening, places_written, Layout, slot_counter, list_head, pool_counter, list_counter, slot_word, list_base, pool_base, total, initial_record, Holding, EachTwo, announcements, spares, unpublished, IsTied, LawfulWords, holdings, fresh_parts, OpensOver, OpensOverLawful, initial_words, most_ports, first_free, initial_stamp, slice_index, view_word, view_of, prev_word, value_word, plain_record_size, opening_component, opening_record, initial_value, initial_prev, initial_view, idle_length, idle_all, idle_ports, idle_slots, none_announced, none_spared, none_written, spares_open, pool_opens, slot_opens, list_opens, lists_open, slots_open, counters_open, none_marked}
use Rattle.partial_model.specs.History.{last_from}
use Rattle.partial_words.specs.Chain.{Agrees, links_from}
use Rattle.partial_state.specs.{Views.{Block, AreApart}, Effects.idle_holdings}
use Rattle.partial_core.proofs.Opened.{hold_nothing, fresh_known, fresh_notes}

-- the view of the initial record of component j is the empty one
view_opens : (s : Layout) (o : Opening) (words : List ℕ) (j : ℕ) → OpensOver s o words → j < s.m → view_of words (initial_record s j) ≡ 0
view_opens s o words j opens below =
    let pool : initial_words s ≤ s.pool = opens.sizes.pool.0 in
    let at : view_word (initial_record s j) ≡ pool_base s + view_word (plain_record_size * j) = omega arith in
    ap (slice_index words) at ∙ opens.each (pool_base s + view_word (plain_record_size * j)) (omega (arith, pool, below)) (inr (omega arith))
    ∙ opening_record s o.values (view_word (plain_record_size * j)) (omega (arith, below))
    ∙ initial_view o.values j

-- component j of an opening names its initial record, which holds its value and has none before it
opening_agrees : (s : Layout) (o : Opening) (words : List ℕ) → OpensOver s o words → Agrees o words []
unfolding last_from links_from
opening_agrees s o words opens j below =
    let in' : j < s.m = omega (arith, opens.values, below) in
    let pool : initial_words s ≤ s.pool = opens.sizes.pool.0 in
    let named : slice_index words j ≡ initial_record s j = opens.each j (omega arith) (inl (omega (arith, in'))) ∙ opening_component s o.values j in' in
    let prev : slice_index words (pool_base s + prev_word (plain_record_size * j)) ≡ 0 =
    opens.each (pool_base s + prev_word (plain_record_size * j)) (omega arith) (inr (omega arith))
    ∙ opening_record s o.values (prev_word (plain_record_size * j))
    (omega arith) ∙ initial_prev o.values j in
    let value : slice_index words (pool_base s + value_word (plain_record_size * j)) ≡ slice_index o.values j =
    opens.each (pool_base s + value_word (plain_record_size * j)) (omega arith) (inr (omega arith))
    ∙ opening_record s o.values (value_word (plain_record_size * j))
    (omega arith) ∙ initial_value o.values j in
    let stamp : initial_stamp o j ≡ initial_record s j = ap (λ n. n + plain_record_size * j) opens.stamps in
    let next : value_word (slice_index words j) ≡ pool_base s + value_word (plain_record_size * j) = omega (arith, named) in
    let before : prev_word (slice_index words j) ≡ pool_base s + prev_word (plain_record_size * j) = omega (arith, named) in
    let count : length words ≡ total s = opens.count in
    (named ∙ sym stamp, (record { stamp = stamp ∙ sym named; within = omega (arith, named, count, pool, in'); value = ap (slice_index words) next ∙ value }, ap (slice_index words) before ∙ prev))

-- no slot is claimed
pub no_slot_claimed : (z : Layout) (o : Opening) (words : List ℕ) → OpensOver z o words → slice_index words (slot_counter z) ≡ 0
no_slot_claimed z o words opens =
    let some = opens.sizes.slots.0 in opens.each (slot_counter z) (omega (arith, some)) (inl (omega (arith, some))) ∙ slot_opens z o.values some

opening_is_lawful : (z : Layout) (o : Opening) (words : List ℕ) (n : ℕ) → OpensOver z o words → n ≤ most_ports → LawfulWords z o words (idle_holdings z 0 n) []
opening_is_lawful z o words n opens few =
    let some = opens.sizes.slots.0 in
    let pool : slice_index words (pool_counter z) ≡ first_free z = opens.each (pool_counter z) (omega (arith, some)) (inl (omega (arith, some))) ∙ pool_opens z o.values in
    let slots = no_slot_claimed z o words opens in
    let head : slice_index words (list_head z) ≡ 0 = opens.each (list_head z) (omega (arith, some)) (inl (omega (arith, some))) ∙ list_opens z o.values some in
    let lists : slice_index words (list_counter z) ≡ list_base z = opens.each (list_counter z) (omega (arith, some)) (inl (omega (arith, some))) ∙ lists_open z o.values some in
    let room = opens.sizes.pool.0 in
    let count = idle_length z 0 n in
    let blocks : announcements (idle_holdings z 0 n) ++ unpublished (idle_holdings z 0 n) ≡ spares (idle_holdings z 0 n) = ap (λ (l : List Block). l ++ unpublished (idle_holdings z 0 n))
    (none_announced z 0 n) ∙ ap (λ (l : List Block). l ++ spares (idle_holdings z 0 n)) (none_written z 0 n) in
    record {
      sizes = opens.sizes;
      values = opens.values;
      stamps = opens.stamps;
      count = opens.count;
      few = omega (arith, count, few);
      ports = idle_ports z 0 n;
      history = record { components = tt; distinct = tt; not_initial = tt };
      agrees = opening_agrees z o words opens;
      initial = λ j below. view_opens z o words j opens below;
      entries = tt;
      tied = idle_all z (IsTied z words) (λ p. record {
        own = tt;
        spare = record { above = omega arith; within = omega (arith, room); below = omega (arith, pool) };
        marked = λ c m. absurd (none_marked z p c m);
      }) 0 n;
      apart = subst (λ (l : List Block). EachTwo AreApart (record { at = pool_base z; size = initial_words z } ∷ l)) (sym blocks)
          (none_spared z (record { at = pool_base z; size = initial_words z }) (inl (omega arith)) 0 n, spares_open z 0 n);
      fresh = λ k e s. let bad : None ≡ Some e = s in cc;
      covering = tt;
      due = idle_all z (λ h. IfSome h.due _) (λ p. tt) 0 n;
      unclaimed = λ l from below. opens.each (slot_word z l) (omega (arith, below)) (inl (omega (arith, below))) ∙ slots_open z o.values l below;
      taken = λ l below inside. absurd (omega (arith, slots, below));
      claims = idle_all z (λ h. IfSome h.claimed _) (λ p. tt) 0 n;
      owners = idle_slots z 0 n;
      head = inl head;
      counters = counters_open z words (idle_holdings z 0 n) pool slots lists room;
    }

pub opens_over : OpensOverLawful
opens_over z o words n opens few = record {
  memory = subst (λ (hs : List Holding). LawfulWords z o words hs []) (sym (hold_nothing z 0 n)) (opening_is_lawful z o words n opens few);
  once = λ p. ap places_written (sym (fresh_notes z p 0 n));
  known = fresh_known z o words (holdings (fresh_parts z 0 n)) 0 n opens.sizes (omega (arith, few));
}
