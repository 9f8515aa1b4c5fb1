-- No machine is spent, neither for the pool nor for the slots, and none is refused.
use Rattle.partial_epochs.proofs.{Common.{Option, ℕ, ◌≡◌, ◌≢◌, ◌<◌, Bool, true, false, Some, List, refl, sym, ap, subst, ◌∙◌, inl, inr, arith, ◌||◌, Opening, all_at, Step, answer_of, words_after, Reply, CoreState, advance, reply_of, IsTied, IsMachineOf, Part, PartAmong, core_of, holdings, joined_since, put, Plan, arena_words, carried_words, component_words, based_step, opened_after, Control, Epoch, Port, Stands, Beside, IsArena, IsStanding, LawfulEpochs, HaveSlots, MachineLeads, MachinesAreNeverRefused, MachinesAreNeverSpent, claims_no_more, holding_in, memory_at, PoolWords, Slots}, Lists.{Around, around_of, count_few, put_same}, Slots.pool_within}
use Rattle.partial_model.specs.declared.call.Refused.{Refused}
use Rattle.partial_machine.specs.Behind.{refuses_pool, refuses_slots}
use Rattle.partial_core.specs.Lawful as one

pub not_true : (b : Bool) → (b ≡ true → ⊥) → b ≡ false
not_true true h = absurd (h refl)
not_true false h = refl

module _ (e : Plan) (words : List ℕ) (ports : ℕ → Port) (b : Beside) (k : ℕ) (w : LawfulEpochs e words ports b) (below : k < e.ports)
    (stands : (ports k).control.entering ≡ Stands) (have : HaveSlots e) where
  abbrev s : IsStanding b k (ports k)
  s = w.standing k below stands

  abbrev x : ℕ
  x = (ports k).control.here.arena

  abbrev r : Epoch
  r = s.epoch

  abbrev bw : List ℕ
  bw = arena_words e words x

  abbrev o : Opening
  o = opened_after e.opening r.before

  arena : IsArena e bw (component_words e words x) (carried_words e words x) r (x ≢ b.arena)
  arena = w.arenas x r s.is

  around : Around r.part 0 e.ports k
  around = around_of r.part 0 e.ports k (omega arith) (omega (arith, below))

  tied : IsTied e.sizes bw (holding_in (core_of (r.part k)) (core_of (r.part k)).stage (joined_since (r.part k)))
  tied =
      let m : PartAmong = record { words = bw; before = around.before; part = r.part k; after = around.after; log = r.log } in
      let lawful : one.LawfulAmong e.sizes o m = subst (λ (l : List Part). one.Lawful e.sizes o bw l r.log) around.is arena.lawful in
      let memory = memory_at e.sizes o m lawful (core_of (r.part k)).stage refl in
      all_at (IsTied e.sizes bw) (holdings around.before) (holding_in (core_of (r.part k)) (core_of (r.part k)).stage (joined_since (r.part k))) (holdings around.after) memory.tied

  -- neither counter is past its end
  core_unspent : ((core_of (r.part k)).pool_spent ≡ false) × ((core_of (r.part k)).slots_spent ≡ false)
  core_unspent =
      let within = pool_within e bw (component_words e words x) (carried_words e words x) r (x ≢ b.arena) w.plan arena in
      let claimed = arena.slots in
      let few = count_few (λ q. claims_no_more (r.over q) (r.part q)) 0 e.ports in
      let marked = tied in (
        not_true (core_of (r.part k)).pool_spent (λ on. let past = marked.marked PoolWords on in omega (arith, past, within)),
        not_true (core_of (r.part k)).slots_spent (λ on. let past = marked.marked Slots on in omega (arith, past, claimed, few, have)),
      )

  pub unspent : (c : CoreState) → IsMachineOf c (ports k).part → (c.pool_spent ≡ false) × (c.slots_spent ≡ false)
  unspent c machine = by (subst (IsMachineOf c) (sym s.part) machine)
    where
      by : IsMachineOf c (r.part k) → (c.pool_spent ≡ false) × (c.slots_spent ≡ false)
      by (inl begun) = (begun.like.pool ∙ core_unspent.0, begun.like.slots ∙ core_unspent.1)
      by (inr led) = (ap (λ (c : CoreState). c.pool_spent) led.is ∙ core_unspent.0, ap (λ (c : CoreState). c.slots_spent) led.is ∙ core_unspent.1)

pub machines_are_never_spent : MachinesAreNeverSpent
machines_are_never_spent e words ports b k c w below stands have machine = unspent e words ports b k w below stands have c machine

module _ (e : Plan) (words : List ℕ) (ports : ℕ → Port) (b : Beside) (k : ℕ) (c : CoreState) (step : Step) (below : k < e.ports) (stands : (ports k).control.entering ≡ Stands)
    (have : HaveSlots e) (lead : MachineLeads e words ports b k c step) where
  abbrev words' : List ℕ
  words' = words_after words (based_step e (ports k).control.here.arena step)

  abbrev c' : CoreState
  c' = advance c (answer_of (arena_words e words (ports k).control.here.arena) step)

  here : put k lead.port ports k ≡ lead.port
  here = put_same k lead.port ports

  unspent_then : (c'.pool_spent ≡ false) × (c'.slots_spent ≡ false)
  unspent_then = unspent e words' (put k lead.port ports) lead.beside k lead.lawful below
      (subst (λ (p : Port). p.control.entering ≡ Stands) (sym here) (ap (λ (t : Control). t.entering) lead.control ∙ stands)) have c'
      (subst (λ (p : Port). IsMachineOf c' p.part) (sym here) (inr lead.tells.machine))

  pub unrefused : (cause : Refused) → reply_of c' ≢ Some (Reply.Refused cause)
  unrefused Refused.Component is = (lead.tells.behind.refused_by Refused.Component is).0
  unrefused Refused.PoolSpent is =
      let on : c'.pool_spent ≡ true = lead.tells.behind.pool ∙ ap (λ (t : Option Reply). refuses_pool t || c.pool_spent) is in
      let bad : true ≡ false = sym on ∙ unspent_then.0 in
      absurd cc
  unrefused Refused.SlotsSpent is =
      let on : c'.slots_spent ≡ true = lead.tells.behind.slots ∙ ap (λ (t : Option Reply). refuses_slots t || c.slots_spent) is in
      let bad : true ≡ false = sym on ∙ unspent_then.1 in
      absurd cc

pub machines_are_never_refused : MachinesAreNeverRefused
machines_are_never_refused e words ports b k c step below stands have lead cause = unrefused e words ports b k c step below stands have lead cause
