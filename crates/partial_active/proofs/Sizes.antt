-- No answer changes the sizes.
use Rattle.partial_active.proofs.Common.{ℕ, ◌≡◌, ◌+◌, ◌-◌, min, true, if◌then◌else◌, ◌==◌, nat_lt, length, refl, ap, ◌∙◌, cond_both, highest, list_end, with_index, begins_at, Stage, Head, ListLen, ListLow, ListHigh, Counter, Slot, Len, Index, Claim, Write, Publish, Done, SetPair, after_walk, at_slot, come_to, pass_interval, note_slot, in_stage, advance_set_at, next_word, indices_word}

sizes_at_slot : (p : SetPair) (slot : ℕ) → (at_slot p slot).0.sizes ≡ p.0.sizes
sizes_at_slot p slot = cond_both (nat_lt slot p.0.end) (record p.0 { stage = Slot slot }, p.1) (after_walk p) (λ (q : SetPair). q.0.sizes ≡ p.0.sizes) (λ e. refl) (λ e. refl)

sizes_come_to : (p : SetPair) (slot : ℕ) → (come_to p slot).0.sizes ≡ p.0.sizes
sizes_come_to p slot = cond_both (begins_at p.1.read p.0.passed slot) (at_slot (pass_interval p) (highest p.1.read p.0.passed + 1)) (at_slot p slot) (λ (q : SetPair). q.0.sizes ≡ p.0.sizes)
    (λ e. sizes_at_slot (pass_interval p) (highest p.1.read p.0.passed + 1))
    (λ e. sizes_at_slot p slot)

pub sizes_at : (stage : Stage) (p : SetPair) (x : ℕ) → (advance_set_at stage p x).0.sizes ≡ p.0.sizes
sizes_at Head p x = refl
sizes_at (ListLen at) p x = refl
sizes_at (ListLow at left) p x = refl
sizes_at (ListHigh at left lo) p x = refl
sizes_at Counter p x = sizes_come_to (record p.0 { end = min x p.0.sizes.slots; passed = 0 }, p.1) 0
sizes_at (Slot slot) p x = cond_both (x == 0) (come_to p (slot + 1)) (if x == 1 then come_to (note_slot p slot) (slot + 1) else in_stage p (Len slot x)) (λ (q : SetPair). q.0.sizes ≡ p.0.sizes)
    (λ e. sizes_come_to p (slot + 1))
    (λ not_empty. cond_both (x == 1) (come_to (note_slot p slot) (slot + 1)) (in_stage p (Len slot x)) (λ (q : SetPair). q.0.sizes ≡ p.0.sizes)
    (λ e. sizes_come_to (note_slot p slot) (slot + 1)) (λ e. refl))
sizes_at (Len slot at) p x = cond_both (x == 0) (come_to p (slot + 1)) (in_stage p (Index slot (indices_word at) x)) (λ (q : SetPair). q.0.sizes ≡ p.0.sizes) (λ e. sizes_come_to p (slot + 1))
    (λ e. refl)
sizes_at (Index slot at left) p x = cond_both (left == 1) (come_to (p.0, record p.1 { indices = with_index p.1.indices x }) (slot + 1))
    (in_stage (p.0, record p.1 { indices = with_index p.1.indices x }) (Index slot (next_word at) (left - 1))) (λ (q : SetPair). q.0.sizes ≡ p.0.sizes)
    (λ e. sizes_come_to (p.0, record p.1 { indices = with_index p.1.indices x }) (slot + 1)) (λ e. refl)
sizes_at (Claim words) p x = cond_both (nat_lt (list_end p.0.sizes) (x + words)) (record p.0 { lists_spent = true; stage = Done }, p.1) (in_stage p (Write x 0 words (length p.1.next)))
    (λ (q : SetPair). q.0.sizes ≡ p.0.sizes) (λ e. refl) (λ e. refl)
sizes_at (Write at k words word) p x = refl
sizes_at (Publish at) p x = refl
sizes_at Done p x = refl

-- the next machine and its buffers are of the same sizes
pub sizes_kept : (p q : SetPair) (x : ℕ) → q ≡ advance_set_at p.0.stage p x → q.0.sizes ≡ p.0.sizes
sizes_kept p q x same = ap (λ (r : SetPair). r.0.sizes) same ∙ sizes_at p.0.stage p x
