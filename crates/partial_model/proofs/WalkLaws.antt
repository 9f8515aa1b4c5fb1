-- What one call more leaves of a walk over the calls.
use Rattle.partial_model.proofs.{Common.{ℕ, ◌≡◌, ◌+◌, ◌<◌, ◌≤◌, ◌==◌, Bool, true, if◌then◌else◌, ◌&&◌, List, ◌∷◌, length, drop, slice_index_or, sym, ap, ◌∙◌, Option, Some, None, drop_more, Applied, Opening, Finish, Called, call_is_legal, seen_behind, notes_are_legal}, NotesLemmas.note_within, PortLaws.{CallIsLegal, Decides-call_is_legal}}

-- ---- what a legal call has seen

pub seen_within : (o : Opening) (h : List Applied) (seen : ℕ) (c : Called) → call_is_legal o h seen c ≡ true → seen ≤ length h → seen_behind seen c.finish ≤ length h
seen_within o h seen c legal within = finished c.finish ((Decides-call_is_legal o h seen c).0 legal)
  where
    finished : (f : Option Finish) → CallIsLegal o h seen (record c { finish = f }) → seen_behind seen f ≤ length h
    finished None w = within
    finished (Some f) w = note_within o h c.port seen c.call f.answer f.note within w.1

-- ---- one call further

-- a legal call leaves the rest of the calls to decide
pub notes_more : (o : Opening) (h : List Applied) (q seen : ℕ) (cs : List Called) (i : ℕ) (c : Called) (before : ℕ) → i < length cs → c ≡ slice_index_or cs i c → before ≡ (if c.port == q then seen else 0) →
    call_is_legal o h before c ≡ true → notes_are_legal o h c.port (seen_behind before c.finish) (drop (i + 1) cs) ≡ notes_are_legal o h q seen (drop i cs)
notes_more o h q seen cs i c before within here known legal =
    let rest : ℕ → Bool = λ n. notes_are_legal o h c.port (seen_behind n c.finish) (drop (i + 1) cs) in
    let turn : notes_are_legal o h q seen (drop i cs) ≡ notes_are_legal o h q seen (c ∷ drop (i + 1) cs) =
    ap (notes_are_legal o h q seen) (drop_more cs i c within ∙ ap (λ (x : Called). x ∷ drop (i + 1) cs) (sym here)) in
    let step : (call_is_legal o h (if c.port == q then seen else 0) c && rest (if c.port == q then seen else 0)) ≡ (call_is_legal o h before c && rest before) =
    ap (λ n. call_is_legal o h n c && rest n) (sym known) in
    sym (turn ∙ step ∙ ap (λ b. b && rest before) legal)
