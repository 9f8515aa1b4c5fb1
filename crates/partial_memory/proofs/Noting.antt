-- What the calls of a memory leave in the notes of their ports.
use Rattle.partial_memory.proofs.Common.{ℕ, ◌≡◌, List, [], ◌∷◌, sym, ap, ◌∙◌, inl, inr, Some, append-nil, Call, Refused, PortView, Answered, Goes, IsRefused, Updates, UpdatesIf, met_port, Note, Noted}
use Rattle.partial_model.specs.declared.history.Applied.{Applied as Entry}
use Rattle.partial_model.specs.declared.call.Answer.{Answer}
use Rattle.partial_memory.specs.declared.answers.{Updated.Updated, UpdatedIf.UpdatedIf}
use Rattle.partial_memory.specs.declared.answers.Updated.TheVariants.{Applied, Lost}
use Rattle.partial_memory.specs.Noting.{CallsNoteOnce, NotesCall, NotesMore, noted_update, noted_update_if}

goes_on : (p q : PortView) (new : List Noted) → Goes p q new → NotesMore p q new
goes_on p q new w = record { memory = w.memory; number = w.number; notes = w.notes }

answered : (p q : PortView) (c : Call) (a : Answer) (n : Note) → Answered p q c a n → NotesCall p c a q
answered p q c a n w = (n, goes_on p q (record { call = c; answer = a; note = Some n } ∷ []) w.goes)

unchanged : (p q : PortView) → q ≡ p → NotesMore p q []
unchanged p q e = record {
  memory = ap (λ (x : PortView). x.memory) e;
  number = ap (λ (x : PortView). x.number) e;
  notes = ap (λ (x : PortView). x.notes) e ∙ sym (append-nil p.notes);
}

update_noted : (p q : PortView) (j v : ℕ) (r : Updated) → Updates p j v r q → NotesCall p (Call.Update j v) (noted_update r) q
update_noted p q j v (Applied stamp) w = answered p q (Call.Update j v) (Answer.Applied stamp) _ w.1
update_noted p q j v (Lost by) w = answered p q (Call.Update j v) (Answer.Lost by) _ w.1

update_if_noted : (p q : PortView) (j x v : ℕ) (r : UpdatedIf) → UpdatesIf p j x v r q → NotesCall p (Call.UpdateIf j x v) (noted_update_if r) q
update_if_noted p q j x v (UpdatedIf.Applied stamp) w = answered p q (Call.UpdateIf j x v) (Answer.Applied stamp) _ w.1
update_if_noted p q j x v (UpdatedIf.Changed by) w = answered p q (Call.UpdateIf j x v) (Answer.Changed by) _ w.1

refused_noted : (p q : PortView) (c : Call) (cause : Refused) → IsRefused p c cause q → NotesMore p q []
refused_noted p q c cause (inl w) = unchanged p q w.1
refused_noted p q c cause (inr w) = goes_on p q [] w.goes

met_noted : (log : List Entry) (n : ℕ) (p q : PortView) → q ≡ met_port log n p → NotesMore p q []
met_noted log n p q e = record {
  memory = ap (λ (x : PortView). x.memory) e;
  number = ap (λ (x : PortView). x.number) e;
  notes = ap (λ (x : PortView). x.notes) e ∙ sym (append-nil p.notes);
}

pub calls_note_once : CallsNoteOnce
calls_note_once = record {
  update = update_noted;
  update_if = update_if_noted;
  read = λ p q j value stamp w. answered p q (Call.Read j) (Answer.Read value stamp) _ w.1;
  scan = λ p q j js values s w. answered p q (Call.Scan (j ∷ js)) (Answer.Scanned values s.collects s.borrowed) _ w.1;
  no_scan = λ p q values s w. unchanged p q w.3;
  refused = refused_noted;
  meet = λ a b c d w. (met_noted w.log _ a c w.first, met_noted w.log _ b d w.second);
}
