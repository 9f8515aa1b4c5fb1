-- The calls of a port, one after the other: what is known of those that it doesn't note.
use Rattle.partial_workers.proofs.Common.{ℕ, suc, ◌≡◌, ◌+◌, ◌<◌, ◌++◌, ◌⊎◌, Some, None, List, [], ◌∷◌, length, take, slice_index_or, refl, sym, ap, subst, ◌∙◌, inl, inr, arith, take-suc, map-append, append-nil, Call, Answer, IsOf, MemoryView, PortView, Answered, IsRefused, AreMade, Fills, IsMade, IsUnnoted, Note, Noted, seen_after, seen_by}
use Rattle.partial_model.specs.declared.call.Refused.{Refused}
use Rattle.partial_memory.specs.Calls.{Scanned, Scans}
use Rattle.partial_memory.proofs.Laws.{refusals_at_once_fit}

-- a call that was refused may have been, and the port's notes are the same
pub made_refused : (p q : PortView) (c : Call) (cause : Refused) → IsRefused p c cause q → IsMade p.memory.about.sizes.m p c (Answer.Refused cause) q
made_refused p q c cause (inl now) =
    record {
      noted = record { call = c; answer = Answer.Refused cause; note = None };
      call = refl;
      answer = refl;
      notes = inr (inl (cause, refl, refl, (refusals_at_once_fit p c cause now.0).0), ap (λ (v : PortView). v.notes) now.1);
    }
made_refused p q c cause (inr late) =
    record {
      noted = record { call = c; answer = Answer.Refused cause; note = None };
      call = refl;
      answer = refl;
      notes = inr (inl (cause, refl, refl, late.may), late.goes.notes ∙ append-nil p.notes);
    }

-- a call that was answered is noted
pub made_answered : (m : ℕ) (p q : PortView) (c : Call) (a : Answer) (n : Note) → Answered p q c a n → IsMade m p c a q
made_answered m p q c a n w =
    record {
      noted = record { call = c; answer = a; note = Some n };
      call = refl;
      answer = refl;
      notes = inl w.goes.notes;
    }

-- a scan is noted, or it is one of no position
pub made_scan : (m : ℕ) (p q : PortView) (js vs : List ℕ) (s : Scanned) → Scans p js vs s q → IsMade m p (Call.Scan js) (Answer.Scanned vs s.collects s.borrowed) q
made_scan m p q [] vs s w =
    record {
      noted = record { call = Call.Scan []; answer = Answer.Scanned [] 0 None; note = Some (Note.Saw (seen_by 0 p.notes)) };
      call = refl;
      answer = ap (λ (l : List ℕ). Answer.Scanned l 0 None) (sym w.0) ∙ ap (λ k. Answer.Scanned vs k None) (sym w.1) ∙ ap (Answer.Scanned vs s.collects) (sym w.2);
      notes = inr (inr (refl, refl, refl), ap (λ (v : PortView). v.notes) w.3);
    }
made_scan m p q (j ∷ js) vs s w = made_answered m p q (Call.Scan (j ∷ js)) (Answer.Scanned vs s.collects s.borrowed) (Note.Saw w.0) w.1

-- calls that a port doesn't note leave unchanged what it has seen
pub unnoted_seen : (m seen : ℕ) (n : Noted) → IsUnnoted m seen n → seen_after seen n.note ≡ seen
unnoted_seen m seen n (inl w) = ap (seen_after seen) w.2
unnoted_seen m seen n (inr w) = ap (seen_after seen) w.2

fills_seen : (m seen : ℕ) (kept ns : List Noted) → Fills m seen kept ns → seen_by seen ns ≡ seen_by seen kept
fills_seen m seen kept [] w = ap (seen_by seen) (sym w)
fills_seen m seen kept (n ∷ ns) (inl w) = fills_seen m (seen_after seen n.note) kept ns w.1 ∙ ap (λ k. seen_by k kept) (unnoted_seen m seen n w.0)
fills_seen m seen kept (n ∷ ns) (inr w) = fills_seen m (seen_after seen n.note) w.0 ns w.2 ∙ ap (seen_by seen) (sym w.1)

-- one call more, noted or not
pub fills_noted : (m seen : ℕ) (kept ns : List Noted) (n : Noted) → Fills m seen kept ns → Fills m seen (kept ++ n ∷ []) (ns ++ n ∷ [])
fills_noted m seen kept [] n w = inr ([], ap (λ (l : List Noted). l ++ n ∷ []) w, refl)
fills_noted m seen kept (x ∷ ns) n (inl w) = inl (w.0, fills_noted m (seen_after seen x.note) kept ns n w.1)
fills_noted m seen kept (x ∷ ns) n (inr w) = inr (w.0 ++ n ∷ [], ap (λ (l : List Noted). l ++ n ∷ []) w.1, fills_noted m (seen_after seen x.note) w.0 ns n w.2)

pub fills_unnoted : (m seen : ℕ) (kept ns : List Noted) (n : Noted) → Fills m seen kept ns → IsUnnoted m (seen_by seen ns) n → Fills m seen kept (ns ++ n ∷ [])
fills_unnoted m seen kept [] n w new = inl (new, w)
fills_unnoted m seen kept (x ∷ ns) n (inl w) new = inl (w.0, fills_unnoted m (seen_after seen x.note) kept ns n w.1 new)
fills_unnoted m seen kept (x ∷ ns) n (inr w) new = inr (w.0, w.1, fills_unnoted m (seen_after seen x.note) w.0 ns n w.2 new)

fills_made : (m : ℕ) (p q : PortView) (all : List Noted) (n : Noted) → Fills m 0 p.notes all → (q.notes ≡ p.notes ++ n ∷ []) ⊎ (IsUnnoted m (seen_by 0 p.notes) n × (q.notes ≡ p.notes)) →
    Fills m 0 q.notes (all ++ n ∷ [])
fills_made m p q all n w (inl is) = subst (λ (l : List Noted). Fills m 0 l (all ++ n ∷ [])) (sym is) (fills_noted m 0 p.notes all n w)
fills_made m p q all n w (inr new) =
    subst (λ (l : List Noted). Fills m 0 l (all ++ n ∷ [])) (sym new.1) (fills_unnoted m 0 p.notes all n w (subst (λ k. IsUnnoted m k n) (sym (fills_seen m 0 p.notes all w)) new.0))

-- one call more
pub made_more : (m : ℕ) (cs : List Call) (given : List Answer) (c : Call) (a : Answer) (p q : PortView) → AreMade m cs given p → IsMade m p c a q → AreMade m (cs ++ c ∷ []) (given ++ a ∷ []) q
made_more m cs given c a p q had new =
    record {
      all = had.all ++ new.noted ∷ [];
      calls = map-append (λ (n : Noted). n.call) had.all (new.noted ∷ []) ∙ ap (λ (l : List Call). l ++ new.noted.call ∷ []) had.calls ∙ ap (λ (x : Call). cs ++ x ∷ []) new.call;
      answers = map-append (λ (n : Noted). n.answer) had.all (new.noted ∷ []) ∙ ap (λ (l : List Answer). l ++ new.noted.answer ∷ []) had.answers ∙ ap (λ (x : Answer). given ++ x ∷ []) new.answer;
      fills = fills_made m p q had.all new.noted had.fills new.notes;
    }

-- one more of the first calls
pub made_next : (m n next : ℕ) (cs : List Call) (given : List Answer) (c : Call) (a : Answer) (p q : PortView) → AreMade m (take n cs) given p → n < length cs → c ≡ slice_index_or cs n c → next ≡ n + 1 →
    IsMade m p c a q → AreMade m (take next cs) (given ++ a ∷ []) q
made_next m n next cs given c a p q had within at is new =
    let one : next ≡ suc n = is ∙ omega arith in
    let taken : take next cs ≡ take n cs ++ c ∷ [] = ap (λ i. take i cs) one ∙ take-suc cs n c within ∙ ap (λ (x : Call). take n cs ++ x ∷ []) (sym at) in
    subst (λ (l : List Call). AreMade m l (given ++ a ∷ []) q) (sym taken) (made_more m (take n cs) given c a p q had new)

-- the same of a port of a memory
pub refused_at : (m : MemoryView) (p q : PortView) (c d : Call) (cause : Refused) → IsOf m p → d ≡ c → IsRefused p c cause q → IsMade m.about.sizes.m p d (Answer.Refused cause) q
refused_at m p q c d cause of same w =
    let now : IsMade m.about.sizes.m p c (Answer.Refused cause) q = subst (λ (v : MemoryView). IsMade v.about.sizes.m p c (Answer.Refused cause) q) of (made_refused p q c cause w) in
    subst (λ (x : Call). IsMade m.about.sizes.m p x (Answer.Refused cause) q) (sym same) now

pub scanned_at : (m : ℕ) (p q : PortView) (d : Call) (js vs values : List ℕ) (s : Scanned) → d ≡ Call.Scan js → values ≡ vs → Scans p js vs s q →
    IsMade m p d (Answer.Scanned values s.collects s.borrowed) q
scanned_at m p q d js vs values s same told w =
    let now : IsMade m p (Call.Scan js) (Answer.Scanned values s.collects s.borrowed) q = subst (λ (l : List ℕ). IsMade m p (Call.Scan js) (Answer.Scanned l s.collects s.borrowed) q) (sym told)
    (made_scan m p q js vs s w) in
    subst (λ (x : Call). IsMade m p x (Answer.Scanned values s.collects s.borrowed) q) (sym same) now
