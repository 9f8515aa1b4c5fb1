use Rattle.partial_model.proofs.{Common.{◌≡◌, ◌&&◌, Bool, true, false, List, length, Option, None, Decides, MatchOption, sym, ap, ◌∙◌, subst, Decides-at, Applied, Opening, Called, LegalOutcome, places_by, is_history, are_in_time, notes_are_legal, claim_all, is_legal_outcome, IsIndexOf}, PortLaws.Decides-is_legal_outcome}
use Rattle.partial_model.specs.declared.checker.index.Index.{Index}
use Rattle.partial_model.specs.Checked.{CheckedHistory}
use Rattle.partial_model.proofs.checker.Checker.check.Goals as goal

-- what the index says of the history
abbrev Says : Opening → List Applied → Option Index → Type 0
Says o h found = MatchOption found (is_history o h ≡ false) (λ i. (is_history o h ≡ true) × IsIndexOf h i)

-- the test of the history stands before the others
first_is : (o : Opening) (h : List Applied) (calls : List Called) (b : Bool) → is_history o h ≡ b →
    is_legal_outcome o h calls ≡ (b && are_in_time (length h) None calls && notes_are_legal o h 0 0 calls && claim_all h 0 (places_by 0 0 h) calls)
first_is o h calls b is = ap (λ x. x && are_in_time (length h) None calls && notes_are_legal o h 0 0 calls && claim_all h 0 (places_by 0 0 h) calls) is

decided : (o : Opening) (h : List Applied) (calls : List Called) (answer : Bool) → answer ≡ is_legal_outcome o h calls → Decides answer (LegalOutcome o h calls)
decided o h calls answer is = Decides-at answer (is_legal_outcome o h calls) is (Decides-is_legal_outcome o h calls)

pub returns-in-None : goal.returns-in-None
returns-in-None c =
    let o : Opening = c.self.inside.opening.now in
    let h : List Applied = c.self.inside.history.now in
    let none : is_history o h ≡ false = subst (Says o h) c.in-None.is c.self.invariant in
    subst (λ (k : CheckedHistory). Decides false (LegalOutcome k.opening k.history c.args.calls.now)) c.self.view_is (decided o h c.args.calls.now false (sym (first_is o h c.args.calls.now false none)))

pub returns-in-Some : goal.returns-in-Some
returns-in-Some c =
    let o : Opening = c.self.inside.opening.now in
    let h : List Applied = c.self.inside.history.now in
    let some : (is_history o h ≡ true) × IsIndexOf h c.in-Some.index = subst (Says o h) c.in-Some.is c.self.invariant in
    let same : is_history o h && c.passes_behind.result ≡ is_legal_outcome o h c.args.calls.now =
    subst (λ (g : List Applied). is_history o g && c.passes_behind.result ≡ is_legal_outcome o g c.args.calls.now) c.indexed.ensures c.passes_behind.ensures in
    subst (λ (k : CheckedHistory). Decides c.passes_behind.result (LegalOutcome k.opening k.history c.args.calls.now)) c.self.view_is
    (decided o h c.args.calls.now c.passes_behind.result (sym (ap (λ b. b && c.passes_behind.result) some.0) ∙ same))
