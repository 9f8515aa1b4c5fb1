-- The words of labels are those of the texts of plans and outcomes.
use Rattle.partial_picture.proofs.Common.{rules, ℕ, ◌≡◌, ◌++◌, ◌∷◌, [], List, Option, Some, Result, Ok, Err, IfOk, string_bytes, codes, decimal, sym, ap, ◌∙◌, call_text}
use Rattle.std.proofs.lemmas.List.{append-nil, append_assoc}
use Rattle.std.specs.declared.alloc.{AllocError.AllocError, Global.Global}
use Rattle.std.specs.declared.string.String.{String}
use Rattle.partial_model.specs.declared.call.{Answer.Answer, Call.Call, Finish.Finish, Refused.Refused}
use Rattle.partial_model.specs.declared.history.Applied.{Applied}
use Rattle.partial_model.specs.Refusals.{refused_code}
use Rattle.partial_text.specs.OutcomeText.{answer_text, entry_line, finish_text, written_place}

-- what is made of words, once it is known which they are
pub made_of : (f : List ℕ → List ℕ) (r : Result (String Global) AllocError) (a b : List ℕ) → IfOk r (λ words. string_bytes words ≡ a) → f a ≡ b → IfOk r (λ words. f (string_bytes words) ≡ b)
made_of f (Ok words) a b told is = ap f told ∙ is
made_of f (Err e) a b told is = tt

-- ---- calls

pub update_is : (c : Call) (j v : ℕ) → c ≡ Call.Update j v → codes "update " ++ (decimal j ++ (codes " " ++ decimal v)) ≡ call_text c
update_is c j v is = ap (λ (l : List ℕ). codes "update " ++ (decimal j ++ (codes " " ++ l))) (sym (append-nil (decimal v))) ∙ sym (ap call_text is)

pub read_is : (c : Call) (j : ℕ) → c ≡ Call.Read j → codes "read " ++ decimal j ≡ call_text c
read_is c j is = ap (λ (l : List ℕ). codes "read " ++ l) (sym (append-nil (decimal j))) ∙ sym (ap call_text is)

pub update_if_is : (c : Call) (j x v : ℕ) → c ≡ Call.UpdateIf j x v → codes "updateif " ++ (decimal j ++ (codes " " ++ (decimal x ++ (codes " " ++ decimal v)))) ≡ call_text c
update_if_is c j x v is = ap (λ (l : List ℕ). codes "updateif " ++ (decimal j ++ (codes " " ++ (decimal x ++ (codes " " ++ l))))) (sym (append-nil (decimal v))) ∙ sym (ap call_text is)

-- ---- ends of calls

ended_with : (f : Option Finish) (g : Finish) (a : Answer) (k : ℕ) → f ≡ Some g → g.answer ≡ a → k ≡ written_place g.note → answer_text a k ≡ finish_text f
ended_with f g a k is same place = ap (answer_text a) place ∙ ap (λ (x : Answer). answer_text x (written_place g.note)) (sym same) ∙ sym (ap finish_text is)

pub applied_is : (f : Option Finish) (g : Finish) (t k : ℕ) → f ≡ Some g → g.answer ≡ Answer.Applied t → k ≡ written_place g.note →
    32 ∷ (codes "applied " ++ (decimal t ++ (codes " place " ++ decimal k))) ≡ finish_text f
applied_is f g t k is same place = sym (append-nil (32 ∷ (codes "applied " ++ (decimal t ++ (codes " place " ++ decimal k))))) ∙ ended_with f g (Answer.Applied t) k is same place

pub lost_is : (f : Option Finish) (g : Finish) (t k : ℕ) → f ≡ Some g → g.answer ≡ Answer.Lost t → k ≡ written_place g.note →
    32 ∷ (codes "lost " ++ (decimal t ++ (codes " place " ++ decimal k))) ≡ finish_text f
lost_is f g t k is same place = sym (append-nil (32 ∷ (codes "lost " ++ (decimal t ++ (codes " place " ++ decimal k))))) ∙ ended_with f g (Answer.Lost t) k is same place

pub changed_is : (f : Option Finish) (g : Finish) (t k : ℕ) → f ≡ Some g → g.answer ≡ Answer.Changed t → k ≡ written_place g.note →
    32 ∷ (codes "changed " ++ (decimal t ++ (codes " prefix " ++ decimal k))) ≡ finish_text f
changed_is f g t k is same place = sym (append-nil (32 ∷ (codes "changed " ++ (decimal t ++ (codes " prefix " ++ decimal k))))) ∙ ended_with f g (Answer.Changed t) k is same place

pub shown_is : (f : Option Finish) (g : Finish) (v t k : ℕ) → f ≡ Some g → g.answer ≡ Answer.Read v t → k ≡ written_place g.note →
    32 ∷ (codes "read " ++ (decimal v ++ (codes " " ++ (decimal t ++ (codes " prefix " ++ decimal k))))) ≡ finish_text f
shown_is f g v t k is same place =
    ap (λ (l : List ℕ). 32 ∷ (codes "read " ++ l)) (sym (append_assoc (decimal v) (32 ∷ decimal t) (codes " prefix " ++ decimal k))) ∙
    sym (append-nil (32 ∷ (codes "read " ++ ((decimal v ++ (32 ∷ decimal t)) ++ (codes " prefix " ++ decimal k))))) ∙ ended_with f g (Answer.Read v t) k is same place

pub refused_is : (f : Option Finish) (g : Finish) (cause : Refused) (n k : ℕ) → f ≡ Some g → g.answer ≡ Answer.Refused cause → n ≡ refused_code cause → k ≡ written_place g.note →
    32 ∷ (codes "refused " ++ decimal n) ≡ finish_text f
refused_is f g cause n k is same code place =
    ap (λ (i : ℕ). 32 ∷ (codes "refused " ++ decimal i)) code ∙ sym (append-nil (32 ∷ (codes "refused " ++ decimal (refused_code cause)))) ∙
    sym (append-nil ((32 ∷ (codes "refused " ++ decimal (refused_code cause))) ++ [])) ∙ ended_with f g (Answer.Refused cause) k is same place

-- ---- entries

pub entry_is : (place : ℕ) (e : Applied) →
    (codes "applied " ++ (decimal place ++ (codes " port " ++ (decimal e.port ++ (codes " component " ++ (decimal e.component ++ (codes " value " ++ (decimal e.value ++
    (codes " stamp " ++ decimal e.stamp))))))))) ++ 10 ∷ [] ≡ entry_line place e
entry_is place e = search (rules, append_assoc)
