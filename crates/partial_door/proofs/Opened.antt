-- What is held of a long-lived memory that has opened, and why it isn't closed.
use Rattle.partial_door.proofs.Common.{◌≡◌, ◌∙◌, ℕ, length, sym, ap, subst, inl, inr, Option, Some, PortView, Held, List, IsNewMemory, IsUnclosed}
use Rattle.partial_long_lived.specs.declared.options.Options.{Options}
use Rattle.partial_long_lived.specs.Ports.{MemoryView}
use Rattle.partial_door.specs.Exports.{ClosesHandle}

-- there are as many components as values, by the same memory alone
pub count_of : (components : ℕ) (m v : MemoryView) → components ≡ length m.about.opening.values → v ≡ m → components ≡ length v.about.opening.values
count_of components m v count same = subst (λ (w : MemoryView). components ≡ length w.about.opening.values) (sym same) count

-- a memory that is held is as it opened
pub still_new : (initial : List ℕ) (ports : ℕ) (o : Options) (v w : MemoryView) (all items : List PortView) → w ≡ v → all ≡ items
    → IsNewMemory initial ports o v items → IsNewMemory initial ports o w all
still_new initial ports o v w all items same still new =
    subst (λ (u : MemoryView). IsNewMemory initial ports o u all) (sym same) (subst (λ (xs : List PortView). IsNewMemory initial ports o v xs) (sym still) new)

-- what a handle holds after a refused close
pub unclosed : (h k : Held) (room values : List ℕ) (code : ℕ) (before after : Option Held) → before ≡ Some h → after ≡ Some k → values ≡ room
    → IsUnclosed h k (length room) code → ClosesHandle before room code after values
unclosed h k room values code before after lent put same (inl stays) =
    inr (inr (inl (h, lent, put ∙ ap Some stays.0 ∙ sym lent, same, stays.1)))
unclosed h k room values code before after lent put same (inr keeps) = inr (inr (inr (h, k, lent, put, same, keeps.0, keeps.1)))
