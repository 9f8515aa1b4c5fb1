use Rattle.partial_model.proofs.{Common.{ℕ, ◌≡◌, ◌<◌, ◌&&◌, nat_lt, not, Bool, true, false, length, refl, sym, ◌∙◌, subst, AllByRecursion, list_all, list_any, true≢false, Applied, is_initial}, Decisions.{Decides-list_all, Decides-nat_lt}}
use Rattle.partial_model.proofs.checker.index_of.Goals as goal

first_holds : (x y : Bool) → (x && y) ≡ true → x ≡ true
first_holds true y w = refl
first_holds false y w = absurd (true≢false (sym w))

pub new-requires : goal.new-requires
new-requires c =
    let m : ℕ = length c.args.opening.now.values in
    let all : list_all (λ (e : Applied). nat_lt e.component m) c.args.history.now ≡ true =
    first_holds (list_all (λ (e : Applied). nat_lt e.component m) c.args.history.now) (not (list_any (λ (e : Applied). is_initial c.args.opening.now m e.stamp) c.args.history.now))
    (sym c.are_entries.ensures ∙ c.if-are_entries.true) in
    subst (λ (n : ℕ). AllByRecursion (λ (e : Applied). e.component < n) c.args.history.now) (sym c.len.ensures)
    ((Decides-list_all (λ (e : Applied). nat_lt e.component m) (λ e. e.component < m) (λ e. Decides-nat_lt e.component m) c.args.history.now).0 all)
