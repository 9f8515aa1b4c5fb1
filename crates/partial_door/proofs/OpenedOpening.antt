-- The ports of a memory that has opened, and what is held then.
use Rattle.partial_door.proofs.Common.{◌≡◌, ◌<◌, ℕ, sym, subst, Layout, pool_base, IsOf, MemoryView, new_ports, ◌++◌, List, [], ◌∷◌, HasOpened}
use Rattle.std.specs.{List.AllByRecursion, Arc.arc_value}
use Rattle.partial_model.proofs.AllLemmas.{all_back, all_front}
use Rattle.partial_memory.specs.{Rule.newcomers, Ports.PortView}
use Rattle.partial_memory.proofs.Laws.{opened_ports_are_all}
use Rattle.partial_door.specs.declared.held.OpeningMemory.{OpeningMemory}

pub are_its : (m v : MemoryView) (ports : ℕ) (all : List PortView) → m ≡ v → v.about.ports ≡ ports
    → all ≡ new_ports v.table (newcomers v.about 0 ports) → AllByRecursion (IsOf m) all
are_its m v ports all same many made =
    subst (λ (xs : List PortView). AllByRecursion (IsOf m) xs) (sym made)
    (subst (λ (w : MemoryView). AllByRecursion (IsOf w) (new_ports v.table (newcomers v.about 0 ports))) (sym same) (opened_ports_are_all v ports many).own)

pub opened_is : (x : OpeningMemory) (v : MemoryView) (opening ports : ℕ) (z : Layout) (initial : List ℕ) → arc_value x.memory ≡ v
    → x.opening ≡ opening → x.count ≡ ports → v.about.sizes ≡ z → v.about.ports ≡ ports → v.about.opening.values ≡ initial
    → v.about.opening.first ≡ pool_base z → x.ports.items ≡ new_ports v.table (newcomers v.about 0 ports) → HasOpened opening z initial ports x
opened_is x v opening ports z initial same named counted sized many values first made = record {
  number = named;
  sizes = subst (λ (w : MemoryView). w.about.sizes ≡ z) (sym same) sized;
  many = subst (λ (w : MemoryView). w.about.ports ≡ ports) (sym same) many;
  values = subst (λ (w : MemoryView). w.about.opening.values ≡ initial) (sym same) values;
  first = subst (λ (w : MemoryView). w.about.opening.first ≡ pool_base z) (sym same) first;
  count = counted;
  held = subst (λ (w : MemoryView). x.ports.items ≡ new_ports w.table (newcomers w.about 0 ports)) (sym same) made;
}

-- what holds of a memory's view holds of the one that a port of it has
pub more : {V : Type 0} (size_of : V → ℕ) (components : ℕ) (v w : V) (n : ℕ) → components ≡ size_of v → w ≡ v → components < n → size_of w < n
more {V} size_of components v w n size own less = subst (λ (u : V). size_of u < n) (sym own) (subst (λ (k : ℕ). k < n) size less)

-- the last port of a memory's is of it, by another share of the same memory, and so are those before it
module _ {V P : Type 0} (Of : V → P → Type 0) where
  pub last_of : (m v : V) (all front : List P) (p : P) → all ≡ front ++ p ∷ [] → AllByRecursion (Of m) all → v ≡ m → Of v p
  last_of m v all front p parts own same =
      subst (λ (w : V). Of w p) (sym same) (all_back (Of m) front (p ∷ []) (subst (λ (xs : List P). AllByRecursion (Of m) xs) parts own)).0

  pub front_of : (m v : V) (all front : List P) (p : P) → all ≡ front ++ p ∷ [] → AllByRecursion (Of m) all → v ≡ m → AllByRecursion (Of v) front
  front_of m v all front p parts own same =
      subst (λ (w : V). AllByRecursion (Of w) front) (sym same)
      (all_front (Of m) front (p ∷ []) (subst (λ (xs : List P). AllByRecursion (Of m) xs) parts own))
