-- The stamps that components have had in a port's epoch fit below the epoch's number, and a component word that is one has no seal.
use Rattle.partial_long_lived.proofs.Common.{ℕ, ◌≡◌, ◌<◌, Option, Some, None, IfSome, take, option_map_or, arith, Applied, stamp_limit, SeatedPort, plan_of, IsSeatKnown, opening_of, initial_stamp, last_entry, stamp_of, all_take, unsealed, last_all, initial_low}

pub stamp_small : (x : SeatedPort) → IsSeatKnown x → (n j : ℕ) → j < x.about.sizes.m → stamp_of (opening_of x) (take n x.port.part.seen) j < stamp_limit
stamp_small x known n j inside =
    by (last_entry j (take n x.port.part.seen))
    (last_all (λ (a : Applied). a.stamp < stamp_limit) None j (take n x.port.part.seen) tt (all_take (λ (a : Applied). a.stamp < stamp_limit) n x.port.part.seen known.own.below))
  where
    by : (t : Option Applied) → IfSome t (λ (a : Applied). a.stamp < stamp_limit) → option_map_or (λ (a : Applied). a.stamp) t (initial_stamp (opening_of x) j) < stamp_limit
    by None w =
        let low = initial_low (plan_of x.about) known.plan x.port.before x.port.part.seen known.own.above j inside in
        let z = known.plan.sizes in
        let m = z.components.1 in
        let slots = z.slots.1 in
        let lists = z.lists in
        let pool = z.pool.1 in
        omega (arith, low, m, slots, lists, pool)
    by (Some a) w = w

pub unsealed_same : (n : ℕ) → n < stamp_limit → unsealed n ≡ n
unsealed_same n small = omega (arith, small)
