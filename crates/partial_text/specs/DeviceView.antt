-- What a device is to a contract.
use Rattle.std.specs.Prelude.{ℕ, Bool}

-- the reader or writer inside, whether a call of it has failed, and how many reads it was asked for
pub record DeviceView (D : Type 0) : Type 0 where
  pub inner : D
  pub failed : Bool
  pub reads : ℕ
