mod Common
mod Writing
mod Loading
mod Parts
mod Announcing
mod Resting
