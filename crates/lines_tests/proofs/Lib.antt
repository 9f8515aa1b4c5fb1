mod Common
mod Turning
