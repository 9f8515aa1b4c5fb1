mod Common
mod Ports
