pub mod Known
pub mod Sweep
