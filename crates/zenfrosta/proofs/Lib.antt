pub mod Spoken
pub mod Crossed
pub mod AfterRun
pub mod Heard
pub mod HostLists
pub mod HostMakes
pub mod HostConverts
pub mod HaltCalls
