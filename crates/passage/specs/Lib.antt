pub mod CanRun
