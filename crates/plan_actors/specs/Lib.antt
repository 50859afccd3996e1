pub mod Calls
pub mod Efforts
pub mod Finishing
pub mod PlanActors
pub mod Plans
pub mod Renamed
pub mod Runs
