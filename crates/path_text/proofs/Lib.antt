mod Examples
pub mod ChildLemmas
pub mod FrontLemmas
pub mod StepLemmas
pub mod PathLemmas
pub mod PutLemmas
pub mod FoundLemmas
pub mod Again
pub mod SampleShape
