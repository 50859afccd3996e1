pub mod Plain
pub mod Serving
pub mod Turning
pub mod Walking
