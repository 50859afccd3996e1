pub mod PolicyPaths
