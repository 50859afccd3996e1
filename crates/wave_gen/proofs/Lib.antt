mod Examples
mod PutLemmas
mod Sums
