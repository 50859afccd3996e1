mod Examples
mod ReadingLemmas
mod NumberLemmas
