mod Examples
pub mod ElasticFitLemmas
pub mod ElasticReadLemmas
pub mod EventLemmas
pub mod FitLemmas
pub mod FormLemmas
pub mod FrontLemmas
pub mod JoinLemmas
pub mod LiteralLemmas
pub mod PieceLemmas
pub mod PlainLemmas
pub mod PolicyLemmas
pub mod ReadLemmas
