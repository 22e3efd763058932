pub mod PaddingFacts
pub mod SumFacts
pub mod ChainFacts
