-- Laws of chains of declarations, and of the search for a shortest one.
pub mod ChainLaws
pub mod SearchLaws
pub mod RoundLaws
pub mod WrittenLaws
