-- Lines of text, and what writing them into lent bytes comes to.
pub mod Text
pub mod Writing
