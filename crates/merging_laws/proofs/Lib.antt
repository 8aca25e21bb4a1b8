-- Theorems on `new` and join, over the definitions that their contracts cite, and worked examples.
pub mod BridgingTheorems
pub mod JoinLaws
pub mod JoinTheorems
pub mod FairLent
pub mod HandedBack
pub mod CallRows
pub mod FirstLiteral
pub mod Examples
