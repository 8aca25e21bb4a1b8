-- Laws of the definitions in specs/.
pub mod ListedLaws
pub mod OneLaws
pub mod ProjectedParts
pub mod SourceLaws
pub mod MadeGroups
pub mod ConstantLaws
pub mod FormLaws
pub mod FairProjected
pub mod ProjectLaws
