pub mod Parts
pub mod RulePlace
pub mod RuleTests
pub mod EntryPlace
pub mod Gaps
pub mod Shapes
