pub mod RulePlace
pub mod EntryPlace
pub mod Gaps
