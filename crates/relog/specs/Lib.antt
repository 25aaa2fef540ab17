pub mod Answers
pub mod Arguments
pub mod Comments
pub mod Names
