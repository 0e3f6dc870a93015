pub mod Line
pub mod Text
pub mod Answers
pub mod Rehearsal
pub mod Worked
pub mod Claims
