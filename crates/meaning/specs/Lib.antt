-- What a reader has to believe: the plain pictures of a register, a question and a summary, and what document 01 says of them.
pub mod Count
pub mod Cap
pub mod Register
pub mod Level
pub mod Question
pub mod Reading
pub mod Summary
pub mod Condense
pub mod WellFormed
pub mod Check
-- The files, and the whole answer of each call, over bytes
pub mod Refusals
pub mod Bytes
pub mod RegisterFile
pub mod SummaryFile
pub mod QuestionFile
pub mod Answers
-- For theorems only, as is what stands under that heading in Level, Question and Reading: no call's answer rests on it
pub mod Decided
-- P1 to P11 of document 01 and a case for each other clause, computed: what breaks where a definition is bent
pub mod Figures
pub mod Cases
pub mod Examples
