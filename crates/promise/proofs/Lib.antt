-- Laws: reading and writing, what code reads of a file, that a file is its picture's, and what a question that is read has.
pub mod BytesLaws
pub mod FileLaws
pub mod Access
pub mod WholeLaws
pub mod QuestionLaws
-- Theorems: demand 3 over the calls; asking a register is the node logic; one answer only for each call.
pub mod Promise
pub mod NodeLogicCalls
pub mod OneAnswer
