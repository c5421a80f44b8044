-- The laws of answers for C: a refusal's code, what is put into a buffer, and an outcome handed on to the caller.
pub mod Deliveries
pub mod Pieces
pub mod AnswerCases
pub mod TableCases
-- Fields read back from the bytes of an answer, by name.
pub mod FieldsBack
