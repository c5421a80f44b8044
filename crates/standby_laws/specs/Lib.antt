-- What the laws of a standby bill say: shares to the cent, when each refusal comes, and the order of the fields.
pub mod Sharing
pub mod Decisions
pub mod Meaning
pub mod Verdict
pub mod Fields
pub mod Elapsed
-- Asked: what is asked of a bill, sentence by sentence.
pub mod Asked
