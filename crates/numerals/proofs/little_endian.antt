-- The laws that the functions' proofs cite.
-- Laws: where the bytes are there, and where not.
pub mod Laws
-- Puts: eight bytes put one by one.
pub mod Puts
-- Parts: a number read from a part of eight bytes.
pub mod Parts
-- Signed: patterns in two's complement, as the code computes them.
pub mod Signed
-- Signed32: the same with 32 bits.
pub mod Signed32
-- RoundTrip: what is written is read back.
pub mod RoundTrip
-- Items: where an item of a list stands in bytes.
pub mod Items
-- Numbers: each number of a list at its own bytes.
pub mod Numbers
-- SetBytes: bytes set one after the other.
pub mod SetBytes
