-- The definitions that the contracts of ticks::judging cite, in the order to read them: tests of numbers, the refusals in their order, and what is known where
-- nothing is refused.
pub mod Numbers
pub mod Refusing
pub mod GoodCalls
