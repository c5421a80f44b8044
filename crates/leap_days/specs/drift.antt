-- The words of the theorems: what is computed of each day. No contract cites them.
pub mod Small
