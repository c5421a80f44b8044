-- Each promise, by the theorems that it rests on.
pub mod Demands
pub mod Requests
pub mod Recorders
pub mod Whole
