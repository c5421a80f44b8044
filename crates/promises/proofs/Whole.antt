-- The promises for every table and argument in one record each, by the theorems that they rest on.
pub mod Terms
pub mod Demands
pub mod HalfTexts
pub mod Requests
pub mod Recorders
