-- What the contracts of `scales` cite, in the order to read it.
pub mod Formulas
pub mod Conversions
-- The words of the theorems: no contract cites them.
pub mod Refusals
pub mod laws
pub mod gps_weeks
pub mod gps_week_laws
