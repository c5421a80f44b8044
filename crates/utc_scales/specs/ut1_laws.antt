-- The definitions that the theorems of `utc_scales::ut1_laws` cite.
pub mod Ut1
pub mod Back
pub mod Near
pub mod Sofa
