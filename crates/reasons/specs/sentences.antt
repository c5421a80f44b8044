-- What the contracts of `sentences` cite, in the order to read it: the fixed texts and the sentence of a reason.
pub mod Texts
pub mod Render
