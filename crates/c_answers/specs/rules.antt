-- What the contracts of `c_answers::rules` cite: the rule of an offset as bytes, alone and behind an answer.
pub mod RuleFields
