-- WORKED SENTENCES, by computation: the texts of 15 and 16, and where a block's size is named. Written from document 02, item 13. Assumes nothing.
use mathlib.Core.Path.{◌≡◌, refl}
use Rattle.reasons.specs.declared.sentences.Named.TheVariants.{NoField, Size}
use Rattle.reasons.specs.declared.Values.TheVariants.{Block}
use Rattle.reasons.specs.Offending.{block_field, offending}
use Rattle.reasons.specs.sentences.Texts.{ascii_bytes, texts, fixed_text}

pub text-of-15 : fixed_text 15 ≡ ascii_bytes "text is not an ISO 8601 time"
unfolding fixed_text texts
text-of-15 = refl

pub text-of-16 : fixed_text 16 ≡ ascii_bytes "second has more than 13 digits after its point"
unfolding fixed_text texts
text-of-16 = refl

-- 4,000 stamps pass, and no field is at fault; 4,001 are too many
pub size-that-passes : offending 13 (Block 64008 4000 4000) ≡ NoField
unfolding offending block_field
size-that-passes = refl

pub size-too-large : offending 13 (Block 64024 4001 4001) ≡ Size 4001
unfolding offending block_field
size-too-large = refl
