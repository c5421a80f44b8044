-- The forms of text by their names. Written from document 01, "UTC text", and document 02's items 4 and 6. Assumes nothing.
use Rattle.utc.specs.declared.iso_texts.NamedForm.{NamedForm}
use Rattle.utc.specs.declared.iso_texts.NamedForm.TheVariants.{Standard, HalfEven, Expanded}
use Rattle.utc.specs.iso_texts.TextForm.{TextForm}
use Rattle.utc.specs.iso_texts.IsoText.{standard_form}
use Rattle.utc.specs.iso_texts.HalfEven.{half_even_form}
use Rattle.utc.specs.iso_texts.Expanded.{expanded_form}

-- document 01's form, and those of document 02's items 4 and 6
unfoldable pub form_named : NamedForm → TextForm
form_named Standard = standard_form
form_named HalfEven = half_even_form
form_named Expanded = expanded_form
