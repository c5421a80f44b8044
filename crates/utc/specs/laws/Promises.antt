-- What document 02 promises of its two forms of text, beside document 01's promise in Shows. Written from items 4 and 6. Assumes nothing.
use Rattle.time_of_day.specs.EvenPromise.{even_parts, even_most}
use Rattle.utc.specs.text.ExpandedForm.{ExpandedForm}
use Rattle.utc.specs.laws.Shows.{Promise, Form01}

-- item 6: 23 or 27 bytes, and 0.501 ms on every day
abbrev pub expanded_promise : Promise
expanded_promise = record { Form = ExpandedForm; c = λ leap. 1000; e = λ leap. 501 }

-- item 4: document 01's form; 0.5 ms on days of whole seconds, and 0.501 ms on 1959-12-31
abbrev pub even_promise : Promise
even_promise = record { Form = Form01; c = even_parts; e = even_most }
