-- `c_answers::fields::put_date` meets its contract. Assumes nothing.
use mathlib.Core.Path.{ap, ◌∙◌}
use mathlib.Core.List.{◌++◌}
use Prim.Native.Nat.{ℕ}
use borrow.Author.Rules.{rules}
use mir.Syntax.{w32}
use mir.Facts.{to_z-of_z}
use Rattle.numerals.specs.little_endian.LittleEndian.{pattern_of}
use Rattle.c_answers.specs.Fields.{four_bytes, date_bytes}
use Rattle.c_answers.proofs.Deliveries.{same_bytes}
use Rattle.c_answers.proofs.fields.put_date.Goals as goal

pub returns : goal.returns
unfolding date_bytes
returns c =
    let d = c.args.date in
    same_bytes c.put.type_inv
    (c.three_numbers-all.ensures ∙ ap (λ (n : ℕ). four_bytes n ++ (four_bytes d.month ++ four_bytes d.day))
    (c.year_pattern.ensures ∙ ap pattern_of (to_z-of_z {w = w32} {z = d.year} (search rules)))) c.put.ensures
