-- `leap_table::judging::in_bytes::triple_in` meets its contract: the twelve bytes of the part are those of the list. Assumes nothing.
use Rattle.std.proofs.Common.{◌≡◌, ℕ, ◌+◌, ◌-◌, ◌*◌, ap, ◌∙◌, arith, to_z-of_z, w32, rules}
use Rattle.numerals.specs.little_endian.LittleEndian.{i32_at}
use Rattle.leap_table.specs.judging.Judging.{triple}
use Rattle.leap_table.proofs.judging.Twelves.{in_twelve}
use Rattle.leap_table.proofs.judging.in_bytes.triple_in.Goals as goal

pub returns : goal.returns
returns c =
    let l = c.args.dates.now in
    let at : ℕ = 12 * c.args.i in
    let e : at + 12 - at ≡ 12 = omega arith in
    let start : at + 0 ≡ at = omega arith in
    let p = to_z-of_z {w = w32} {z = c.i32_at-year.result} (search rules) ∙ c.i32_at-year.ensures
    ∙ in_twelve l at (at + 12 - at) 0 e c.requires (omega arith) ∙ ap (i32_at l) start in
    let q = to_z-of_z {w = w32} {z = c.i32_at-month.result} (search rules) ∙ c.i32_at-month.ensures
    ∙ in_twelve l at (at + 12 - at) 4 e c.requires (omega arith) in
    let r = to_z-of_z {w = w32} {z = c.i32_at-day.result} (search rules) ∙ c.i32_at-day.ensures
    ∙ in_twelve l at (at + 12 - at) 8 e c.requires (omega arith) in
    λ i. triple (p i) (q i) (r i)
