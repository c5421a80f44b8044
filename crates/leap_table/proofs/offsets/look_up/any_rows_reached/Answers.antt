-- `leap_table::offsets::look_up::any_rows_reached` meets its contract: the announced rows, and where none has begun the fixed ones. Assumes nothing.
use Rattle.std.proofs.Common.{◌≡◌, ℕ, zero, suc, ◌+◌, sym, refl, ◌∙◌, arith}
use Rattle.leap_table.specs.rows.Table.{fixed, starts, reached, fixed_rows}
use Rattle.leap_table.specs.offsets.Plain.{by_found}
use Rattle.leap_table.proofs.offsets.look_up.any_rows_reached.Goals as goal

by-none : (n k : ℕ) → k ≡ 0 → by_found n k ≡ reached (starts fixed) n
by-none n zero e = refl
by-none n (suc k) e = absurd (omega arith)

by-some : (n k : ℕ) → (k ≡ 0 → ⊥) → by_found n k ≡ fixed_rows + k
by-some n zero e = absurd (e refl)
by-some n (suc k) e = refl

pub returns-then-found-eq0 : goal.returns-then-found-eq0
returns-then-found-eq0 c =
    let r = c.fixed_rows_reached.ensures in
    (r.0 ∙ sym (by-none c.args.n _ c.if-found-eq0.true) ∙ c.announced_rows_reached-found.ensures.0, omega (arith, r.1))

pub returns : goal.returns
returns c =
    let e = c.announced_rows_reached-found.ensures in
    (sym (by-some c.args.n _ c.if-found-eq0.false) ∙ e.0, omega (arith, e.1))
