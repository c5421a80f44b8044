-- `leap_table::offsets::look_up::table_rows_reached` meets its contract: a table that lends no rows is the fixed one. Assumes nothing.
use Rattle.std.proofs.Common.{◌≡◌, ℕ, sym, ap, ◌∙◌, arith}
use Rattle.leap_table.specs.declared.rows.AnnouncedRows.{AnnouncedRows}
use Rattle.leap_table.specs.rows.Table.{fixed, starts, reached}
use Rattle.leap_table.specs.rows.Announced.{least, announced_size, rows_of, rows_to}
use Rattle.leap_table.proofs.rows.ByParts.{least-low}
use Rattle.leap_table.proofs.offsets.look_up.table_rows_reached.Goals as goal

no-announced : (t : AnnouncedRows) (n : ℕ) → t.months_size ≡ 0 → reached (starts fixed) n ≡ reached (starts (rows_of t)) n
unfolding rows_to announced_size
no-announced t n e =
    ap (λ (k : ℕ). reached (starts (rows_to t k)) n)
    (sym (ap (λ (k : ℕ). least (least k t.seconds_size) 16) e ∙ ap (λ (k : ℕ). least k 16) (least-low 0 t.seconds_size (omega arith))))

pub returns-then-table-eq0 : goal.returns-then-table-eq0
returns-then-table-eq0 c =
    let r = c.fixed_rows_reached.ensures in
    (r.0 ∙ no-announced c.args.table.now c.args.n c.if-table-eq0.true, omega (arith, r.1))
