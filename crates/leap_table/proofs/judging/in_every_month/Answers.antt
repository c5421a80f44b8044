-- `leap_table::judging::in_every_month` meets its contract: each month has 28 days. Assumes nothing.
use Rattle.std.proofs.Common.{ℤ, pos, negsuc, sym, ap, ◌∙◌, to_z-of_z, w32, rules}
use lib.Signed.{le_z}
use Rattle.calendar.proofs.Signs.{lt_left, lt_right}
use Rattle.leap_table.proofs.judging.Judges.{every_month}
use Rattle.leap_table.proofs.judging.in_every_month.Goals as goal

pub returns : goal.returns
returns c e =
    let s = c.args in
    every_month s.t
    (lt_left {w = w32} s.t.year (negsuc 4798) _ (search rules) c.if-t-ltminus4799.false)
    (lt_left {w = w32} s.t.month (pos 1) _ (search rules) c.if-t-lt1.false)
    (lt_right {w = w32} (pos 12) s.t.month _ (search rules) c.if-t-gt12.false)
    (lt_left {w = w32} s.t.day (pos 1) _ (search rules) c.if-t-lt1-2.false)
    (ap (λ (x : ℤ). le_z x (pos 28)) (sym (to_z-of_z {w = w32} {z = s.t.day} (search rules))) ∙ e)
