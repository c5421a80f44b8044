-- `leap_table::walk::month_of` meets its contract. Assumes nothing.
use Rattle.std.proofs.Common.{nat_abs, ◌∙◌, arith, w32, SFits, rules}
use Rattle.calendar.proofs.Signs.{to-unsigned, read_back}
use Rattle.calendar.proofs.Accepted.{date-accepted}
use Rattle.leap_table.proofs.offsets.Month.{read-month, number-small}
use Rattle.leap_table.proofs.walk.month_of.Goals as goal

pub overflow_cast-t : goal.overflow_cast-t
overflow_cast-t c =
    let s = c.args.t in
    to-unsigned s.month (search rules) (date-accepted s.year s.month s.day c.requires).m-sign

pub month_number-requires : goal.month_number-requires
month_number-requires c =
    let s = c.args.t in
    let ok = date-accepted s.year s.month s.day c.requires in
    let m = read_back s.month (search rules) in
    (omega (arith, m, ok.m_low), omega (arith, m, ok.m_high))

pub returns : goal.returns
returns c =
    let s = c.args.t in
    let f : SFits w32 s.year = search rules in
    let e = c.month_number.ensures ∙ read-month s.year s.month f (search rules) in
    (e, rw e (number-small s.year (nat_abs s.month) f (date-accepted s.year s.month s.day c.requires).m_high))
