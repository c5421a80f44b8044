-- The bill for a crew's standby. Written from document 02, item 11: each started 900 s, at most 1,000,000 quarters, a rate of at most 1,000,000 cents, at most
-- 1,000,000 metres each; "both shares are rounded down, and a cent left over goes to the larger remainder, a tie to the first"; "Turned away after those: 26
-- for an end before the start; 27 for a number over its limit; 28 for both lengths 0". Assumes nothing.
use Rattle.std.specs.Prelude.{ℕ, ◌+◌, ◌-◌, ◌*◌, ◌/◌, ◌%◌, Bool, cond, ◌||◌, List, eqb, ltb}
use Rattle.refusals.specs.Outcome.{Outcome, answer, refusal, onward}
use Rattle.leap_table.specs.rows.Table.{Row}
use Rattle.standby.specs.declared.UtcTime.{UtcTime}
use Rattle.standby.specs.declared.Bill.{Bill}
use Rattle.standby.specs.Times.{instant}

abbrev pub is_before : ℕ → ℕ → Bool
is_before a b = ltb a b

-- each started 900,000 ms; it is the least number of them that holds the time (`quarters-least`)
unfoldable pub quarters : ℕ → ℕ
quarters millis = (millis + 899999) / 900000

-- from one millisecond to another
abbrev pub quarters_between : ℕ → ℕ → ℕ
quarters_between start end = quarters (end - start)

unfoldable pub over_limit : ℕ → ℕ → ℕ → ℕ → Bool
over_limit q rate a b = ltb 1000000 q || (ltb 1000000 rate || (ltb 1000000 a || ltb 1000000 b))

-- the part of the total by metres of all the line, rounded down, and its remainder
abbrev pub share_down : ℕ → ℕ → ℕ → ℕ
share_down total metres all = total * metres / all

abbrev pub remainder : ℕ → ℕ → ℕ → ℕ
remainder total metres all = total * metres % all

-- what both parts leave of the total: nothing or one cent (`left-at-most-one`)
abbrev pub cent_left : ℕ → ℕ → ℕ → ℕ
cent_left total a b = total - share_down total a (a + b) - share_down total b (a + b)

abbrev pub bill : ℕ → ℕ → ℕ → Bill
bill q first second = record { quarters = q; first = first; second = second }

-- what is left goes to the larger remainder, and to the first where they tie
unfoldable pub shares : ℕ → ℕ → ℕ → ℕ → Bill
shares q total a b =
    cond (ltb (remainder total a (a + b)) (remainder total b (a + b)))
    (bill q (share_down total a (a + b)) (share_down total b (a + b) + cent_left total a b))
    (bill q (share_down total a (a + b) + cent_left total a b) (share_down total b (a + b)))

unfoldable pub bill_between : ℕ → ℕ → ℕ → ℕ → ℕ → Outcome Bill
bill_between start end rate a b =
    cond (is_before end start) (refusal 26)
    (cond (over_limit (quarters_between start end) rate a b) (refusal 27)
    (cond (eqb (a + b) 0) (refusal 28)
    (answer (shares (quarters_between start end) (quarters_between start end * rate) a b))))

-- the start is looked at before the end
unfoldable pub standby_bill : List Row → UtcTime → UtcTime → ℕ → ℕ → ℕ → Outcome Bill
standby_bill rows start end rate a b =
    onward (instant rows start) (λ s.
    onward (instant rows end) (λ e.
    bill_between s e rate a b))
