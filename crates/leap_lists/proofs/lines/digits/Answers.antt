-- `leap_lists::lines::digits` meets its contract: digit by digit, and 12 digits fit. Assumes nothing.
use Rattle.std.proofs.Common.{List, Bool, ℕ, ◌≡◌, ◌+◌, ◌-◌, ◌*◌, suc, true, get_or, sym, ap, subst, ◌∙◌, arith}
use Rattle.numerals.specs.digits.Decimal.{is_digit}
use Rattle.numerals.proofs.digits.Decimal.{digit_bounds}
use Rattle.leap_lists.proofs.lines.Runs.{RunsOn, run_small, run_on, run_ends, leading-stop, none_more}
use Rattle.leap_lists.proofs.lines.digits.Goals as goal

-- what is read where a byte is no digit
pub returns-then-not-digit-clause-says : goal.returns-then-not-digit-clause-says
returns-then-not-digit-clause-says c =
    let a = c.args in
    (run_ends a.most 0 a.s.now c.loop-i.value c.loop-i.i (a.most - c.loop-i.i)
    (leading-stop a.s.now c.loop-i.i (a.most - c.loop-i.i) (ap is_digit (sym c.byte_at-c.ensures) ∙ sym c.digit.ensures ∙ c.if-not-digit.true))
    c.loop-i.invariant).value

pub returns-then-not-digit-clause-many : goal.returns-then-not-digit-clause-many
returns-then-not-digit-clause-many c =
    let a = c.args in
    let d = run_ends a.most 0 a.s.now c.loop-i.value c.loop-i.i (a.most - c.loop-i.i)
    (leading-stop a.s.now c.loop-i.i (a.most - c.loop-i.i) (ap is_digit (sym c.byte_at-c.ensures) ∙ sym c.digit.ensures ∙ c.if-not-digit.true))
    c.loop-i.invariant in
    omega (arith, d.end)

-- the byte is a digit
is_digit_lem : (s : List ℕ) (i c : ℕ) (b : Bool) → c ≡ get_or s i 0 → b ≡ is_digit c → b ≡ true → is_digit (get_or s i 0) ≡ true
is_digit_lem s i c b e d h = ap is_digit (sym e) ∙ sym d ∙ h

pub overflow_mul-value : goal.overflow_mul-value
overflow_mul-value c =
    let a = c.args in
    record { fits = omega (arith, run_small a.most 0 a.s.now _ c.loop-i.i (a.most - c.loop-i.i) c.requires c.loop-i.invariant) }

pub overflow_sub-value : goal.overflow_sub-value
overflow_sub-value c =
    omega (arith, c.byte_at-c.ensures, (digit_bounds _ (is_digit_lem c.args.s.now c.loop-i.i _ _ c.byte_at-c.ensures c.digit.ensures c.if-not-digit.false)).0)

pub overflow_add-value : goal.overflow_add-value
overflow_add-value c =
    let a = c.args in
    let e = is_digit_lem a.s.now c.loop-i.i _ _ c.byte_at-c.ensures c.digit.ensures c.if-not-digit.false in
    record {
      fits = omega (
        arith,
        c.byte_at-c.ensures,
        (digit_bounds _ e).1,
        run_small a.most 0 a.s.now _ c.loop-i.i (a.most - c.loop-i.i) c.requires c.loop-i.invariant,
      );
    }

pub loop-i-preserved : goal.loop-i-preserved
loop-i-preserved c =
    let a = c.args in
    let i = c.loop-i.i in
    let p : a.most - i ≡ suc (a.most - (i + 1)) = omega (arith, c.loop-i-test.true) in
    run_on a.most 0 a.s.now c.loop-i.value i (a.most - (i + 1)) _
    (is_digit_lem a.s.now i _ _ c.byte_at-c.ensures c.digit.ensures c.if-not-digit.false)
    (ap (λ n. 10 * c.loop-i.value + (n - 48)) c.byte_at-c.ensures)
    (subst (RunsOn a.most 0 a.s.now c.loop-i.value i) p c.loop-i.invariant)

-- all are read
pub returns-clause-says : goal.returns-clause-says
returns-clause-says c =
    let a = c.args in
    let p : a.most - c.loop-i.i ≡ 0 = omega (arith, c.loop-i-test.false) in
    (run_ends a.most 0 a.s.now c.loop-i.value c.loop-i.i 0 (none_more _)
    (subst (RunsOn a.most 0 a.s.now c.loop-i.value c.loop-i.i) p c.loop-i.invariant)).value

pub returns-clause-many : goal.returns-clause-many
returns-clause-many c =
    let a = c.args in
    let p : a.most - c.loop-i.i ≡ 0 = omega (arith, c.loop-i-test.false) in
    let d = run_ends a.most 0 a.s.now c.loop-i.value c.loop-i.i 0 (none_more _)
    (subst (RunsOn a.most 0 a.s.now c.loop-i.value c.loop-i.i) p c.loop-i.invariant) in
    omega (arith, c.loop-i-test.false, c.loop-i.auto.i-end, d.end, p)
