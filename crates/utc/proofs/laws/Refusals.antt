-- Refusals of one number are one refusal. Assumes nothing.
use Rattle.std.proofs.Common.{◌≡◌, ℕ, cond, eqb, refl, sym, ap, ◌∙◌}
use Rattle.refusals.specs.declared.Refusal.{Refusal}
use Rattle.refusals.specs.declared.Refusal.TheVariants as R
use Rattle.refusals.specs.Refusal.{refusal_number}

-- the refusal that has a number
abbrev named : ℕ → Refusal
named n =
    cond (eqb n 1) R.YearBeforeFirst (
    cond (eqb n 2) R.MonthNotInYear (
    cond (eqb n 3) R.DayNotInMonth (
    cond (eqb n 4) R.TimeNotInDay (
    cond (eqb n 5) R.NoNextDay (
    cond (eqb n 6) R.DateOutOfRange (
    cond (eqb n 7) R.FractionNotInDay (
    cond (eqb n 8) R.NanosNotInSecond (
    cond (eqb n 9) R.PartNotFinite (
    cond (eqb n 10) R.OffsetNotFinite (
    cond (eqb n 11) R.NoRoom (
    cond (eqb n 12) R.SizesDiffer (
    cond (eqb n 13) R.TooManyStamps (
    cond (eqb n 14) R.LengthWrong (
    cond (eqb n 15) R.TextOutsideGrammar (
    cond (eqb n 16) R.TooManyFractionDigits (
    cond (eqb n 17) R.OutOfOrder (
    cond (eqb n 18) R.OutOfLimit (
    cond (eqb n 19) R.WeekNotDecided (
    cond (eqb n 20) R.TableSizesWrong (
    cond (eqb n 21) R.TableNotRising (
    cond (eqb n 22) R.TableStepWrong (
    cond (eqb n 23) R.PassesNotUsable (
    cond (eqb n 24) R.PassesNotRising (
    cond (eqb n 25) R.TickOutsidePasses (
    cond (eqb n 26) R.EndBeforeStart (
    cond (eqb n 27) R.BillNumberOverLimit (
    R.BothLengthsZero)))))))))))))))))))))))))))

read-back : (r : Refusal) → named (refusal_number r) ≡ r
unfolding refusal_number
read-back R.YearBeforeFirst = refl
read-back R.MonthNotInYear = refl
read-back R.DayNotInMonth = refl
read-back R.TimeNotInDay = refl
read-back R.NoNextDay = refl
read-back R.DateOutOfRange = refl
read-back R.FractionNotInDay = refl
read-back R.NanosNotInSecond = refl
read-back R.PartNotFinite = refl
read-back R.OffsetNotFinite = refl
read-back R.NoRoom = refl
read-back R.SizesDiffer = refl
read-back R.TooManyStamps = refl
read-back R.LengthWrong = refl
read-back R.TextOutsideGrammar = refl
read-back R.TooManyFractionDigits = refl
read-back R.OutOfOrder = refl
read-back R.OutOfLimit = refl
read-back R.WeekNotDecided = refl
read-back R.TableSizesWrong = refl
read-back R.TableNotRising = refl
read-back R.TableStepWrong = refl
read-back R.PassesNotUsable = refl
read-back R.PassesNotRising = refl
read-back R.TickOutsidePasses = refl
read-back R.EndBeforeStart = refl
read-back R.BillNumberOverLimit = refl
read-back R.BothLengthsZero = refl

pub same_refusal : (r s : Refusal) → refusal_number r ≡ refusal_number s → r ≡ s
same_refusal r s e = sym (read-back r) ∙ ap named e ∙ read-back s
