-- The number of each refusal. Written from documents 01 and 02, "Refusals by number". Assumes nothing.
use Rattle.std.specs.Prelude.{ℕ}
use Rattle.refusals.specs.declared.Refusal.{Refusal}
use Rattle.refusals.specs.declared.Refusal.TheVariants as R

unfoldable pub refusal_number : Refusal → ℕ
refusal_number R.YearBeforeFirst = 1
refusal_number R.MonthNotInYear = 2
refusal_number R.DayNotInMonth = 3
refusal_number R.TimeNotInDay = 4
refusal_number R.NoNextDay = 5
refusal_number R.DateOutOfRange = 6
refusal_number R.FractionNotInDay = 7
refusal_number R.NanosNotInSecond = 8
refusal_number R.PartNotFinite = 9
refusal_number R.OffsetNotFinite = 10
refusal_number R.NoRoom = 11
refusal_number R.SizesDiffer = 12
refusal_number R.TooManyStamps = 13
refusal_number R.LengthWrong = 14
refusal_number R.TextOutsideGrammar = 15
refusal_number R.TooManyFractionDigits = 16
refusal_number R.OutOfOrder = 17
refusal_number R.OutOfLimit = 18
refusal_number R.WeekNotDecided = 19
refusal_number R.TableSizesWrong = 20
refusal_number R.TableNotRising = 21
refusal_number R.TableStepWrong = 22
refusal_number R.PassesNotUsable = 23
refusal_number R.PassesNotRising = 24
refusal_number R.TickOutsidePasses = 25
refusal_number R.EndBeforeStart = 26
refusal_number R.BillNumberOverLimit = 27
refusal_number R.BothLengthsZero = 28
