-- The number of a refusal is the one that its case has in the code: each case computes. Assumes nothing.
use Rattle.std.proofs.Common.{◌≡◌, ◌+◌, refl}
use Rattle.refusals.specs.declared.Refusal.{Refusal}
use Rattle.refusals.specs.declared.Refusal.TheVariants as R
use Rattle.refusals.specs.Refusal.{refusal_number}

pub by_tag : (r : Refusal) → denote.Enum.Declared.tag_of Rattle.refusals.specs.contracts.Refusal.the_type r + 1 ≡ refusal_number r
unfolding refusal_number
by_tag R.YearBeforeFirst = refl
by_tag R.MonthNotInYear = refl
by_tag R.DayNotInMonth = refl
by_tag R.TimeNotInDay = refl
by_tag R.NoNextDay = refl
by_tag R.DateOutOfRange = refl
by_tag R.FractionNotInDay = refl
by_tag R.NanosNotInSecond = refl
by_tag R.PartNotFinite = refl
by_tag R.OffsetNotFinite = refl
by_tag R.NoRoom = refl
by_tag R.SizesDiffer = refl
by_tag R.TooManyStamps = refl
by_tag R.LengthWrong = refl
by_tag R.TextOutsideGrammar = refl
by_tag R.TooManyFractionDigits = refl
by_tag R.OutOfOrder = refl
by_tag R.OutOfLimit = refl
by_tag R.WeekNotDecided = refl
by_tag R.TableSizesWrong = refl
by_tag R.TableNotRising = refl
by_tag R.TableStepWrong = refl
by_tag R.PassesNotUsable = refl
by_tag R.PassesNotRising = refl
by_tag R.TickOutsidePasses = refl
by_tag R.EndBeforeStart = refl
by_tag R.BillNumberOverLimit = refl
by_tag R.BothLengthsZero = refl
