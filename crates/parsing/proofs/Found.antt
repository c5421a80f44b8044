-- The sets of lemmas by which the check finds proofs of `parsing` alone. Assumes nothing.
use Rattle.refusals.proofs.Handed.{handed_by}
use Rattle.numerals.proofs.digits.Decimal.{digit_bounds}
use Rattle.runs.proofs.by_formula.Puts.{len1, len2, len3, putting_ends}
use Rattle.parsing.proofs.run_dates.Calls.{has-places, has-byte, has-text, run-refused, table-refused, table_taken}
use Rattle.leap_table.proofs.rows.TablesTaken.{call_refused, call_taken, table_refused, table_answered}
use Rattle.parsing.proofs.Judgement.{parsed-is}
use Rattle.parsing.proofs.scan.Runs.{worth-of, worth-none, blank_skipped, blanks-stop, blanks-out, small_start, run-start, run-stops, run_out}
use Rattle.parsing.proofs.scan.Bytes.{date-at, time-at, none_left, within-small}
use Rattle.parsing.proofs.run_dates.KeptDays.{same-eleven, serves, date-by-day, not_pairs, not_end, form-found, time-small}

-- what a digit says
pub ruleset worths = (digit_bounds, worth-of, worth-none)

-- a date and a time, by their index in the whole text; blanks, and the end
pub ruleset starts = (date-at, time-at)

pub ruleset blanks = (blank_skipped, blanks-stop, blanks-out)

pub ruleset ends = (none_left)

-- a run of digits
pub ruleset runs = (small_start, run-start, run-stops, run_out)

-- a text that is scanned and judged, and one that is read by a table
pub ruleset texts = (handed_by, parsed-is, within-small)

pub ruleset tables = (handed_by, call_refused, call_taken)

-- the day that is kept: eleven bytes that are the same, a text that it serves, and the time of one
pub ruleset eleven = (same-eleven)

pub ruleset served = (handed_by, serves, date-by-day)

pub ruleset times = (handed_by, not_pairs, not_end, form-found)

pub ruleset small = (handed_by, time-small)

-- the texts of a run, their lengths, and the table
pub ruleset reads = (len1, len2, len3, putting_ends, has-places, has-byte, has-text)

pub ruleset calls = (handed_by, run-refused)

pub ruleset tested = (handed_by, table-refused, table_taken, table_refused, table_answered)
