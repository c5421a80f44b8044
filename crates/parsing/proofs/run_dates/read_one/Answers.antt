-- `parsing::run_dates::read_one` meets its contract. Assumes nothing.
use Prim.Native.Nat.{◌+◌, ◌*◌, ◌-◌}
use native.Mathlib.Omega.{arith}
use mathlib.Core.Path.{refl, ◌∙◌}
use lib.ListN.{get_or}
use Rattle.refusals.specs.declared.Refusal.TheVariants as R
use Rattle.refusals.specs.Refusal.{refusal_number}
use Rattle.refusals.proofs.Handed.{number_in_byte}
use Rattle.leap_table.specs.rows.Announced.{rows_of}
use Rattle.parsing.proofs.run_dates.Calls.{too_long, text_read}
use Rattle.parsing.proofs.run_dates.read_one.Goals as goal

pub returns-then-long-gt27 : goal.returns-then-long-gt27
unfolding refusal_number
returns-then-long-gt27 c =
    let a = c.args in (
      too_long (rows_of a.table.now) a.texts.now a.lengths.now a.i (get_or a.lengths.now a.i 0) refl _
          a.out1.now a.out2.now c.if-long-gt27.true (c.byte.ensures ∙ number_in_byte R.TextOutsideGrammar),
      c.requires.2,
    )

pub returns : goal.returns
returns c =
    let a = c.args in
    let long = get_or a.lengths.now a.i 0 in (
      text_read (rows_of a.table.now) a.texts.now a.lengths.now a.i long refl
          (27 * a.i + long - 27 * a.i) c.if-long-gt27.false (omega arith) c.read_text-read.ensures.found c.put_date-number.ensures,
      c.read_text-read.ensures.kept,
    )
