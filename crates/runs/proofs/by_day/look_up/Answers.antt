-- `runs::by_day::look_up` meets its contract. Assumes nothing.
use mathlib.Core.Path.{◌≡◌, refl, sym, ap, subst, ◌∙◌}
use mathlib.Core.Bool.{true, false≢true}
use Prim.Native.Nat.{◌≤◌}
use mir.Syntax.{w64}
use mir.Val.{to_z, of_z}
use lib.IntN.{ℤ, pos, negsuc, nat_abs, ◌-ℤ◌}
use lib.Ieee.{Float, fin, binary64, sub, eq, lt, of_int, to_signed, of_bits, neg}
use Rattle.refusals.specs.Outcome.{outcome}
use Rattle.floats.specs.declared.NearestWhole.{NearestWhole}
use Rattle.floats.specs.Whole.{nought, nearest_int}
use Rattle.floats.specs.NearestWhole.{nearest_whole}
use Rattle.floats.proofs.Laws.{yes}
use Rattle.calendar.specs.Gregorian.{gregorian_date}
use Rattle.julian.specs.day_number.Ranges.{InDays}
use Rattle.julian.specs.day_number.Midnights.{day_from}
use Rattle.julian.proofs.day_number.Ranges.{day-read}
use Rattle.julian.proofs.day_number.PartsOfDay.{day-in-days}
use Rattle.leap_table.specs.rows.Announced.{rows_of}
use Rattle.leap_table.proofs.offsets.Rules.{apart}
use Rattle.utc_scales.specs.Known.{read_on}
use Rattle.utc_scales.proofs.days.Midnights.{day-asked}
use Rattle.runs.specs.declared.by_day.DayInHand.{DayInHand}
use Rattle.runs.specs.by_day.Hand.{HeldDay, hand_of, serves_none, RightHand}
use Rattle.runs.proofs.by_day.look_up.Goals as goal

-- the whole number that was found is the day
number_is : (x : Float) (w : NearestWhole) → w ≡ nearest_whole x → InDays (day_from x) → to_z w64 (of_z w64 w.number) ≡ day_from x
unfolding day_from nearest_whole
number_is x w e r = ap (λ (z : NearestWhole). to_z w64 (of_z w64 z.number)) e ∙ day-read (to_signed 63 (nearest_int x)) r

before-noon-of : (x : Float) (w : NearestWhole) → w ≡ nearest_whole x → eq (sub binary64 x w.value) (fin true 1 (negsuc 0)) ≡ true
    → eq (sub binary64 x (nearest_int x)) (fin true 1 (negsuc 0)) ≡ true
unfolding nearest_whole
before-noon-of x w e h = subst (λ (z : NearestWhole). eq (sub binary64 x z.value) (fin true 1 (negsuc 0)) ≡ true) e h

pub mjd_of-requires : goal.mjd_of-requires
unfolding of_bits day_from nearest_whole
mjd_of-requires c =
    let r = day-in-days c.args.midnight (yes c.well_formed.0.1) c.if-midnight.true c.if-midnight-2.true in
    subst (λ (z : NearestWhole). nat_abs (to_z w64 (of_z w64 z.number)) ≤ 1000000000) (sym c.nearest_whole-w.ensures) (day-asked _ r)

pub returns-in-Err : goal.returns-in-Err
unfolding RightHand serves_none of_bits lt
returns-in-Err c e = absurd (false≢true (sym (ap (λ (h : DayInHand). lt nought h.top) c.serves_none.ensures) ∙ e))

pub returns-in-Ok : goal.returns-in-Ok
unfolding RightHand hand_of outcome read_on of_bits neg
returns-in-Ok c e =
    let rows = rows_of c.args.table.now in
    let x = c.args.midnight in
    let fx = yes c.well_formed.0.1 in
    let r = day-in-days x fx c.if-midnight.true c.if-midnight-2.true in
    let n = number_is x c.nearest_whole-w.result c.nearest_whole-w.ensures r in
    let g = sym c.day_of.ensures ∙ ap outcome c.in-Ok.is in
    let q = apart _ _ _ _ (ap (λ (z : ℤ). read_on rows (gregorian_date z)) (sym n) ∙ g) in
    let m = c.mjd_of.ensures ∙ ap (λ (z : ℤ). of_int binary64 (z -ℤ pos 2400001)) n in
    subst (HeldDay rows) (sym (c.hand_of.ensures ∙ ap (λ (z : Float). hand_of x z c.in-Ok.o) m))
    (record {
      offsets = c.in-Ok.o;
      begins = record {
        before_noon = before-noon-of x c.nearest_whole-w.result c.nearest_whole-w.ensures c.if-midnight-w.true;
        late = c.if-midnight.true;
        held = fx;
        in-days = r;
      };
      read = q.0;
      same = refl;
    })

pub returns : goal.returns
unfolding RightHand serves_none of_bits lt
returns c e = absurd (false≢true (sym (ap (λ (h : DayInHand). lt nought h.top) c.serves_none-2.ensures) ∙ e))
