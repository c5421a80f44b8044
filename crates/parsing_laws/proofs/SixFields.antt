-- THE SIX FIELDS of every text that is read, by the digits that stand in it; all digits of a fraction count. Assumes nothing.
use mathlib.Core.Path.{◌≡◌, ap, sym, subst, ◌∙◌}
use mathlib.Core.List.{List}
use mathlib.Core.Bool.{Bool}
use Prim.Native.Nat.{ℕ, ◌*◌, ◌^◌, ◌≤◌, ◌<◌}
use native.Mathlib.Omega.{arith}
use native.Mathlib.Nat.{pow-le-pow_right, mul-le-mul_left}
use lib.Dec.{lit≤}
use lib.IntN.{pos}
use lib.Ieee.{of_int}
use Rattle.refusals.specs.Outcome.{Outcome, answer, refusal}
use Rattle.parsing.specs.declared.ParsedDateTime.{ParsedDateTime}
use Rattle.parsing.specs.scan.Written.{Written}
use Rattle.parsing.specs.Grammar.{Reads}
use Rattle.parsing.specs.Judging.{quotient}
use Rattle.parsing.specs.Parsed.{fields_of, parsed}
use Rattle.parsing.proofs.Seconds.{one-division}
use Rattle.parsing_laws.specs.Verdict.{Verdict, outside, too_many_digits, bad_date, bad_time, fields, SomeTime}
use Rattle.parsing_laws.specs.SixFields.{SixFields}
use Rattle.parsing_laws.proofs.Ladder.{verdict}

-- below 61 s the whole number is below 2 ^ 53
whole-small : (whole places : ℕ) → places ≤ 13 → whole < 61 * 10 ^ places → whole ≤ 1000000000000000
whole-small whole places h s =
    let p : 10 ^ places ≤ 10 ^ 13 = pow-le-pow_right {n = 10} (omega arith) h in
    let q : 61 * 10 ^ places ≤ 61 * 10 ^ 13 = mul-le-mul_left 61 p in
    let c : 61 * 10 ^ 13 ≤ 1000000000000000 = lit≤ tt in omega arith

module _ (utc : Bool) (t : List ℕ) where
  spelled : (w : Written) (r : Reads utc t w) → w.places ≤ 13 → SomeTime w → SixFields utc t (fields_of w)
  unfolding quotient of_int
  spelled w r h s = record {
    says = w;
    reading = r;
    few = omega (arith, r.places_is);
    year = ap pos r.year_is;
    month = r.month_is;
    day = r.day_is;
    hour = r.hour_is;
    minute = r.minute_is;
    second = sym (one-division w.whole w.places (whole-small w.whole w.places h s.second) h)
        ∙ (λ i. quotient (r.whole_is i) (r.places_is i));
  }

  pub six_fields : (f : ParsedDateTime) → parsed utc t ≡ answer f → SixFields utc t f
  six_fields f e = go (parsed utc t) (verdict utc t) e
    where
      never : {k : ℕ} → ◌≡◌ {A = Outcome ParsedDateTime} (refusal k) (answer f) → SixFields utc t f
      never p = let z : ◌≡◌ {A = ℕ} 0 1 = cc in absurd (omega arith)

      go : (o : Outcome ParsedDateTime) → Verdict utc t o → o ≡ answer f → SixFields utc t f
      go _ (outside n) p = never p
      go _ (too_many_digits w r h) p = never p
      go _ (bad_date w k r h d) p = never p
      go _ (bad_time w r h d n) p = never p
      go _ (fields w r h d s) p = let i : fields_of w ≡ f = cc in subst (SixFields utc t) i (spelled w r h s)
