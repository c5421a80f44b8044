-- The refusals of a list in their order after the table: a broken triple, too few places, then the dates. Assumes nothing.
use Rattle.std.proofs.Common.{◌≡◌, ℕ, ◌<◌, ◌≤◌, Bool, true, false, cond, List, length, sym, refl, ap, ◌∙◌, arith, le-leb}
use borrow.Author.Tests.{lt-leb}
use Rattle.refusals.specs.Outcome.{Outcome, refusal}
use Rattle.leap_table.specs.declared.judging.Triple.{Triple}
use Rattle.leap_table.specs.judging.Judging.{judged_all, judged_list}

module _ (dates : List Triple) (places : ℕ) where
  pub broken : refusal 14 ≡ judged_list false dates places
  unfolding judged_list
  broken = refl

  pub no-places : (n : ℕ) → length dates ≡ n → places < n → refusal 11 ≡ judged_list true dates places
  unfolding judged_list
  no-places n e h = rw (lt-leb (length dates) places (omega arith))

  pub by-dates : (n : ℕ) → length dates ≡ n → n ≤ places → (o : Outcome Unit) → o ≡ judged_all dates → o ≡ judged_list true dates places
  unfolding judged_list
  by-dates n e h o j = j ∙ sym (ap (λ (b : Bool). cond b (judged_all dates) (refusal 11)) (le-leb (length dates) places (omega arith)))
