-- The whole week of its ten lowest bits, which is all that the old message of IS-GPS-200 sends. Written from document 02, item 7: "The result is the week with
-- those ten bits that lies nearest the reference and is not below 0", 19 "where two weeks not below 0 are equally near". Assumes nothing.
use Rattle.std.specs.Prelude.{◌≡◌, ℕ, ◌+◌, ◌-◌, ◌%◌, ◌<◌, ◌≤◌, cond, ◌||◌, ◌==◌, ◌≢◌, nat_le, nat_lt}
use Rattle.refusals.specs.Outcome.{Outcome, answer, refusal}

-- the week `back` before the reference, or the one 1,024 later, whichever is nearer
unfoldable pub by_distance : ℕ → ℕ → Outcome ℕ
by_distance reference back = cond (back == 512) (refusal 19) (cond (nat_lt back 512) (answer (reference - back)) (answer (reference - back + 1024)))

-- where the ten bits are above the reference, the week of the bits themselves is the first that is not below 0
unfoldable pub full_week : ℕ → ℕ → Outcome ℕ
full_week bits reference =
    cond (nat_le 1024 bits || nat_lt 99000 reference) (refusal 18)
    (cond (nat_lt reference bits) (answer bits) (by_distance reference ((reference - bits) % 1024)))

-- how far two weeks are apart
abbrev pub apart : ℕ → ℕ → ℕ
apart v w = (v - w) + (w - v)

-- w has the ten bits, and every other week that has them is farther from the reference
pub record NearestWeek (bits reference w : ℕ) : Type 0 where
  pub has : w % 1024 ≡ bits
  pub nearest : (v : ℕ) → v % 1024 ≡ bits → (v ≢ w) → apart w reference < apart v reference

-- two weeks have the ten bits and are equally near, and none is nearer
pub record Tie (bits reference : ℕ) : Type 0 where
  pub v : ℕ
  pub w : ℕ
  pub two : v < w
  pub has_v : v % 1024 ≡ bits
  pub has_w : w % 1024 ≡ bits
  pub level : apart v reference ≡ apart w reference
  pub none_nearer : (u : ℕ) → u % 1024 ≡ bits → apart v reference ≤ apart u reference
