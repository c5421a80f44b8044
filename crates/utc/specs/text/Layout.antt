-- The code's own form of the text: seven places for the year, of which the first few are skipped. No public contract cites it. Assumes nothing.
use Rattle.std.specs.Prelude.{ℕ, ◌/◌, List, ◌∷◌, Bool, true, false, not, ◌&&◌, cond, ltb}
use Rattle.utc.specs.text.Text.{last, three, four, five, six, seven}

-- a year by its sign and its size
unfoldable pub signed : Bool → ℕ → List ℕ
signed true n = 45 ∷ cond (ltb n 1000) (three n) (four n)
signed false n = cond (ltb n 10000) (four n) (cond (ltb n 100000) (five n) (cond (ltb n 1000000) (six n) (seven n)))

unfoldable pub basic_year : Bool → ℕ → Bool
basic_year neg n = not neg && ltb n 10000

unfoldable pub third : Bool → ℕ → ℕ
third true n = 45
third false n = last (n / 10000)

unfoldable pub fourth : Bool → ℕ → ℕ
fourth true n = cond (ltb n 1000) 45 (last (n / 1000))
fourth false n = last (n / 1000)

unfoldable pub skipped : Bool → ℕ → ℕ
skipped true n = cond (ltb n 1000) 3 2
skipped false n = cond (ltb n 10000) 3 (cond (ltb n 100000) 2 (cond (ltb n 1000000) 1 0))

abbrev pub wide : ℕ → ℕ → ℕ → List ℕ
wide c2 c3 n = last (n / 1000000) ∷ last (n / 100000) ∷ c2 ∷ c3 ∷ three n
