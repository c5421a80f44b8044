-- The cases of a way, by the number of the scale and by the tests, one by one. Assumes nothing.
use Prim.Native.Nat.{ℕ}
use mathlib.Core.Path.{◌≡◌}
use mathlib.Core.Bool.{true, false, ◌&&◌}
use mathlib.Core.List.{List}
use lib.Dec.{eqb}
use borrow.Author.Tests.{eq-eqb, ne_eqb}
use Rattle.refusals.specs.Outcome.{answer, onward}
use Rattle.julian.specs.declared.JulianDate.{JulianDate}
use Rattle.leap_table.specs.rows.Table.{Row}
use Rattle.scales.specs.Conversions.{answer_of, gps-tai, tai-gps, tai-tt, tt-tai, tcg-tt, tt_tcg, tai-tcg, tcg-tai}
use Rattle.utc_scales.specs.UtcTai.{utc_to_tai, tai_to_utc}
use Rattle.runs.specs.ways.Ways.{into_tai, out_of_tai, between, way_of}

module _ (rows : List Row) (n : ℕ) (d : JulianDate) where
  pub into-utc : n ≡ 0 → utc_to_tai rows d ≡ into_tai rows n d
  unfolding into_tai
  into-utc a = rw (eq-eqb n 0 a)

  pub out-utc : n ≡ 0 → tai_to_utc rows d ≡ out_of_tai rows n d
  unfolding out_of_tai
  out-utc a = rw (eq-eqb n 0 a)

  module _ (a : n ≡ 0 → ⊥) where
    pub into-tt : n ≡ 3 → answer_of tt-tai d ≡ into_tai rows n d
    unfolding into_tai
    into-tt b = rw (ne_eqb n 0 a, eq-eqb n 3 b)

    pub out-tt : n ≡ 3 → answer_of tai-tt d ≡ out_of_tai rows n d
    unfolding out_of_tai
    out-tt b = rw (ne_eqb n 0 a, eq-eqb n 3 b)

    module _ (b : n ≡ 3 → ⊥) where
      pub into-gps : n ≡ 4 → answer_of gps-tai d ≡ into_tai rows n d
      unfolding into_tai
      into-gps c = rw (ne_eqb n 0 a, ne_eqb n 3 b, eq-eqb n 4 c)

      pub out-gps : n ≡ 4 → answer_of tai-gps d ≡ out_of_tai rows n d
      unfolding out_of_tai
      out-gps c = rw (ne_eqb n 0 a, ne_eqb n 3 b, eq-eqb n 4 c)

      module _ (c : n ≡ 4 → ⊥) where
        pub into-tcg : n ≡ 5 → answer_of tcg-tai d ≡ into_tai rows n d
        unfolding into_tai
        into-tcg e = rw (ne_eqb n 0 a, ne_eqb n 3 b, ne_eqb n 4 c, eq-eqb n 5 e)

        pub out-tcg : n ≡ 5 → answer_of tai-tcg d ≡ out_of_tai rows n d
        unfolding out_of_tai
        out-tcg e = rw (ne_eqb n 0 a, ne_eqb n 3 b, ne_eqb n 4 c, eq-eqb n 5 e)

        pub into-none : (n ≡ 5 → ⊥) → answer d ≡ into_tai rows n d
        unfolding into_tai
        into-none e = rw (ne_eqb n 0 a, ne_eqb n 3 b, ne_eqb n 4 c, ne_eqb n 5 e)

        pub out_none : (n ≡ 5 → ⊥) → answer d ≡ out_of_tai rows n d
        unfolding out_of_tai
        out_none e = rw (ne_eqb n 0 a, ne_eqb n 3 b, ne_eqb n 4 c, ne_eqb n 5 e)

module _ (rows : List Row) (from to : ℕ) (d : JulianDate) where
  pub between-tcg : (eqb from 3 && eqb to 5) ≡ true → answer_of tt_tcg d ≡ between rows from to d
  unfolding between
  between-tcg a = rw a

  module _ (a : (eqb from 3 && eqb to 5) ≡ false) where
    pub between-tt : (eqb from 5 && eqb to 3) ≡ true → answer_of tcg-tt d ≡ between rows from to d
    unfolding between
    between-tt b = rw (a, b)

    pub between-tai : (eqb from 5 && eqb to 3) ≡ false → onward (into_tai rows from d) (out_of_tai rows to) ≡ between rows from to d
    unfolding between
    between-tai b = rw (a, b)

  pub way_between : (from ≡ to → ⊥) → between rows from to d ≡ way_of rows from to d
  unfolding way_of
  way_between e = rw (ne_eqb from to e)
