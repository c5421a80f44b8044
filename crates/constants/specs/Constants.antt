-- The constants of time as decimals: each is the float nearest to its decimal, and what is computed of them is computed in the source's order, each operation
-- rounded once. Written from the Rust's constants.rs and from document 01; 32.184 s, L_G, L_B and TDB_0 are SOFA's decimals. Assumes nothing.
use Rattle.std.specs.Prelude.{ℕ, ◌^◌, false, List, [], ◌∷◌, Float}
use Rattle.std.specs.Float.{binary64}
use Rattle.std.specs.Float.Ieee.{round, neg, add, sub, div}

-- the float nearest to n / 10 ^ places
abbrev pub decimal : ℕ → ℕ → Float
decimal n places = round binary64 false n (10 ^ places)

unfoldable pub seconds_per_day : Float
seconds_per_day = decimal 86400 0

unfoldable pub nanoseconds_per_second : Float
nanoseconds_per_second = decimal 1000000000 0

unfoldable pub days_per_julian_year : Float
days_per_julian_year = decimal 36525 2

unfoldable pub mjd_zero_point : Float
mjd_zero_point = decimal 24000005 1

unfoldable pub j2000_jd : Float
j2000_jd = decimal 2451545 0

unfoldable pub unix_epoch_jd : Float
unix_epoch_jd = decimal 24405875 1

-- TAI - GPS, and TT - TAI, in seconds
unfoldable pub gps_to_tai_offset_seconds : Float
gps_to_tai_offset_seconds = decimal 19 0

unfoldable pub tt_tai_offset : Float
tt_tai_offset = decimal 32184 3

-- L_G = 6.969290134e-10 and L_B = 1.550519768e-8
unfoldable pub tcg_rate_lg : Float
tcg_rate_lg = decimal 6969290134 19

unfoldable pub tcb_rate_lb : Float
tcb_rate_lb = decimal 1550519768 17

-- TDB_0 = -6.55e-5 s
unfoldable pub tdb_offset1977 : Float
tdb_offset1977 = neg (decimal 655 7)

-- 1977-01-01, midnight, as a Modified Julian Date; and the instant in TT at which TT, TCG and TCB agree
unfoldable pub mjd1977_jan1 : Float
mjd1977_jan1 = decimal 43144 0

unfoldable pub tcg_reference_epoch : Float
tcg_reference_epoch = add binary64 mjd1977_jan1 (div binary64 tt_tai_offset seconds_per_day)

-- k / (1 - k)
unfoldable pub ratio : Float → Float
ratio k = div binary64 k (sub binary64 (decimal 1 0) k)

unfoldable pub tcg_rate_ratio : Float
tcg_rate_ratio = ratio tcg_rate_lg

unfoldable pub tcb_rate_ratio : Float
tcb_rate_ratio = ratio tcb_rate_lb

-- all of them, in the order of the source's list
unfoldable pub in_order : List Float
in_order =
    seconds_per_day ∷ nanoseconds_per_second ∷ days_per_julian_year ∷ mjd_zero_point ∷ j2000_jd ∷ unix_epoch_jd ∷ gps_to_tai_offset_seconds ∷ tt_tai_offset
    ∷ tcg_rate_lg ∷ tcb_rate_lb ∷ tdb_offset1977 ∷ mjd1977_jan1 ∷ tcg_reference_epoch ∷ tcg_rate_ratio ∷ tcb_rate_ratio ∷ []
