-- WORKED RUNS, by computation: two blocks of one stamp and a byte too many, and their TAI where the second is a NaN; a block of two stamps, one of one and a
-- cut one. Assumes nothing.
use Rattle.std.proofs.Common.{◌≡◌, ℕ, List, [], ◌∷◌, ◌++◌, refl}
use lib.Ieee.{of_bits, to_bits, round}
use Rattle.refusals.specs.Outcome.{answer, onward}
use Rattle.numerals.specs.little_endian.LittleEndian.{u32_at, u64_at, four_at, four_bytes, eight_bytes}
use Rattle.julian.specs.Finite.{finite_jd, finite_arg}
use Rattle.julian.specs.stamp_lists.Stamps.{stamp_of}
use Rattle.leap_table.specs.rows.Table.{fixed}
use Rattle.stamps.specs.Block.{block_of}
use Rattle.runs.specs.ways.Ways.{is_run_scale, way_of}
use Rattle.runs.specs.by_formula.Run.{number_byte, with_part, with_parts, with_numbers, refused_among, run_call, run_written}
use Rattle.runs.specs.Run.{run_refusal, run_by}
use Rattle.line_listing.specs.taken.Run.{first_block, with_block, blocks_in, run_blocks, stamps_of, blocks_bytes, first_parts, second_parts, taken_run}
use Rattle.line_listing.specs.taken.Call.{size_of, take_refusal, taken_by, taken_call}

-- a block of one stamp, by the patterns of its parts
abbrev one : ℕ → ℕ → List ℕ
one a b = four_bytes 1 ++ (four_bytes 1 ++ (eight_bytes a ++ eight_bytes b))

-- the patterns of 2457754.5, of a half, and of a NaN
abbrev midnight : ℕ
midnight = 0x4142_c04d_4000_0000

abbrev half : ℕ
half = 0x3fe0_0000_0000_0000

abbrev not_a_number : ℕ
not_a_number = 0x7ff8_0000_0000_0000

abbrev two_blocks : List ℕ
two_blocks = one midnight half ++ (one half not_a_number ++ (7 ∷ []))

-- two stamps in two blocks of 48 bytes, ended by 14
pub two-sizes : size_of (run_blocks two_blocks) ≡ record { stamps = 2; blocks = 2; bytes = 48; refused = 14 }
unfolding size_of run_blocks blocks_in with_block first_block block_of u32_at four_at stamps_of blocks_bytes
two-sizes = refl

-- a block of two stamps, one of one stamp, and the sizes of a third alone: three stamps in two blocks of 64 bytes, ended by 14
abbrev two-and-one : List ℕ
two-and-one =
    (four_bytes 2 ++ (four_bytes 2 ++ ((eight_bytes midnight ++ eight_bytes midnight) ++ (eight_bytes half ++ eight_bytes half))))
    ++ (one midnight half ++ (four_bytes 1 ++ four_bytes 1))

pub three-sizes : size_of (run_blocks two-and-one) ≡ record { stamps = 3; blocks = 2; bytes = 64; refused = 14 }
unfolding size_of run_blocks blocks_in with_block first_block block_of u32_at four_at stamps_of blocks_bytes
three-sizes = refl

-- two blocks of one stamp with nothing behind: no block ends the run
pub whole-sizes : size_of (run_blocks (one midnight half ++ one half half)) ≡ record { stamps = 2; blocks = 2; bytes = 48; refused = 0 }
unfolding size_of run_blocks blocks_in with_block first_block block_of u32_at four_at stamps_of blocks_bytes
whole-sizes = refl

-- the TAI of the two, recorded in TAI: the second stamp has none and is as recorded; a spare byte stays behind each
pub two-taken : taken_call (answer fixed) 1 two_blocks (eight_bytes 5 ++ (eight_bytes 5 ++ (9 ∷ []))) (eight_bytes 5 ++ (eight_bytes 5 ++ (9 ∷ [])))
    (7 ∷ 7 ∷ 7 ∷ []) ≡ run_call (answer 1) (eight_bytes midnight ++ (eight_bytes half ++ (9 ∷ []))) (eight_bytes half ++ (eight_bytes not_a_number ++ (9 ∷ [])))
    (0 ∷ 9 ∷ 7 ∷ [])
unfolding taken_call taken_by take_refusal taken_run run_blocks blocks_in with_block first_block block_of u32_at u64_at four_at stamps_of first_parts
    second_parts is_run_scale
    run_by run_refusal run_written refused_among with_parts with_part with_numbers number_byte way_of stamp_of finite_jd finite_arg onward of_bits to_bits round
two-taken = refl
