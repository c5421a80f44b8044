-- What a C caller gets of the size of a run: the bytes that its blocks take as the code, and 32 bytes of numbers. Written from include/celestial_time.h,
-- ct_run_size. Assumes nothing.
use Rattle.std.specs.Prelude.{ℕ, ◌≡◌, cond, List, ◌++◌, leb, ℤ, length, drop}
use Rattle.refusals.specs.Outcome.{answer, refusal}
use Rattle.numerals.specs.little_endian.LittleEndian.{eight_bytes}
use Rattle.c_answers.specs.Delivery.{code}
use Rattle.line_listing.specs.declared.taken.RunSize.{RunSize}

-- how many stamps, how many blocks, the number of the refusal that ends the run, and 1
unfoldable pub size_bytes : RunSize → List ℕ
size_bytes z = eight_bytes z.stamps ++ (eight_bytes z.blocks ++ (eight_bytes z.refused ++ eight_bytes 1))

-- the call returned r, and the buffer, which held `before`, holds `after`: 11 and as it was where it is shorter than 32 bytes
pub record SizeDelivered (z : RunSize) (before : List ℕ) (r : ℤ) (after : List ℕ) : Type 0 where
  pub returned : r ≡ code (cond (leb 32 (length before)) (answer z.bytes) (refusal 11))
  pub holds : after ≡ cond (leb 32 (length before)) (size_bytes z ++ drop 32 before) before
