-- A list of items in bytes, one after the other: the bytes of each item alone say it, apart from any reader. A call that reads or writes a list in bytes is
-- held against this writer, place by place. This project's own. Assumes nothing.
use Rattle.std.specs.Prelude.{ℕ, ◌<◌, ◌≡◌, List, [], ◌∷◌, ◌++◌, length, get_or}

-- the bytes of all items in their order
unfoldable pub all_bytes : {A : Type 0} → (A → List ℕ) → List A → List ℕ
all_bytes bytes [] = []
all_bytes bytes (x ∷ xs) = bytes x ++ all_bytes bytes xs

-- each item has so many bytes
abbrev pub Sized : {A : Type 0} → (A → List ℕ) → ℕ → Type 0
Sized {A} bytes size = (x : A) → length (bytes x) ≡ size

-- numbers of 64 bits
abbrev pub Numbers64 : List ℕ → Type 0
Numbers64 ns = (i : ℕ) → i < length ns → get_or ns i 0 < 18446744073709551616
