-- The pairs that the tag policy admits.
use Rattle.std.specs.Prelude.{ℕ, Bool, ◌&&◌, ◌||◌, ◌==◌, nat_le}

-- a digit or a capital letter
abbrev pub is_sign : ℕ → Bool
is_sign c = (nat_le 0x30 c && nat_le c 0x39) || (nat_le 0x41 c && nat_le c 0x5A)

-- a sign after every code, and a hyphen after a sign
unfoldable pub tag_pairs : ℕ → ℕ → Bool
tag_pairs first second = is_sign second || (second == 0x2D && is_sign first)
