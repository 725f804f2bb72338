-- What the program's words ask for.
use Rattle.std.specs.Prelude.{ℕ, ◌+◌, ◌-◌, ◌*◌, cond, ◌&&◌, List, [], ◌∷◌, Some, None, Ok, Err, codes, Option, Result, nat_le}
use Rattle.std.specs.Char.{is_ascii_digit}
use Rattle.std.specs.Option.{ok_or, option_and_then}
use Rattle.names.specs.declared.settings.Misuse.{Misuse}
use Rattle.names.specs.declared.settings.Misuse.TheVariants.{Columns, Level, Words, Unreadable, Length}
use Rattle.names.specs.declared.settings.Settings.{Settings}

-- a number with one digit more behind it, if that is a digit and the number stays below 256
abbrev pub with_digit : ℕ → ℕ → Option ℕ
with_digit n c = cond (is_ascii_digit c && nat_le (n * 10 + (c - 48)) 255) (Some (n * 10 + (c - 48))) None

-- the number so far with all the digits that follow
abbrev pub number_from : ℕ → List ℕ → Option ℕ
number_from n [] = Some n
number_from n (c ∷ cs) = option_and_then (λ m. number_from m cs) (with_digit n c)

-- a word is a number if it has a digit, and nothing else
abbrev pub number_of : List ℕ → Option ℕ
number_of [] = None
number_of (c ∷ cs) = number_from 0 (c ∷ cs)

abbrev pub in_range : ℕ → ℕ → Option ℕ → Option ℕ
in_range low high None = None
in_range low high (Some n) = cond (nat_le low n && nat_le n high) (Some n) None

-- what a word asks for: a number from low to high
abbrev pub setting_of : ℕ → ℕ → Misuse → List ℕ → Result ℕ Misuse
setting_of low high misuse word = ok_or (in_range low high (number_of word)) misuse

abbrev pub columns_of : List ℕ → Result ℕ Misuse
columns_of word = setting_of 1 80 Columns word

abbrev pub level_of : List ℕ → Result ℕ Misuse
level_of word = setting_of 0 2 Level word

-- where no word asks for another
abbrev pub default_settings : Settings
default_settings = record { columns = 40; level = 1 }

abbrev pub both : Result ℕ Misuse → Result ℕ Misuse → Result Settings Misuse
both (Ok c) (Ok l) = Ok (record { columns = c; level = l })
both (Ok c) (Err e) = Err e
both (Err e) l = Err e

-- COLUMNS from 1 to 80, by default 40; LEVEL from 0 to 2, by default 1; and no third word
abbrev pub settings_of : List (List ℕ) → Result Settings Misuse
settings_of [] = Ok default_settings
settings_of (c ∷ []) = both (columns_of c) (Ok default_settings.level)
settings_of (c ∷ l ∷ []) = both (columns_of c) (level_of l)
settings_of (c ∷ l ∷ x ∷ xs) = Err Words

-- how a misuse is told
abbrev pub misuse_text : Misuse → List ℕ
misuse_text Columns = codes "COLUMNS is a number from 1 to 80"
misuse_text Level = codes "LEVEL is a number from 0 to 2"
misuse_text Words = codes "at most two words are taken, COLUMNS and LEVEL"
misuse_text Unreadable = codes "the words cannot be read as text"
misuse_text Length = codes "the list has more than 1048576 bytes"
