-- The seventeen classes, each with the list of its codes as ranges (TIS 1566, clause 4.2).
use Rattle.std.specs.Prelude.{ℕ, zero, suc, Bool, false, cond, not, ◌&&◌, ◌||◌, List, [], ◌∷◌, count_by, ◌==◌, nat_le}
use Rattle.codes.specs.declared.classes.Class.{Class}
use Rattle.codes.specs.declared.classes.Class.TheVariants.{Ctrl, Non, Cons, Lv, Fv1, Fv2, Fv3, Bv1, Bv2, Bd, Tone, Ad1, Ad2, Ad3, Av1, Av2, Av3}

abbrev pub among : ℕ → List (ℕ × ℕ) → Bool
among c [] = false
among c (r ∷ rs) = (nat_le r.0 c && nat_le c r.1) || among c rs

-- each class with its codes, from the first to the last of each range
abbrev pub lists : List (Class × List (ℕ × ℕ))
lists =
    (Ctrl, (0x00, 0x1F) ∷ (0x7F, 0x9F) ∷ (0xFF, 0xFF) ∷ []) ∷
    (Non, (0x20, 0x7E) ∷ (0xA0, 0xA0) ∷ (0xCF, 0xCF) ∷ (0xDB, 0xDF) ∷ (0xE6, 0xE6) ∷ (0xEF, 0xFE) ∷ []) ∷
    (Cons, (0xA1, 0xC3) ∷ (0xC5, 0xC5) ∷ (0xC7, 0xCE) ∷ []) ∷
    (Lv, (0xE0, 0xE4) ∷ []) ∷
    (Fv1, (0xD0, 0xD0) ∷ (0xD2, 0xD3) ∷ []) ∷
    (Fv2, (0xE5, 0xE5) ∷ []) ∷
    (Fv3, (0xC4, 0xC4) ∷ (0xC6, 0xC6) ∷ []) ∷
    (Bv1, (0xD8, 0xD8) ∷ []) ∷
    (Bv2, (0xD9, 0xD9) ∷ []) ∷
    (Bd, (0xDA, 0xDA) ∷ []) ∷
    (Tone, (0xE8, 0xEB) ∷ []) ∷
    (Ad1, (0xEC, 0xED) ∷ []) ∷
    (Ad2, (0xE7, 0xE7) ∷ []) ∷
    (Ad3, (0xEE, 0xEE) ∷ []) ∷
    (Av1, (0xD4, 0xD4) ∷ []) ∷
    (Av2, (0xD1, 0xD1) ∷ (0xD6, 0xD6) ∷ []) ∷
    (Av3, (0xD5, 0xD5) ∷ (0xD7, 0xD7) ∷ []) ∷ []

-- how many of the lists have the code
unfoldable pub lists_with : ℕ → ℕ
lists_with c = count_by (λ l. among c l.1) lists

abbrev pub first_with : ℕ → List (Class × List (ℕ × ℕ)) → Class
first_with c [] = Ctrl
first_with c (l ∷ ls) = cond (among c l.1) l.0 (first_with c ls)

-- the class whose list has the code; a number that is no byte is in no list, and counts as CTRL
unfoldable pub class_of : ℕ → Class
class_of c = first_with c lists

abbrev pub class_number : Class → ℕ
class_number Ctrl = 0
class_number Non = 1
class_number Cons = 2
class_number Lv = 3
class_number Fv1 = 4
class_number Fv2 = 5
class_number Fv3 = 6
class_number Bv1 = 7
class_number Bv2 = 8
class_number Bd = 9
class_number Tone = 10
class_number Ad1 = 11
class_number Ad2 = 12
class_number Ad3 = 13
class_number Av1 = 14
class_number Av2 = 15
class_number Av3 = 16

-- the classes in the order of their numbers
abbrev pub classes : List Class
classes = Ctrl ∷ Non ∷ Cons ∷ Lv ∷ Fv1 ∷ Fv2 ∷ Fv3 ∷ Bv1 ∷ Bv2 ∷ Bd ∷ Tone ∷ Ad1 ∷ Ad2 ∷ Ad3 ∷ Av1 ∷ Av2 ∷ Av3 ∷ []

abbrev pub is_control : Class → Bool
is_control k = class_number k == 0

-- the codes that the standard leaves unused
abbrev pub is_unused : ℕ → Bool
is_unused c = among c ((0xDB, 0xDB) ∷ (0xDD, 0xDE) ∷ (0xFC, 0xFE) ∷ [])

unfoldable pub is_text : ℕ → Bool
is_text c = not (is_control (class_of c)) && not (is_unused c)

-- classes 7 to 16
unfoldable pub is_mark : ℕ → Bool
is_mark c = nat_le 7 (class_number (class_of c))

-- the numbers below n, largest first
abbrev pub below : ℕ → List ℕ
below zero = []
below (suc n) = n ∷ below n

-- how many of the 256 codes pass a test
unfoldable pub how_many : (ℕ → Bool) → ℕ
how_many p = count_by p (below 256)
