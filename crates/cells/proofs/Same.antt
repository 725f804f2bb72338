-- Cells by their codes: how many there are, that the same codes are the same cell, and that what a cell may hold some cell holds.
use Rattle.std.proofs.Common.{◌≡◌, ℕ, true, cond, eqb, List, length, get_or, sym, ap, ◌∙◌, subst}
use mathlib.Core.Bool.{Bool-set}
use mathlib.Core.List.{is_set}
use native.Mathlib.Nat.{ℕ_set}
use Rattle.cells.specs.declared.cell.Cell.{Cell, legal-type, packed-type}
use Rattle.cells.specs.Contents.{held}
use Rattle.cells.specs.Values.{lawful, padded}
use Rattle.cells.proofs.Packed.{filled_count, filled_padded, three_places}

abbrev made : (s : List ℕ) (a : legal-type s) → packed-type s a → Cell
made s a b = record { places = s; legal = a; packed = b }

-- what a cell's type says of its places is said in one way
same_places : (s : List ℕ) (a c : legal-type s) (b : packed-type s a) (d : packed-type s c) → made s a b ≡ made s c d
same_places s a c b d = λ i. made s (Bool-set _ _ a c i) (is_set ℕ_set _ _ b d i)

pub by_places : (x y : Cell) → x.places ≡ y.places → x ≡ y
by_places x y e =
    subst (λ (t : List ℕ). (c : legal-type t) (d : packed-type t c) → x ≡ made t c d) e
    (λ c d. same_places x.places x.legal c x.packed d) y.legal y.packed

pub by_codes : (x y : Cell) → held x ≡ held y → x ≡ y
unfolding held
by_codes x y e = by_places x y (x.packed ∙ ap padded e ∙ sym y.packed)

-- how many codes a cell holds, by the first place that is empty
pub held_count : (x : Cell) → length (held x) ≡ cond (eqb (get_or x.places 0 0) 0) 0 (cond (eqb (get_or x.places 1 0) 0) 1 (cond (eqb (get_or x.places 2 0) 0) 2 3))
unfolding held
held_count x = filled_count x.places (three_places x.places x.packed x.legal)

pub held_lawful : (x : Cell) → lawful (held x) ≡ true
unfolding held
held_lawful x = x.legal

pub record Holder (s : List ℕ) : Type 0 where
  pub cell : Cell
  pub holds : held cell ≡ s

pub holder : (s : List ℕ) → lawful s ≡ true → Holder s
unfolding held
holder s e =
    let back = filled_padded s e in
    record { cell = record { places = padded s; legal = ap lawful back ∙ e; packed = ap padded (sym back) }; holds = back }
