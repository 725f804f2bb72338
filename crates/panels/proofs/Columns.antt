-- A row that is given column by column, `map f (range_with_len 0 w)`.
use Rattle.std.specs.Prelude.{◌≡◌, ℕ, ◌<◌, ◌≤◌, List, map, replicate, Some, None, ◌≢◌, slice_index_or, slice_set}
use Rattle.std.proofs.Common.{ap, sym, ◌∙◌, ⊎_elim, arith}
use Rattle.std.specs.List.{range_with_len, slice_get}
use Rattle.std.proofs.lemmas.List.FromFn.{fill_by_all, get_or-map-range_with_len, length-map-range_with_len}
use Rattle.std.proofs.lemmas.List.{get_or-replicate, get_or-set_other, get_or-set_same, length-replicate, length-set}
use Rattle.std.proofs.lemmas.Option.{slice_get_past, slice_get_read}
use Rattle.std.proofs.lemmas.Bool.{cases_eq}

module _ {X : Type 0} (f : ℕ → X) (w : ℕ) where
  abbrev row : List X
  row = map f (range_with_len 0 w)

  pub column_at : (j : ℕ) → j < w → slice_get row j ≡ Some (f j)
  column_at j h = slice_get_read row w j (f j) (sym (length-map-range_with_len f 0 w)) h (sym (get_or-map-range_with_len f 0 w j j (f j) h (omega arith)))

  pub column_past : (j : ℕ) → w ≤ j → slice_get row j ≡ None
  column_past j h = slice_get_past row j (omega (arith, length-map-range_with_len f 0 w))

  pub same_columns : (x : X) → ((j : ℕ) → f j ≡ x) → row ≡ replicate w x
  same_columns x h = sym (fill_by_all f (replicate w x) w x (length-replicate w x) (λ k lt. get_or-replicate w k x x lt ∙ sym (h k)))

  -- a row that differs in column j alone
  pub column_set : (g : ℕ → X) (j : ℕ) (x : X) → j < w → g j ≡ x → ((k : ℕ) → (k ≢ j) → g k ≡ f k) → map g (range_with_len 0 w) ≡ slice_set row j x
  column_set g j x h here there =
      let long = length-map-range_with_len f 0 w in
      sym (fill_by_all g (slice_set row j x) w x (length-set row j x ∙ long) (λ k lt.
      ⊎_elim
      (λ e. ap (λ n. slice_index_or (slice_set row j x) n x) e ∙ get_or-set_same row j x x (omega arith) ∙ sym (ap g e ∙ here))
      (λ apart. get_or-set_other row j k x x apart ∙ get_or-map-range_with_len f 0 w k k x lt (omega arith) ∙ sym (there k apart))
      (cases_eq k j)))
