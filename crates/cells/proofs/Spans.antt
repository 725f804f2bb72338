-- There are as many spans as cells, and each is where the codes of its cell stand.
use Rattle.std.proofs.Common.{◌≡◌, ℕ, zero, suc, ◌+◌, ◌-◌, ◌<◌, ◌≤◌, Bool, true, false, cond, List, [], ◌∷◌, ◌++◌, length, get_or, take, drop, Some, None, Option, sym, refl, ap, ◌∙◌, subst, ⊎_elim, arith, length-append, length-drop}
use Rattle.std.specs.List.{flat_map, slice_get}
use Rattle.std.proofs.lemmas.List.{drop_all, drop-append-le, drop-drop, take_all, take-append-le}
use Rattle.std.proofs.lemmas.Option.{slice_get-get_or, slice_get_past}
use Rattle.std.proofs.lemmas.Bool.{cases_lt}
use Rattle.codes.specs.declared.classes.Class.{Class}
use Rattle.cells.specs.declared.division.Span.{Span}
use Rattle.cells.specs.Runs.{Spanned, cell_at, cells, is_cell, runs, spans, width_of}
use Rattle.cells.proofs.Short.{whole}

module _ {X : Type 0} (k : X → Class) where
  as_many : (b : Bool) (x : Span) (xs : List Span) (r : List X) (rs : List (List X)) → length xs ≡ length rs → length (cond b (x ∷ xs) xs) ≡ length (cond b (r ∷ rs) rs)
  as_many true x xs r rs e = ap suc e
  as_many false x xs r rs e = e

  length_spans : (at : ℕ) (rs : List (List X)) → length (spans k at rs) ≡ length (cells k rs)
  length_spans at [] = refl
  length_spans at (r ∷ rs) = as_many (is_cell k r) _ _ r _ (length_spans (at + length r) rs)

  pub cell_within : (s : List X) (j : ℕ) (x : Span) → cell_at k s j ≡ Some x → j < width_of k s
  cell_within s j x e =
      ⊎_elim (λ l. omega (arith, length_spans 0 (runs k s)))
      (λ l. let past = slice_get_past (spans k 0 (runs k s)) j l in let z : ◌≡◌ {A = ℕ} 0 1 = cc in absurd (omega arith))
      (cases_lt j (length (spans k 0 (runs k s))))

  cell_past : (s : List X) (j : ℕ) → cell_at k s j ≡ None → width_of k s ≤ j
  cell_past s j e =
      ⊎_elim (λ l. let here = slice_get-get_or (spans k 0 (runs k s)) j (record { start = 0; len = 0 }) l in let z : ◌≡◌ {A = ℕ} 0 1 = cc in absurd (omega arith))
      (λ l. omega (arith, length_spans 0 (runs k s)))
      (cases_lt j (length (spans k 0 (runs k s))))

  -- the codes at a span
  abbrev At : List X → Span → List X → Type 0
  At s x cell = (x.start + x.len ≤ length s) × (take x.len (drop x.start s) ≡ cell)

  -- the first run of what is left from a place on, and then the others
  by_first : (b : Bool) (s r : List X) (rs : List (List X)) (x y : Span) (ys : List Span) → At s y r → ((j : ℕ) → slice_get ys j ≡ Some x → At s x (get_or rs j [])) → (j : ℕ) → slice_get (cond b (y ∷ ys) ys) j ≡ Some x → At s x (get_or (cond b (r ∷ rs) rs) j [])
  by_first true s r rs x y ys h ih zero e = let same : y ≡ x = cc in subst (λ (z : Span). At s z r) same h
  by_first true s r rs x y ys h ih (suc j) e = ih j e
  by_first false s r rs x y ys h ih j e = ih j e

  span_codes : (at : ℕ) (rs : List (List X)) (s : List X) (x : Span) → at ≤ length s → flat_map (λ r. r) rs ≡ drop at s → (j : ℕ) → slice_get (spans k at rs) j ≡ Some x → At s x (get_or (cells k rs) j [])
  span_codes at [] s x h e j n = let z : ◌≡◌ {A = ℕ} 0 1 = cc in absurd (omega arith)
  span_codes at (r ∷ rs) s x h e j n =
      let others = flat_map (λ r. r) rs in
      let long : length r + length others ≡ length s - at = sym (length-append r others) ∙ ap length e ∙ length-drop at s in
      let within : at + length r ≤ length s = omega arith in
      let here : take (length r) (drop at s) ≡ r = ap (take (length r)) (sym e) ∙ take-append-le (length r) r others (omega arith) ∙ take_all (length r) r (omega arith) in
      let left : others ≡ drop (at + length r) s = sym (drop-append-le (length r) r others (omega arith) ∙ ap (λ l. l ++ others) (drop_all (length r) r (omega arith))) ∙ ap (drop (length r)) e ∙ drop-drop (length r) at s in
      by_first (is_cell k r) s r (cells k rs) x (record { start = at; len = length r }) (spans k (at + length r) rs) (within, here) (span_codes (at + length r) rs s x within left) j n

  spanned_by : (s : List X) (j : ℕ) (o : Option Span) → cell_at k s j ≡ o → Spanned k s j o
  spanned_by s j (Some x) e = span_codes 0 (runs k s) s x (omega arith) (whole k s) j e
  spanned_by s j None e = cell_past s j e

  pub spanned : (s : List X) (j : ℕ) (o : Option Span) → o ≡ cell_at k s j → Spanned k s j o
  spanned s j o e = spanned_by s j o (sym e)

  -- what follows the first run
  pub first_long : (s t r : List X) → runs k s ≡ r ∷ runs k t → length s ≡ length r + length t
  first_long s t r e =
      ap length (sym (whole k s) ∙ ap (flat_map (λ p. p)) e) ∙ length-append r (flat_map (λ p. p) (runs k t)) ∙ ap (λ l. length r + length l) (whole k t)

pub nth_past_one : (x : Span) (xs : List Span) (j n : ℕ) → n < j → slice_get (x ∷ xs) (j - n) ≡ slice_get xs (j - (n + 1))
nth_past_one x xs j n h = let e : j - n ≡ suc (j - (n + 1)) = omega arith in rw e
