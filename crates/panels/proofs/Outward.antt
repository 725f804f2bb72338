-- A cell's codes stand in it from the base outward, each at a level of its own: base, below, above, top. So each lies in the
-- row of its level, and the rows give the cell again.
use Rattle.std.proofs.Common.{◌≡◌, ℕ, zero, suc, ◌+◌, ◌<◌, ◌≤◌, true, not, ◌&&◌, ◌||◌, eqb, ltb, List, [], ◌∷◌, length, get_or, sym, refl, ap, ◌∙◌, subst, ⊎_elim, unwrap_or, arith}
use Rattle.std.proofs.lemmas.Bool.{and_parts, cases_lt, cond-false, cond-true, eq-eqb, eqb-true, ltb-true, ne_eqb}
use Rattle.codes.specs.declared.classes.Class.{Class}
use Rattle.codes.specs.declared.levels.DisplayLevel.{DisplayLevel}
use Rattle.codes.specs.declared.levels.DisplayLevel.TheVariants.{Nowhere, Top, Above, Base, Below}
use Rattle.codes.specs.Classes.{class_of, is_text}
use Rattle.codes.specs.Levels.{level_of}
use Rattle.codes.specs.Verdicts.{class_verdict, letter_at}
use Rattle.codes.proofs.Alike.{alike, unlike}
use Rattle.codes.proofs.Every.{at_below, at_classes, from_or}
use Rattle.codes.proofs.Bytes.{text_below_256}
use Rattle.cells.specs.declared.cell.Cell.{Cell}
use Rattle.cells.specs.Contents.{Member, held}
use Rattle.cells.specs.Runs.{joins}
use Rattle.cells.specs.Values.{all_text, chained, lawful}
use Rattle.cells.proofs.Packed.{lawful_parts}
use Rattle.cells.proofs.Same.{held_lawful}
use Rattle.panels.specs.Stacks.{gathered, in_row, on_level, present, stack_of}

-- how far out a level lies; 4 is nowhere
abbrev rank : DisplayLevel → ℕ
rank Base = 0
rank Below = 1
rank Above = 2
rank Top = 3
rank Nowhere = 4

abbrev ranked : ℕ → DisplayLevel
ranked n = get_or (Base ∷ Below ∷ Above ∷ Top ∷ []) n Nowhere

rank_ranked : (n : ℕ) → n < 4 → rank (ranked n) ≡ n
rank_ranked n h = eqb-true (rank (ranked n)) n (at_below 4 (λ k. eqb (rank (ranked k)) k) refl n h)

ranked_rank : (l : DisplayLevel) → ranked (rank l) ≡ l
ranked_rank Base = refl
ranked_rank Below = refl
ranked_rank Above = refl
ranked_rank Top = refl
ranked_rank Nowhere = refl

far : ℕ → ℕ
far c = rank (level_of (class_of c))

-- the codes go outward, from n on
abbrev Rising : ℕ → List ℕ → Type 0
Rising n [] = Unit {0}
Rising n (c ∷ cs) = (n ≤ far c) × (far c < 4) × (0 < c) × Rising (suc (far c)) cs

-- the first code at the level of rank n
here : (n c : ℕ) (cs : List ℕ) → far c ≡ n → on_level (ranked n) (c ∷ cs) ≡ c
unfolding far
here n c cs e = ap (λ o. unwrap_or o 0) (cond-true _ _ _ (alike _ _ (sym (ranked_rank (level_of (class_of c))) ∙ ap ranked e)))

not_here : (n c : ℕ) (cs : List ℕ) → n < 4 → (far c ≡ n → ⊥) → on_level (ranked n) (c ∷ cs) ≡ on_level (ranked n) cs
unfolding far
not_here n c cs h apart = ap (λ o. unwrap_or o 0) (cond-false _ _ _ (unlike _ _ (λ e. apart (ap rank e ∙ rank_ranked n h))))

nothing : (n m : ℕ) (s : List ℕ) → n < m → Rising m s → on_level (ranked n) s ≡ 0
nothing n m [] lt h = refl
nothing n m (c ∷ s) lt h =
    let low = h.0 in
    let high = h.1 in
    not_here n c s (omega arith) (λ e. omega (arith, e)) ∙ nothing n (suc (far c)) s (omega arith) h.3

-- f rows, from rank n on
abbrev rows : ℕ → ℕ → List ℕ → List ℕ
rows zero n s = []
rows (suc f) n s = on_level (ranked n) s ∷ rows f (suc n) s

-- a code that lies further in is in none of them
rows_later : (f n c : ℕ) (s : List ℕ) → n + f ≡ 4 → far c < n → rows f n (c ∷ s) ≡ rows f n s
rows_later zero n c s e lt = refl
rows_later (suc f) n c s e lt =
    λ i. not_here n c s (omega arith) (λ same. omega (arith, same)) i ∷ rows_later f (suc n) c s (omega arith) (omega arith) i

present_code : (c : ℕ) (s : List ℕ) → 0 < c → present (c ∷ s) ≡ c ∷ present s
unfolding present
present_code c s h = cond-true _ _ _ (ap not (ne_eqb c 0 (λ e. omega (arith, e))))

present_none : (c : ℕ) (s : List ℕ) → c ≡ 0 → present (c ∷ s) ≡ present s
unfolding present
present_none c s h = cond-false _ _ _ (ap not (eq-eqb c 0 h))

present_end : present [] ≡ []
unfolding present
present_end = refl

-- what is in the rows from rank n on
rows_again : (f n : ℕ) (s : List ℕ) → n + f ≡ 4 → Rising n s → present (rows f n s) ≡ s
rows_again zero n [] e h = present_end
rows_again zero n (c ∷ s) e h = absurd (omega (arith, h.0, h.1))
rows_again (suc f) n [] e h = present_none 0 (rows f (suc n) []) refl ∙ rows_again f (suc n) [] (omega arith) tt
rows_again (suc f) n (c ∷ s) e h =
    ⊎_elim
    (λ out.
    let on : Rising (suc n) (c ∷ s) = (omega arith, h.1, h.2, h.3) in
    present_none _ (rows f (suc n) (c ∷ s)) (nothing n (suc n) (c ∷ s) (omega arith) on) ∙ rows_again f (suc n) (c ∷ s) (omega arith) on)
    (λ within.
    let is : far c ≡ n = omega (arith, h.0) in
    (λ i. present (here n c s is i ∷ rows_later f (suc n) c s (omega arith) (omega arith) i))
    ∙ present_code c (rows f (suc n) s) h.2
    ∙ ap (λ t. c ∷ t) (rows_again f (suc n) s (omega arith) (subst (λ (m : ℕ). Rising (suc m) s) is h.3)))
    (cases_lt n (far c))

-- the codes of a cell go outward

-- computed at every two classes
outward : (x y : Class) → joins x y ≡ true → rank (level_of x) < rank (level_of y)
unfolding joins class_verdict letter_at level_of
outward x y e =
    ltb-true _ _ (from_or (joins x y) _ e (at_classes (λ a b. not (joins a b) || ltb (rank (level_of a)) (rank (level_of b))) refl x y))

-- computed at every code
text : (c : ℕ) → is_text c ≡ true → (far c < 4) × (0 < c)
unfolding far is_text class_of level_of
text c e =
    let parts = and_parts _ _ (from_or (is_text c) _ e (at_below 256 (λ k. not (is_text k) || (ltb (far k) 4 && ltb 0 k)) refl c (text_below_256 c e))) in
    (ltb-true _ _ parts.0, ltb-true _ _ parts.1)

chain_rises : (n : ℕ) (s : List ℕ) → (0 < length s → n ≤ far (get_or s 0 0)) → chained s ≡ true → all_text s ≡ true → Rising n s
unfolding far
chain_rises n [] h ch t = tt
chain_rises n (c ∷ []) h ch t =
    let is = text c (and_parts (is_text c) _ t).0 in
    (h (omega arith), is.0, is.1, tt)
chain_rises n (c ∷ d ∷ s) h ch t =
    let links = and_parts (joins (class_of c) (class_of d)) _ ch in
    let texts = and_parts (is_text c) _ t in
    let is = text c texts.0 in
    (h (omega arith), is.0, is.1, chain_rises (suc (far c)) (d ∷ s) (λ _. omega (arith, outward (class_of c) (class_of d) links.0)) links.1 texts.1)

rises : (s : List ℕ) → lawful s ≡ true → Rising 0 s
rises s e =
    let parts = lawful_parts s e in
    chain_rises 0 s (λ _. omega arith) parts.0 parts.1

pub gathered_again : (s : List ℕ) → lawful s ≡ true → gathered (stack_of s) ≡ s
unfolding gathered stack_of
gathered_again s e = rows_again 4 0 s refl (rises s e)

-- each code lies in the row of its level

risen : (n c : ℕ) (s : List ℕ) → Rising n s → Member c s → (n ≤ far c) × (far c < 4)
risen n c [] h m = absurd m
risen n c (d ∷ s) h m =
    ⊎_elim (λ e. subst (λ (k : ℕ). (n ≤ far k) × (far k < 4)) (sym e) (h.0, h.1))
    (λ l. let on = risen (suc (far d)) c s h.3 l in let low = h.0 in (omega (arith, on.0), on.1)) m

-- a code is the first at its own level
own_row : (n c : ℕ) (s : List ℕ) → Rising n s → Member c s → on_level (ranked (far c)) s ≡ c
own_row n c [] h m = absurd m
own_row n c (d ∷ s) h m =
    ⊎_elim (λ e. here (far c) d s (ap far (sym e)) ∙ sym e)
    (λ l. let on = risen (suc (far d)) c s h.3 l in
    not_here (far c) d s on.1 (λ e. omega (arith, e, on.0)) ∙ own_row (suc (far d)) c s h.3 l) m

rank_row : (s : List ℕ) (l : DisplayLevel) → rank l < 4 → in_row (stack_of s) l ≡ on_level (ranked (rank l)) s
unfolding stack_of
rank_row s Nowhere h = absurd (omega arith)
rank_row s Top h = refl
rank_row s Above h = refl
rank_row s Base h = refl
rank_row s Below h = refl

pub each_in_row : (c : ℕ) (s : List ℕ) → lawful s ≡ true → Member c s → in_row (stack_of s) (level_of (class_of c)) ≡ c
unfolding far
each_in_row c s e m = rank_row s (level_of (class_of c)) (risen 0 c s (rises s e) m).1 ∙ own_row 0 c s (rises s e) m

pub held_again : (x : Cell) → gathered (stack_of (held x)) ≡ held x
held_again x = gathered_again (held x) (held_lawful x)
