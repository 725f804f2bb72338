-- There are 2,419 cells: a list of them is computed, in ascending order, and every one is in it.
use Rattle.std.proofs.Common.{◌≡◌, ℕ, zero, suc, ◌+◌, ◌*◌, ◌<◌, ◌≤◌, Bool, true, false, cond, ◌&&◌, leb, ◌⊎◌, List, [], ◌∷◌, ◌++◌, map, filter, sym, refl, ap, ◌∙◌, subst, inl, inr, ⊎_elim, arith}
use Rattle.std.specs.List.{flat_map, list_all}
use Rattle.std.proofs.lemmas.Bool.{and_parts, both_ways, cases_lt, leb-true}
use Rattle.std.proofs.ByRecursion.{Decides-by_and}
use Rattle.codes.specs.Classes.{class_of, is_text}
use Rattle.codes.specs.Verdicts.{class_verdict, letter_at}
use Rattle.codes.proofs.Bytes.{text_below_256}
use Rattle.cells.specs.Runs.{joins}
use Rattle.cells.specs.Contents.{Distinct, Exactly, Member}
use Rattle.cells.specs.Values.{lawful}
use Rattle.cells.proofs.Packed.{lawful_parts, lawful_short}

-- the list

-- the numbers below n, in ascending order
abbrev up_to : ℕ → List ℕ
up_to zero = []
up_to (suc n) = up_to n ++ (n ∷ [])

texts : List ℕ
texts = filter is_text (up_to 256)

together : ℕ → ℕ → Bool
together a b = joins (class_of a) (class_of b)

after : ℕ → List ℕ
after a = filter (together a) texts

with_two : ℕ → ℕ → List (List ℕ)
with_two a b = (a ∷ b ∷ []) ∷ map (λ c. a ∷ b ∷ c ∷ []) (after b)

with_one : ℕ → List (List ℕ)
with_one a = (a ∷ []) ∷ flat_map (with_two a) (after a)

all_cells : List (List ℕ)
all_cells = [] ∷ flat_map with_one texts

-- it is complete

filter_member : {X : Type 0} (p : X → Bool) (x : X) (xs : List X) → p x ≡ true → Member x xs → Member x (filter p xs)
filter_member p x [] e m = m
filter_member p x (y ∷ ys) e m =
    cond_member (p y)
    (⊎_elim (λ same. inl (ap p (sym same) ∙ e, same)) (λ later. inr (filter_member p x ys e later)) m)
  where
    cond_member : (b : Bool) → ((b ≡ true) × (x ≡ y)) ⊎ Member x (filter p ys) → Member x (cond b (y ∷ filter p ys) (filter p ys))
    cond_member true (inl h) = inl h.1
    cond_member true (inr m) = inr m
    cond_member false (inl h) = absurd (both_ways false refl h.0)
    cond_member false (inr m) = m

append_left : {X : Type 0} (x : X) (xs ys : List X) → Member x xs → Member x (xs ++ ys)
append_left x [] ys m = absurd m
append_left x (z ∷ xs) ys m = ⊎_elim (λ e. inl e) (λ l. inr (append_left x xs ys l)) m

append_right : {X : Type 0} (x : X) (xs ys : List X) → Member x ys → Member x (xs ++ ys)
append_right x [] ys m = m
append_right x (z ∷ xs) ys m = inr (append_right x xs ys m)

joined_member : {X Y : Type 0} (f : X → List Y) (x : X) (y : Y) (xs : List X) → Member x xs → Member y (f x) → Member y (flat_map f xs)
joined_member f x y [] m h = absurd m
joined_member f x y (z ∷ zs) m h =
    ⊎_elim (λ e. append_left y (f z) (flat_map f zs) (subst (λ w. Member y (f w)) e h))
    (λ l. append_right y (f z) (flat_map f zs) (joined_member f x y zs l h)) m

map_member : {X Y : Type 0} (f : X → Y) (x : X) (xs : List X) → Member x xs → Member (f x) (map f xs)
map_member f x [] m = m
map_member f x (z ∷ zs) m = ⊎_elim (λ e. inl (ap f e)) (λ l. inr (map_member f x zs l)) m

in_up_to : (n k : ℕ) → k < n → Member k (up_to n)
in_up_to zero k h = absurd (omega arith)
in_up_to (suc n) k h =
    ⊎_elim (λ l. append_left k (up_to n) (n ∷ []) (in_up_to n k l)) (λ l. append_right k (up_to n) (n ∷ []) (inl (omega arith))) (cases_lt k n)

in_texts : (c : ℕ) → is_text c ≡ true → Member c texts
unfolding texts
in_texts c e = filter_member is_text c (up_to 256) e (in_up_to 256 c (text_below_256 c e))

in_after : (a b : ℕ) → is_text b ≡ true → together a b ≡ true → Member b (after a)
unfolding after
in_after a b e j = filter_member (together a) b texts j (in_texts b e)

every : (s : List ℕ) → lawful s ≡ true → Member s all_cells
unfolding all_cells with_one with_two together
every [] e = inl refl
every (a ∷ []) e =
    let text = and_parts (is_text a) _ (lawful_parts (a ∷ []) e).1 in
    inr (joined_member with_one a _ texts (in_texts a text.0) (inl refl))
every (a ∷ b ∷ []) e =
    let parts = lawful_parts (a ∷ b ∷ []) e in
    let first = and_parts (is_text a) _ parts.1 in
    let second = and_parts (is_text b) _ first.1 in
    let joins-a = and_parts (together a b) _ parts.0 in
    inr (joined_member with_one a _ texts (in_texts a first.0) (inr (joined_member (with_two a) b _ (after a) (in_after a b second.0 joins-a.0) (inl refl))))
every (a ∷ b ∷ c ∷ []) e =
    let parts = lawful_parts (a ∷ b ∷ c ∷ []) e in
    let first = and_parts (is_text a) _ parts.1 in
    let second = and_parts (is_text b) _ first.1 in
    let third = and_parts (is_text c) _ second.1 in
    let joins-a = and_parts (together a b) _ parts.0 in
    let joins-b = and_parts (together b c) _ joins-a.1 in
    inr (joined_member with_one a _ texts (in_texts a first.0) (inr (joined_member (with_two a) b _ (after a) (in_after a b second.0 joins-a.0) (inr (map_member (λ x. a ∷ b ∷ x ∷ []) c (after b) (in_after b c third.0 joins-b.0))))))
every (a ∷ b ∷ c ∷ d ∷ s) e = absurd (omega (arith, lawful_short (a ∷ b ∷ c ∷ d ∷ s) e))

-- each is a cell, and it stands there once: their numbers in base 256 ascend

abbrev key : List ℕ → ℕ
key [] = 0
key (a ∷ []) = a * 65536
key (a ∷ b ∷ []) = a * 65536 + b * 256
key (a ∷ b ∷ c ∷ s) = a * 65536 + b * 256 + c

abbrev rises : ℕ → List (List ℕ) → Bool
rises n [] = true
rises n (s ∷ ss) = leb n (key s) && rises (suc (key s)) ss

risen : (n : ℕ) (s : List ℕ) (ss : List (List ℕ)) → rises n ss ≡ true → Member s ss → n ≤ key s
risen n s [] e m = absurd m
risen n s (t ∷ ss) e m =
    let parts = and_parts (leb n (key t)) _ e in
    let here = leb-true n (key t) parts.0 in
    ⊎_elim (λ same. omega (arith, ap key same)) (λ later. omega (arith, risen (suc (key t)) s ss parts.1 later)) m

distinct : (n : ℕ) (ss : List (List ℕ)) → rises n ss ≡ true → Distinct ss
distinct n [] e = tt
distinct n (s ∷ ss) e =
    let parts = and_parts (leb n (key s)) _ e in
    ((λ m. omega (arith, risen (suc (key s)) s ss parts.1 m)), distinct (suc (key s)) ss parts.1)

pub cell_values : Exactly 2419 (λ s. lawful s ≡ true)
unfolding all_cells with_one with_two after together texts is_text class_of joins class_verdict letter_at
cell_values =
    record {
      strings = all_cells;
      count = refl;
      each = (Decides-by_and lawful (λ s. lawful s ≡ true) (list_all lawful) (λ _. ((λ h. h), (λ h. h))) refl (λ _ _. refl) all_cells).0 refl;
      every = every;
      once = distinct 0 all_cells refl;
    }
