-- Whether two display levels are the same is decided by their numbers.
use Rattle.std.proofs.Common.{◌≡◌, ℕ, [], ◌∷◌, get_or, true, false, sym, refl, ap, ◌∙◌}
use Rattle.std.proofs.lemmas.Bool.{eq-eqb, ne_eqb}
use Rattle.codes.specs.declared.levels.DisplayLevel.{DisplayLevel}
use Rattle.codes.specs.declared.levels.DisplayLevel.TheVariants.{Nowhere, Top, Above, Base, Below}
use Rattle.codes.specs.Levels.{level_number, same_level}

abbrev level_numbered : ℕ → DisplayLevel
level_numbered n = get_or (Nowhere ∷ Top ∷ Above ∷ Base ∷ Below ∷ []) n Nowhere

numbered : (l : DisplayLevel) → level_numbered (level_number l) ≡ l
numbered Nowhere = refl
numbered Top = refl
numbered Above = refl
numbered Base = refl
numbered Below = refl

pub alike : (l m : DisplayLevel) → l ≡ m → same_level l m ≡ true
unfolding same_level
alike l m e = eq-eqb (level_number l) (level_number m) (ap level_number e)

pub unlike : (l m : DisplayLevel) → (l ≡ m → ⊥) → same_level l m ≡ false
unfolding same_level
unlike l m apart = ne_eqb (level_number l) (level_number m) (λ e. apart (sym (numbered l) ∙ ap level_numbered e ∙ numbered m))
