-- The display level of each class: none for CTRL, base for 1 to 6, below for 7 to 9, top for 10 to 13, above for 14 to 16.
use Rattle.std.specs.Prelude.{ℕ, Bool, ◌==◌}
use Rattle.codes.specs.declared.classes.Class.{Class}
use Rattle.codes.specs.declared.classes.Class.TheVariants.{Ctrl, Non, Cons, Lv, Fv1, Fv2, Fv3, Bv1, Bv2, Bd, Tone, Ad1, Ad2, Ad3, Av1, Av2, Av3}
use Rattle.codes.specs.declared.levels.DisplayLevel.{DisplayLevel}
use Rattle.codes.specs.declared.levels.DisplayLevel.TheVariants.{Nowhere, Top, Above, Base, Below}

abbrev pub level_number : DisplayLevel → ℕ
level_number Nowhere = 0
level_number Top = 1
level_number Above = 2
level_number Base = 3
level_number Below = 4

unfoldable pub same_level : DisplayLevel → DisplayLevel → Bool
same_level l m = level_number l == level_number m

unfoldable pub level_of : Class → DisplayLevel
level_of Ctrl = Nowhere
level_of Non = Base
level_of Cons = Base
level_of Lv = Base
level_of Fv1 = Base
level_of Fv2 = Base
level_of Fv3 = Base
level_of Bv1 = Below
level_of Bv2 = Below
level_of Bd = Below
level_of Tone = Top
level_of Ad1 = Top
level_of Ad2 = Top
level_of Ad3 = Top
level_of Av1 = Above
level_of Av2 = Above
level_of Av3 = Above
