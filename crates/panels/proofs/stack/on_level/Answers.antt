use Rattle.std.proofs.Common.{◌≡◌, Bool, true, false, sym, refl, ap, ◌∙◌, unwrap_or, rules}
use denote.Enum.Bare.{sameb, same_false, same_true}
use Rattle.std.proofs.lemmas.Iterator.{YieldsList-from_slice}
use Rattle.std.proofs.lemmas.Iterator.Search.{find_from_yields_List}
use Rattle.codes.specs.declared.levels.DisplayLevel.{DisplayLevel}
use Rattle.codes.specs.contracts.levels.DisplayLevel.{the_type}
use Rattle.codes.specs.Levels.{same_level}
use Rattle.codes.proofs.Alike.{alike, unlike}
use Rattle.panels.specs.Stacks.{at_level}
use Rattle.panels.proofs.stack.on_level.Goals as goal

same : (l m : DisplayLevel) → sameb the_type l m ≡ same_level l m
same l m = by (sameb the_type l m) (λ e. same_true the_type (search rules) l m e) (λ e. same_false the_type l m e)
  where
    by : (b : Bool) → (b ≡ true → l ≡ m) → (b ≡ false → l ≡ m → ⊥) → b ≡ same_level l m
    by true is apart = sym (alike l m (is refl))
    by false is apart = sym (unlike l m (apart refl))

pub returns : goal.returns
returns c =
    let first = find_from_yields_List (at_level c.args.level) _ _ c.find.result c.find.ensures.ran (YieldsList-from_slice c.args.codes.now cc) (λ x b q k. search (rules, same)) in
    c.unwrap_or.ensures ∙ ap (λ o. unwrap_or o 0) (c.copied.ensures ∙ first)
