use Rattle.std.proofs.Common.{◌&&◌, sym, ap, ◌∙◌}
use Rattle.std.proofs.lemmas.Bool.{eq-eqb, ne_eqb}
use Rattle.cells.specs.Values.{all_text}
use Rattle.cells.proofs.OneRun.{lawful_one_run}
use Rattle.cells.proofs.contents.is_lawful.Goals as goal

pub returns-then-first_run_len-codes : goal.returns-then-first_run_len-codes
returns-then-first_run_len-codes c =
    let s = c.args.codes.now in
    let one = eq-eqb _ _ (sym c.first_run_len.ensures.value ∙ c.if-first_run_len-codes.true) in
    c.all_text.ensures ∙ sym (ap (λ t. t && all_text s) one) ∙ lawful_one_run s

pub returns-else-first_run_len-codes : goal.returns-else-first_run_len-codes
returns-else-first_run_len-codes c =
    let s = c.args.codes.now in
    let not-one = ne_eqb _ _ (λ e. c.if-first_run_len-codes.false (c.first_run_len.ensures.value ∙ e)) in
    ne_eqb _ _ c.if-first_run_len-codes.false ∙ sym (ap (λ t. t && all_text s) not-one) ∙ lawful_one_run s
