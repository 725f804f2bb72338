use Rattle.std.proofs.Common.{[], map, ap, ◌∙◌, get_or, arith}
use Rattle.std.proofs.lemmas.List.{get_or-set_other, get_or-set_same, length-map, map-set}
use Rattle.cells.specs.Contents.{held}
use Rattle.panels.proofs.grid.GridStore.put.Goals as goal

pub returns-clause-here : goal.returns-clause-here
returns-clause-here c =
    let cells = c.args.self.now.table.cells in
    let j = c.args.column.index in
    let x = c.args.cell in
    let full = c.args.self.now.full in
    let within = c.args.column.within in
    ap (λ s. get_or (map held s) j []) c.put.ensures ∙ ap (λ row. get_or row j []) (map-set held cells j x) ∙ get_or-set_same (map held cells) j (held x) [] (omega (arith, length-map cells held))

pub returns-clause-there : goal.returns-clause-there
returns-clause-there c = λ k apart.
    let cells = c.args.self.now.table.cells in
    let j = c.args.column.index in
    let x = c.args.cell in
    ap (λ s. get_or (map held s) k []) c.put.ensures ∙ ap (λ row. get_or row k []) (map-set held cells j x) ∙ get_or-set_other (map held cells) j k (held x) [] apart
