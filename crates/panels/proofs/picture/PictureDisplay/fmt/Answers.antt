use Rattle.std.proofs.Common.{◌≡◌, ℕ, true, ◌+◌, ◌<◌, eqb, ◌++◌, ◌∷◌, [], drop, length, sym, refl, ap, ◌∙◌, arith}
use lib.Utf8.{encode}
use Rattle.std.specs.Option.{option_map}
use Rattle.std.proofs.lemmas.List.{at_drop_all}
use Rattle.std.proofs.lemmas.Option.{get_or_from_slice_get}
use Rattle.cells.specs.Contents.{held}
use Rattle.cells.specs.Texts.{cell_text}
use Rattle.panels.specs.Pictures.{bar, columns_text, picture_text}
use Rattle.panels.specs.Screens.{Screen}
use Rattle.cells.proofs.Written.{written_last, written_more, written_none}
use Rattle.panels.proofs.Drawn.{columns_more, encode_bar}
use Rattle.panels.proofs.picture.PictureDisplay.fmt.Goals as goal

pub loop-j-init : goal.loop-j-init
unfolding picture_text
loop-j-init g c =
    let s : Screen = g.N.Panel.screen c.args.self.now.panel.now in
    written_none g.W.Write.write_str_gives c.args.f.now (ap (λ (n : ℕ). columns_text n 0 s.row) c.cursor-cursor.ensures)

pub loop-j-preserved : goal.loop-j-preserved
loop-j-preserved g c = λ plain.
    let s : Screen = g.N.Panel.screen c.args.self.now.panel.now in
    let full = (g.met.N.Panel.lawful c.args.self.now.panel.now).full in
    let j = c.loop-j.j in
    let within : j < length s.row = omega arith in
    let cursor = c.cursor-cursor.result in
    let x = held c.unwrap-cell.result in
    let so_far = c.loop-j.invariant plain in
    let left = columns_text cursor (j + 1) (drop (j + 1) s.row) in
    written_more g.W.Write.write_str_gives c.write.new.self {rest = columns_text cursor j (drop j s.row)} (encode c.bar_at-bar.result ++ cell_text x) left so_far (c.in_ok-write.ensures.writes so_far.put.plain (refl {a = true}))
    (columns_more cursor j s.row x within (get_or_from_slice_get s.row j x [] (sym c.read.ensures ∙ ap (option_map held) c.unwrap-cell.ensures))
    ∙ ap (λ t. (t ++ cell_text x) ++ left) (sym (ap encode c.bar_at-bar.ensures ∙ encode_bar (eqb j cursor))))

pub returns-clause-writes : goal.returns-clause-writes
returns-clause-writes g c = λ plain ok.
    let s : Screen = g.N.Panel.screen c.args.self.now.panel.now in
    let full = (g.met.N.Panel.lawful c.args.self.now.panel.now).full in
    let j = c.loop-j.j in
    let w = c.columns-columns.result in
    let cursor = c.cursor-cursor.result in
    let so_far = c.loop-j.invariant plain in
    let done : j ≡ w = omega arith in
    written_last g.W.Write.write_str_gives c.write-2.new.self {rest = columns_text cursor j (drop j s.row)} (encode c.bar_at-bar-2.result) so_far (c.write-2.ensures.writes so_far.put.plain ok)
    (at_drop_all (columns_text cursor j) s.row j (omega arith) ∙ ap (λ k. bar (eqb k cursor) ∷ []) done ∙ sym (ap encode c.bar_at-bar-2.ensures ∙ encode_bar (eqb w cursor)))
