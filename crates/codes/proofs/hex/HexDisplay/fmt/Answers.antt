use Rattle.std.proofs.Common.{◌++◌, true, refl, arith}
use Rattle.std.proofs.lemmas.Grind.{put_two}
use Rattle.codes.specs.Hexes.{hex_of}
use Rattle.codes.proofs.hex.HexDisplay.fmt.Goals as goal

-- one digit, and then the other
pub returns-clause-writes : goal.returns-clause-writes
returns-clause-writes g c = λ plain ok.
    let high = c.in_ok-write_str.ensures.writes plain (refl {a = true}) in
    let low = c.write_str-2.ensures.writes high.plain ok in
    put_two g.W.Write.write_str_gives _ _ _ _ _ (hex_of c.args.self.now.0) high low (λ i. c.digit.ensures (omega arith) i ++ c.digit-2.ensures (omega arith) i)
