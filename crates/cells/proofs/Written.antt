-- Text that is written piece by piece.
use Rattle.std.proofs.Common.{◌≡◌, ℕ, List, [], ◌++◌, sym, refl, ap, ◌∙◌, append_assoc}
use Rattle.std.specs.declared.fmt.Formatter.{Formatter}
use Rattle.std.specs.Fmt.{IsPlainFormatter, HasWritten}
use Rattle.std.proofs.lemmas.Grind.{put_two}

-- g is f after a text was written that is a whole but for a rest
pub record Written {W : Type 0} (took : W → List ℕ → W → Type 0) (f g : Formatter W) (rest whole : List ℕ) : Type 0 where
  pub text : List ℕ
  pub put : HasWritten took f text g
  pub is : text ++ rest ≡ whole

module _ {W : Type 0} (took : W → List ℕ → W → Type 0) where
  pub written_none : (f : Formatter W) {rest whole : List ℕ} → rest ≡ whole → IsPlainFormatter f → Written took f f rest whole
  written_none f e plain = record { text = []; put = record { wrote = record { parts = []; calls = refl; whole = refl }; plain = plain }; is = e }

  pub written_more : {f g : Formatter W} (h : Formatter W) {rest whole : List ℕ} (piece left : List ℕ) → Written took f g rest whole → HasWritten took g piece h → rest ≡ piece ++ left → Written took f h left whole
  written_more {f = f} {g = g} h piece left d p e =
      record {
        text = d.text ++ piece;
        put = put_two took f g h d.text piece _ d.put p refl;
        is = append_assoc d.text piece left ∙ ap (λ t. d.text ++ t) (sym e) ∙ d.is;
      }

  pub written_last : {f g : Formatter W} (h : Formatter W) {rest whole : List ℕ} (piece : List ℕ) → Written took f g rest whole → HasWritten took g piece h → rest ≡ piece → HasWritten took f whole h
  written_last {f = f} {g = g} h {whole = whole} piece d p e = put_two took f g h d.text piece whole d.put p (ap (λ t. d.text ++ t) (sym e) ∙ d.is)
