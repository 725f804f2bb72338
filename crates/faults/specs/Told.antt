-- What a fault tells.
use Rattle.std.specs.Prelude.{ℕ}
use Rattle.faults.specs.declared.layer.Layer.{Layer}

pub record Told : Type 0 where
  pub number : ℕ
  pub place : ℕ
  pub layer : Layer
