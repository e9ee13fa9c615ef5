-- The state of a sender that met an error.
use Rattle.std.specs.Prelude.{Bool}
use Rattle.link_model.specs.Outstanding.{Outstanding}

-- whether it has asked which packet the far port expects, and what is outstanding
pub record StoppedOutput : Type 0 where
  pub asked : Bool
  pub outstanding : Outstanding
