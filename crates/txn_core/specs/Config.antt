-- The shape that is asked for.
use Rattle.std.specs.Prelude.{◌≡◌, ℕ, Option, Some, None, unwrap_or}
use Rattle.rec_bytes.specs.Format.{default_limit, default_threshold}
use Rattle.rec_bytes.specs.declared.shape.Shape.{Shape}
use Rattle.txn_core.specs.declared.config.Config.{Config}

-- the values asked for, else those of a store that is asked for none
abbrev pub shape_of : Config → Shape
shape_of config =
    record {
      threshold = unwrap_or config.threshold default_threshold;
      limit = unwrap_or config.limit default_limit;
    }

-- a value is the one asked for, or none is asked for
abbrev pub IsAsked : Option ℕ → ℕ → Type 0
IsAsked None value = Unit {0}
IsAsked (Some asked) value = value ≡ asked

-- the shape has each value that is asked for
abbrev pub Suits : Config → Shape → Type 0
Suits config shape = IsAsked config.threshold shape.threshold × IsAsked config.limit shape.limit
