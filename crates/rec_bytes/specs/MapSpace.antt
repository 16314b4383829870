-- What a space in memory stands for.
use Rattle.std.specs.Prelude.{false}
use Rattle.rec_bytes.specs.declared.map_space.MapSpace.{MapSpace}
use Rattle.rec_bytes.specs.declared.shape.Shape.{Shape}
use Rattle.rec_bytes.specs.Creation.{creation_pairs}
use Rattle.rec_bytes.specs.Space.{State, blank_records, laid_state}

-- zeros, with nothing written and nothing read
abbrev pub blank_state : Shape → State
blank_state shape =
    record { records = blank_records; written = λ _. false; reads = 0; shape = shape }

-- a store with no other records than those of its creation
abbrev pub new_state : Shape → State
new_state shape = laid_state (blank_state shape) (creation_pairs shape)

-- the written records over zeros
abbrev pub map_state : MapSpace → State
map_state m = laid_state (record (blank_state m.shape.shape) { reads = m.reads }) m.set.pairs
