-- What a call that only reads leaves of a space.
use Rattle.std.specs.Prelude.{◌≡◌, ◌≤◌}
use Rattle.rec_bytes.specs.declared.space.Reads.{Ghosts}

-- The space was only read: the same records, the same written keys, and no fault taken back.
pub record IsRead {R : Type 0} (space : Ghosts R) (old new : R) : Type 0 where
  pub records : (space.state new).records ≡ (space.state old).records
  pub written : (space.state new).written ≡ (space.state old).written
  pub onward : space.onward old new
  pub later : space.faults old ≤ space.faults new
