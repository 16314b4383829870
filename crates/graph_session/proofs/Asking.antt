-- A session after a line that reads.
use Rattle.std.proofs.Common.{◌≡◌, ℕ, List, [], refl, ap}
use Rattle.disk_model.specs.declared.disk.Disk.{Ghosts}
use Rattle.rec_bytes.specs.Pairs.{Held}
use Rattle.rec_bytes.specs.Space as spaces
use Rattle.txn_core.specs.Base.{OnlyReadsBase}
use Rattle.txn_core.specs.Store as store
use Rattle.txn_core.specs.declared.store.Store.{Store}
use Rattle.txn_core.proofs.StoreRecords.{committed-read, working-read}
use Rattle.graph_session.specs.Effects.{Stays}
use Rattle.graph_session.specs.declared.health.Health.{Health}
use Rattle.graph_session.proofs.StoreRecords.{draft-kept}
use Rattle.graph_session.proofs.Moves.{seen_as}

module _ {D : Type 0} {g : Ghosts D} where
  -- calls that only read and leave no draft leave the session as it was
  pub stays-over : (s t : Store D g) → OnlyReadsBase s.base t.base → t.draft.pairs ≡ [] → (health : Health) (weight : ℕ) (names : List (List ℕ))
      → Stays g (seen_as s health weight names) (seen_as t health weight names)
  stays-over s t reads none health weight names = record {
    beneath = record {
      shape = reads.shape;
      is_live = reads.live;
      committed = λ told. committed-read s.base t.base reads;
      no_draft = none;
      disk = reads.disk;
    };
    health = refl;
    is_open = reads.in_transaction;
    weight = λ opened. refl;
    names = refl;
    written = ap (λ (held : Held). held.pairs) reads.own;
    working = λ told. working-read s.base t.base reads;
  }

  -- and so do those of a line that reads
  pub stays-read : (s t : Store D g) → OnlyReadsBase s.base t.base → spaces.SameButReads (store.state_of s) (store.state_of t) → s.draft.pairs ≡ []
      → (health : Health) (weight : ℕ) (names : List (List ℕ)) → Stays g (seen_as s health weight names) (seen_as t health weight names)
  stays-read s t reads same none = stays-over s t reads (draft-kept s t (ap (λ (x : spaces.State). x.written) same) none)
