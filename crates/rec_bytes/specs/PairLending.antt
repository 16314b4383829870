-- What a write set ends as, where a record was handed out for writing.
use Rattle.std.specs.Prelude.{◌≡◌, Result}
use Rattle.std.specs.Borrow.{LendsSoOk, MutBor, Fml}
use Rattle.rec_bytes.specs.declared.record.Rec.{Rec}
use Rattle.rec_bytes.specs.declared.key.Key.{Key}
use Rattle.rec_bytes.specs.contracts.record.Rec as rec
use Rattle.rec_bytes.specs.Pairs.{Held, with_pair}
use Rattle.rec_bytes.specs.contracts.write_set.WriteSet as set

-- the set ends with what was left in the record set at the key, and at an error as it was
abbrev pub LendsPair : MutBor Held → Key → {E : Type 0} → Result (MutBor Rec) E → Fml
LendsPair s key r =
    LendsSoOk set.the_row rec.the_row s r
    (λ n w. n.pairs ≡ with_pair s.now.pairs key w)
    (λ n. n.pairs ≡ s.now.pairs)
