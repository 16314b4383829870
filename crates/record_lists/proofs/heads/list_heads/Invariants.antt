use Rattle.std.proofs.Common.{◌≡◌, ◌<◌, ◌⊎◌, ℕ, true, false, length}
use Rattle.std.specs.Bool.{Decides}
use Rattle.record_lists.specs.Seen.{is_seen}
use Rattle.record_lists.specs.Heads.{AmongHeads, AtHead, HeadKeeps, IsOnce}
use Rattle.rec_bytes.specs.Frame.{IsRead}
use Rattle.record_lists.proofs.heads.list_heads.Given as goal

abbrev pub invariant-loop-id : goal.invariant-loop-id
invariant-loop-id g l =
    let records = (g.R.Reads.state l.fn.space).records in
    let has = g.H.Heads.has l.heads records in
    let lists = g.H.Heads.lists l.heads records in
    record {
      read : IsRead g.R.Reads l.fn.space l.space;
      keeps : g.R.Reads.tells → (k : ℕ) → k < l.id → HeadKeeps has lists k;
      seen : g.R.Reads.tells → (p : ℕ) → Decides (is_seen l.seen p) ((is_seen l.fn.seen p ≡ true) ⊎ AmongHeads has lists l.id p);
      once : g.R.Reads.tells → (p : ℕ) → IsOnce has lists l.id p;
      fresh : g.R.Reads.tells → (k : ℕ) → k < l.id → (p : ℕ) → AtHead has lists k p → is_seen l.fn.seen p ≡ false;
      len : length l.seen ≡ length l.fn.seen;
    }
