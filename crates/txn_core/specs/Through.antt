-- Which records are at hand, and what reading one leaves of the pages.
use Rattle.std.specs.Prelude.{◌≡◌, Bool, true, false, ◌||◌, IsSome, IsTrue, is_some}
use Rattle.disk_model.specs.declared.disk.Disk.{Ghosts}
use Rattle.rec_bytes.specs.declared.key.Key.{Key}
use Rattle.rec_bytes.specs.Pairs.{Pairs, find_pair}
use Rattle.record_file.specs.MetaFile.{find_meta}
use Rattle.page_cache.specs.Pages.{IsUsed, KeepsPage, kept_page}
use Rattle.page_cache.specs.Staying.{StayKept}
use Rattle.txn_core.specs.declared.base.Base.{Base}
use Rattle.txn_core.specs.declared.store.Store.{Store}

-- these records have the key
abbrev pub has_key : Pairs → Key → Bool
has_key pairs key = is_some (find_pair pairs key)

module _ {D : Type 0} {g : Ghosts D} where
  -- the record is in memory as it is committed: it was changed, or it is a meta record
  abbrev pub holds_committed : Base D g → Key → Bool
  holds_committed b key =
      has_key b.changed.pairs key || is_some (find_meta b.metas.records key)

  -- as the open transaction has it
  abbrev pub holds_working : Base D g → Key → Bool
  holds_working b key = has_key b.own.pairs key || holds_committed b key

  -- with the draft
  abbrev pub holds_drafted : Store D g → Key → Bool
  holds_drafted s key = has_key s.draft.pairs key || holds_working s.base key

  -- the record is at hand: in memory, or in a page that is kept
  abbrev pub at_hand : Bool → Key → Base D g → Bool
  at_hand in_memory key b = in_memory || is_some (kept_page key b.cache)

  -- What reading the record of a key leaves, and whether it is sure to succeed. Where the record
  -- is in memory, all is as it was. Else, where its page is kept, the disk is as it was, no page
  -- comes or goes, and its page goes to the front, unless it is known as the one of its file that
  -- was used last: then all pages stay in their places. Else its page is the only one that may
  -- come. No page goes unless as many are kept as there may be.
  pub record ReadsThrough (in_memory : Bool) (key : Key) (old new : Base D g) (succeeds : Bool)
      : Type 0 where
    pub memory : IsTrue in_memory → (succeeds ≡ true) × (new ≡ old)
    pub hit : IsSome (kept_page key old.cache)
        → (succeeds ≡ true) × (new.disk.now ≡ old.disk.now)
    pub used : in_memory ≡ false → IsSome (kept_page key old.cache)
        → IsUsed key old.cache new.cache
    pub pages : in_memory ≡ false → KeepsPage key old.cache new.cache
    pub stay : StayKept old.cache new.cache
