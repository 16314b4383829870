-- What a record that was read says of its use.
use Rattle.std.proofs.Common.{◌≡◌, ◌≢◌, ℕ, ◌<◌, true, sym, ap, ◌∙◌}
use Rattle.std.proofs.lemmas.Bool.{true≢false}
use Rattle.rec_bytes.specs.declared.record.Rec.{Rec}
use Rattle.rec_bytes.specs.Format as format
use Rattle.rec_bytes.specs.Record.{field}
use Rattle.store_rules.specs.Views.{Records, high, is_live, kind_at, rec_at}
use Rattle.store_rules.proofs.ViewLaws.{kind_low, live_false, live_true}

-- the kind of a record below the mark
pub kind_read : (records : Records) (file x : ℕ) (r : Rec) → x < high records file → r ≡ rec_at records file x → kind_at records file x ≡ field 1 r format.kind
kind_read records file x r lt e = kind_low (high records file) (rec_at records file x) x lt ∙ sym (ap (λ q. field 1 q format.kind) e)

-- so whether it is in use
pub free_read : (records : Records) (file x : ℕ) (r : Rec) → x < high records file → r ≡ rec_at records file x → field 1 r format.kind ≡ 0
    → is_live records file x ≡ true → ⊥
free_read records file x r lt e z live = true≢false (sym live ∙ live_false (kind_at records file x) (kind_read records file x r lt e ∙ z))

pub live_read : (records : Records) (file x : ℕ) (r : Rec) → x < high records file → r ≡ rec_at records file x → field 1 r format.kind ≢ 0
    → is_live records file x ≡ true
live_read records file x r lt e some = live_true (kind_at records file x) (λ z. some (sym (kind_read records file x r lt e) ∙ z))
