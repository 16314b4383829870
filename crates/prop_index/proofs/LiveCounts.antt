-- What a take and a give make of the count of live records, whatever the free list is.
use Rattle.std.proofs.Common.{if◌then◌else◌, ◌≡◌, ◌≢◌, ℕ, ◌+◌, ◌-◌, ◌<◌, ◌≤◌, ◌^◌, ap, ◌∙◌, subst, ⊎_elim, arith}
use Rattle.std.proofs.lemmas.Bool.{cases_lt}
use Rattle.rec_bytes.specs.declared.key.Key.{Key}
use Rattle.rec_bytes.specs.declared.meta.Meta.{Meta}
use Rattle.rec_bytes.specs.declared.record.Rec.{Rec}
use Rattle.rec_bytes.specs.Format as format
use Rattle.rec_bytes.specs.Meta as metas
use Rattle.rec_bytes.specs.Meta.{with_meta}
use Rattle.rec_bytes.specs.Record.{with_field}
use Rattle.rec_bytes.specs.RecordFiles.{meta_key_of}
use Rattle.rec_bytes.specs.Space.{State, after_meta, after_put, after_set, meta_of}
use Rattle.rec_bytes.proofs.Metas.{meta_reads_back}
use Rattle.rec_bytes.proofs.Numbers.{field-lt}
use Rattle.rec_bytes.proofs.Spaces.{put_other, put_same}
use Rattle.store_rules.specs.Rules.{next_free}
use Rattle.store_rules.specs.Views.{key_in, rec_at}
use Rattle.store_rules.proofs.MetaLaws.{high_fits, live_fits}
use Rattle.store_rules.proofs.NumberLaws.{eq_false, eq_true, nat_cases}
use Rattle.id_freelist.specs.FreeLists.{free_record}
use Rattle.id_freelist.specs.Giving.{given}
use Rattle.id_freelist.specs.Taking.{IsUndamaged, Overcounted, free_taken, mark_taken, taken, taken_id}
use Rattle.prop_index.specs.Linking.{backed_entry}
use Rattle.prop_index.specs.Unlinking.{led_entry, unlinked_entry}
use Rattle.prop_index.specs.declared.heads.Slot.{Slot}
use Rattle.prop_index.proofs.Steps.{backed-none, backed-some, led-none, led-some, unlinked-is}

-- the numbers of a meta record that is changed are these
meta_live : (s : State) (file : ℕ) (m : Meta) → m.high < 2 ^ 32 → m.free < 2 ^ 32 → m.live < 2 ^ 32 → (meta_of (after_meta s file m) file).live ≡ m.live
meta_live s file m h f l =
    ap (λ (r : Rec). (metas.meta_of r).live) (put_same s.records (meta_key_of file) (with_meta (s.records (meta_key_of file)) m))
    ∙ ap (λ (z : Meta). z.live) (meta_reads_back (s.records (meta_key_of file)) m h f l)

mark_live : (s : State) (file : ℕ) → (meta_of s file).high < format.most_ids → (meta_of s file).live ≤ (meta_of s file).high
    → (meta_of (mark_taken s file) file).live ≡ (meta_of s file).live + 1
unfolding mark_taken
mark_live s file mark counted = meta_live s file (record { high = (meta_of s file).high + 1; free = format.nil; live = (meta_of s file).live + 1 })
    (omega arith) (omega arith) (omega (arith, mark, counted))

free_live : (s : State) (file : ℕ) → (meta_of s file).live < (meta_of s file).high → (meta_of (free_taken s file) file).live ≡ (meta_of s file).live + 1
unfolding free_taken
free_live s file counted =
    let high = high_fits s.records file in
    meta_live s file (record { high = (meta_of s file).high; free = next_free s.records file (meta_of s file).free; live = (meta_of s file).live + 1 })
    high (field-lt 4 (rec_at s.records file (meta_of s file).free) format.free_next) (omega (arith, high, counted))

pub taken_live : (s : State) (file : ℕ) → IsUndamaged s file → taken_id (meta_of s file) < format.most_ids
    → (meta_of (taken s file) file).live ≡ (meta_of s file).live + 1
taken_live s file right small = ⊎_elim
    (λ (none : (meta_of s file).free ≡ format.nil).
    let mark : (meta_of s file).high < format.most_ids = subst (λ n. n < format.most_ids)
    (ap (λ b. if b then (meta_of s file).high else (meta_of s file).free) (eq_true (meta_of s file).free format.nil none)) small in
    let counted : (meta_of s file).live ≤ (meta_of s file).high = ⊎_elim
    (λ (over : (meta_of s file).high < (meta_of s file).live). absurd (right _ (Overcounted (omega (arith, over)) (λ e. over))))
    (λ (le : (meta_of s file).live ≤ (meta_of s file).high). le) (cases_lt (meta_of s file).high (meta_of s file).live) in
    ap (λ b. (meta_of (if b then mark_taken s file else free_taken s file) file).live) (eq_true (meta_of s file).free format.nil none)
    ∙ mark_live s file mark counted)
    (λ (some : (meta_of s file).free ≢ format.nil).
    let counted : (meta_of s file).live < (meta_of s file).high = ⊎_elim
    (λ (lt : (meta_of s file).live < (meta_of s file).high). lt)
    (λ (le : (meta_of s file).high ≤ (meta_of s file).live). absurd (right _ (Overcounted le (λ e. absurd (some e)))))
    (cases_lt (meta_of s file).live (meta_of s file).high) in
    ap (λ b. (meta_of (if b then mark_taken s file else free_taken s file) file).live) (eq_false (meta_of s file).free format.nil some)
    ∙ free_live s file counted)
    (nat_cases (meta_of s file).free format.nil)

-- a record that is given back counts for one less
given_live : (s : State) (file id : ℕ) → id < 2 ^ 32 → (meta_of (given s file id) file).live ≡ (meta_of s file).live - 1
given_live s file id fits =
    let old = meta_of s file in
    let live = live_fits s.records file in
    meta_live (after_put s (key_in file id) (free_record old.free)) file (record { high = old.high; free = id; live = old.live - 1 }) (high_fits s.records file)
    fits (omega (arith, live))

set_meta : (s : State) (x at to : ℕ) → (after_set s (key_in format.index_file x) 4 at to).records (meta_key_of format.index_file) ≡ s.records
    (meta_key_of format.index_file)
set_meta s x at to = put_other s.records (key_in format.index_file x) (with_field 4 (s.records (key_in format.index_file x)) at to)
    (meta_key_of format.index_file) not_meta
  where
    not_meta : meta_key_of format.index_file ≢ key_in format.index_file x
    not_meta e = let f = ap (λ (k : Key). k.file) e in omega (arith, f)

-- its neighbours are changed besides
pub unlinked_live : (s : State) (slot : Slot) (id before after : ℕ) → id < 2 ^ 32
    → (meta_of (unlinked_entry s slot id before after) format.index_file).live ≡ (meta_of s format.index_file).live - 1
unlinked_live s slot id before after fits =
    let one : State = given s format.index_file id in
    let two : State = backed_entry one after before in
    let key = meta_key_of format.index_file in
    let backed : two.records key ≡ one.records key = ⊎_elim
    (λ (e : after ≡ format.nil). ap (λ (z : State). z.records key) (backed-none one after before e))
    (λ (some : after ≢ format.nil). ap (λ (z : State). z.records key) (backed-some one after before some) ∙ set_meta one after format.indexed_previous before)
    (nat_cases after format.nil) in
    let led : (led_entry two slot before after).records key ≡ two.records key = ⊎_elim
    (λ (e : before ≡ format.nil). ap (λ (z : State). z.records key) (led-none two slot before after e) ∙ set_meta two slot.id slot.place after)
    (λ (some : before ≢ format.nil). ap (λ (z : State). z.records key) (led-some two slot before after some) ∙ set_meta two before format.indexed_next after)
    (nat_cases before format.nil) in
    ap (λ (z : State). (meta_of z format.index_file).live) (unlinked-is s slot id before after)
    ∙ ap (λ (r : Rec). (metas.meta_of r).live) (led ∙ backed) ∙ given_live s format.index_file id fits
