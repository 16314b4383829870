-- Heads of groups whose chains begin at relationships that were given out, or are empty.
use Rattle.std.specs.Prelude.{IfOk, OnOk}
use Rattle.std.proofs.Common.{◌≡◌, ◌≢◌, ◌⊎◌, ℕ, ◌<◌, ◌≤◌, Bool, true, List, [], ◌∷◌, ◌++◌, None, Some, Result, Ok, Err}
use Rattle.std.proofs.Common.{sym, ap, ◌∙◌, subst, inl, inr, ⊎_elim, arith}
use Rattle.rec_bytes.specs.declared.key.Key.{Key}
use Rattle.rec_bytes.specs.Format as format
use Rattle.rec_bytes.specs.RecordFiles.{meta_key_of}
use Rattle.rec_bytes.specs.Meta as metas
use Rattle.rec_bytes.specs.Record.{field}
use Rattle.rec_bytes.specs.Space.{SameButReads, State}
use Rattle.rec_bytes.proofs.Spaces.{put_other, put_same}
use Rattle.store_rules.specs.Chains.{In, IsChain}
use Rattle.store_rules.specs.Rules.{Head, first_of}
use Rattle.store_rules.specs.Views.{Records, first_link, high, kind_at, rec_at, rel_at}
use Rattle.store_rules.proofs.ViewLaws.{kind_below, row_none}
use Rattle.chain_edit.specs.Chains.{next_of, prev_of}
use Rattle.chain_edit.specs.Links as links
use Rattle.chain_edit.proofs.LinkLaws.{elsewhere-set_prev}
use Rattle.group_store.specs.declared.group_row.GroupRow.{GroupRow}
use Rattle.group_store.specs.declared.making.OwnGroup.{OwnGroup}
use Rattle.group_store.specs.declared.open_fault.OpenFault.{OpenFault}
use Rattle.group_store.specs.declared.raising.Counts.{Counts}
use Rattle.group_store.specs.declared.side.Side.{Side}
use Rattle.group_store.specs.declared.side.Side.TheVariants.{Out, In as Into, Loop}
use Rattle.group_store.specs.Finding.{IsFound}
use Rattle.group_store.specs.FirstGroup.{IsFirst}
use Rattle.group_store.specs.GroupChain.{IsDense}
use Rattle.group_store.specs.GroupRecord.{group_key}
use Rattle.group_store.specs.Leaving.{IsLowLink, KeepsOrLeads, LeavesBeside}
use Rattle.group_store.specs.Making.{IsEmptyOf, IsOwnGroup}
use Rattle.group_store.specs.Raising.{AreLengths, HasLength, LeadsLow, raised, raised_state}
use Rattle.group_store.specs.Sides.{group_head, place_of}
use Rattle.group_store.specs.Spreading.{LeadsAmong}
use Rattle.group_store.specs.Walking.{group_row_at}
use Rattle.group_store.proofs.Gathers.{beside_high}
use Rattle.group_store.proofs.GroupWalks.{in_push}
use Rattle.group_store.proofs.KeptHeads.{raised_number}
use Rattle.group_store.proofs.LeftBeside.{FirstIsOwn, beside_freed, first_own}

-- ---- relationships that were given out

pub low_then : (s t : Records) (x : ℕ) → high t format.relationships_file ≡ high s format.relationships_file → IsLowLink s x → IsLowLink t x
low_then s t x mark low = ⊎_elim (λ none. inl none) (λ lt. inr (subst (λ m. x < m) (sym mark) lt)) low

pub low_beside : (s t : Records) (node x : ℕ) → LeavesBeside s t node → IsLowLink s x → IsLowLink t x
low_beside s t node x beside = low_then s t x (beside_high s t node format.relationships_file beside (λ e. omega arith))

pub low_read : (s t : State) (x : ℕ) → SameButReads s t → IsLowLink s.records x → IsLowLink t.records x
low_read s t x same low = subst (λ (q : State). IsLowLink q.records x) (sym same) low

pub low_live : (records : Records) (x : ℕ) → rel_at records x ≢ None → IsLowLink records x
low_live records x live = inr (kind_below (high records format.relationships_file) (rec_at records format.relationships_file x) x
    (λ free. live (row_none (kind_at records format.relationships_file x) _ free)))

-- one more came
pub low_next : (s t : Records) (node at : ℕ) (came xs : List ℕ) → LeavesBeside s t node → xs ≡ came ++ at ∷ [] → rel_at s at ≢ None
    → ((x : ℕ) → In x came → IsLowLink s x) → (x : ℕ) → In x xs → IsLowLink t x
low_next s t node at came xs beside more live low x i = low_beside s t node x beside
    (⊎_elim (λ j. low x j) (λ e. subst (IsLowLink s) (sym e) (low_live s at live)) (in_push came at x (subst (In x) more i)))

-- none did
pub low_none : (records : Records) (xs : List ℕ) → xs ≡ format.nil ∷ [] → (x : ℕ) → In x xs → IsLowLink records x
low_none records xs none x i = by (subst (In x) none i)
  where
    by : In x (format.nil ∷ []) → IsLowLink records x
    by (inl e) = inl e
    by (inr j) = elim j [ ]

-- ---- the first one of a chain

-- in a group of a node that became dense
pub spread_first : (t : Records) (node g : ℕ) (came groups : List ℕ) (side : Side) → LeadsAmong t node came groups → In g groups → g ≢ format.nil
    → ((x : ℕ) → In x came → IsLowLink t x) → IsLowLink t (first_of t (group_head g side))
spread_first t node g came groups side leads i some low = low _ (leads.heads g i some side)

-- before a relationship comes there
pub turn_first : (m t : State) (node rel g : ℕ) (side : Side) (h : Head) → t ≡ links.prev_set m node rel format.nil → h ≡ group_head g side
    → IsLowLink m.records (first_of m.records (group_head g side)) → IsLowLink t.records (first_of t.records h)
turn_first m t node rel g side h freed head low =
    subst (IsLowLink t.records) (sym (ap (first_of t.records) head ∙ ap (λ r. field 4 r (place_of side)) (ap (λ (q : State). q.records (group_key g)) freed
    ∙ elsewhere-set_prev m.records node rel format.nil (group_key g) (λ e. omega arith))))
    (low_beside m.records t.records node _ (beside_freed m t node rel freed) low)

-- in a group whose relationships were counted
length_low : (s : State) (node first n : ℕ) → HasLength s node first n → IsLowLink s.records first
length_low s node first n (xs, sound, is) = by xs sound.chain sound.low
  where
    by : (ys : List ℕ) → IsChain (next_of s.records node) (prev_of s.records node) format.nil first ys
        → ((x : ℕ) → In x ys → x < high s.records format.relationships_file)
        → IsLowLink s.records first
    by [] chain low = inl chain
    by (y ∷ ys) chain low = inr (low first (inl chain.0))

-- and they are still, once the group has its numbers
pub lengths_low : (s z t : State) (node : ℕ) (row : GroupRow) (counts : Counts) → SameButReads s z → row ≡ group_row_at s.records row.id
    → AreLengths z node row counts → t ≡ raised_state z row.id counts → LeadsLow t.records row.id
lengths_low s z t node row counts same is lengths raise side = by side
  where
    row_z : row ≡ group_row_at z.records row.id
    row_z = is ∙ ap (λ (q : State). group_row_at q.records row.id) (sym same)

    first_t : (at : ℕ) → 20 ≤ at → at ≤ 28 → field 4 (rec_at t.records format.groups_file row.id) at ≡ field 4 (rec_at z.records format.groups_file row.id) at
    first_t at above below = ap (λ (q : State). field 4 (q.records (group_key row.id)) at) raise
        ∙ ap (λ r. field 4 r at) (put_same z.records (group_key row.id) (raised (z.records (group_key row.id)) counts))
        ∙ raised_number (z.records (group_key row.id)) counts at (omega arith) (omega arith)

    mark : high t.records format.relationships_file ≡ high z.records format.relationships_file
    mark = ap (λ r. (metas.meta_of r).high) (ap (λ (q : State). q.records (meta_key_of format.relationships_file)) raise
        ∙ put_other z.records (group_key row.id) (raised (z.records (group_key row.id)) counts) (meta_key_of format.relationships_file)
        (λ e. let f = ap (λ (k : Key). k.file) e in omega arith))

    there : (at first n : ℕ) → 20 ≤ at → at ≤ 28 → first ≡ field 4 (rec_at z.records format.groups_file row.id) at → HasLength z node first n
        → IsLowLink t.records (field 4 (rec_at t.records format.groups_file row.id) at)
    there at first n above below same_first length = subst (IsLowLink t.records) (same_first ∙ sym (first_t at above below))
        (low_then z.records t.records first mark (length_low z node first n length))

    by : (side : Side) → IsLowLink t.records (first_of t.records (group_head row.id side))
    by Out = there format.group_first_out row.first_out counts.out (omega arith) (omega arith) (ap (λ (r : GroupRow). r.first_out) row_z) lengths.out
    by Into = there format.group_first_in row.first_in counts.into (omega arith) (omega arith) (ap (λ (r : GroupRow). r.first_in) row_z) lengths.into
    by Loop = there format.group_first_loop row.first_loop counts.loops (omega arith) (omega arith) (ap (λ (r : GroupRow). r.first_loop) row_z) lengths.loops

-- ---- a group that is found or made

pub own_made : (r : Result OwnGroup OpenFault) (s end : State) (node : ℕ) → IfOk r (λ own. IsEmptyOf end.records node own.row.id)
    → IfOk r (λ own. IsOwnGroup s.records end.records node own.row.id)
own_made (Err fault) s end node empty = tt
own_made (Ok own) s end node empty = record { group = empty.group; kept = inr empty.none }

-- a group that has its numbers stays
pub counted_or_low : (m t : State) (g : ℕ) (counted : Bool) → (counted ≡ true → SameButReads m t) → (counted ≡ true) ⊎ LeadsLow t.records g
    → (t.records (group_key g) ≡ m.records (group_key g)) ⊎ LeadsLow t.records g
counted_or_low m t g counted kept (inl is) = inl (ap (λ (q : State). q.records (group_key g)) (kept is))
counted_or_low m t g counted kept (inr low) = inr low

-- its head, after it was counted
pub own_head : (s m t : Records) (node g : ℕ) (side : Side) (h : Head) → h ≡ group_head g side → IsOwnGroup s m node g
    → (t (group_key g) ≡ m (group_key g)) ⊎ LeadsLow t g → KeepsOrLeads s t h
own_head s m t node g side h head own (inr low) = inr (subst (λ (q : Head). IsLowLink t (first_of t q)) (sym head) (low side))
own_head s m t node g side h head own (inl same) = subst (KeepsOrLeads s t) (sym head) (⊎_elim (λ kept. inl (same ∙ kept))
    (λ none. inr (inl (ap (λ r. field 4 r (place_of side)) same ∙ none side))) own.kept)

-- the node is dense where a group was made
pub dense_first : (r : Result OwnGroup OpenFault) (now : State) (node : ℕ) → IfOk r (λ own. IsFirst now.records node (Some own.first))
    → OnOk r (IsDense now.records node)
dense_first (Err fault) now node first = tt
dense_first (Ok own) now node first = first.0

pub first_alone : (r : Result OwnGroup OpenFault) (now : State) (node : ℕ) → IfOk r (λ own. IsFirst now.records node (Some own.first))
    → IfOk r (λ own. own.first ≡ first_link now.records node)
first_alone (Err fault) now node first = tt
first_alone (Ok own) now node first = first.1

pub done_both : {T E : Type 0} (r : Result T E) (P Q : Type 0) → OnOk r P → OnOk r Q → OnOk r (P × Q)
done_both (Ok x) P Q p q = (p, q)
done_both (Err e) P Q p q = tt

-- its first group is its own where none of the type was found
pub first_found : (now : State) (node label : ℕ) → IsFound now.records node label None → IsDense now.records node
    → FirstIsOwn now.records node (first_link now.records node)
first_found now node label found dense = let list = found dense in first_own now.records node list.0 list.1

-- after reads
pub kept_head : (s z t : State) (h : Head) → SameButReads s z → KeepsOrLeads z.records t.records h → KeepsOrLeads s.records t.records h
kept_head s z t h same (inl kept) = inl (kept ∙ ap (λ (q : State). q.records h.key) same)
kept_head s z t h same (inr low) = inr low
