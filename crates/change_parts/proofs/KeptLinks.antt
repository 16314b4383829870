-- What a change of an element's properties leaves of other records, and of the element's own.
use Rattle.std.proofs.Common.{◌≡◌, ◌≢◌, ℕ, ◌+◌, ◌≤◌, nat_lt, cond, sym, ap, ◌∙◌, subst, inl, ⊎_elim, arith}
use Rattle.plain_graph.specs.declared.command.Target.{Target}
use Rattle.plain_graph.specs.declared.command.Target.TheVariants as targets
use Rattle.rec_bytes.specs.declared.key.Key.{Key}
use Rattle.rec_bytes.specs.declared.record.Rec.{Rec}
use Rattle.rec_bytes.specs.Format as format
use Rattle.rec_bytes.specs.Meta as metas
use Rattle.rec_bytes.specs.Record.{field}
use Rattle.rec_bytes.specs.RecordFiles.{meta_key_of}
use Rattle.prop_store.specs.Changing.{DropsAll, HasElement}
use Rattle.prop_store.specs.declared.changing.Dropped.{Dropped}
use Rattle.prop_store.specs.declared.owner.Owner.{Owner}
use Rattle.rec_bytes.specs.Space.{State}
use Rattle.store_rules.specs.PropertyChange.{Apart}
use Rattle.store_rules.specs.Views.{Records, key_in, kind_at, kind_in, rec_at}
use Rattle.change_parts.specs.Assigning.{KeepsLinks}
use Rattle.change_parts.specs.Owners.{owner_of}
use Rattle.chain_edit.proofs.LinkLaws.{key_cases}

-- a file with no properties and no blocks
pub record IsOther (file : ℕ) : Type 0 where
  pub no_properties : file ≢ format.properties_file
  pub no_strings : file ≢ format.strings_file

-- ---- meta records
pub meta_kept : (old new : Records) (target : Target) → KeepsLinks old new (owner_of target) → (file : ℕ) → IsOther file
    → new (meta_key_of file) ≡ old (meta_key_of file)
meta_kept old new (targets.Node id) keeps file other = keeps.others (meta_key_of file) (λ e. omega arith) (λ e. omega arith)
    (λ e. other.no_properties (ap (λ (k : Key). k.id) e)) (λ e. other.no_strings (ap (λ (k : Key). k.id) e))
    (λ e. let f = ap (λ (k : Key). k.file) e in omega arith)
meta_kept old new (targets.Edge id) keeps file other = keeps.others (meta_key_of file) (λ e. omega arith) (λ e. omega arith)
    (λ e. other.no_properties (ap (λ (k : Key). k.id) e)) (λ e. other.no_strings (ap (λ (k : Key). k.id) e))
    (λ e. let f = ap (λ (k : Key). k.file) e in omega arith)

-- ---- numbers, but for the first property of an element

-- the bytes have none of its place
pub record IsBeside (file n at : ℕ) : Type 0 where
  pub inside : at + n ≤ 64
  pub of_node : file ≡ format.nodes_file → Apart n at 4 format.node_first_property
  pub of_edge : file ≡ format.relationships_file → Apart n at 4 format.relationship_first_property

pub number_kept : (old new : Records) (target : Target) → KeepsLinks old new (owner_of target) → (file x n at : ℕ) → IsOther file → file ≢ format.meta_file
    → IsBeside file n at → field n (rec_at new file x) at ≡ field n (rec_at old file x) at
number_kept old new (targets.Node id) keeps file x n at other record_file beside = ⊎_elim
    (λ (e : key_in file x ≡ key_in format.nodes_file id).
    let f = ap (λ (k : Key). k.file) e in
    ap (λ (k : Key). field n (new k) at) e ∙ keeps.own n at beside.inside (beside.of_node f) ∙ sym (ap (λ (k : Key). field n (old k) at) e))
    (λ (ne : key_in file x ≢ key_in format.nodes_file id).
    ap (λ (r : Rec). field n r at) (keeps.others (key_in file x) other.no_properties other.no_strings
    (λ e. record_file (ap (λ (k : Key). k.file) e)) (λ e. record_file (ap (λ (k : Key). k.file) e)) ne))
    (key_cases (key_in file x) (key_in format.nodes_file id))
number_kept old new (targets.Edge id) keeps file x n at other record_file beside = ⊎_elim
    (λ (e : key_in file x ≡ key_in format.relationships_file id).
    let f = ap (λ (k : Key). k.file) e in
    ap (λ (k : Key). field n (new k) at) e ∙ keeps.own n at beside.inside (beside.of_edge f) ∙ sym (ap (λ (k : Key). field n (old k) at) e))
    (λ (ne : key_in file x ≢ key_in format.relationships_file id).
    ap (λ (r : Rec). field n r at) (keeps.others (key_in file x) other.no_properties other.no_strings
    (λ e. record_file (ap (λ (k : Key). k.file) e)) (λ e. record_file (ap (λ (k : Key). k.file) e)) ne))
    (key_cases (key_in file x) (key_in format.relationships_file id))

-- ---- kinds
pub kind_kept : (old new : Records) (target : Target) → KeepsLinks old new (owner_of target) → (file : ℕ) → IsOther file → file ≢ format.meta_file → (x : ℕ)
    → kind_at new file x ≡ kind_at old file x
unfolding kind_in
kind_kept old new target keeps file other record_file x =
    (λ i. kind_by_mark (ap (λ r. (metas.meta_of r).high) (meta_kept old new target keeps file other) i)
    (number_kept old new target keeps file x 1 format.kind other record_file (record {
      inside = omega arith;
      of_node = λ e. inl (omega arith);
      of_edge = λ e.
          inl (omega arith);
    }) i))
  where
    kind_by_mark : ℕ → ℕ → ℕ
    kind_by_mark mark kind = cond (nat_lt x mark) kind 0

-- ---- an element whose properties are gone
pub drop_kinds : (v u : State) (target : Target) (dropped : Dropped) → DropsAll v u (owner_of target) dropped → (n : ℕ)
    → kind_at u.records format.nodes_file n ≡ kind_at v.records format.nodes_file n
drop_kinds v u target dropped all n =
    kind_kept v.records u.records target (record { own = all.changes.changes.own; others = all.changes.changes.others }) format.nodes_file
    (record { no_properties = λ e. omega arith; no_strings = λ e. omega arith }) (λ e. omega arith) n

pub dropped_kinds : (v u : State) (owner : Owner) (target : Target) (dropped : Dropped) → owner ≡ owner_of target → HasElement v (owner_of target)
    → (HasElement v owner → DropsAll v u owner dropped) → (n : ℕ) → kind_at u.records format.nodes_file n ≡ kind_at v.records format.nodes_file n
dropped_kinds v u owner target dropped is element drops = drop_kinds v u target dropped
    (subst (λ (o : Owner). HasElement v o → DropsAll v u o dropped) is drops element)
