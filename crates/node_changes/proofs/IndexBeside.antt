-- Where records of the indexes alone changed, the graph has the nodes and edges that it had.
use Rattle.std.proofs.Common.{◌≡◌, ◌≢◌, ◌⊎◌, ⊎_elim, inl, inr, ℕ, true, Some, List, [], ◌∷◌, ◌++◌, map, ap, ◌∙◌, arith, refl}
use Rattle.std.proofs.lemmas.List.{length-map}
use Rattle.rec_bytes.specs.declared.key.Key.{Key}
use Rattle.rec_bytes.specs.Format as format
use Rattle.rec_bytes.specs.Meta as metas
use Rattle.rec_bytes.specs.RecordFiles.{is_meta_file, meta_key_of}
use Rattle.rec_bytes.specs.Space.{IsAmong, State}
use Rattle.prop_index.specs.Touching.{TouchesIndex, index_keys}
use Rattle.store_rules.specs.Graph.{edge_from, graph_of, indexes_of, names_of, node_from}
use Rattle.store_rules.specs.Indexes.{node_value, row_value, wanted_in}
use Rattle.store_rules.specs.Properties.{property_records}
use Rattle.store_rules.specs.Rows.{collect}
use Rattle.store_rules.specs.Views.{Records, high, key_in, kind_at, kind_in, node_at, node_in, rec_at, rel_at, rel_in, row_if, text_of}
use Rattle.store_rules.proofs.IndexStays.{wanted_same}
use Rattle.store_rules.specs.Writes.{AreOwn, WritesAtMost, meta_keys}
use Rattle.store_rules.proofs.MetaLaws.{not_meta_key}
use Rattle.store_rules.proofs.WriteLaws.{among_metas, more_written, some_written}

-- records of the index and its meta record alone may differ
pub record KeepsBesideIndex (s t : Records) : Type 0 where
  pub others : (key : Key) → key.file ≢ format.index_file → key ≢ meta_key_of format.index_file → t key ≡ s key

pub beside_none : (s : Records) → KeepsBesideIndex s s
beside_none s = record { others = λ key a b. refl }

pub beside_both : (s t u : Records) → KeepsBesideIndex s t → KeepsBesideIndex t u → KeepsBesideIndex s u
beside_both s t u h k = record { others = λ key a b. k.others key a b ∙ h.others key a b }

module _ (s t : Records) (beside : KeepsBesideIndex s t) where
  pub file_same : (file : ℕ) → is_meta_file file ≡ true → file ≢ format.index_file → rec_at t file ≡ rec_at s file
  file_same file is other = λ i x. beside.others (key_in file x) other (not_meta_key file x format.index_file is) i

  meta_same : (file : ℕ) → file ≢ format.index_file → t (meta_key_of file) ≡ s (meta_key_of file)
  meta_same file other = beside.others (meta_key_of file) (λ e. omega arith) (λ e. other (ap (λ (k : Key). k.id) e))

  pub mark_same : (file : ℕ) → file ≢ format.index_file → high t file ≡ high s file
  mark_same file other = ap (λ r. (metas.meta_of r).high) (meta_same file other)

  pub kinds_beside : (file : ℕ) → is_meta_file file ≡ true → file ≢ format.index_file → kind_at t file ≡ kind_at s file
  kinds_beside file is other = λ i x. kind_in (mark_same file other i) (file_same file is other i x) x

  pub nodes_beside : node_at t ≡ node_at s
  nodes_beside = λ i x. row_if (kinds_beside format.nodes_file refl (λ e. omega arith) i x)
      (node_in (file_same format.nodes_file refl (λ e. omega arith) i x) x)

  rels_same : rel_at t ≡ rel_at s
  rels_same = λ i x. row_if (kinds_beside format.relationships_file refl (λ e. omega arith) i x)
      (rel_in (file_same format.relationships_file refl (λ e. omega arith) i x) x)

  pub files_same : property_records t ≡ property_records s
  files_same = λ i. record {
    properties = file_same format.properties_file refl (λ e. omega arith) i;
    strings = file_same format.strings_file refl
        (λ e. omega arith) i;
  }

  -- the nodes have the values that they had
  pub wanted_beside : wanted_in t ≡ wanted_in s
  wanted_beside = wanted_same s t nodes_beside files_same

  pub value_beside : (label key n : ℕ) → node_value t label key n ≡ node_value s label key n
  value_beside label key n = λ i. row_value (files_same i) label key (nodes_beside i n)

  name_file : rec_at t format.names_file ≡ rec_at s format.names_file
  name_file = file_same format.names_file refl (λ e. omega arith)

  name_mark : high t format.names_file ≡ high s format.names_file
  name_mark = mark_same format.names_file (λ e. omega arith)

  pub names_beside : names_of t ≡ names_of s
  names_beside = λ i. collect (λ x. Some (text_of (name_file i x))) (name_mark i)

  pub graph_nodes_beside : (graph_of t).nodes ≡ (graph_of s).nodes
  graph_nodes_beside = λ i. collect (λ x. node_from (name_file i) (files_same i) (nodes_beside i x)) (mark_same format.nodes_file (λ e. omega arith) i)

  pub graph_edges_beside : (graph_of t).edges ≡ (graph_of s).edges
  graph_edges_beside = λ i. collect (λ x. edge_from (name_file i) (files_same i) (rels_same i x)) (mark_same format.relationships_file (λ e. omega arith) i)

  -- and with the same indexes the graph is the same
  pub graph_beside : indexes_of t ≡ indexes_of s → graph_of t ≡ graph_of s
  graph_beside indexes = λ i. record { nodes = graph_nodes_beside i; edges = graph_edges_beside i; names = names_beside i; indexes = indexes i }

-- ---- what a call touched

among_index : (ids : List ℕ) (q : Key) → IsAmong q (index_keys ids) → (q.file ≡ format.index_file) ⊎ (q ≡ meta_key_of format.index_file)
among_index [] q (inl e) = inr e
among_index [] q (inr i) = absurd i
among_index (x ∷ ids) q (inl e) = inl (ap (λ (k : Key). k.file) e)
among_index (x ∷ ids) q (inr i) = among_index ids q i

pub touched_beside : {tells : Type 0} (most : ℕ) (s t : State) → tells → TouchesIndex tells most s t → KeepsBesideIndex s.records t.records
touched_beside most s t told touches = record {
  others = λ key file meta. ⊎_elim (λ e. e) (λ i. absurd (⊎_elim file meta (among_index touches.ids key i)))
      ((touches.only.stays told).each key);
}

own_index : (ids : List ℕ) → AreOwn (map (key_in format.index_file) ids)
own_index [] = tt
own_index (x ∷ ids) = (refl, own_index ids)

parts_index : (ids : List ℕ) (q : Key) → IsAmong q (index_keys ids) → IsAmong q (map (key_in format.index_file) ids ++ meta_keys)
parts_index [] q (inl e) = among_metas format.index_file q refl e
parts_index [] q (inr i) = absurd i
parts_index (x ∷ ids) q (inl e) = inl e
parts_index (x ∷ ids) q (inr i) = inr (parts_index ids q i)

-- at most so many records are written, meta records aside
pub index_written : {tells : Type 0} (most : ℕ) (s t : State) → TouchesIndex tells most s t → WritesAtMost most s t
index_written most s t touches =
    let few = touches.few in
    let same = length-map touches.ids (key_in format.index_file) in
    more_written (omega (arith, few, same)) (some_written s t (map (key_in format.index_file) touches.ids) (index_keys touches.ids) (own_index touches.ids)
    (parts_index touches.ids) touches.only.writes)
